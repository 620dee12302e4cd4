use Rattle.std.proofs.Common.{◌∙◌, Bool, ap, ap₂, false, is_some, true}
use Rattle.ttcnx_command_line.specs.Command.{aim_fault}
use Rattle.ttcnx_command_line.proofs.Lines.{aim-refused, place-conflict}
use Rattle.ttcnx_command_line.proofs.command.conflict_of.Goals as goal

pub returns-then-to_block : goal.returns-then-to_block
returns-then-to_block c = aim-refused c.args.to_place c.args.to_block (is_some c.args.about_report)
    (ap₂ (λ (a b : Bool). aim_fault a b (is_some c.args.about_report)) c.if-to_place.true c.if-to_block.true)

pub returns-in-Some : goal.returns-in-Some
returns-in-Some c = aim-refused c.args.to_place c.args.to_block (is_some c.args.about_report)
    (ap₂ (λ (a r : Bool). aim_fault a c.args.to_block r) c.if-to_place-2.true (ap (λ o. is_some o) c.in-Some.is) ∙ place-conflict c.args.to_block)

pub returns-in-Some-2 : goal.returns-in-Some-2
returns-in-Some-2 c = aim-refused c.args.to_place c.args.to_block (is_some c.args.about_report)
    (ap₂ (λ (a b : Bool). aim_fault a b (is_some c.args.about_report)) c.if-to_place-2.false c.if-to_block-2.true ∙ ap (λ o. aim_fault false true (is_some o)) c.in-Some-2.is)
