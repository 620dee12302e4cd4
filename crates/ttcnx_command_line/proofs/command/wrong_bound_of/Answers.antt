use Rattle.std.proofs.Common.{◌∙◌, ap₂, subst, sym}
use Rattle.clap.specs.Words.{found_of}
use Rattle.ttcnx_command_line.specs.Command.{bound_fault}
use Rattle.ttcnx_command_line.specs.internal.Answer.{HasRefusal}
use Rattle.ttcnx_command_line.proofs.Lines.{bound-is, none-refused, two-refused}
use Rattle.ttcnx_command_line.proofs.command.wrong_bound_of.Goals as goal

pub returns-then-until_complete : goal.returns-then-until_complete
returns-then-until_complete c =
    let is = bound-is (found_of c.args.given.now) c.get_str.result _ _ c.get_str.ensures c.is_some-has_steps.ensures c.flag_of-until_complete.ensures in
    subst HasRefusal (sym (is ∙ ap₂ bound_fault c.if-has_steps.true c.if-until_complete.true)) two-refused

pub returns-else-until_complete : goal.returns-else-until_complete
returns-else-until_complete c =
    bound-is (found_of c.args.given.now) c.get_str.result _ _ c.get_str.ensures c.is_some-has_steps.ensures c.flag_of-until_complete.ensures
    ∙ ap₂ bound_fault c.if-has_steps.true c.if-until_complete.false

pub returns-then-until_complete-2 : goal.returns-then-until_complete-2
returns-then-until_complete-2 c =
    bound-is (found_of c.args.given.now) c.get_str.result _ _ c.get_str.ensures c.is_some-has_steps.ensures c.flag_of-until_complete.ensures
    ∙ ap₂ bound_fault c.if-has_steps.false c.if-until_complete-2.true

pub returns-else-until_complete-2 : goal.returns-else-until_complete-2
returns-else-until_complete-2 c =
    let is = bound-is (found_of c.args.given.now) c.get_str.result _ _ c.get_str.ensures c.is_some-has_steps.ensures c.flag_of-until_complete.ensures in
    subst HasRefusal (sym (is ∙ ap₂ bound_fault c.if-has_steps.false c.if-until_complete-2.false)) none-refused
