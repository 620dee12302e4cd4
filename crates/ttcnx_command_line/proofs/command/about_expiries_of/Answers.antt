use Rattle.std.proofs.Common.{◌≡◌, ◌∙◌, ◌||◌, ap, ap₂, codes, sym}
use Rattle.clap.specs.Words.{found_of, rows_of}
use Rattle.ttcnx_command_line.specs.Command.{bounds_expiries}
use Rattle.ttcnx_command_line.proofs.Lines.{expiries-is, value-is}
use Rattle.ttcnx_command_line.proofs.command.about_expiries_of.Goals as goal

pub returns-then-expiries : goal.returns-then-expiries
returns-then-expiries c =
    let f = found_of c.args.given.now in
    let expiries = value-is f (codes "expiries") c.get_str.result c.is_some-expiries.result c.get_str.ensures c.is_some-expiries.ensures in
    let is : bounds_expiries (rows_of f) ≡ (c.is_some-expiries.result || c.flag_of-patient_timers.result) =
    expiries-is f c.is_some-expiries.result c.flag_of-patient_timers.result expiries c.flag_of-patient_timers.ensures in
    sym (is ∙ ap (λ x. x || c.flag_of-patient_timers.result) c.if-expiries.true)

pub returns-then-patient_timers : goal.returns-then-patient_timers
returns-then-patient_timers c =
    let f = found_of c.args.given.now in
    let expiries = value-is f (codes "expiries") c.get_str.result c.is_some-expiries.result c.get_str.ensures c.is_some-expiries.ensures in
    let is : bounds_expiries (rows_of f) ≡ (c.is_some-expiries.result || c.flag_of-patient_timers.result) =
    expiries-is f c.is_some-expiries.result c.flag_of-patient_timers.result expiries c.flag_of-patient_timers.ensures in
    sym (is ∙ ap₂ (λ x y. x || y) c.if-expiries.false c.if-patient_timers.true)

pub returns-else-patient_timers : goal.returns-else-patient_timers
returns-else-patient_timers c =
    let f = found_of c.args.given.now in
    let expiries = value-is f (codes "expiries") c.get_str.result c.is_some-expiries.result c.get_str.ensures c.is_some-expiries.ensures in
    let is : bounds_expiries (rows_of f) ≡ (c.is_some-expiries.result || c.flag_of-patient_timers.result) =
    expiries-is f c.is_some-expiries.result c.flag_of-patient_timers.result expiries c.flag_of-patient_timers.ensures in
    sym (is ∙ ap₂ (λ x y. x || y) c.if-expiries.false c.if-patient_timers.false)
