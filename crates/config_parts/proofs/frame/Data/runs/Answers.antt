use Rattle.std.proofs.Common.{sym, ap, ◌∙◌}
use Rattle.config_parts.proofs.Expired.{runs-at, runs-nowhere, runs-other}
use Rattle.config_parts.specs.internal.Expiries.{runs_above, runs_in}
use Rattle.config_parts.specs.declared.frame.Cells.{Cells}
use Rattle.config_parts.proofs.frame.Data.runs.Goals as goal

pub returns-in-Some : goal.returns-in-Some
returns-in-Some c =
    let calls = c.as_slice-calls.result.now in
    c.runs_in-in-Some.ensures
    ∙ ap (runs_in c.args.slot) c.as_slice-in-Some.ensures
    ∙ ap (λ (cells : Cells). runs_in c.args.slot cells.timers) c.deref.ensures
    ∙ sym (runs-at c.args.number c.args.slot calls c.in-Some.at c.index-calls-at.result (sym c.place_of_frame.ensures.found ∙ c.in-Some.is))
    ∙ ap (runs_above c.args.number c.args.slot) c.as_slice-calls.ensures
    ∙ runs-other c.args.number c.args.slot c.args.self.now c.if-number-eq0.false

pub returns-in-None : goal.returns-in-None
returns-in-None c =
    let calls = c.as_slice-calls.result.now in
    sym (runs-nowhere c.args.number c.args.slot calls (sym c.place_of_frame.ensures.found ∙ c.in-None.is))
    ∙ ap (runs_above c.args.number c.args.slot) c.as_slice-calls.ensures
    ∙ runs-other c.args.number c.args.slot c.args.self.now c.if-number-eq0.false
