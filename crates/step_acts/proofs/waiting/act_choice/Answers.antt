use Rattle.std.proofs.Common.{Err, None, Ok, Option, Result, ap, subst, sym, ◌∙◌}
use Rattle.step_acts.proofs.Choosing.{chosen-asks, none-asks, refused-asks}
use Rattle.step_acts.proofs.waiting.act_choice.Goals as goal
use Rattle.step_forms.specs.Asks.{Asks}
use Rattle.step_forms.specs.internal.Stands.{legend_of, site_of, stand_by}
use Rattle.step_choice.specs.Choices.{Finds, IsWayOf}
use Rattle.step_choice.specs.declared.taken.Taken.{Taken}
use Rattle.semantics.specs.Events.{Choice}
use Rattle.semantics.specs.Statements as said
use Rattle.value_types.specs.declared.fault.Fault.{Fault}

pub returns-in-Ok-Some-clause-asks : goal.returns-in-Ok-Some-clause-asks
returns-in-Ok-Some-clause-asks c other =
    let s = c.args.stand.now in
    let W = IsWayOf ((s.snapshot.now).test.now).definitions (site_of s) s.statement.now in
    let choice = c.requires.chosen.0 in
    let found = subst (λ (r : Result (Option Taken) Fault). Finds s.snapshot.now W choice r) (c.in-Ok-Some.is ∙ ap Ok c.in-Ok-Some.field-0-is) c.requires.chosen.1.1 in
    chosen-asks s other choice c.act_taken.result c.requires.chosen.1.0
    (subst (λ (ch : Choice). Asks (legend_of s) (said.act_choice (stand_by s) (site_of s) s.statement.now ch) c.act_taken.result) (sym found.1.1.0) (c.act_taken.ensures.asks found.0 found.1.0 found.1.1.1))

pub returns-in-Ok-None-clause-asks : goal.returns-in-Ok-None-clause-asks
returns-in-Ok-None-clause-asks c other =
    let s = c.args.stand.now in
    let W = IsWayOf ((s.snapshot.now).test.now).definitions (site_of s) s.statement.now in
    let choice = c.requires.chosen.0 in
    let found = subst (λ (r : Result (Option Taken) Fault). Finds s.snapshot.now W choice r) (c.in-Ok-None.is ∙ ap Ok c.in-Ok-None.field-0-is) c.requires.chosen.1.1 in
    chosen-asks s other choice (Ok None) c.requires.chosen.1.0 (none-asks s W choice found)

pub returns-in-Err-clause-asks : goal.returns-in-Err-clause-asks
returns-in-Err-clause-asks c other =
    let s = c.args.stand.now in
    let W = IsWayOf ((s.snapshot.now).test.now).definitions (site_of s) s.statement.now in
    let choice = c.requires.chosen.0 in
    let found = subst (λ (r : Result (Option Taken) Fault). Finds s.snapshot.now W choice r) c.in-Err.is c.requires.chosen.1.1 in
    chosen-asks s other choice (Err c.in-Err.fault) c.requires.chosen.1.0 (refused-asks s W choice c.in-Err.fault found)
