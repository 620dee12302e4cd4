use Rattle.std.proofs.Common.{subst, sym, ◌∙◌}
use Rattle.config_packed.specs.Pieces.{AreParts}
use Rattle.config_parts.specs.declared.config.Config.{Config}
use Rattle.ttcnx_runs.proofs.Recalled.{if-some, state-fits}
use Rattle.ttcnx_runs.proofs.Shortened.{state-shortened}
use Rattle.ttcnx_runs.proofs.working_out.remembers_by_fronts.Goals as goal
use Rattle.ttcnx_runs.specs.internal.Recalls.{FitsState}

pub steps_worked_out-requires-clause-fits : goal.steps_worked_out-requires-clause-fits
steps_worked_out-requires-clause-fits g c =
    let machine = g.K.Scheme.machine in
    let state : FitsState machine c.state.inside.packed = state-fits machine c.state.inside.packed c.args.state.now c.state.invariant.1 c.state.view_is c.requires in
    let short = if-some c.in_ok-short.field-0 c.in-Some.short _ c.in_ok-short.ensures c.in-Some.is in
    subst (FitsState machine) (sym (c.in_ok-config.ensures ∙ short.2)) (state-shortened machine short.0 (subst (FitsState machine) short.1 state))

pub steps_worked_out-requires-clause-parts : goal.steps_worked_out-requires-clause-parts
steps_worked_out-requires-clause-parts g c = subst (λ (w : Config). AreParts w c.in_ok-parts.parts) (sym c.in_ok-config.ensures) c.in_ok-parts.ensures
