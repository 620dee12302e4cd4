use Rattle.std.proofs.Common.{◌≡◌, ap, map, subst, sym, ◌∙◌}
use Rattle.std.specs.Prelude.{IfOk}
use Rattle.config_parts.specs.declared.config.Config.{Config}
use Rattle.semantics.specs.Configurations.{Configuration}
use Rattle.semantics.specs.Labels.{labels}
use Rattle.semantics.specs.Places.{branch_of}
use Rattle.ttcn_step.specs.Machines.{Fits, Machine, said}
use Rattle.ttcnx_runs.proofs.Recalled.{if-some, machine-fits, state-fits}
use Rattle.ttcnx_runs.proofs.sights.steps_from.Goals as goal
use Rattle.ttcnx_runs.specs.Sights.{step_place}
use Rattle.ttcnx_runs.specs.internal.Recalls.{branch_and_place_of}

pub branched_steps-requires : goal.branched_steps-requires
branched_steps-requires g c =
    let machine = g.K.Scheme.machine in
    subst (λ (m : Machine). Fits m c.in_ok-config.config) (sym c.args.runs.now.is)
    (subst (Fits machine) (sym c.in_ok-config.ensures) (machine-fits machine c.state.inside.packed (state-fits machine c.state.inside.packed c.args.state.now c.state.invariant.1 c.state.view_is c.requires)))

pub returns : goal.returns
returns g c =
    let machine = g.K.Scheme.machine in
    let config = c.in_ok-config.config in
    subst (λ (s : Configuration). IfOk c.branched_steps.result (λ found. found.items ≡ map (λ label. (branch_of machine.test s label, step_place machine.test s label)) (labels machine.test s))) (ap (said machine) c.in_ok-config.ensures ∙ c.state.view_is)
    (subst (λ (m : Machine). IfOk c.branched_steps.result (λ found. found.items ≡ map (λ label. (branch_of m.test (said m config) label, step_place m.test (said m config) label)) (labels m.test (said m config)))) c.args.runs.now.is c.branched_steps.ensures)

pub recalled_steps-requires : goal.recalled_steps-requires
recalled_steps-requires g c = state-fits g.K.Scheme.machine c.state.inside.packed c.args.state.now c.state.invariant.1 c.state.view_is c.requires

pub returns-in-Some : goal.returns-in-Some
returns-in-Some g c =
    let machine = g.K.Scheme.machine in
    let state : Config = c.state.inside.packed in
    subst (λ (s : Configuration). c.in-Some.found.items ≡ map (λ label. (branch_of machine.test s label, step_place machine.test s label)) (labels machine.test s)) c.state.view_is
    (if-some c.in_ok-found.field-0 c.in-Some.found (λ steps. steps.items ≡ map (branch_and_place_of machine state) (labels machine.test (said machine state))) c.in_ok-found.ensures c.in-Some.is)
