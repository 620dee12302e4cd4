use Rattle.std.proofs.Common.{◌≡◌, List, IfOk, ap, subst, ◌∙◌}
use Rattle.ttcnx_runs.proofs.Leading.{successors-lead}
use Rattle.ttcnx_runs.proofs.runs.RunsSystem.successors.Goals as goal
use Rattle.semantics.specs.Configurations.{Configuration}
use Rattle.semantics.specs.Steps.{Label}
use Rattle.ttcn_step.specs.Machines.{said}

pub returns : goal.returns
returns g c =
    let self = c.args.self.now in
    subst (λ (pairs : List (Label × Configuration)). IfOk c.pairs_of.result (λ found. found.items ≡ pairs))
    (successors-lead self.machine.now g.K.Scheme.machine self.is c.in_ok-config.config c.args.state.now (ap (said g.K.Scheme.machine) c.in_ok-config.ensures ∙ c.state.view_is) c.in_ok-found.found.items c.in_ok-found.ensures.labels c.in_ok-found.ensures.leads)
    c.pairs_of.ensures
