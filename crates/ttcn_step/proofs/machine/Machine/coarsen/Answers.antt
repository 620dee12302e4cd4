use Rattle.std.proofs.Common.{IfOk, subst}
use Rattle.ttcn_step.proofs.Coarsening.{stands-if}
use Rattle.ttcn_step.proofs.machine.Machine.coarsen.Goals as goal
use Rattle.ttcn_step.specs.FineAnswers.{StandsFor}
use Rattle.ttcn_step.specs.Machines.{Machine, machine_of}

pub returns-clause-runs : goal.returns-clause-runs
returns-clause-runs c =
    subst (λ (m : Machine). IfOk c.coarsen.result (λ run. StandsFor m.test c.args.labels.now run.items)) c.self.view_is
    (stands-if (machine_of c.self.inside.test) c.args.labels.now c.coarsen.result c.breaks_no_rule.ensures c.coarsen.ensures)
