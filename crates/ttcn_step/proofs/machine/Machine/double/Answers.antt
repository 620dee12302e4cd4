use Rattle.std.proofs.Common.{IfOk, subst}
use Rattle.ttcn_step.proofs.Coarsening.{doubling-if}
use Rattle.ttcn_step.proofs.machine.Machine.double.Goals as goal
use Rattle.ttcn_step.specs.FineAnswers.{IsDoubling}
use Rattle.ttcn_step.specs.Machines.{Machine, machine_of}

pub returns-clause-fine : goal.returns-clause-fine
returns-clause-fine c =
    subst (λ (m : Machine). IfOk c.double.result (λ labels. IsDoubling m.test c.args.run.now labels.items)) c.self.view_is
    (doubling-if (machine_of c.self.inside.test) c.args.run.now c.double.result c.double.ensures)
