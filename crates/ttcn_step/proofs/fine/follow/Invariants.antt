use Rattle.std.proofs.Common.{◌≡◌, drop}
use Rattle.laws_fine.specs.Holding as holding
use Rattle.step_snapshot.specs.Tests.{test_by}
use Rattle.ttcn_step.specs.Machines.{Fits, machine_of, said}
use Rattle.ttcn_step.proofs.fine.follow.Given as goal

-- the labels to come lead where all lead
abbrev pub invariant-loop-label : goal.invariant-loop-label
invariant-loop-label l = record {
  follows : holding.follow (test_by l.test) (drop l.label-index l.labels) (said (machine_of l.test) l.config) ≡ holding.follow (test_by l.test) l.labels (said (machine_of l.test) l.fn.from);
  fits : Fits (machine_of l.test) l.config;
}
