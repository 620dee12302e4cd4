use Rattle.std.proofs.Common.{◌≡◌, ◌+◌, ◌++◌, drop}
use Rattle.laws_fine.specs.Doubling.{doubled, doubled_from}
use Rattle.semantics.specs.Runs as runs
use Rattle.step_snapshot.specs.Tests.{test_by}
use Rattle.ttcn_step.specs.Machines.{Fits, machine_of, said}
use Rattle.ttcn_step.proofs.double.double.Given as goal

-- what is left of the run leads where the run leads, and its doubling comes behind the labels so far
abbrev pub invariant-loop-place : goal.invariant-loop-place
invariant-loop-place l = record {
  leads : runs.replay_from (test_by l.test) (drop l.place l.run) (l.place + 1) (said (machine_of l.test) l.config) ≡ runs.replay (test_by l.test) l.run;
  fits : Fits (machine_of l.test) l.config;
  doubles : l.labels.items ++ doubled_from (test_by l.test) (said (machine_of l.test) l.config) (drop l.place l.run) ≡ doubled (test_by l.test) l.run;
}
