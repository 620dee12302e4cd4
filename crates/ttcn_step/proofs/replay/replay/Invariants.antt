use Rattle.std.proofs.Common.{◌≡◌, ◌+◌, drop}
use Rattle.semantics.specs.Runs as runs
use Rattle.step_snapshot.specs.Tests.{test_by}
use Rattle.ttcn_step.specs.Machines.{Fits, machine_of, said}
use Rattle.ttcn_step.proofs.replay.replay.Given as goal

-- what is left of the run leads from the configuration so far where the run leads
abbrev pub invariant-loop-place : goal.invariant-loop-place
invariant-loop-place l = record {
  leads : runs.replay_from (test_by l.test) (drop l.place l.run) (l.place + 1) (said (machine_of l.test) l.config) ≡ runs.replay (test_by l.test) l.run;
  fits : Fits (machine_of l.test) l.config;
}
