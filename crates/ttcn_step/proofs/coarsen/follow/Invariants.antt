use Rattle.std.proofs.Common.{◌≡◌, map}
use Rattle.laws_fine.specs.Holding.{hold_run}
use Rattle.step_snapshot.specs.Tests.{test_by}
use Rattle.ttcn_step.proofs.FineRuns.{Left}
use Rattle.ttcn_step.specs.Machines.{machine_of}
use Rattle.step_coarse.specs.Fates.{told_by}
use Rattle.ttcn_step.specs.internal.Fine.{IsWell, holding_of}
use Rattle.ttcn_step.proofs.coarsen.follow.Given as goal

-- what is left of the labels leads where all lead
abbrev pub invariant-loop-place : goal.invariant-loop-place
invariant-loop-place l = record {
  leads : Left (test_by l.test) l.labels l.place (holding_of (machine_of l.test) l.fine.now l.fine.stored.items) (map told_by l.told.items) ≡ hold_run (test_by l.test) l.labels;
  well : IsWell (machine_of l.test) l.fine.now l.fine.stored.items;
}
