use Rattle.std.proofs.Common.{◌≡◌, ◌++◌, drop, map}
use Rattle.laws_fine.specs.Gathering.{gathered}
use Rattle.step_coarse.specs.Fates.{told_by}
use Rattle.step_coarse.proofs.gathering.gather.Given as goal

-- the labels so far, in front of those to come
abbrev pub invariant-loop-place : goal.invariant-loop-place
invariant-loop-place l = l.run.items ++ gathered (map told_by (drop l.place l.told)) ≡ gathered (map told_by l.told)
