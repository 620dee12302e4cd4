use Rattle.std.proofs.Common.{◌≡◌, drop, map}
use Rattle.laws_fine.specs.Gathering.{first_told}
use Rattle.step_coarse.specs.Fates.{told_by}
use Rattle.step_coarse.proofs.gathering.first_told.Given as goal

-- nothing is told so far
abbrev pub invariant-loop-label : goal.invariant-loop-label
invariant-loop-label l = first_told l.path (map told_by (drop l.label-index l.told)) ≡ first_told l.path (map told_by l.told)
