use Rattle.std.proofs.Common.{◌≡◌}
use Rattle.step_forms.specs.internal.Places.{list_at}
use Rattle.step_forms.proofs.marks.from_mark.Given as goal
use Rattle.semantics.specs.Taking.{from_mark}

-- no mark was passed
abbrev pub invariant-loop-rest : goal.invariant-loop-rest
invariant-loop-rest l = from_mark (list_at l.test l.fn.position) ≡ from_mark (list_at l.test l.at)

abbrev pub decreases-loop-rest : goal.decreases-loop-rest
decreases-loop-rest l = l.at
