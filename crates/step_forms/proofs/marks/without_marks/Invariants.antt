use Rattle.std.proofs.Common.{◌≡◌, ◌≤◌}
use Rattle.step_forms.specs.internal.Places.{list_at}
use Rattle.step_forms.proofs.marks.without_marks.Given as goal
use Rattle.semantics.specs.Taking.{without_marks}

-- the marks that were passed are gone
abbrev pub invariant-loop-rest : goal.invariant-loop-rest
invariant-loop-rest l = record {
  unmarked : without_marks (list_at l.test l.fn.position) ≡ without_marks (list_at l.test l.at);
  before : l.at ≤ l.fn.position;
}

abbrev pub decreases-loop-rest : goal.decreases-loop-rest
decreases-loop-rest l = l.at
