use Rattle.std.proofs.Common.{◌≡◌}
use Rattle.summary.specs.Ascent.{Ascends}
use Rattle.summary.specs.KeySet.{from_list, union}
use Rattle.summary.proofs.ordered_set.extended.Given as goal

abbrev pub invariant-loop-key : goal.invariant-loop-key
invariant-loop-key g l = record {
  can : (goal.iterator-loop-key g).can_next l.key-iterator;
  ends : (goal.iterator-loop-key g).is_finite l.key-iterator;
  ascend : Ascends g.T.Ord.cmp l.keys.items;
  union : from_list l.keys.items ≡ union (from_list l.fn.keys.items) (from_list l.yielded);
}
