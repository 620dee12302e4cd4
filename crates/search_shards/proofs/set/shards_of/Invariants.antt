use Rattle.std.proofs.Common.{◌≡◌, ◌++◌, map, Ok}
use Rattle.std.specs.Vec.Iter.{into_iter_items}
use Rattle.search_shards.proofs.set.shards_of.Given as goal

abbrev pub invariant-loop-answer : goal.invariant-loop-answer
invariant-loop-answer g l = l.fn.answers.items ≡ map Ok l.shards.items ++ into_iter_items l.answer-iterator
