use Rattle.search_shards.specs.internal.Cells.{AreTaken}
use Rattle.search_shards.proofs.cells.free_place.Given as goal

abbrev pub invariant-loop-before : goal.invariant-loop-before
invariant-loop-before l = AreTaken l.fn.cells l.fn.hash l.before
