use Rattle.search_shards.specs.internal.Cells.{AreMissed}
use Rattle.search_shards.proofs.cells.finds.Given as goal

abbrev pub invariant-loop-before : goal.invariant-loop-before
invariant-loop-before g l = AreMissed (g.T.PartialEq.eq l.fn.value) l.fn.values l.fn.cells l.hash l.before
