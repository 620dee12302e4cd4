use Rattle.std.specs.List.{AllZip}
use Rattle.search_ordinals.proofs.following.labels_of_sightings.Given as goal
use Rattle.search_ordinals.specs.internal.Sighted.{IsSightingTold}

abbrev pub invariant-loop-one : goal.invariant-loop-one
invariant-loop-one g l = AllZip (IsSightingTold (g.Y.Located.branch l.system) (g.Y.System.graph l.system)) l.sightings.items l.yielded
