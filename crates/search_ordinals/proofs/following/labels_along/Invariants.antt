use Rattle.std.proofs.Common.{◌≡◌, drop}
use Rattle.summary.specs.Run.{Run, labels_of}
use Rattle.search_ordinals.proofs.Walks.{IsOnTheWay}
use Rattle.search_ordinals.specs.Told.{IsTold}
use Rattle.search_ordinals.specs.declared.ordinal.Ordinal.{Ordinal}
use Rattle.search_ordinals.proofs.following.labels_along.Given as goal

abbrev pub invariant-loop-ordinal : goal.invariant-loop-ordinal
invariant-loop-ordinal g l =
    g.Y.System.fits l.system l.state
    × ((run : Run _) (told : Run (Ordinal _)) → IsTold (g.Y.Located.branch l.system) (g.Y.System.graph l.system) run told → l.ordinals ≡ labels_of told
    → IsOnTheWay (g.Y.Located.branch l.system) (g.Y.System.graph l.system) l.state l.labels.items (drop l.ordinal-index l.ordinals) (labels_of run))
