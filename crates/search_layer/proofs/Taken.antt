-- What the iterator of a vector has given.
use Rattle.std.proofs.Common.{◌≡◌, List, [], ◌∷◌, ◌++◌, ap, ◌∙◌}
use Rattle.std.specs.Iterator.{Yields}
use Rattle.std.specs.Vec.Iter.{into_iter_items, into_iter_steps}
use Rattle.std.specs.declared.vec.IntoIter.{IntoIter}

-- it is a front of the items, and the rest is left
pub front-taken : {X A : Type 0} (before : IntoIter X A) (given : List X) (after : IntoIter X A) → Yields into_iter_steps before given after → into_iter_items before ≡ given ++ into_iter_items after
front-taken before [] after y = ap into_iter_items y
front-taken before (x ∷ given) after y = y.1.0 ∙ ap (λ rest. x ∷ rest) (front-taken y.0 given after y.2)
