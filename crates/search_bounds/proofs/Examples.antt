-- What the definitions mean, on a graph of one state with a statement and a timer.
use Rattle.std.proofs.Common.{◌≡◌, true, false, [], ◌∷◌, Some, None, refl}
use Rattle.search_bounds.specs.Bounded.{allowed}
use Rattle.search_bounds.specs.KeptRuns.{expiries_of}
use Rattle.search_bounds.specs.declared.kind.Kind.{Kind}
use Rattle.search_bounds.specs.declared.kind.Kind.TheVariants.{Expiry, Other, Statement}
use Rattle.summary.specs.Run.{Start, Then}

-- labels are of their own kinds
abbrev itself : Kind → Kind
itself kind = kind

-- a run of a statement and two expiries has two
two : expiries_of itself (Then (Then (Then Start Expiry) Statement) Expiry) ≡ 2
two = refl

-- one expiry is left: the timer may expire, also where a statement has a step
impatient : allowed false itself (Some 1) (Statement ∷ Expiry ∷ []) ≡ Statement ∷ Expiry ∷ []
impatient = refl

-- a patient timer waits for the statement
patient : allowed true itself (Some 1) (Statement ∷ Expiry ∷ []) ≡ Statement ∷ []
patient = refl

-- but not for a step of another kind
other : allowed true itself None (Expiry ∷ Other ∷ []) ≡ Expiry ∷ Other ∷ []
other = refl

-- no expiry is left
spent : allowed false itself (Some 0) (Expiry ∷ Other ∷ []) ≡ Other ∷ []
spent = refl
