-- Finite sets: lists of which only the keys count, not their order nor how often each stands there.
use Rattle.std.specs.Prelude.{◌≡◌, List, [], ◌∷◌, ◌++◌, Option, None, Some, Contains}
use Rattle.std.proofs.Common.{inl, inr, refl, append_assoc}
use Rattle.std.proofs.lemmas.List.Elements.{Contains-append_left, Contains-append_right, Contains-append_cases}
use Rattle.summary.specs.Sums.{Join, IsSemilattice}
use std.Quotient as quotient
use std.Quotient.{cls, eq/, /_set, /_rec, /_rec₂, /_elim_prop, /_elim_prop₂, /_elim_prop₃}

-- each key of the first list is one of the second
abbrev pub Within : {K : Type 0} → List K → List K → Type 0
Within {K} xs ys = (k : K) → Contains xs k → Contains ys k

-- two lists of the same keys
abbrev pub SameKeys : {K : Type 0} → List K → List K → Type 0
SameKeys xs ys = Within xs ys × Within ys xs

-- a list, where lists of the same keys are one
abbrev pub KeySet : Type 0 → Type 0
KeySet K = quotient.◌/◌ (List K) SameKeys

-- the set of the keys of a list
abbrev pub from_list : {K : Type 0} → List K → KeySet K
from_list keys = cls keys

-- the set without keys
abbrev pub empty : {K : Type 0} → KeySet K
empty = from_list []

-- the key, if there is one
abbrev pub from_option : {K : Type 0} → Option K → KeySet K
from_option None = empty
from_option (Some key) = from_list (key ∷ [])

module _ {K : Type 0} where
  within_append : (xs ys us vs : List K) → Within xs us → Within ys vs → Within (xs ++ ys) (us ++ vs)
  within_append xs ys us vs f g k h =
      elim (Contains-append_cases xs ys k h) [
        | inl a ↦ Contains-append_left us vs k (f k a)
        | inr b ↦ Contains-append_right us vs k (g k b)
      ]

  same_append : (xs ys us vs : List K) → SameKeys xs us → SameKeys ys vs → SameKeys (xs ++ ys) (us ++ vs)
  same_append xs ys us vs f g = (within_append xs ys us vs f.0 g.0, within_append us vs xs ys f.1 g.1)

  same_itself : (xs : List K) → SameKeys xs xs
  same_itself xs = (λ k h. h, λ k h. h)

  -- the keys of both: their lists, one after the other
  pub union : KeySet K → KeySet K → KeySet K
  unfolding /_rec₂
  union = /_rec₂ /_set (λ xs ys. cls (xs ++ ys)) (λ xs us ys f. eq/ (xs ++ ys) (us ++ ys) (same_append xs ys us ys f (same_itself ys))) (λ xs ys vs g. eq/ (xs ++ ys) (xs ++ vs) (same_append xs ys xs vs (same_itself xs) g))

  pub union-from_list : (xs ys : List K) → union (from_list xs) (from_list ys) ≡ from_list (xs ++ ys)
  unfolding union /_rec₂ /_rec
  union-from_list xs ys = refl

  -- sets as summaries
  abbrev pub union_join : Join (KeySet K)
  union_join = record { none = empty; join = union }

  same_swapped : (xs ys : List K) → SameKeys (xs ++ ys) (ys ++ xs)
  same_swapped xs ys = (swapped xs ys, swapped ys xs)
    where
      swapped : (us vs : List K) → Within (us ++ vs) (vs ++ us)
      swapped us vs k h = elim (Contains-append_cases us vs k h) [ inl a ↦ Contains-append_right vs us k a | inr b ↦ Contains-append_left vs us k b ]

  same_twice : (xs : List K) → SameKeys (xs ++ xs) xs
  same_twice xs = (λ k h. elim (Contains-append_cases xs xs k h) [ inl a ↦ a | inr b ↦ b ], λ k h. Contains-append_left xs xs k h)

  -- sets are joined in any order, and any number of times
  pub union_semilattice : IsSemilattice union_join
  unfolding union /_rec₂ /_rec
  union_semilattice = record {
    associates = /_elim_prop₃ (λ x y z. union (union x y) z ≡ union x (union y z)) (λ x y z. /_set _ _) (λ xs ys zs. λ i. cls (append_assoc xs ys zs i));
    commutes = /_elim_prop₂ (λ x y. union x y ≡ union y x) (λ x y. /_set _ _) (λ xs ys. eq/ (xs ++ ys) (ys ++ xs) (same_swapped xs ys));
    repeats = /_elim_prop (λ x. union x x ≡ x) (λ x. /_set _ _) (λ xs. eq/ (xs ++ xs) xs (same_twice xs));
    unit = /_elim_prop (λ x. union empty x ≡ x) (λ x. /_set _ _) (λ xs. refl);
  }
