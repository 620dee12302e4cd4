-- The values at places, one by one.
use Rattle.std.proofs.Common.{◌≡◌, ℕ, zero, suc, ◌<◌, List, [], ◌∷◌, ◌++◌, All, length, get_or, slice_get, Some, inl, inr, refl, sym, ap, subst, ◌∙◌, arith}
use Rattle.std.proofs.lemmas.Bool.{cases_lt}
use Rattle.std.proofs.lemmas.List.{get_or_default, get_or_past}
use Rattle.std.proofs.lemmas.Option.{slice_get-get_or}
use Rattle.std.proofs.lemmas.List.Elements.{All-get_or, All-head, All-tail}
use Rattle.search_shards.specs.internal.Places.{Position, one_at, value_at, values_in, IsHeld}

module _ {T : Type 0} where
  pub one_at-append : (xs ys : List T) (i : ℕ) → i < length xs → one_at (xs ++ ys) i ≡ one_at xs i
  one_at-append [] ys i low = absurd (omega arith)
  one_at-append (x ∷ xs) ys zero low = refl
  one_at-append (x ∷ xs) ys (suc i) low = one_at-append xs ys i (omega arith)

  pub one_at-end : (xs : List T) (x : T) → one_at (xs ++ x ∷ []) (length xs) ≡ x ∷ []
  one_at-end [] x = refl
  one_at-end (y ∷ ys) x = one_at-end ys x

  pub one_at-get : (xs : List T) (i : ℕ) (x : T) → slice_get xs i ≡ Some x → one_at xs i ≡ x ∷ []
  one_at-get [] i x e = cc
  one_at-get (y ∷ ys) zero x e = let same : y ≡ x = cc in ap (λ (z : T). z ∷ []) same
  one_at-get (y ∷ ys) (suc i) x e = one_at-get ys i x e

  pub one_at-held : (xs : List T) (i : ℕ) → i < length xs → (x : T) × (one_at xs i ≡ x ∷ [])
  one_at-held [] i low = absurd (omega arith)
  one_at-held (x ∷ xs) zero low = (x, refl)
  one_at-held (x ∷ xs) (suc i) low = one_at-held xs i (omega arith)

  module _ (shards : List (List T)) where
    -- a place that holds a value is that of a shard
    pub shard-low : (p : Position) → IsHeld shards p → p.0 < length shards
    shard-low p held = elim (cases_lt p.0 (length shards)) [
      | inl low ↦ low
      | inr past ↦ (let none = ap length (get_or_past shards p.0 [] past) in absurd (omega arith))
    ]

    -- there are as many values as places
    pub length-values_in : (places : List Position) → All (IsHeld shards) places → length (values_in shards places) ≡ length places
    length-values_in [] held = refl
    length-values_in (p ∷ ps) held =
        let one = one_at-held (get_or shards p.0 []) p.1 (All-head (IsHeld shards) p ps held) in
        ap (λ (xs : List T). length (xs ++ values_in shards ps)) one.1
        ∙ ap suc (length-values_in ps (All-tail (IsHeld shards) p ps held))

    -- the value at the place of a number is the value of that number
    pub values_in-get : (places : List Position) (i : ℕ) (p : Position) (x : T) → All (IsHeld shards) places → slice_get places i ≡ Some p
        → slice_get (get_or shards p.0 []) p.1 ≡ Some x → slice_get (values_in shards places) i ≡ Some x
    values_in-get [] i p x held at has = cc
    values_in-get (q ∷ qs) zero p x held at has =
        let same : q ≡ p = cc in
        ap (λ (xs : List T). slice_get (xs ++ values_in shards qs) 0) (ap (value_at shards) same ∙ one_at-get (get_or shards p.0 []) p.1 x has)
    values_in-get (q ∷ qs) (suc i) p x held at has =
        let one = one_at-held (get_or shards q.0 []) q.1 (All-head (IsHeld shards) q qs held) in
        ap (λ (xs : List T). slice_get (xs ++ values_in shards qs) (suc i)) one.1
        ∙ values_in-get qs i p x (All-tail (IsHeld shards) q qs held) at has

    -- the same values stand at the places of other shards
    pub values_in-same : (others : List (List T)) (places : List Position) → All (IsHeld shards) places
        → ((p : Position) → IsHeld shards p → value_at others p ≡ value_at shards p) → values_in others places ≡ values_in shards places
    values_in-same others [] held same = refl
    values_in-same others (p ∷ ps) held same = λ i. same p (All-head (IsHeld shards) p ps held) i ++ values_in-same others ps (All-tail (IsHeld shards) p ps held) same i

    -- the place of a number below the length
    module _ (places : List Position) (held : All (IsHeld shards) places) (keys : List T) (are : values_in shards places ≡ keys) (i : ℕ) (low : i < length keys) where
      pub in-places : i < length places
      in-places = let count = length-values_in places held in let long = ap length are in omega arith

      module _ (p : Position) (at : p ≡ get_or places i p) where
        pub place-held : IsHeld shards p
        place-held = subst (IsHeld shards) (sym at) (All-get_or (IsHeld shards) places i p in-places held)

        module _ (kept : List T) (read : kept ≡ get_or shards p.0 kept) where
          kept-is : kept ≡ get_or shards p.0 []
          kept-is = read ∙ get_or_default shards p.0 kept [] (shard-low p place-held)

          pub in-shard : p.1 < length kept
          in-shard = subst (λ (xs : List T). p.1 < length xs) (sym kept-is) place-held

          pub value_of : (x : T) → slice_get kept p.1 ≡ Some x → slice_get keys i ≡ Some x
          value_of x has =
              ap (λ (xs : List T). slice_get xs i) (sym are)
              ∙ values_in-get places i p x held (slice_get-get_or places i p in-places ∙ ap Some (sym at))
              (ap (λ (xs : List T). slice_get xs p.1) (sym kept-is) ∙ has)
