-- Lists of which each element has a part.
use Rattle.std.proofs.Common.{◌≡◌, ℕ, ◌<◌, List, length, get_or, map, sym, ap, ◌∙◌, arith}
use Rattle.std.specs.Prelude.{◌≢◌, AllPairs, Contains}
use Rattle.std.proofs.lemmas.List.{get_or-map, get_or_default, length-map}

module _ {A B : Type 0} (f : A → B) (xs : List A) where
  within : (k : ℕ) → k < length (map f xs) → k < length xs
  within k below = omega (arith, below, length-map xs f)

  pub contains-map : (x : A) → Contains xs x → Contains (map f xs) (f x)
  contains-map x found = (found.0, omega (arith, found.1, length-map xs f), get_or-map f xs found.0 x (f x) found.1 ∙ ap f found.2)

  -- an element of the parts is the part of an element
  pub of-part : (d : A) (y : B) → Contains (map f xs) y → (x : A) × Contains xs x × (f x ≡ y)
  of-part d y found =
      let below = within found.0 found.1 in
      (get_or xs found.0 d, (found.0, below, get_or_default xs found.0 (get_or xs found.0 d) d below), sym (get_or-map f xs found.0 d y below) ∙ found.2)

  -- where elements with one part are one, parts of different elements are different
  pub parts-apart : (B → A) → ((x y : A) → Contains xs x → Contains xs y → f x ≡ f y → x ≡ y) → AllPairs (λ x y. x ≢ y) xs → AllPairs (λ x y. x ≢ y) (map f xs)
  parts-apart some one apart i j d before below same =
      let j-in = within j below in
      let i-in : i < length xs = omega (arith, before, j-in) in
      let e = some d in
      apart i j e before j-in
      (one (get_or xs i e) (get_or xs j e) (i, i-in, get_or_default xs i (get_or xs i e) e i-in) (j, j-in, get_or_default xs j (get_or xs j e) e j-in)
      (sym (get_or-map f xs i e d i-in) ∙ same ∙ get_or-map f xs j e d j-in))
