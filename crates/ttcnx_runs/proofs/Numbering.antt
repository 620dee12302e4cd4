-- The numbers of labels, where the labels of one component come behind those of another one.
use Rattle.std.proofs.Common.{◌≡◌, ℕ, zero, suc, ◌+◌, ◌<◌, ◌≤◌, arith, List, [], ◌∷◌, ◌++◌, map, take, length, Some, refl, sym, ap, subst, ◌∙◌}
use Rattle.std.proofs.lemmas.List.{length-append}
use Rattle.std.specs.List.{Contains, flat_map}
use Rattle.std.specs.Prelude.{slice_get}
use Rattle.search_ordinals.specs.Told.{IsNth}

some-is : {A : Type 0} {a b : A} → Some a ≡ Some b → a ≡ b
some-is e = cc

head-is : {A : Type 0} {x y : A} {xs ys : List A} → x ∷ xs ≡ y ∷ ys → x ≡ y
head-is e = cc

tail-is : {A : Type 0} {x y : A} {xs ys : List A} → x ∷ xs ≡ y ∷ ys → xs ≡ ys
tail-is e = cc

-- ---- items by their numbers

pub nth-contained : {A : Type 0} (xs : List A) (n : ℕ) (x : A) → IsNth xs n x → Contains xs x
nth-contained [] n x is = absurd is
nth-contained (z ∷ zs) zero x is = (0, omega arith, is)
nth-contained (z ∷ zs) (suc n) x is =
    let rest = nth-contained zs n x is in
    (suc rest.0, let below = rest.1 in omega (arith, below), rest.2)

pub nth-in-front : {A : Type 0} (xs ys : List A) (n : ℕ) (x : A) → IsNth xs n x → IsNth (xs ++ ys) n x
nth-in-front [] ys n x is = absurd is
nth-in-front (z ∷ zs) ys zero x is = is
nth-in-front (z ∷ zs) ys (suc n) x is = nth-in-front zs ys n x is

nth-behind : {A : Type 0} (xs ys : List A) (n number : ℕ) (x : A) → number ≡ length xs + n → IsNth ys n x → IsNth (xs ++ ys) number x
nth-behind [] ys n number x counted is = subst (λ k. IsNth ys k x) (omega (arith, counted)) is
nth-behind (z ∷ zs) ys n zero x counted is = absurd (omega (arith, counted))
nth-behind (z ∷ zs) ys n (suc number) x counted is = nth-behind zs ys n number x (omega (arith, counted)) is

-- an item of one of two lists that are mapped alike
pub nth-alike : {A B C : Type 0} (f : A → C) (h : B → C) (xs : List A) (ys : List B) (n : ℕ) (x : A) → map f xs ≡ map h ys → slice_get xs n ≡ Some x → (y : B) × IsNth ys n y × (f x ≡ h y)
nth-alike f h [] ys n x same found = absurd (let no = found in cc)
nth-alike f h (z ∷ zs) [] n x same found = absurd (let no = same in cc)
nth-alike f h (z ∷ zs) (y ∷ ys) zero x same found = (y, refl, ap f (sym (some-is found)) ∙ head-is same)
nth-alike f h (z ∷ zs) (y ∷ ys) (suc n) x same found = nth-alike f h zs ys n x (tail-is same) found

pub get-within : {A : Type 0} (xs : List A) (n : ℕ) (x : A) → slice_get xs n ≡ Some x → n < length xs
get-within [] n x found = absurd (let no = found in cc)
get-within (z ∷ zs) zero x found = omega arith
get-within (z ∷ zs) (suc n) x found = let rest = get-within zs n x found in omega (arith, rest)

-- ---- lists of several, one behind the other

module _ {A B : Type 0} (f : A → List B) where
  -- how many come before those of the one at a place
  abbrev pub before_those : List A → ℕ → ℕ
  before_those xs at = length (flat_map f (take at xs))

  longer : (z : A) (zs : List A) (at : ℕ) → before_those (z ∷ zs) (suc at) ≡ length (f z) + before_those zs at
  longer z zs at = length-append (f z) (flat_map f (take at zs))

  -- an item of the list of the one at a place
  pub nth-of-all : (xs : List A) (at : ℕ) (x : A) (n number : ℕ) (y : B) → slice_get xs at ≡ Some x → number ≡ before_those xs at + n → IsNth (f x) n y → IsNth (flat_map f xs) number y
  nth-of-all [] at x n number y found counted is = absurd (let no = found in cc)
  nth-of-all (z ∷ zs) zero x n number y found counted is =
      nth-in-front (f z) (flat_map f zs) number y (subst (λ k. IsNth (f z) k y) (omega (arith, counted)) (subst (λ w. IsNth (f w) n y) (sym (some-is found)) is))
  nth-of-all (z ∷ zs) (suc at) x n number y found counted is =
      let many = longer z zs at in
      nth-behind (f z) (flat_map f zs) (before_those zs at + n) number y (omega (arith, many, counted))
      (nth-of-all zs at x n (before_those zs at + n) y found refl is)

  -- it comes before those of a later one
  pub comes-before : (xs : List A) (at later : ℕ) (x : A) (n : ℕ) → slice_get xs at ≡ Some x → at < later → n < length (f x) → before_those xs at + n < before_those xs later
  comes-before [] at later x n found before below = absurd (let no = found in cc)
  comes-before (z ∷ zs) at zero x n found before below = absurd (omega (arith, before))
  comes-before (z ∷ zs) zero (suc later) x n found before below =
      let many = longer z zs later in
      let here : n < length (f z) = subst (λ w. n < length (f w)) (sym (some-is found)) below in
      omega (arith, many, here)
  comes-before (z ∷ zs) (suc at) (suc later) x n found before below =
      let many = longer z zs later in
      let some = longer z zs at in
      let rest = comes-before zs at later x n found (omega (arith, before)) below in
      omega (arith, many, some, rest)

  next : (xs : List A) (at : ℕ) (x : A) → slice_get xs at ≡ Some x → before_those xs (suc at) ≡ before_those xs at + length (f x)
  next [] at x found = absurd (let no = found in cc)
  next (z ∷ zs) zero x found =
      let many = longer z zs zero in
      let here : length (f z) ≡ length (f x) = ap (λ y. length (f y)) (some-is found) in
      omega (arith, many, here)
  next (z ∷ zs) (suc at) x found =
      let many = longer z zs (suc at) in
      let some = longer z zs at in
      let rest = next zs at x found in
      omega (arith, many, some, rest)

  -- with the list of one more
  pub one-more : (xs : List A) (at : ℕ) (x : A) → slice_get xs at ≡ Some x → before_those xs (at + 1) ≡ before_those xs at + length (f x)
  one-more xs at x found = subst (λ k. before_those xs k ≡ before_those xs at + length (f x)) (let same : suc at ≡ at + 1 = omega arith in same) (next xs at x found)

-- as many come before, where one list has the items of the first part of the other one
pub as-many-before : {A B C D : Type 0} (f : A → List B) (h : C → List D) (xs : List A) (ys : List C) (at : ℕ) → at ≤ length xs → length xs ≤ length ys
    → ((k : ℕ) (x : A) (y : C) → slice_get xs k ≡ Some x → slice_get ys k ≡ Some y → length (f x) ≡ length (h y)) → before_those f xs at ≡ before_those h ys at
as-many-before f h [] [] zero within long each = refl
as-many-before f h [] [] (suc at) within long each = refl
as-many-before f h [] (y ∷ ys) zero within long each = refl
as-many-before f h [] (y ∷ ys) (suc at) within long each = absurd (omega (arith, within))
as-many-before f h (x ∷ xs) [] at within long each = absurd (omega (arith, long))
as-many-before f h (x ∷ xs) (y ∷ ys) zero within long each = refl
as-many-before f h (x ∷ xs) (y ∷ ys) (suc at) within long each =
    let here : length (f x) ≡ length (h y) = each 0 x y refl refl in
    let rest = as-many-before f h xs ys at (omega (arith, within)) (omega (arith, long)) (λ k a b one other. each (suc k) a b one other) in
    let many = longer f x xs at in
    let some = longer h y ys at in
    omega (arith, here, rest, many, some)
