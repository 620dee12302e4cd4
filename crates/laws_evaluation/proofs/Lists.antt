-- What holds of each number of a list, and what lists have at a position.
use Rattle.std.proofs.Common.{◌≡◌, ℕ, zero, suc, ◌+◌, List, [], ◌∷◌, ◌++◌, length, Some, refl, ap, ◌∙◌, arith}
use Rattle.std.specs.List.{Contains, slice_get}
use Rattle.check_survey.proofs.Chains.{Contains-first}
use Rattle.value_types.specs.Outcomes.{Fails, Outcome, Yields, outcome_and_then}

-- what follows on two functions that give the same
pub then-same : {A B : Type 0} (f g : A → Outcome B) → ((a : A) → f a ≡ g a) → (o : Outcome A) → outcome_and_then f o ≡ outcome_and_then g o
then-same f g same (Fails why) = refl
then-same f g same (Yields a) = same a

pub some-same : {A : Type 0} (x y : A) → Some x ≡ Some y → x ≡ y
some-same x y is = cc

pub cons-same : {A : Type 0} (x y : A) (xs ys : List A) → x ≡ y → xs ≡ ys → x ∷ xs ≡ y ∷ ys
cons-same x y xs ys first rest = ap (λ z. z ∷ xs) first ∙ ap (λ zs. y ∷ zs) rest

Contains-later : (x : ℕ) (xs : List ℕ) (y : ℕ) → Contains xs y → Contains (x ∷ xs) y
Contains-later x xs y (k, within, is) = (suc k, omega arith, is)

module _ (P : ℕ → Type 0) where
  -- it holds of each
  abbrev pub Each : List ℕ → Type 0
  Each [] = Unit {0}
  Each (k ∷ ks) = P k × Each ks

  pub each-first : (xs ys : List ℕ) → Each (xs ++ ys) → Each xs
  each-first [] ys all = tt
  each-first (x ∷ xs) ys all = (all.0, each-first xs ys all.1)

  pub each-rest : (xs ys : List ℕ) → Each (xs ++ ys) → Each ys
  each-rest [] ys all = all
  each-rest (x ∷ xs) ys all = each-rest xs ys all.1

  pub each-of : (xs : List ℕ) → ((k : ℕ) → Contains xs k → P k) → Each xs
  each-of [] all = tt
  each-of (x ∷ xs) all = (all x (Contains-first x xs), each-of xs (λ k among. all k (Contains-later x xs k among)))

-- the first of two lists that are joined, and the second
pub get-first : {A : Type 0} (xs ys : List A) (i : ℕ) (x : A) → slice_get xs i ≡ Some x → slice_get (xs ++ ys) i ≡ Some x
get-first [] ys i x is = absurd (let e = is in cc)
get-first (x ∷ xs) ys zero y is = is
get-first (x ∷ xs) ys (suc i) y is = get-first xs ys i y is

pub get-rest : {A : Type 0} (xs ys : List A) (i : ℕ) → slice_get (xs ++ ys) (length xs + i) ≡ slice_get ys i
get-rest [] ys i = ap (slice_get ys) (omega arith)
get-rest (x ∷ xs) ys i =
    let e : length (x ∷ xs) + i ≡ suc (length xs + i) = omega arith in
    ap (slice_get (x ∷ (xs ++ ys))) e ∙ get-rest xs ys i
