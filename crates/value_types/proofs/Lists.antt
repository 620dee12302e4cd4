-- Lists that are gone through by an index.
use Rattle.std.proofs.Common.{◌≡◌, ◌≤◌, ℕ, suc, ◌+◌, ◌<◌, Bool, true, false, if◌then◌else◌, List, [], ◌∷◌, length, get_or, drop, map, Option, Some, None, refl, sym, ap, ◌∙◌, add-one, drop-cons}
use Rattle.std.proofs.lemmas.Iterator.Adapters.{position_from-zero}
use Rattle.std.proofs.lemmas.List.{drop_all}
use Rattle.std.specs.List.{find, position, position_from}
use Rattle.std.specs.Option.{option_map}

-- the element at an index comes first of those that are left
pub drop-next : {A : Type 0} (l : List A) (i : ℕ) (x : A) → i < length l → x ≡ get_or l i x → drop i l ≡ x ∷ drop (i + 1) l
drop-next l i x within is = drop-cons l i x within ∙ ap (λ y. y ∷ drop (suc i) l) (sym is) ∙ ap (λ k. x ∷ drop k l) (sym (add-one i))

module _ {A : Type 0} (test : A → Bool) (l : List A) where
  -- the first one of a test is at the index, or behind it
  pub position-first : (i : ℕ) (x : A) → i < length l → x ≡ get_or l i x → test x ≡ true → position_from test i (drop i l) ≡ position_from test 0 l → Some i ≡ position test l
  position-first i x within is passes left =
      ap (λ b. if b then Some i else position_from test (i + 1) (drop (i + 1) l)) (sym passes)
      ∙ ap (position_from test i) (sym (drop-next l i x within is)) ∙ left ∙ sym (position_from-zero test l)

  pub position-next : (i : ℕ) (x : A) → i < length l → x ≡ get_or l i x → test x ≡ false → position_from test i (drop i l) ≡ position_from test 0 l
      → position_from test (i + 1) (drop (i + 1) l) ≡ position_from test 0 l
  position-next i x within is fails left =
      ap (λ b. if b then Some i else position_from test (i + 1) (drop (i + 1) l)) (sym fails)
      ∙ ap (position_from test i) (sym (drop-next l i x within is)) ∙ left

  pub position-end : (i : ℕ) → length l ≤ i → position_from test i (drop i l) ≡ position_from test 0 l → None ≡ position test l
  position-end i past left = ap (position_from test i) (sym (drop_all i l past)) ∙ left ∙ sym (position_from-zero test l)

module _ {A B : Type 0} (g : A → B) (test : B → Bool) (of : A → Bool) (same : (a : A) → test (g a) ≡ of a) where
  one-found : (b : Bool) (a : A) (behind : Option B) (found : Option A) → behind ≡ option_map g found
      → (if b then Some (g a) else behind) ≡ option_map g (if b then Some a else found)
  one-found true a behind found is = refl
  one-found false a behind found is = is

  -- the first one of a test, among what others give
  pub find-among : (l : List A) → find test (map g l) ≡ option_map g (find of l)
  find-among [] = refl
  find-among (a ∷ l) = ap (λ b. if b then Some (g a) else find test (map g l)) (same a) ∙ one-found (of a) a (find test (map g l)) (find of l) (find-among l)
