-- Two positions have one class exactly where their items are equal, and equal items begin one probe path.
use Rattle.std.proofs.Common.{◌≡◌, ℕ, zero, suc, ◌<◌, Bool, true, false, cond, List, [], ◌∷◌, map, length, slice_index, sym, refl, ap, subst, ◌∙◌, arith}
use Rattle.std.proofs.Math.Nat.{mod-lt}
use Rattle.std.specs.Cmp.{IsEquivalence}
use mathlib.Core.Option.{some, some-injective, some-ne-none}
use lib.ListN.{get_elem?}
use Rattle.std.specs.Prelude.{slice_get, Some}
use Rattle.shared.specs.declared.seen.view.SeenKey.{SeenKey}
use Rattle.shared.specs.Classes.{first_equal, classes_of, HoldEqual, start_of, Shape, shape_of}
use Rattle.shared.specs.SeenRule.{AreAlike}

module _ {S : Type 0} where
  pub map-at : (f : S → ℕ) (items : List S) (j : ℕ) (x : S) → get_elem? items j ≡ some x → slice_index (map f items) j ≡ f x
  map-at f [] j x at = absurd (some-ne-none x (sym at))
  map-at f (y ∷ ys) zero x at = ap f (some-injective y x at)
  map-at f (y ∷ ys) (suc j) x at = map-at f ys j x at

  pub item_at : (items : List S) (j : ℕ) → j < length items → (x : S) × (get_elem? items j ≡ some x)
  item_at [] j low = absurd (omega arith)
  item_at (y ∷ ys) zero low = (y, refl)
  item_at (y ∷ ys) (suc j) low = item_at ys j (omega arith)

  pub at-inside : (items : List S) (j : ℕ) (x : S) → get_elem? items j ≡ some x → j < length items
  at-inside [] j x at = absurd (some-ne-none x (sym at))
  at-inside (y ∷ ys) zero x at = omega arith
  at-inside (y ∷ ys) (suc j) x at = let r = at-inside ys j x at in omega arith

  pub length-map : (f : S → ℕ) (items : List S) → length (map f items) ≡ length items
  length-map f [] = refl
  length-map f (y ∷ ys) = ap suc (length-map f ys)

  -- what `slice_get` says, as `get_elem?` says it
  pub from-get : (items : List S) (j : ℕ) (x : S) → slice_get items j ≡ Some x → get_elem? items j ≡ some x
  from-get [] j x e = cc
  from-get (y ∷ ys) zero x e = let same : y ≡ x = cc in ap some same
  from-get (y ∷ ys) (suc j) x e = from-get ys j x e

  pub to-get : (items : List S) (j : ℕ) (x : S) → get_elem? items j ≡ some x → slice_get items j ≡ Some x
  to-get [] j x e = absurd (some-ne-none x (sym e))
  to-get (y ∷ ys) zero x e = ap Some (some-injective y x e)
  to-get (y ∷ ys) (suc j) x e = to-get ys j x e

module _ {S : Type 0} (eq : S → S → Bool) (laws : IsEquivalence eq) where
  -- equal items have one class
  first-alike : (items : List S) (x y : S) → eq x y ≡ true → first_equal eq items x ≡ first_equal eq items y
  first-alike [] x y e = refl
  first-alike (z ∷ zs) x y e = let same : eq z x ≡ eq z y = laws.symm z x ∙ laws.congr x y z e ∙ laws.symm y z in let later = first-alike zs x y e in
      subst (λ b. cond (eq z x) 0 (suc (first_equal eq zs x)) ≡ cond b 0 (suc (first_equal eq zs y))) same (ap (λ (n : ℕ). cond (eq z x) 0 (suc n)) later)

  -- the item at the first position is equal
  first-found : (items : List S) (j : ℕ) (x : S) → get_elem? items j ≡ some x → (z : S) × (get_elem? items (first_equal eq items x) ≡ some z) × (eq z x ≡ true)
  first-found [] j x at = absurd (some-ne-none x (sym at))
  first-found (y ∷ ys) j x at = go (eq y x) refl j at (λ i there. first-found ys i x there)
    where
      go : (b : Bool) → eq y x ≡ b → (j : ℕ) → get_elem? (y ∷ ys) j ≡ some x → ((i : ℕ) → get_elem? ys i ≡ some x → (z : S) × (get_elem? ys (first_equal eq ys x) ≡ some z) × (eq z x ≡ true))
          → (z : S) × (get_elem? (y ∷ ys) (cond (eq y x) 0 (suc (first_equal eq ys x))) ≡ some z) × (eq z x ≡ true)
      go true is j at later = (y, ap (λ b. get_elem? (y ∷ ys) (cond b 0 (suc (first_equal eq ys x)))) is, is)
      go false is zero at later = let same : y ≡ x = some-injective y x at in let own : eq y x ≡ true = ap (λ (w : S). eq w x) same ∙ laws.refl x in cc
      go false is (suc i) at later = let r = later i at in (r.0, ap (λ b. get_elem? (y ∷ ys) (cond b 0 (suc (first_equal eq ys x)))) is ∙ r.1, r.2)

  module _ (items : List S) where
    pub alike-from-equal : (j k : ℕ) (x y : S) → get_elem? items j ≡ some x → get_elem? items k ≡ some y → eq x y ≡ true → AreAlike (classes_of eq items) j k
    alike-from-equal j k x y at there e = map-at (first_equal eq items) items j x at ∙ first-alike items x y e ∙ sym (map-at (first_equal eq items) items k y there)

    pub equal-from-alike : (j k : ℕ) (x y : S) → get_elem? items j ≡ some x → get_elem? items k ≡ some y → AreAlike (classes_of eq items) j k → eq x y ≡ true
    equal-from-alike j k x y at there alike =
        let same : first_equal eq items x ≡ first_equal eq items y = sym (map-at (first_equal eq items) items j x at) ∙ alike ∙ map-at (first_equal eq items) items k y there in
        let p = first-found items j x at in let q = first-found items k y there in
        let one : p.0 ≡ q.0 = some-injective p.0 q.0 (sym p.1 ∙ ap (get_elem? items) same ∙ q.1) in
        let qx : eq q.0 x ≡ true = ap (λ (z : S). eq z x) (sym one) ∙ p.2 in
        sym (laws.congr q.0 x y qx) ∙ q.2

    pub hold-equal : (j k : ℕ) → AreAlike (classes_of eq items) j k → HoldEqual eq items j k
    hold-equal j k alike x y at there = equal-from-alike j k x y (from-get items j x at) (from-get items k y there) alike

    pub are_alike : (j k : ℕ) → j < length items → k < length items → HoldEqual eq items j k → AreAlike (classes_of eq items) j k
    are_alike j k low near hold = let x = item_at items j low in let y = item_at items k near in
        alike-from-equal j k x.0 y.0 x.1 y.1 (hold x.0 y.0 (to-get items j x.0 x.1) (to-get items k y.0 y.1))

    pub class_low : (j : ℕ) → j < length items → slice_index (classes_of eq items) j < length items
    class_low j low = let x = item_at items j low in let z = first-found items j x.0 x.1 in
        subst (λ (n : ℕ). n < length items) (sym (map-at (first_equal eq items) items j x.0 x.1)) (at-inside items (first_equal eq items x.0) z.0 z.1)

-- What the proofs read of a shape: fewer positions than words, and one probe path for a class
pub record IsShape (shape : Shape) : Type 0 where
  pub room : length shape.classes < shape.words
  pub starts : (j k : ℕ) → j < length shape.classes → k < length shape.classes → AreAlike shape.classes j k → slice_index shape.starts j ≡ slice_index shape.starts k
  pub low : (j : ℕ) → j < length shape.classes → slice_index shape.starts j < shape.words
  pub class_low : (j : ℕ) → j < length shape.classes → slice_index shape.classes j < length shape.classes

module _ {S : Type 0} (eq : S → S → Bool) (input : S → List (List ℕ)) (laws : IsEquivalence eq) (respects : (x y : S) → eq x y ≡ true → input x ≡ input y) where
  pub shape-is : (key : SeenKey S) → length key.items.now < key.words → IsShape (shape_of eq input key)
  shape-is key room =
      let items = key.items.now in let n = length-map (first_equal eq items) items in record {
        room = omega arith;
        starts = λ j k low near alike. let x = item_at items j (omega arith) in let y = item_at items k (omega arith) in
            let e = equal-from-alike eq laws items j k x.0 y.0 x.1 y.1 alike in
            map-at (start_of input key.words) items j x.0 x.1 ∙ ap (λ ws. start_of (λ (none : List (List ℕ)). none) key.words ws) (respects x.0 y.0 e) ∙ sym (map-at (start_of input key.words) items k y.0 y.1);
        low = λ j low. let x = item_at items j (omega arith) in
            subst (λ (m : ℕ). m < key.words) (sym (map-at (start_of input key.words) items j x.0 x.1)) (mod-lt _ (omega arith));
        class_low = λ j low. subst (λ (m : ℕ). slice_index (classes_of eq items) j < m) (sym n) (class_low eq laws items j (omega arith));
      }
