-- Values that are found by their hashes.
use Rattle.std.proofs.Common.{◌≡◌, ℕ, zero, suc, ◌+◌, ◌<◌, Bool, true, false, ◌||◌, List, [], ◌∷◌, drop, length, slice_get, Option, Some, nat_eq, refl, sym, ap, subst, ◌∙◌, eqb-true, arith}
use Rattle.std.proofs.lemmas.Bool.{eqb-false}
use Rattle.std.specs.List.{list_any}
use Rattle.std.specs.Option.{unwrap_or}
use Rattle.search_shards.specs.Sharded.{hash_of}
use Rattle.search_shards.specs.internal.Cells.{AreFound, IsFound}
use Rattle.search_shards.specs.internal.Places.{Position}

module _ {T : Type 0} where
  -- where none of the first values is such, one is among the others or nowhere
  any-behind : (is : T → Bool) (values : List T) (count : ℕ) → ((index : ℕ) (value : T) → index < count → slice_get values index ≡ Some value → is value ≡ false)
      → list_any is values ≡ list_any is (drop count values)
  any-behind is values zero none = refl
  any-behind is [] (suc count) none = refl
  any-behind is (x ∷ xs) (suc count) none =
      ap (λ (b : Bool). b || list_any is xs) (none 0 x (omega arith) refl)
      ∙ any-behind is xs count (λ index value low at. none (suc index) value (omega arith) at)

  -- it doesn't matter which of both values is compared with the other one
  pub any-turned : (eq : T → T → Bool) → ((x y : T) → eq x y ≡ eq y x) → (q : T) (xs : List T) → list_any (λ y. eq y q) xs ≡ list_any (eq q) xs
  any-turned eq symm q [] = refl
  any-turned eq symm q (x ∷ xs) = λ i. symm x q i || any-turned eq symm q xs i

  module _ (input : T → List (List ℕ)) (values : List T) where
    -- an equal value is among those that are not found by their hashes, if it isn't found
    pub any-waiting : (eq : T → T → Bool) → ((x y : T) → eq x y ≡ true → input x ≡ input y) → (cells : List (Option Position)) (count : ℕ) → AreFound input values cells count → (q : T)
        → ((index : ℕ) (value : T) → IsFound cells (hash_of input q) index → slice_get values index ≡ Some value → eq q value ≡ false)
        → list_any (eq q) values ≡ list_any (eq q) (drop count values)
    any-waiting eq respects cells count found q missed = any-behind (eq q) values count (λ index value low at. by index value low at (eq q value) refl)
      where
        by : (index : ℕ) (value : T) → index < count → slice_get values index ≡ Some value → (b : Bool) → eq q value ≡ b → eq q value ≡ false
        by index value low at true e =
            missed index value (subst (λ (w : List (List ℕ)). IsFound cells (hash_of (λ (z : List (List ℕ)). z) w) index) (sym (respects q value e)) (found.each index value low at)) at
        by index value low at false e = e

    -- one more is found
    pub one-found : (cells others : List (Option Position)) (count : ℕ) (x : T) → AreFound input values cells count → count < length values → slice_get values count ≡ Some x
        → IsFound others (hash_of input x) count → ((hash index : ℕ) → IsFound cells hash index → IsFound others hash index) → AreFound input values others (count + 1)
    one-found cells others count x found low here new kept = record {
      within = omega arith;
      each = λ index value less at. by index value less at (nat_eq index count) refl;
    }
      where
        by : (index : ℕ) (value : T) → index < count + 1 → slice_get values index ≡ Some value → (b : Bool) → nat_eq index count ≡ b → IsFound others (hash_of input value) index
        by index value less at true e =
            let same : index ≡ count = eqb-true index count e in
            let is : Some x ≡ Some value = sym here ∙ ap (slice_get values) (sym same) ∙ at in
            subst (λ (o : Option T). IsFound others (hash_of input (unwrap_or o x)) index) is (subst (λ (i : ℕ). IsFound others (hash_of input x) i) (sym same) new)
        by index value less at false e = kept (hash_of input value) index (found.each index value (let off = eqb-false index count e in omega arith) at)
