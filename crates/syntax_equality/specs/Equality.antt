-- Values of which a test is true only of a value and itself.
use Rattle.std.proofs.Common.{inl, inr, ◌≡◌, ℕ, Bool, true, false, true≢false, ◌&&◌, List, [], ◌∷◌, map, Option, Some, None, nat_eq, refl, sym, ap, ◌∙◌}
use Rattle.std.proofs.Math.Bool.{beq}
use Rattle.std.proofs.lemmas.Bool.{and_parts, eqb-true}
use Rattle.std.specs.Cmp.Lexicographic.{pointwise, same_text}
use Rattle.std.specs.Cmp.{booleans_Decides}
use Rattle.std.specs.Option.{option_eq}
use denote.Enum.Compared.{Each, by}
use denote.Enum.Declared.{Choice, Record}
use denote.Struct.Field.{Field}
use denote.Struct.Values.{Values}

-- a value that the test finds in itself alone
abbrev pub IsOne : (A : Type 0) → (A → A → Bool) → A → Type 0
IsOne A eq a = (b : A) → eq a b ≡ true → a ≡ b

-- ---- numbers, names, lists and options

pub number_one : (a : ℕ) → IsOne ℕ nat_eq a
number_one = eqb-true

pub boolean_one : (a : Bool) → IsOne Bool beq a
boolean_one a b h = (booleans_Decides a b).0 h

pub name_one : (a : List ℕ) → IsOne (List ℕ) (pointwise nat_eq) a
name_one a b h = same_text a b (sym h)

module _ {A : Type 0} (eq : A → A → Bool) where
  -- a value with what is known of it
  abbrev pub Known : Type 0
  Known = (a : A) × IsOne A eq a

  pub known_list_one : (xs : List Known) → IsOne (List A) (pointwise eq) (map (λ x. x.0) xs)
  known_list_one [] [] h = refl
  known_list_one (x ∷ xs) (y ∷ ys) h =
      let p = and_parts (eq x.0 y) (pointwise eq (map (λ k. k.0) xs) ys) h in
      λ i. x.1 y p.0 i ∷ known_list_one xs ys p.1 i
  known_list_one [] (y ∷ ys) h = absurd (true≢false (sym h))
  known_list_one (x ∷ xs) [] h = absurd (true≢false (sym h))

  module _ (each : (a : A) → IsOne A eq a) where
    pub list_one : (xs : List A) → IsOne (List A) (pointwise eq) xs
    list_one [] [] h = refl
    list_one (x ∷ xs) (y ∷ ys) h =
        let p = and_parts (eq x y) (pointwise eq xs ys) h in
        λ i. each x y p.0 i ∷ list_one xs ys p.1 i
    list_one [] (y ∷ ys) h = absurd (true≢false (sym h))
    list_one (x ∷ xs) [] h = absurd (true≢false (sym h))

    pub option_one : (x : Option A) → IsOne (Option A) (option_eq eq) x
    option_one None None h = refl
    option_one (Some x) (Some y) h = ap Some (each x y h)
    option_one None (Some y) h = absurd (true≢false (sym h))
    option_one (Some x) None h = absurd (true≢false (sym h))

-- ---- variants of an enum

-- the test of each variant's fields finds those of a value in that value alone
abbrev pub OneAt : (Fss : List (List Field)) → Each Bool Fss → Choice Fss → Type 0
OneAt [] each c = absurd c
OneAt (Fs ∷ Fss) each (inl x) = IsOne (Values Fs) each.0 x
OneAt (Fs ∷ Fss) each (inr c) = OneAt Fss each.1 c

choice_one : (Fss : List (List Field)) (each : Each Bool Fss) (c : Choice Fss) → OneAt Fss each c → IsOne (Choice Fss) (by false false Fss each) c
choice_one [] each c at d h = absurd c
choice_one (Fs ∷ Fss) each (inl x) at (inl y) h = ap inl (at y h)
choice_one (Fs ∷ Fss) each (inl x) at (inr d) h = absurd (true≢false (sym h))
choice_one (Fs ∷ Fss) each (inr c) at (inl y) h = absurd (true≢false (sym h))
choice_one (Fs ∷ Fss) each (inr c) at (inr d) h = ap inr (choice_one Fss each.1 c at d h)

pub variant_one : (N : Record) (each : Each Bool N.parts) (a : N.D) → OneAt N.parts each (N.as_values a) → IsOne N.D (λ x y. by false false N.parts each (N.as_values x) (N.as_values y)) a
variant_one N each a at b h = sym (N.eta a) ∙ ap N.make (choice_one N.parts each (N.as_values a) at (N.as_values b) h) ∙ N.eta b

-- the tests of a relation at two values of one variant
abbrev pub tests : (Fss : List (List Field)) → (Choice Fss → Choice Fss → Bool) → Each Bool Fss
tests [] eq = tt
tests (Fs ∷ Fss) eq = (λ x y. eq (inl x) (inl y), tests Fss (λ c d. eq (inr c) (inr d)))

-- the tests of a relation on an enum, for the fields of each of its variants
abbrev pub tests_of : (N : Record) → (N.D → N.D → Bool) → Each Bool N.parts
tests_of N eq = tests N.parts (λ c d. eq (N.make c) (N.make d))

-- ---- the fields of a variant

pub none : IsOne (Unit {0}) (λ x y. true) tt
none y h = refl

module _ {A : Type 0} {a : A} {e : A → Bool} (first : (b : A) → e b ≡ true → a ≡ b) where
  pub last : (y : A × Unit {0}) → e y.0 ≡ true → ◌≡◌ {A = A × Unit {0}} (a, tt) y
  last y h = λ i. (first y.0 h i, tt)

  pub more : {B : Type 0} {b : B} {f : B → Bool} → ((y : B) → f y ≡ true → b ≡ y) → (y : A × B) → (e y.0 && f y.1) ≡ true → (a, b) ≡ y
  more rest y h = let p = and_parts _ _ h in λ i. (first y.0 p.0 i, rest y.1 p.1 i)
