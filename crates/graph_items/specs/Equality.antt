-- Declared names, references and items that `==` finds equal are one.
use Rattle.std.proofs.Common.{◌≡◌, Bool, true, ◌&&◌, ℕ, List, [], ◌∷◌, Option, Some, None, nat_eq, refl, ap, ◌∙◌, subst}
use Rattle.std.proofs.lemmas.Bool.{and_parts, eq-eqb}
use Rattle.std.specs.Cmp.{IsEquivalence, IsPartialEquivalence, decided, partial_equiv_from_equiv}
use Rattle.std.specs.Cmp.Lexicographic.{nat_list_eq_equiv, pointwise}
use Rattle.std.specs.Option.{option_eq}
use Rattle.ttcn_syntax.specs.declared.tree.expression.Reference.{Reference}
use Rattle.check_scope.specs.Names.{Entry}
use Rattle.check_scope.specs.contracts.names.Meaning.{enum as meaning_enum}
use Rattle.check_scope.specs.contracts.names.MeaningPartialEq.TheImpl as meanings
use Rattle.check_scope.specs.contracts.types.DataType.{enum as type_enum}
use Rattle.check_scope.specs.contracts.types.DataTypePartialEq.TheImpl as derived
use Rattle.check_scope.specs.declared.names.Meaning.{Meaning}
use Rattle.check_scope.specs.declared.names.Meaning.TheVariants as meaning
use Rattle.check_scope.specs.declared.types.DataType.{DataType}
use Rattle.check_scope.specs.declared.types.DataType.TheVariants as type
use Rattle.syntax_equality.specs.Equality.{IsOne, OneAt, last, list_one, more, name_one, none, number_one, option_one, tests_of, variant_one}

type_at : (a : DataType) → OneAt type_enum.parts (tests_of type_enum (derived.ghosts).eq) (type_enum.as_values a)
type_at type.Integer = none
type_at type.Boolean = none
type_at type.Default = none
type_at (type.Record at) = last (number_one at)
type_at (type.Enumerated at) = last (number_one at)
type_at (type.Component at) = last (number_one at)

pub type_one : (a : DataType) → IsOne DataType (derived.ghosts).eq a
type_one a = variant_one type_enum (tests_of type_enum (derived.ghosts).eq) a (type_at a)

meaning_at : (a : Meaning) → OneAt meaning_enum.parts (tests_of meaning_enum (meanings.ghosts).eq) (meaning_enum.as_values a)
meaning_at (meaning.Record at) = last (number_one at)
meaning_at (meaning.Enumerated at) = last (number_one at)
meaning_at (meaning.PortType at) = last (number_one at)
meaning_at (meaning.Component at) = last (number_one at)
meaning_at (meaning.Enumerator at) = last (number_one at)
meaning_at (meaning.ModuleConstant at item) = more (number_one at) (last (number_one item))
meaning_at (meaning.Template at) = last (number_one at)
meaning_at (meaning.Function at) = last (number_one at)
meaning_at (meaning.Altstep at) = last (number_one at)
meaning_at (meaning.Testcase at) = last (number_one at)
meaning_at (meaning.Variable of) = last (option_one _ type_one of)
meaning_at (meaning.Constant of) = last (option_one _ type_one of)
meaning_at (meaning.Port at) = last (option_one _ number_one at)
meaning_at meaning.Timer = none

pub meaning_one : (a : Meaning) → IsOne Meaning (meanings.ghosts).eq a
meaning_one a = variant_one meaning_enum (tests_of meaning_enum (meanings.ghosts).eq) a (meaning_at a)

-- ---- declared names

-- `==` of declared names: of the names, and of what they mean
abbrev pub same_entry : Entry → Entry → Bool
same_entry a b = pointwise nat_eq a.0 b.0 && (meanings.ghosts).eq a.1 b.1

pub entry_one : (a b : Entry) → same_entry a b ≡ true → a ≡ b
entry_one a b h = let p = and_parts _ _ h in λ i. (name_one a.0 b.0 p.0 i, meaning_one a.1 b.1 p.1 i)

same_number : (n : ℕ) → nat_eq n n ≡ true
same_number n = eq-eqb n n refl

type_itself : (a : DataType) → (derived.ghosts).eq a a ≡ true
type_itself type.Integer = refl
type_itself type.Boolean = refl
type_itself type.Default = refl
type_itself (type.Record at) = same_number at
type_itself (type.Enumerated at) = same_number at
type_itself (type.Component at) = same_number at

option_itself : {A : Type 0} (eq : A → A → Bool) → ((a : A) → eq a a ≡ true) → (a : Option A) → option_eq eq a a ≡ true
option_itself eq itself None = refl
option_itself eq itself (Some a) = itself a

meaning_itself : (a : Meaning) → (meanings.ghosts).eq a a ≡ true
meaning_itself (meaning.Record at) = same_number at
meaning_itself (meaning.Enumerated at) = same_number at
meaning_itself (meaning.PortType at) = same_number at
meaning_itself (meaning.Component at) = same_number at
meaning_itself (meaning.Enumerator at) = same_number at
meaning_itself (meaning.ModuleConstant at item) = ap (λ b. b && nat_eq item item) (same_number at) ∙ same_number item
meaning_itself (meaning.Template at) = same_number at
meaning_itself (meaning.Function at) = same_number at
meaning_itself (meaning.Altstep at) = same_number at
meaning_itself (meaning.Testcase at) = same_number at
meaning_itself (meaning.Variable of) = option_itself _ type_itself of
meaning_itself (meaning.Constant of) = option_itself _ type_itself of
meaning_itself (meaning.Port at) = option_itself _ same_number at
meaning_itself meaning.Timer = refl

name_itself : (name : List ℕ) → pointwise nat_eq name name ≡ true
name_itself = nat_list_eq_equiv.refl

entry_itself : (a : Entry) → same_entry a a ≡ true
entry_itself a = ap (λ b. b && (meanings.ghosts).eq a.1 a.1) (name_itself a.0) ∙ meaning_itself a.1

pub same_entry_equiv : IsEquivalence same_entry
same_entry_equiv = decided same_entry (λ a b. (entry_one a b, λ is. subst (λ x. same_entry a x ≡ true) is (entry_itself a)))

pub same_entry_laws : IsPartialEquivalence same_entry
same_entry_laws = partial_equiv_from_equiv same_entry_equiv

pub entry_fed : (a b : Entry) → same_entry a b ≡ true → ◌≡◌ {A = List (List ℕ)} (a.0 ∷ []) (b.0 ∷ [])
entry_fed a b h = ap (λ e. e.0 ∷ []) (entry_one a b h)

-- ---- references

-- `==` of references: of the names, and of the fields behind them
abbrev pub same_reference : Reference → Reference → Bool
same_reference a b = pointwise nat_eq a.name b.name && pointwise (pointwise nat_eq) a.fields b.fields

pub reference_is : (a b : Reference) → same_reference a b ≡ true → a ≡ b
reference_is a b h = let p = and_parts _ _ h in λ i. record { name = name_one a.name b.name p.0 i; fields = list_one _ name_one a.fields b.fields p.1 i }

names_itself : (names : List (List ℕ)) → pointwise (pointwise nat_eq) names names ≡ true
names_itself [] = refl
names_itself (name ∷ names) = ap (λ b. b && pointwise (pointwise nat_eq) names names) (name_itself name) ∙ names_itself names

reference_itself : (a : Reference) → same_reference a a ≡ true
reference_itself a = ap (λ b. b && pointwise (pointwise nat_eq) a.fields a.fields) (name_itself a.name) ∙ names_itself a.fields

pub same_reference_equiv : IsEquivalence same_reference
same_reference_equiv = decided same_reference (λ a b. (reference_is a b, λ is. subst (λ x. same_reference a x ≡ true) is (reference_itself a)))

pub same_reference_laws : IsPartialEquivalence same_reference
same_reference_laws = partial_equiv_from_equiv same_reference_equiv
