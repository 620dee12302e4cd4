-- When what remains to be done is the same: tests on items, which find each item in itself alone.
use Rattle.std.proofs.Common.{◌≡◌, ℕ, Bool, true, false, true≢false, ◌&&◌, List, [], ◌∷◌, Option, Some, None, nat_eq, refl, sym, ap}
use Rattle.std.proofs.Math.Bool.{beq}
use Rattle.std.proofs.lemmas.Bool.{and_parts, eq-eqb}
use Rattle.std.specs.Cmp.{booleans_Decides}
use Rattle.std.specs.Cmp.Lexicographic.{pointwise}
use Rattle.std.specs.Option.{option_eq}
use Rattle.ttcn_syntax.specs.contracts.tree.statement.StatementEq.TheImpl.Laws as statement_laws
use Rattle.ttcn_syntax.specs.contracts.tree.statement.StatementPartialEq.TheImpl as statements
use Rattle.check_scope.specs.contracts.types.DataTypeEq.TheImpl.Laws as type_laws
use Rattle.check_scope.specs.contracts.types.DataTypePartialEq.TheImpl as derived
use Rattle.syntax_equality.specs.Equality.{boolean_one, list_one, number_one, option_one}
use Rattle.syntax_equality.specs.Statements.{statement_one}
use Rattle.graph_items.specs.Equality.{entry_one, reference_is, same_entry, same_entry_equiv, same_reference, same_reference_equiv, type_one}
use Rattle.semantics.specs.Items.{Doing, From, Item, Last, Loop, Mark, Name, Part, Start, Target, Waiting, Whole}
use Rattle.semantics.specs.Sites.{Site}

-- parts of statements are the same
abbrev pub same_part : Part → Part → Bool
same_part Whole Whole = true
same_part (Name k) (Name n) = nat_eq k n
same_part (From k) (From n) = nat_eq k n
same_part Start Start = true
same_part Loop Loop = true
same_part Last Last = true
same_part _ _ = false

-- sites are the same: one behaviour, behind the same declarations
abbrev pub same_site : Site → Site → Bool
same_site a b = nat_eq a.behaviour b.behaviour && pointwise same_entry a.declared b.declared

-- targets that wait for a result are the same
abbrev pub same_target : Target → Target → Bool
same_target a b = beq a.own b.own && (same_reference a.reference b.reference && option_eq (derived.ghosts).eq a.data_type b.data_type)

-- items are the same
abbrev pub same_item : Item → Item → Bool
same_item (Doing site s part) (Doing other t part') = same_site site other && ((statements.ghosts).eq s t && same_part part part')
same_item (Mark site s) (Mark other t) = same_site site other && (statements.ghosts).eq s t
same_item (Waiting target) (Waiting other) = same_target target other
same_item _ _ = false

-- lists of items are the same
abbrev pub same_items : List Item → List Item → Bool
same_items = pointwise same_item

-- ---- numbers, lists and options equal themselves

pub number_itself : (n : ℕ) → nat_eq n n ≡ true
number_itself n = eq-eqb n n refl

boolean_itself : (b : Bool) → beq b b ≡ true
boolean_itself b = (booleans_Decides b b).1 refl

module _ {A : Type 0} (eq : A → A → Bool) (itself : (a : A) → eq a a ≡ true) where
  pub list_itself : (xs : List A) → pointwise eq xs xs ≡ true
  list_itself [] = refl
  list_itself (x ∷ xs) = λ i. itself x i && list_itself xs i

  pub option_itself : (x : Option A) → option_eq eq x x ≡ true
  option_itself None = refl
  option_itself (Some a) = itself a

-- ---- items

part_one : (a b : Part) → same_part a b ≡ true → a ≡ b
part_one Whole Whole h = refl
part_one (Name k) (Name n) h = ap Name (number_one k n h)
part_one (From k) (From n) h = ap From (number_one k n h)
part_one Start Start h = refl
part_one Loop Loop h = refl
part_one Last Last h = refl
part_one _ _ h = absurd (true≢false (sym h))

part_itself : (a : Part) → same_part a a ≡ true
part_itself Whole = refl
part_itself (Name k) = number_itself k
part_itself (From k) = number_itself k
part_itself Start = refl
part_itself Loop = refl
part_itself Last = refl

site_one : (a b : Site) → same_site a b ≡ true → a ≡ b
site_one a b h = let p = and_parts _ _ h in λ i. record { behaviour = number_one a.behaviour b.behaviour p.0 i; declared = list_one _ entry_one a.declared b.declared p.1 i }

site_itself : (a : Site) → same_site a a ≡ true
site_itself a = λ i. number_itself a.behaviour i && list_itself same_entry same_entry_equiv.refl a.declared i

target_one : (a b : Target) → same_target a b ≡ true → a ≡ b
target_one a b h =
    let p = and_parts _ _ h in
    let q = and_parts _ _ p.1 in
    λ i. record { own = boolean_one a.own b.own p.0 i; reference = reference_is a.reference b.reference q.0 i; data_type = option_one _ type_one a.data_type b.data_type q.1 i }

target_itself : (a : Target) → same_target a a ≡ true
target_itself a = λ i. boolean_itself a.own i && (same_reference_equiv.refl a.reference i && option_itself (derived.ghosts).eq type_laws.laws-law.refl a.data_type i)

pub item_one : (a b : Item) → same_item a b ≡ true → a ≡ b
item_one (Doing site s part) (Doing other t part') h =
    let p = and_parts _ _ h in
    let q = and_parts _ _ p.1 in
    λ i. Doing (site_one site other p.0 i) (statement_one s t q.0 i) (part_one part part' q.1 i)
item_one (Mark site s) (Mark other t) h = let p = and_parts _ _ h in λ i. Mark (site_one site other p.0 i) (statement_one s t p.1 i)
item_one (Waiting target) (Waiting other) h = ap Waiting (target_one target other h)
item_one _ _ h = absurd (true≢false (sym h))

pub item_itself : (a : Item) → same_item a a ≡ true
item_itself (Doing site s part) = λ i. site_itself site i && (statement_laws.laws-law.refl s i && part_itself part i)
item_itself (Mark site s) = λ i. site_itself site i && statement_laws.laws-law.refl s i
item_itself (Waiting target) = target_itself target

pub items_one : (a b : List Item) → same_items a b ≡ true → a ≡ b
items_one = list_one same_item item_one

pub items_itself : (a : List Item) → same_items a a ≡ true
items_itself = list_itself same_item item_itself
