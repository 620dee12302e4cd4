-- The fields of records by their names, field by field.
use mathlib.Core.Path.{fun_ext}
use Rattle.std.proofs.Common.{◌≡◌, ◌≤◌, ℕ, ◌+◌, ◌<◌, Bool, true, false, List, length, get_or, drop, Option, Some, None, is_some, bytes_eq, if◌then◌else◌, refl, sym, ap, ◌∙◌, true≢false}
use Rattle.std.proofs.lemmas.List.{drop_all}
use Rattle.std.proofs.lemmas.Slice.Eq.{bytes_eq-Decides}
use Rattle.std.specs.Option.{option_map, option_or}
use Rattle.ttcn_syntax.specs.declared.tree.definition.Definition.{Definition}
use Rattle.ttcn_syntax.specs.declared.tree.definition.Field.{Field}
use Rattle.check_scope.specs.Names.{field_named, fields_of}
use Rattle.check_scope.specs.internal.Tables.{field_by}
use Rattle.check_scope.specs.declared.field_table.FieldTable.{FieldTable}
use Rattle.check_scope.proofs.Alongside.{Alongside}
use Rattle.check_scope.proofs.Lookups.{drop-next, or-None, or-assoc, put}

-- for each name a field, if there is one
abbrev pub Fields : Type 0
Fields = List ℕ → Option Field

-- a field under its own name
abbrev pub alone : Field → Fields
alone field name = if bytes_eq field.name name then Some field else None

-- the fields that are left, behind those so far
abbrev pub fields_after : Fields → List Field → Fields
fields_after found fields name = option_or (found name) (field_named name fields)

-- one field more
pub fields-next : (found next : Fields) (fields : List Field) (i : ℕ) (field : Field) → i < length fields → field ≡ get_or fields i field
    → next ≡ (λ name. option_or (found name) (alone field name)) → fields_after found (drop i fields) ≡ fields_after next (drop (i + 1) fields)
fields-next found next fields i field inside is next_is =
    ap (fields_after found) (drop-next fields i field inside is)
    ∙ fun_ext (λ name.
    ap (option_or (found name)) (put (bytes_eq field.name name) field (field_named name (drop (i + 1) fields)))
    ∙ sym (or-assoc (found name) (alone field name) (field_named name (drop (i + 1) fields))))
    ∙ ap (λ (f : Fields). fields_after f (drop (i + 1) fields)) (sym next_is)

-- none is left
pub fields-end : (found : Fields) (fields : List Field) (i : ℕ) → length fields ≤ i → fields_after found (drop i fields) ≡ found
fields-end found fields i past = ap (fields_after found) (drop_all i fields past) ∙ fun_ext (λ name. or-None (found name))

-- ---- one field

same-name : (a b : List ℕ) → bytes_eq a b ≡ true → a ≡ b
same-name a b = (bytes_eq-Decides a b).0

or-none : {A : Type 0} (o : Option A) (x : A) → is_some o ≡ false → Some x ≡ option_or o (Some x)
or-none None x is = refl
or-none (Some y) x is = absurd (true≢false is)

new-at : (found : Fields) (field : Field) (name : List ℕ) → is_some (found field.name) ≡ false → (b : Bool) → bytes_eq field.name name ≡ b
    → (if b then Some field else found name) ≡ option_or (found name) (if b then Some field else None)
new-at found field name none true same = or-none (found name) field (ap (λ n. is_some (found n)) (sym (same-name field.name name same)) ∙ none)
new-at found field name none false other = sym (or-None (found name))

-- none of its name is there
pub field-is-new : (found next : Fields) (field : Field) → ((name : List ℕ) → next name ≡ (if bytes_eq field.name name then Some field else found name))
    → is_some (found field.name) ≡ false → next ≡ (λ name. option_or (found name) (alone field name))
field-is-new found next field put_is none = fun_ext (λ name. put_is name ∙ new-at found field name none (bytes_eq field.name name) refl)

pub map-if : {A B : Type 0} (f : A → B) (b : Bool) (x : A) (o : Option A) → option_map f (if b then Some x else o) ≡ (if b then Some (f x) else option_map f o)
map-if f true x o = refl
map-if f false x o = refl

pub some-map : {A B : Type 0} (f : A → B) (o : Option A) → is_some (option_map f o) ≡ is_some o
some-map f None = refl
some-map f (Some x) = refl

-- ---- the tables of all definitions

-- the fields of a definition by their names
abbrev pub fields_named : Option Definition → Fields
fields_named definition name = field_named name (fields_of (option_map (λ d. d.kind) definition))

-- each table has the fields of its definition
abbrev pub HaveFields : List FieldTable → List Definition → Type 0
HaveFields tables definitions = Alongside field_by fields_named tables definitions
