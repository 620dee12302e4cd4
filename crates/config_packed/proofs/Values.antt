-- Values as bytes.
use Rattle.std.proofs.Common.{◌≡◌, ℕ, ℤ, Bool, List, [], ◌∷◌, ◌++◌, length, take, map, ◌≤◌, append_assoc, Option, Some, None, refl, ap, sym, ◌∙◌}
use Rattle.std.proofs.lemmas.List.{length-map, take_all}
use Rattle.std.specs.Bool.{if◌then◌else◌}
use Rattle.std.specs.List.{flat_map}
use Rattle.std.specs.Option.{option_map}
use Rattle.config_packed.specs.Spelling.{spell_field, spell_identity, spell_integer, spell_level, spell_list, spell_long, spell_number, spell_value}
use Rattle.value_types.specs.declared.value.ComponentId.{ComponentId}
use Rattle.value_types.specs.declared.value.Value.{Value, fold-Value}
use Rattle.value_types.specs.declared.value.Value.TheFolds.{fold-roll-Value}
use Rattle.value_types.specs.declared.value.Value.TheOpen.{Value-F}
use Rattle.value_types.specs.declared.value.Value.TheShapes.{former-Value-Record-1-at-1}
use Rattle.value_types.specs.declared.value.Value.TheVariants as value

abbrev pub spell_of_field : Option Value → List ℕ
spell_of_field field = spell_field (option_map spell_value field)

-- what the variants are spelled as

pub spell-of-integer : (integer : ℤ) → spell_value (value.Integer integer) ≡ spell_integer integer
unfolding spell_value
spell-of-integer integer = ap spell_value (sym (value.rolls-Integer integer)) ∙ fold-roll-Value (List ℕ) spell_level (Value-F.Integer integer)

pub spell-of-boolean : (truth : Bool) → spell_value (value.Boolean truth) ≡ (if truth then 2 else 1) ∷ []
unfolding spell_value
spell-of-boolean truth = ap spell_value (sym (value.rolls-Boolean truth)) ∙ fold-roll-Value (List ℕ) spell_level (Value-F.Boolean truth)

pub spell-of-enumerated : (at name : ℕ) → spell_value (value.Enumerated at name) ≡ 3 ∷ (spell_long at ++ spell_long name)
unfolding spell_value
spell-of-enumerated at name = ap spell_value (sym (value.rolls-Enumerated at name)) ∙ fold-roll-Value (List ℕ) spell_level (Value-F.Enumerated at name)

-- a field of a level whose values are spelled
abbrev spelled_field : Option Value → Option (List ℕ)
spelled_field = former-Value-Record-1-at-1.map Value (List ℕ) (fold-Value (List ℕ) spell_level)

field-of : (field : Option Value) → spell_field (spelled_field field) ≡ spell_of_field field
unfolding spell_value
field-of None = refl
field-of (Some value) = refl

fields_of : (fields : List (Option Value)) → flat_map spell_field (map spelled_field fields) ≡ flat_map spell_of_field fields
fields_of [] = refl
fields_of (field ∷ fields) = λ i. field-of field i ++ fields_of fields i

pub spell-of-record : (at : ℕ) (fields : List (Option Value)) → spell_value (value.Record at fields) ≡ 4 ∷ (spell_long at ++ (spell_long (length fields) ++ flat_map spell_of_field fields))
unfolding spell_value spell_list
spell-of-record at fields =
    ap spell_value (sym (value.rolls-Record at fields))
    ∙ fold-roll-Value (List ℕ) spell_level (Value-F.Record at fields)
    ∙ (λ i. 4 ∷ (spell_long at ++ (spell_long (length-map fields spelled_field i) ++ fields_of fields i)))

pub spell-of-component : (component : ComponentId) → spell_value (value.Component component) ≡ 5 ∷ spell_identity component
unfolding spell_value
spell-of-component component = ap spell_value (sym (value.rolls-Component component)) ∙ fold-roll-Value (List ℕ) spell_level (Value-F.Component component)

pub spell-of-default : (activation : ℕ) → spell_value (value.Default activation) ≡ 6 ∷ spell_number activation
unfolding spell_value
spell-of-default activation = ap spell_value (sym (value.rolls-Default activation)) ∙ fold-roll-Value (List ℕ) spell_level (Value-F.Default activation)

pub spell-of-null : spell_value value.Null ≡ 7 ∷ []
unfolding spell_value
spell-of-null = ap spell_value (sym value.rolls-Null) ∙ fold-roll-Value (List ℕ) spell_level Value-F.Null

pub spell-of-omit : spell_value value.Omit ≡ 8 ∷ []
unfolding spell_value
spell-of-omit = ap spell_value (sym value.rolls-Omit) ∙ fold-roll-Value (List ℕ) spell_level Value-F.Omit

-- a record is put: its byte, its type, how many fields it has, and then they
pub record-put : (thing : Value) (at count : ℕ) (fields items : List (Option Value)) (start tagged typed counted final : List ℕ) (i : ℕ)
    → thing ≡ value.Record at fields
    → tagged ≡ start ++ 4 ∷ []
    → typed ≡ tagged ++ spell_long at
    → count ≡ length fields
    → counted ≡ typed ++ spell_long count
    → items ≡ fields
    → length items ≤ i
    → final ≡ counted ++ flat_map spell_of_field (take i items)
    → final ≡ start ++ spell_value thing
record-put thing at count fields items start tagged typed counted final i is a b n d same h e =
    rw (is, e, take_all i items h, same, d, n, b, a, spell-of-record at fields) (simp append_assoc)
