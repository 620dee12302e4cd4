-- What values of each form refer to.
use Rattle.std.proofs.Common.{◌≡◌, ℕ, ℤ, Bool, List, [], ◌∷◌, ◌++◌, map, Option, Some, None, refl, sym, ap, ◌∙◌}
use Rattle.std.specs.List.{flat_map}
use Rattle.laws_references.specs.References.{references, references_in_field, references_step}
use Rattle.semantics.specs.Runs.{option_elim}
use Rattle.value_types.specs.declared.value.ComponentId.{ComponentId}
use Rattle.value_types.specs.declared.value.Value.{Value, roll-Value}
use Rattle.value_types.specs.declared.value.Value.TheFolds.{fold-roll-Value, map-Value}
use Rattle.value_types.specs.declared.value.Value.TheOpen.{Value-F}
use Rattle.value_types.specs.declared.value.Value.TheShapes.{former-Value-Record-1-at-1}
use Rattle.value_types.specs.declared.value.Value.TheVariants as value

rolled : (x : Value-F Value) (v : Value) → roll-Value x ≡ v → references v ≡ references_step (map-Value Value (List ComponentId) references x)
rolled x v e = ap references (sym e) ∙ fold-roll-Value (List ComponentId) references_step x

pub of_component : (c : ComponentId) → references (value.Component c) ≡ c ∷ []
of_component c = rolled (Value-F.Component c) (value.Component c) (value.rolls-Component c)

field-is : (field : Option Value) → references_in_field (former-Value-Record-1-at-1.map Value (List ComponentId) references field) ≡ option_elim [] references field
field-is None = refl
field-is (Some v) = refl

fields-are : (fields : List (Option Value)) → flat_map references_in_field (map (former-Value-Record-1-at-1.map Value (List ComponentId) references) fields) ≡ flat_map (option_elim [] references) fields
fields-are [] = refl
fields-are (field ∷ fields) =
    ap (λ first. first ++ flat_map references_in_field (map (former-Value-Record-1-at-1.map Value (List ComponentId) references) fields)) (field-is field)
    ∙ ap (λ others. option_elim [] references field ++ others) (fields-are fields)

pub of-record : (at : ℕ) (fields : List (Option Value)) → references (value.Record at fields) ≡ flat_map (option_elim [] references) fields
of-record at fields = rolled (Value-F.Record at fields) (value.Record at fields) (value.rolls-Record at fields) ∙ fields-are fields

pub of-null : references value.Null ≡ []
of-null = rolled Value-F.Null value.Null value.rolls-Null

pub of-omit : references value.Omit ≡ []
of-omit = rolled Value-F.Omit value.Omit value.rolls-Omit

pub of-integer : (z : ℤ) → references (value.Integer z) ≡ []
of-integer z = rolled (Value-F.Integer z) (value.Integer z) (value.rolls-Integer z)

pub of-boolean : (b : Bool) → references (value.Boolean b) ≡ []
of-boolean b = rolled (Value-F.Boolean b) (value.Boolean b) (value.rolls-Boolean b)

pub of-enumerated : (at n : ℕ) → references (value.Enumerated at n) ≡ []
of-enumerated at n = rolled (Value-F.Enumerated at n) (value.Enumerated at n) (value.rolls-Enumerated at n)

pub of-default : (n : ℕ) → references (value.Default n) ≡ []
of-default n = rolled (Value-F.Default n) (value.Default n) (value.rolls-Default n)
