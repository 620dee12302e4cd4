-- The type of a target that breaks no rule is known.
use Rattle.std.proofs.Common.{◌≡◌, ℕ, Bool, true, false, List, [], ◌∷◌, Option, Some, None, IfSome, bytes_eq, is_some, if◌then◌else◌, refl, sym, ap, subst}
use Rattle.std.specs.List.{All, find}
use Rattle.std.proofs.lemmas.List.Elements.{All-head, All-tail}
use Rattle.ttcn_syntax.specs.declared.tree.definition.Field.{Field}
use Rattle.ttcn_syntax.specs.declared.tree.expression.Reference.{Reference}
use Rattle.ttcn_syntax.specs.declared.tree.statement.Assignment.{Assignment}
use Rattle.check_rules.specs.Expressions.{along, check_field, within}
use Rattle.check_rules.specs.Targets.{as_target, check_assignment, check_rhs, check_target, target_at}
use Rattle.check_scope.specs.Names.{Scope, fields_at, module_names, resolved}
use Rattle.check_scope.specs.Typings.{type_known, typed}
use Rattle.check_scope.specs.declared.names.Meaning.{Meaning}
use Rattle.check_scope.specs.declared.names.Meaning.TheVariants as meaning
use Rattle.check_scope.specs.declared.types.DataType.{DataType}
use Rattle.check_scope.specs.declared.types.DataType.TheVariants as type
use Rattle.check_scope.specs.declared.types.Typing.{Typing}
use Rattle.check_scope.specs.declared.types.Typing.TheVariants as typing
use Rattle.laws_checker.proofs.Nothing.{nothing-first, nothing-rest}
use Rattle.laws_checker.specs.Laws.{HasFieldType, IsKnown, IsWhole}
use Rattle.laws_statements.specs.Targets.{HasTarget, IsVariable}

-- a type is known
abbrev IsType : Typing → Type 0
IsType t = (of : DataType) × (t ≡ typing.Known of)

typed-is : (of : Option DataType) → is_some of ≡ true → IsType (typed of)
typed-is (Some t) known = (t, refl)
typed-is None known = absurd (let e = known in cc)

module _ (scope : Scope) (whole : IsWhole scope) where
  target-typed : (m : Option Meaning) → IfSome m (IsKnown scope.definitions) → (as_target scope.definitions m).broken ≡ [] → IsType (as_target scope.definitions m).typing
  target-typed (Some (meaning.Variable of)) known nothing = typed-is of known
  target-typed (Some (meaning.Constant of)) known nothing = absurd (let e = nothing in cc)
  target-typed (Some (meaning.ModuleConstant at item)) known nothing = absurd (let e = nothing in cc)
  target-typed (Some (meaning.Enumerator at)) known nothing = absurd (let e = nothing in cc)
  target-typed (Some (meaning.Port at)) known nothing = absurd (let e = nothing in cc)
  target-typed (Some meaning.Timer) known nothing = absurd (let e = nothing in cc)
  target-typed (Some (meaning.Record at)) known nothing = absurd (let e = nothing in cc)
  target-typed (Some (meaning.Enumerated at)) known nothing = absurd (let e = nothing in cc)
  target-typed (Some (meaning.PortType at)) known nothing = absurd (let e = nothing in cc)
  target-typed (Some (meaning.Component at)) known nothing = absurd (let e = nothing in cc)
  target-typed (Some (meaning.Template at)) known nothing = absurd (let e = nothing in cc)
  target-typed (Some (meaning.Function at)) known nothing = absurd (let e = nothing in cc)
  target-typed (Some (meaning.Altstep at)) known nothing = absurd (let e = nothing in cc)
  target-typed (Some (meaning.Testcase at)) known nothing = absurd (let e = nothing in cc)
  target-typed None known nothing = absurd (let e = nothing in cc)

  first-typed : (b : Bool) (field : Field) (others : Option Field) → HasFieldType scope.definitions field
      → ((check_field scope.definitions others).broken ≡ [] → IsType (check_field scope.definitions others).typing)
      → (check_field scope.definitions (if b then Some field else others)).broken ≡ [] → IsType (check_field scope.definitions (if b then Some field else others)).typing
  first-typed true field others known rest nothing = typed-is (resolved (module_names scope.definitions) field.type_name) known
  first-typed false field others known rest nothing = rest nothing

  found-typed : (test : Field → Bool) (fields : List Field) → All (HasFieldType scope.definitions) fields
      → (check_field scope.definitions (find test fields)).broken ≡ [] → IsType (check_field scope.definitions (find test fields)).typing
  found-typed test [] each nothing = absurd (let e = nothing in cc)
  found-typed test (field ∷ fields) each nothing =
      first-typed (test field) field (find test fields) (All-head (HasFieldType scope.definitions) field fields each)
      (found-typed test fields (All-tail (HasFieldType scope.definitions) field fields each)) nothing

  within-typed : (t : DataType) (name : List ℕ) → (within scope.definitions (typing.Known t) name).broken ≡ [] → IsType (within scope.definitions (typing.Known t) name).typing
  within-typed (type.Record at) name nothing = found-typed (λ field. bytes_eq field.name name) (fields_at scope.definitions at) (whole.fields at) nothing
  within-typed type.Integer name nothing = absurd (let e = nothing in cc)
  within-typed type.Boolean name nothing = absurd (let e = nothing in cc)
  within-typed type.Default name nothing = absurd (let e = nothing in cc)
  within-typed (type.Enumerated at) name nothing = absurd (let e = nothing in cc)
  within-typed (type.Component at) name nothing = absurd (let e = nothing in cc)

  along-typed : (names : List (List ℕ)) (t : Typing) → IsType t → (along scope.definitions t names).broken ≡ [] → IsType (along scope.definitions t names).typing
  along-typed [] t is nothing = is
  along-typed (name ∷ names) t (of, is) nothing =
      let first = nothing-first (within scope.definitions t name).broken (along scope.definitions (within scope.definitions t name).typing names).broken nothing in
      along-typed names (within scope.definitions t name).typing
      (subst (λ u. IsType (within scope.definitions u name).typing) (sym is)
      (within-typed of name (subst (λ u. (within scope.definitions u name).broken ≡ []) is first)))
      (nothing-rest (within scope.definitions t name).broken (along scope.definitions (within scope.definitions t name).typing names).broken nothing)

  pub reference-typed : (reference : Reference) → (check_target scope reference).broken ≡ [] → IsType (check_target scope reference).typing
  reference-typed reference nothing =
      let found = as_target scope.definitions (scope.names reference.name) in
      let rest = along scope.definitions found.typing reference.fields in
      along-typed reference.fields found.typing
      (target-typed (scope.names reference.name) (whole.names reference.name) (nothing-first found.broken rest.broken nothing))
      (nothing-rest found.broken rest.broken nothing)

  -- ---- variables

  target-variable : (m : Option Meaning) → IfSome m (IsKnown scope.definitions) → (as_target scope.definitions m).broken ≡ [] → (of : DataType) × (m ≡ Some (meaning.Variable (Some of)))
  target-variable (Some (meaning.Variable (Some of))) known nothing = (of, refl)
  target-variable (Some (meaning.Variable None)) known nothing = absurd (let e = known in cc)
  target-variable _ known nothing = absurd (let e = nothing in cc)

  pub reference-variable : (reference : Reference) (t : DataType) → (check_target scope reference).typing ≡ typing.Known t → (check_target scope reference).broken ≡ [] → IsVariable scope reference t
  reference-variable reference t is nothing =
      let found = as_target scope.definitions (scope.names reference.name) in
      let rest = along scope.definitions found.typing reference.fields in
      let variable = target-variable (scope.names reference.name) (whole.names reference.name) (nothing-first found.broken rest.broken nothing) in
      record {
        of = variable.0;
        variable = variable.1;
        fields = subst (λ m. (along scope.definitions (as_target scope.definitions m).typing reference.fields).broken ≡ []) variable.1 (nothing-rest found.broken rest.broken nothing);
        is = subst (λ m. (along scope.definitions (as_target scope.definitions m).typing reference.fields).typing ≡ typing.Known t) variable.1 is;
      }

pub assignment_typed : (scope : Scope) → IsWhole scope → (assignment : Assignment) → check_assignment scope assignment ≡ [] → HasTarget scope assignment
assignment_typed scope whole assignment nothing =
    let target = check_target scope assignment.target in
    let right = check_rhs scope (target_at scope assignment.target) assignment.value in
    let is = reference-typed scope whole assignment.target (nothing-first target.broken right nothing) in
    record { data_type = is.0; known = ap type_known is.1; value = nothing-rest target.broken right nothing }
