-- What is given where statements use values.
use Rattle.std.specs.Prelude.{◌≡◌, ℕ, true, false, List}
use Rattle.ttcn_syntax.specs.declared.tree.definition.Definition.{Definition}
use Rattle.check_scope.specs.declared.types.DataType.{DataType}
use Rattle.check_scope.specs.declared.types.DataType.TheVariants as type
use Rattle.check_scope.specs.declared.types.Target.{Target}
use Rattle.check_scope.specs.declared.types.Typing.{Typing}
use Rattle.laws_evaluation.specs.Types.{IsOfTyping, is_of, value_goes}
use Rattle.value_types.specs.Outcomes.{DynamicError, Fails, Outcome, Unmet, Yields}
use Rattle.value_types.specs.Readings.{along}
use Rattle.value_types.specs.Values.{is_complete, is_omit}
use Rattle.value_types.specs.declared.value.Value.{Value}

-- an outcome is a value of which something holds, or a dynamic error
abbrev pub GivesOnly : {A : Type 0} → Outcome A → (A → Type 0) → Type 0
GivesOnly (Yields a) P = P a
GivesOnly (Fails DynamicError) P = Unit {0}
GivesOnly (Fails Unmet) P = ⊥

-- an outcome is a value of which something holds
abbrev pub GivesAlways : {A : Type 0} → Outcome A → (A → Type 0) → Type 0
GivesAlways (Yields a) P = P a
GivesAlways (Fails why) P = ⊥

-- a reference to a component of a type, or `null`, which is of the typing that is known
pub record IsReference (definitions : List Definition) (typing : Typing) (v : Value) : Type 0 where
  pub component_type : ℕ
  pub is_component : is_of definitions (type.Component component_type) v ≡ true
  pub is_typed : IsOfTyping definitions typing v

-- a value goes to a target, and lacks nothing
pub record IsSpecific (definitions : List Definition) (target : Target) (v : Value) : Type 0 where
  pub goes : value_goes v definitions target ≡ true
  pub is_whole : is_complete v ≡ true

-- a value of a type, in which a value that was assigned to fields of fields is read there, unless it is `omit`
pub record HoldsAssigned (definitions : List Definition) (t : DataType) (fields : List (List ℕ)) (new v : Value) : Type 0 where
  pub is_typed : is_of definitions t v ≡ true
  pub is_read : is_omit new ≡ false → along definitions fields (Yields v) ≡ Yields new
