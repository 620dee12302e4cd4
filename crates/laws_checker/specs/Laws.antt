-- What holds in modules that break no rule, in words that the layers above cite.
use Rattle.std.specs.Prelude.{◌≡◌, ◌≢◌, ℕ, Bool, true, false, List, [], ◌∷◌, ◌++◌, bytes_eq, Option, Some, is_some, IfSome}
use Rattle.std.specs.List.{All, list_any}
use Rattle.ttcn_syntax.specs.declared.tree.definition.Definition.{Definition}
use Rattle.ttcn_syntax.specs.declared.tree.definition.Field.{Field}
use Rattle.ttcn_syntax.specs.declared.tree.definition.DefinitionKind.{DefinitionKind}
use Rattle.ttcn_syntax.specs.declared.tree.definition.Parameter.{Parameter}
use Rattle.ttcn_syntax.specs.declared.tree.value.Call.{Call}
use Rattle.ttcn_syntax.specs.declared.tree.value.Value.{Value}
use Rattle.check_rules.specs.Calls.{behaviour_meant, component_named, parameters_of, result_type_of, runs_here, runs_on_of, template_type}
use Rattle.check_rules.specs.Expressions.{Judgement}
use Rattle.check_scope.specs.Names.{Scope, constants_type, field_named, fields_at, kind_at, module_names, resolved}
use Rattle.check_rules.specs.Values.{AtTarget, field_target, value}
use Rattle.check_scope.specs.Typings.{target_of}
use Rattle.check_scope.specs.declared.names.Meaning.{Meaning}
use Rattle.check_scope.specs.declared.names.Meaning.TheVariants as meaning
use Rattle.check_scope.specs.declared.types.Typing.TheVariants as typing

-- ---- names

-- what a name stands for is known: a variable, a constant, a port, a template and the result of a function have their types
abbrev pub IsKnown : List Definition → Meaning → Type 0
IsKnown definitions (meaning.Variable of) = is_some of ≡ true
IsKnown definitions (meaning.Constant of) = is_some of ≡ true
IsKnown definitions (meaning.ModuleConstant at item) = is_some (constants_type (module_names definitions) (kind_at definitions at)) ≡ true
IsKnown definitions (meaning.Port of) = is_some of ≡ true
IsKnown definitions (meaning.Template at) = is_some (template_type definitions (kind_at definitions at)) ≡ true
IsKnown definitions (meaning.Function at) = IfSome (result_type_of (kind_at definitions at)) (λ of. is_some (resolved (module_names definitions) of) ≡ true)
IsKnown definitions _ = Unit {0}

-- a field has its type
abbrev pub HasFieldType : List Definition → Field → Type 0
HasFieldType definitions field = is_some (resolved (module_names definitions) field.type_name) ≡ true

-- a scope is whole: what its names stand for is known, and so are the fields of records
pub record IsWhole (scope : Scope) : Type 0 where
  pub names : (name : List ℕ) → IfSome (scope.names name) (IsKnown scope.definitions)
  pub fields : (at : ℕ) → All (HasFieldType scope.definitions) (fields_at scope.definitions at)

-- ---- types

-- a judgement with no broken rule has a typing that is not unknown
abbrev pub IsTyped : Judgement → Type 0
IsTyped judged = judged.broken ≡ [] → judged.typing ≢ typing.Unknown

-- ---- arguments and elements

-- arguments go to parameters: there are as many, and each is of its parameter's type
abbrev pub AreArguments : Scope → List Parameter → List Value → Type 0
AreArguments scope [] [] = Unit {0}
AreArguments scope [] (v ∷ vs) = ⊥
AreArguments scope (p ∷ ps) [] = ⊥
AreArguments scope (p ∷ ps) (v ∷ vs) = (value v scope (target_of (resolved (module_names scope.definitions) p.type_name)) ≡ []) × AreArguments scope ps vs

-- elements are those of fields, in their order: there are as many, and each goes to its field
abbrev pub AreElements : Scope → List Field → List AtTarget → Type 0
AreElements scope [] [] = Unit {0}
AreElements scope [] (e ∷ es) = ⊥
AreElements scope (f ∷ fs) [] = ⊥
AreElements scope (f ∷ fs) (e ∷ es) = (e scope (field_target scope.definitions f) ≡ []) × AreElements scope fs es

-- an element goes to the field of its name, which is none of those before it
pub record GoesToField (scope : Scope) (fields : List Field) (before : List (List ℕ)) (element : List ℕ × AtTarget) : Type 0 where
  pub field : Field
  pub has_name : field_named element.0 fields ≡ Some field
  pub is_new : list_any (bytes_eq element.0) before ≡ false
  pub fits : element.1 scope (field_target scope.definitions field) ≡ []

-- named elements go to fields, behind others with these names
abbrev pub AreNamedElements : Scope → List Field → List (List ℕ) → List (List ℕ × AtTarget) → Type 0
AreNamedElements scope fields before [] = Unit {0}
AreNamedElements scope fields before (e ∷ es) = GoesToField scope fields before e × AreNamedElements scope fields (before ++ e.0 ∷ []) es

-- a call resolves: its name stands for a behaviour that may be called here, on this component type, with these arguments
pub record Resolves (scope : Scope) (callable : Option DefinitionKind → Bool) (call : Call) : Type 0 where
  pub at : ℕ
  pub meant : behaviour_meant (scope.names call.name) ≡ Some at
  pub arguments : AreArguments scope (parameters_of (kind_at scope.definitions at)) call.arguments
  pub runs : runs_here (component_named scope.definitions (runs_on_of (kind_at scope.definitions at))) scope.itself ≡ true
  pub kind : callable (kind_at scope.definitions at) ≡ true
