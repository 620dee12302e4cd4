-- Which values are of which types, and which templates stand for values of which types (ES 201 873-1, 6 and 15).
use Rattle.std.specs.Prelude.{◌≡◌, ℕ, Bool, true, false, not, ◌&&◌, ◌||◌, List, [], ◌∷◌, Option, Some, None, is_some, length, nat_lt, IfSome}
use Rattle.std.specs.List.{All, list_all}
use Rattle.ttcn_syntax.specs.declared.tree.definition.Definition.{Definition}
use Rattle.ttcn_syntax.specs.declared.tree.definition.Field.{Field}
use Rattle.ttcn_syntax.specs.declared.tree.definition.Parameter.{Parameter}
use Rattle.check_rules.specs.Calls.{parameters_of, template_type}
use Rattle.check_rules.specs.Expressions.{check_meaning}
use Rattle.check_scope.specs.Names.{Scope, field_named, fields_at, kind_at, module_names, resolved}
use Rattle.check_rules.specs.Templates.{template_meant}
use Rattle.check_scope.specs.declared.names.Meaning.{Meaning}
use Rattle.check_scope.specs.declared.names.Meaning.TheVariants as meaning
use Rattle.check_scope.specs.Typings.{is_component, is_default, same_type, typed}
use Rattle.check_rules.specs.Values.{field_target}
use Rattle.check_scope.specs.Typings.{target_of}
use Rattle.check_scope.specs.declared.types.DataType.{DataType}
use Rattle.check_scope.specs.declared.types.DataType.TheVariants as type
use Rattle.check_scope.specs.declared.types.Target.{Target}
use Rattle.check_scope.specs.declared.types.Typing.{Typing}
use Rattle.check_scope.specs.declared.types.Typing.TheVariants as typing
use Rattle.value_types.specs.Outcomes.{IfYields, IsMet}
use Rattle.value_types.specs.Readings.{Reading, enumerators_of, named}
use Rattle.value_types.specs.Values.{is_complete}
use Rattle.value_types.specs.declared.template.Pattern.TheOpen.{Pattern-F, Template-F}
use Rattle.value_types.specs.declared.template.Template.{Template, fold-Template}
use Rattle.value_types.specs.declared.value.Value.{Value, fold-Value}
use Rattle.value_types.specs.declared.value.Value.TheOpen.{Value-F}
use Rattle.value_types.specs.declared.value.Value.TheVariants as value

-- ---- values

-- a type is the one that is wanted
abbrev pub wants : DataType → Option DataType → Bool
wants found None = false
wants found (Some wanted) = same_type wanted found

-- a type is wanted that has `null`
abbrev pub wants_null : Option DataType → Bool
wants_null None = false
wants_null (Some wanted) = is_component wanted || is_default wanted

-- whether something goes to a target in a module
abbrev pub Goes : Type 0
Goes = List Definition → Target → Bool

-- a field may have no value
abbrev pub goes_to_field : List Definition → Field → Option Goes → Bool
goes_to_field definitions field None = true
goes_to_field definitions field (Some goes) = goes definitions (field_target definitions field)

-- a record's values go to its fields in their order: there are as many, each of which may be missing
abbrev pub go_to_fields : List Definition → List Field → List (Option Goes) → Bool
go_to_fields definitions [] [] = true
go_to_fields definitions [] (v ∷ vs) = false
go_to_fields definitions (f ∷ fs) [] = false
go_to_fields definitions (f ∷ fs) (v ∷ vs) = goes_to_field definitions f v && go_to_fields definitions fs vs

-- whether one level of a value goes to a target, given whether the values of its fields go to targets
abbrev pub value_step : Value-F Goes → Goes
value_step (Value-F.Integer n) definitions target = wants type.Integer target.data_type
value_step (Value-F.Boolean b) definitions target = wants type.Boolean target.data_type
value_step (Value-F.Enumerated at n) definitions target =
    wants (type.Enumerated at) target.data_type && nat_lt n (length (enumerators_of (kind_at definitions at)))
value_step (Value-F.Record at fields) definitions target =
    wants (type.Record at) target.data_type && go_to_fields definitions (fields_at definitions at) fields
value_step (Value-F.Component c) definitions target = wants (type.Component c.component_type) target.data_type
value_step (Value-F.Default n) definitions target = wants type.Default target.data_type
value_step Value-F.Null definitions target = wants_null target.data_type
value_step Value-F.Omit definitions target = target.optional

-- a value is of the type that is wanted, or is `omit` where that may stand
abbrev pub value_goes : Value → Goes
value_goes = fold-Value Goes value_step

-- a value is of a type: an omitted field is of none
abbrev pub is_of : List Definition → DataType → Value → Bool
is_of definitions t v = value_goes v definitions (target_of (Some t))

-- each field of a record is the one of its name
abbrev pub FieldsDiffer : List Definition → Type 0
FieldsDiffer definitions = (at : ℕ) → All (λ field. field_named field.name (fields_at definitions at) ≡ Some field) (fields_at definitions at)

-- a parameter has its type
abbrev pub HasParameterType : List Definition → Parameter → Type 0
HasParameterType definitions parameter = is_some (resolved (module_names definitions) parameter.type_name) ≡ true

-- the parameters of each template have their types
abbrev pub ParametersKnown : List Definition → Type 0
ParametersKnown definitions = (at : ℕ) → is_some (template_type definitions (kind_at definitions at)) ≡ true → All (HasParameterType definitions) (parameters_of (kind_at definitions at))

-- ---- templates

-- the templates of a record's fields go to the fields in their order: there are as many
abbrev pub go_to_each : List Definition → List Field → List Goes → Bool
go_to_each definitions [] [] = true
go_to_each definitions [] (p ∷ ps) = false
go_to_each definitions (f ∷ fs) [] = false
go_to_each definitions (f ∷ fs) (p ∷ ps) = p definitions (field_target definitions f) && go_to_each definitions fs ps

-- whether one level of a pattern goes to a target, given whether its parts go to targets
abbrev pub pattern_step : Pattern-F Goes Goes → Goes
pattern_step (Pattern-F.Value v) definitions target = value_goes v definitions (target_of target.data_type) && is_complete v
pattern_step Pattern-F.Any definitions target = true
pattern_step Pattern-F.AnyOrOmit definitions target = target.optional
pattern_step Pattern-F.Omit definitions target = target.optional
pattern_step (Pattern-F.Complement parts) definitions target = list_all (λ part. part definitions target) parts
pattern_step (Pattern-F.List parts) definitions target = list_all (λ part. part definitions target) parts
pattern_step (Pattern-F.Range low high) definitions target = wants type.Integer target.data_type
pattern_step (Pattern-F.Record at parts) definitions target =
    wants (type.Record at) target.data_type && go_to_each definitions (fields_at definitions at) parts

-- whether a template goes to a target, given whether its pattern does: `ifpresent` only where `omit` may stand
abbrev pub template_step : Template-F Goes Goes → Goes
template_step t definitions target = t.pattern definitions target && (not t.ifpresent || target.optional)

-- a template stands for values of the type that is wanted, each of which lacks nothing, and for an omitted field only where that may stand
abbrev pub template_goes : Template → Goes
template_goes = fold-Template Goes Goes pattern_step template_step

-- ---- readings

-- what is known of a value by its typing
abbrev pub IsOfTyping : List Definition → Typing → Value → Type 0
IsOfTyping definitions (typing.Known t) v = is_of definitions t v ≡ true
IsOfTyping definitions typing.Null v = v ≡ value.Null
IsOfTyping definitions typing.AnyComponent v = (at : ℕ) × is_of definitions (type.Component at) v ≡ true
IsOfTyping definitions typing.NoValue v = Unit {0}
IsOfTyping definitions typing.Unknown v = Unit {0}

-- arguments are of the types of parameters: there are as many
abbrev pub AreGiven : List Definition → List Parameter → List Value → Type 0
AreGiven definitions [] [] = Unit {0}
AreGiven definitions [] (v ∷ vs) = ⊥
AreGiven definitions (p ∷ ps) [] = ⊥
AreGiven definitions (p ∷ ps) (v ∷ vs) = IsOfTyping definitions (typed (resolved (module_names definitions) p.type_name)) v × AreGiven definitions ps vs

-- a reading fits a scope: each name's value is of the type that the checker gives the name, and so is `self`, and what templates
-- give with arguments of their parameters' types; and the names of templates are those of the module
pub record FitsIn (scope : Scope) (reading : Reading) : Type 0 where
  pub definitions : reading.definitions ≡ scope.definitions
  pub names : (name : List ℕ) → IfYields (named reading name) (IsOfTyping scope.definitions (check_meaning scope.definitions (scope.names name)).typing)
  pub itself : IfSome scope.itself (λ at. reading.itself.component_type ≡ at)
  pub template_names : (name : List ℕ) → template_meant (module_names scope.definitions name) ≡ template_meant (scope.names name)
  pub templates : (at : ℕ) (values : List Value) → AreGiven scope.definitions (parameters_of (kind_at scope.definitions at)) values → IfYields (reading.templates at values) (λ t. IfSome (template_type scope.definitions (kind_at scope.definitions at)) (λ of. template_goes t scope.definitions (target_of (Some of)) ≡ true))

-- a name stands for a value
abbrev pub names_value : Option Meaning → Bool
names_value (Some (meaning.Variable of)) = true
names_value (Some (meaning.Constant of)) = true
names_value (Some (meaning.ModuleConstant at item)) = true
names_value (Some (meaning.Enumerator at)) = true
names_value _ = false

-- a name stands for a timer
abbrev pub names_timer : Option Meaning → Bool
names_timer (Some meaning.Timer) = true
names_timer _ = false

-- what is of a typing is a value: a port or a timer is none
abbrev pub is_valued : Typing → Bool
is_valued typing.NoValue = false
is_valued _ = true

-- a reading has all that a scope knows: each name of a value stands there, be it as one without value; the names of timers, and no
-- others, have a timer's state; and each template of the module stands there with arguments of its parameters' types
pub record HasAll (scope : Scope) (reading : Reading) : Type 0 where
  pub values : (name : List ℕ) → names_value (scope.names name) ≡ true → IsMet (named reading name)
  pub timers : (name : List ℕ) → is_some (reading.timers name) ≡ names_timer (scope.names name)
  pub templates : (at : ℕ) (values : List Value) → is_some (template_type scope.definitions (kind_at scope.definitions at)) ≡ true
      → AreGiven scope.definitions (parameters_of (kind_at scope.definitions at)) values → IsMet (reading.templates at values)
