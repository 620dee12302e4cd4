-- What an expression reads, and what a name stands for as a value (ES 201 873-1, 5.4, 6.2 and 7).
use Rattle.std.specs.Prelude.{ℕ, Bool, true, false, List, [], ◌∷◌, Option, Some, None, bytes_eq, if◌then◌else◌}
use Rattle.std.specs.List.{position, slice_get}
use Rattle.std.specs.Option.{option_and_then}
use Rattle.ttcn_syntax.specs.declared.tree.definition.Definition.{Definition}
use Rattle.ttcn_syntax.specs.declared.tree.definition.DefinitionKind.{DefinitionKind}
use Rattle.ttcn_syntax.specs.declared.tree.definition.DefinitionKind.TheVariants as kind
use Rattle.ttcn_syntax.specs.declared.tree.definition.Enumerator.{Enumerator}
use Rattle.ttcn_syntax.specs.declared.tree.expression.ComponentRef.{ComponentRef}
use Rattle.ttcn_syntax.specs.declared.tree.expression.ComponentRef.TheVariants as component
use Rattle.ttcn_syntax.specs.declared.tree.expression.Reference.{Reference}
use Rattle.check_scope.specs.Names.{fields_at, kind_at, module_names}
use Rattle.check_scope.specs.declared.names.Meaning.{Meaning}
use Rattle.check_scope.specs.declared.names.Meaning.TheVariants as meaning
use Rattle.value_types.specs.Operations.{truth}
use Rattle.value_types.specs.Outcomes.{Outcome, Yields, dynamic_error, or_unmet, outcome_and_then, outcome_map, unmet}
use Rattle.value_types.specs.Values as values
use Rattle.value_types.specs.Values.{is_omit, record_of}
use Rattle.value_types.specs.declared.path.Path.{Path}
use Rattle.value_types.specs.declared.template.Template.{Template}
use Rattle.value_types.specs.declared.value.ComponentId.{ComponentId}
use Rattle.value_types.specs.declared.value.Value.{Value}
use Rattle.value_types.specs.declared.value.Value.TheVariants as value

-- what an expression reads
pub record Reading : Type 0 where
  pub definitions : List Definition
  -- the values of the names that the module doesn't define: to read a name that has none is a dynamic error
  pub names : List ℕ → Outcome Value
  -- whether the timer of a name runs, where a name is that of a timer
  pub timers : List ℕ → Option Bool
  -- which components run
  pub running : Path → Bool
  -- `self` and `mtc`
  pub itself : ComponentId
  pub mtc : ComponentId
  -- what the module's constants give, by the position of their declaration and their own in it
  pub constants : ℕ → ℕ → Outcome Value
  -- what the module's templates give with arguments, by their position
  pub templates : ℕ → List Value → Outcome Template

-- ---- names

-- the enumerators of an enumeration, none of any other definition
abbrev pub enumerators_of : Option DefinitionKind → List Enumerator
enumerators_of (Some (kind.Enumerated e)) = e.enumerators
enumerators_of _ = []

-- a name of the enumeration at a position
abbrev pub enumerated : List Definition → ℕ → List ℕ → Outcome Value
enumerated definitions at name =
    outcome_map (value.Enumerated at) (or_unmet (position (λ e. bytes_eq e.name name) (enumerators_of (kind_at definitions at))))

-- the value of a name by what it means in the module: a constant, an enumerator, or else what is read of it
abbrev pub by_meaning : Reading → List ℕ → Option Meaning → Outcome Value
by_meaning reading name (Some (meaning.ModuleConstant at item)) = reading.constants at item
by_meaning reading name (Some (meaning.Enumerator at)) = enumerated reading.definitions at name
by_meaning reading name _ = reading.names name

-- the value of a name: what the module defines comes first, since no visible name is that of another
abbrev pub named : Reading → List ℕ → Outcome Value
named reading name = by_meaning reading name (module_names reading.definitions name)

-- ---- fields

-- what stands in the field of a name, in a record given by its type's position and its fields, if there is one
abbrev pub state_in : List Definition → List ℕ → Option (ℕ × List (Option Value)) → Outcome (Option Value)
state_in definitions name None = unmet
state_in definitions name (Some found) =
    or_unmet (option_and_then (slice_get found.1) (position (λ field. bytes_eq field.name name) (fields_at definitions found.0)))

-- what stands in the field of a name, which may have no value: no checked module names a field that isn't there
abbrev pub state_of_field : List Definition → List ℕ → Value → Outcome (Option Value)
state_of_field definitions name v = state_in definitions name (record_of v)

-- a field has a value and is not omitted
abbrev pub is_there : Option Value → Bool
is_there None = false
is_there (Some v) = if is_omit v then false else true

-- what is read of a field: a dynamic error where it has no value or is omitted
abbrev pub read : Option Value → Outcome Value
read None = dynamic_error
read (Some v) = if is_omit v then dynamic_error else Yields v

-- what is read of the field of a name: a dynamic error where it has no value or is omitted
abbrev pub field : List Definition → List ℕ → Value → Outcome Value
field definitions name v = outcome_and_then read (state_of_field definitions name v)

-- fields of fields
abbrev pub along : List Definition → List (List ℕ) → Outcome Value → Outcome Value
along definitions [] found = found
along definitions (name ∷ names) found = along definitions names (outcome_and_then (field definitions name) found)

-- what a name stands for, with fields behind it
abbrev pub referred : Reading → Reference → Outcome Value
referred reading reference = along reading.definitions reference.fields (named reading reference.name)

-- whether the last of a field, and fields behind it, is there: a dynamic error where one on the way is not
abbrev pub last_presence : List Definition → List ℕ → List (List ℕ) → Value → Outcome Value
last_presence definitions name [] v = outcome_map (λ state. value.Boolean (is_there state)) (state_of_field definitions name v)
last_presence definitions name (next ∷ names) v = outcome_and_then (last_presence definitions next names) (field definitions name v)

-- whether the last of fields of fields is there: a value by itself is no field
abbrev pub presence : List Definition → List (List ℕ) → Value → Outcome Value
presence definitions [] v = unmet
presence definitions (name ∷ names) v = last_presence definitions name names v

-- ---- components and timers

-- `self`, `mtc`, or what a name stands for
abbrev pub component_at : Reading → ComponentRef → Outcome Value
component_at reading component.Itself = Yields (value.Component reading.itself)
component_at reading component.Mtc = Yields (value.Component reading.mtc)
component_at reading (component.Named reference) = referred reading reference

-- the component that `self`, `mtc` or a name refers to: `null` refers to none, which is a dynamic error
abbrev pub component_referred : Reading → ComponentRef → Outcome ComponentId
component_referred reading reference = outcome_and_then values.component (component_at reading reference)

-- whether the timer of a name runs, if the name is one's: a name with fields behind it is no timer's
abbrev pub timer_of : (List ℕ → Option Bool) → List (List ℕ) → List ℕ → Option Bool
timer_of timers [] name = timers name
timer_of timers (field ∷ fields) name = None

-- whether the timer runs that is meant, where one is
abbrev pub timer_at : Reading → ComponentRef → Option Bool
timer_at reading (component.Named reference) = timer_of reading.timers reference.fields reference.name
timer_at reading _ = None

-- whether the component runs that a value refers to
abbrev pub component_runs : Reading → Value → Outcome Value
component_runs reading v = outcome_map (λ c. value.Boolean (reading.running c.path)) (values.component v)

-- whether the timer runs, where the reference is that of one, or else the component that it refers to
abbrev pub runs_at : Reading → ComponentRef → Option Bool → Outcome Value
runs_at reading reference (Some runs) = truth runs
runs_at reading reference None = outcome_and_then (component_runs reading) (component_at reading reference)

-- `.running`, of a timer or a component
abbrev pub runs : Reading → ComponentRef → Outcome Value
runs reading reference = runs_at reading reference (timer_at reading reference)
