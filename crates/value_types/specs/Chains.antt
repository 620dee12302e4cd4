-- What the constants and templates of a module give: a constant stands for its value and a template for its body, each time that it is named, with what `self` is and what runs there (ES 201 873-1, 10 and 15).
use Rattle.std.specs.Prelude.{ℕ, zero, suc, List, Option, Some, None, bytes_eq}
use Rattle.std.specs.List.{position, slice_get}
use Rattle.std.specs.Option.{option_and_then}
use Rattle.ttcn_syntax.specs.declared.tree.definition.Parameter.{Parameter}
use Rattle.ttcn_syntax.specs.declared.tree.definition.TemplateDefinition.{TemplateDefinition}
use Rattle.ttcn_syntax.specs.declared.tree.statement.Constant.{Constant}
use Rattle.check_scope.specs.Names.{constant_at, constants_type, kind_at, module_names, resolved, template_at}
use Rattle.check_scope.specs.declared.types.DataType.{DataType}
use Rattle.value_types.specs.Literals.{value_wanted}
use Rattle.value_types.specs.Outcomes.{Outcome, or_unmet, unmet}
use Rattle.value_types.specs.Readings.{Reading}
use Rattle.value_types.specs.Templates.{template_wanted}
use Rattle.value_types.specs.declared.template.Template.{Template}
use Rattle.value_types.specs.declared.value.Value.{Value}

-- a reading with these names and no timers
abbrev pub with_names : (List ℕ → Outcome Value) → Reading → Reading
with_names names reading = record {
  definitions = reading.definitions;
  names = names;
  timers = λ name. None;
  running = reading.running;
  itself = reading.itself;
  mtc = reading.mtc;
  constants = reading.constants;
  templates = reading.templates;
}

-- the value that arguments give to the parameter of a name
abbrev pub given_to : List Parameter → List Value → List ℕ → Outcome Value
given_to parameters values name = or_unmet (option_and_then (slice_get values) (position (λ p. bytes_eq p.name name) parameters))

-- what a constant gives
abbrev pub constant_value : Reading → Option Constant → Option DataType → Outcome Value
constant_value reading None wanted = unmet
constant_value reading (Some constant) wanted = value_wanted constant.value reading wanted

-- what a template gives with these arguments, where a reading is known for the names that are visible in it
abbrev pub template_value : ((List ℕ → Outcome Value) → Reading) → Option TemplateDefinition → List Value → Outcome Template
template_value reading None values = unmet
template_value reading (Some t) values =
    template_wanted t.template (reading (given_to t.parameters values))
    (resolved (module_names (reading (given_to t.parameters values)).definitions) t.type_name)

-- what constants and templates give
abbrev pub Outcomes : Type 0
Outcomes = (ℕ → ℕ → Outcome Value) × (ℕ → List Value → Outcome Template)

-- a reading in which constants and templates give these outcomes
abbrev pub with_outcomes : Outcomes → Reading → Reading
with_outcomes outcomes reading = record {
  definitions = reading.definitions;
  names = reading.names;
  timers = reading.timers;
  running = reading.running;
  itself = reading.itself;
  mtc = reading.mtc;
  constants = outcomes.0;
  templates = outcomes.1;
}

-- what those give that refer to each other in chains of at most so many: no checked module has longer ones
abbrev pub outcomes_within : ℕ → Reading → Outcomes
outcomes_within zero reading = (λ at item. unmet, λ at values. unmet)
outcomes_within (suc n) reading = (
  λ at item. constant_value (with_outcomes (outcomes_within n (with_names (λ name. unmet) reading)) (with_names (λ name. unmet) reading))
      (constant_at reading.definitions at item) (constants_type (module_names reading.definitions) (kind_at reading.definitions at)),
  λ at values. template_value (λ names. with_outcomes (outcomes_within n (with_names names reading)) (with_names names reading))
      (template_at reading.definitions at) values,
)

-- a reading in which constants and templates refer to each other in chains of at most so many
abbrev pub within_chains : ℕ → Reading → Reading
within_chains n reading = with_outcomes (outcomes_within n reading) reading
