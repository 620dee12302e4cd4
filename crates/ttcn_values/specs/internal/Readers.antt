-- What readers read: a frame, or a constant or a template of the module on its behalf.
use Rattle.std.specs.Prelude.{ℕ, Bool, All, List, Option, None}
use Rattle.std.specs.Option.{option_map}
use Rattle.ttcn_syntax.specs.declared.tree.definition.Definition.{Definition}
use Rattle.ttcn_syntax.specs.declared.tree.expression.Reference.{Reference}
use Rattle.value_types.specs.Chains.{given_to, within_chains}
use Rattle.value_types.specs.Frames.{facts}
use Rattle.value_types.specs.Outcomes.{Gives, Outcome, or_error, or_unmet, outcome_and_then, unmet}
use Rattle.value_types.specs.Readings.{Reading, along, named, presence}
use Rattle.ttcn_values.specs.declared.reader.ConstantResult.{ConstantResult}
use Rattle.ttcn_values.specs.declared.reader.Origin.{Origin}
use Rattle.ttcn_values.specs.declared.reader.Origin.TheVariants as origin
use Rattle.ttcn_values.specs.declared.reader.Reader.{Reader}
use Rattle.ttcn_values.specs.declared.reader.Use.{Use}
use Rattle.ttcn_values.specs.declared.reader.Use.TheVariants as use_form
use Rattle.ttcn_values.specs.declared.reader.Visible.{Visible}
use Rattle.ttcn_values.specs.declared.reader.Visible.TheVariants as visible
use Rattle.value_types.specs.declared.value.Value.{Value}

abbrev pub names_seen : Visible → Reading → List ℕ → Outcome Value
names_seen visible.Frame facts = facts.names
names_seen visible.Nothing facts = λ name. unmet
names_seen (visible.Parameters parameters values) facts = given_to parameters.now values.now

abbrev pub timers_seen : Visible → Reading → List ℕ → Option Bool
timers_seen visible.Frame facts = facts.timers
timers_seen _ facts = λ name. None

abbrev pub seen_by : Visible → Reading → Reading
seen_by seen facts = record {
  definitions = facts.definitions;
  names = names_seen seen facts;
  timers = timers_seen seen facts;
  running = facts.running;
  itself = facts.itself;
  mtc = facts.mtc;
  constants = facts.constants;
  templates = facts.templates;
}

-- the reading that a reader has
abbrev pub read_by : Reader → Reading
read_by reader = within_chains reader.depth (seen_by reader.visible (facts reader.frame.now))

-- each of these constants gives its result in a reading
abbrev pub AreResults : Reading → List ConstantResult → Type 0
AreResults reading constants = All (λ constant. Gives (reading.constants constant.at constant.item) constant.result) constants

-- the constants that a reader knows give what it knows of them
abbrev pub KnowsConstants : Reader → Type 0
KnowsConstants reader = AreResults (read_by reader) reader.constants.now

-- what a value gives for a use, with fields behind it
abbrev pub taken_for : Use → List Definition → List (List ℕ) → Outcome Value → Outcome Value
taken_for use_form.Value definitions fields found = along definitions fields found
taken_for use_form.Presence definitions fields found = outcome_and_then (presence definitions fields) found

-- what a reference gives for a use
abbrev pub wanted_of : Use → Reading → Reference → Outcome Value
wanted_of wanted reading reference = taken_for wanted reading.definitions reference.fields (named reading reference.name)

-- the value of what a name stands for
abbrev pub origin_value : Reading → Origin → Outcome Value
origin_value reading (origin.Constant at item) = reading.constants at item
origin_value reading (origin.Enumerator v) = or_unmet v
origin_value reading (origin.Local v) = or_error (option_map (λ value. value.now) v)
