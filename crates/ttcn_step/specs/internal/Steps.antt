-- Steps, as the private functions know them.
use Rattle.std.specs.Prelude.{List, [], ◌∷◌, ◌++◌, Option, if◌then◌else◌}
use Rattle.std.specs.List.{filter_map, flat_map}
use Rattle.std.specs.Option.{option_map}
use Rattle.semantics.specs.Configurations as rules
use Rattle.semantics.specs.Configurations.{is_running_state, path_of}
use Rattle.semantics.specs.Labels.{deliveries, expiries}
use Rattle.semantics.specs.Snapshots.{Test, snapshot_of}
use Rattle.semantics.specs.Statements as said
use Rattle.semantics.specs.Steps.{Label, Statement, next}
use Rattle.step_snapshot.specs.Tests.{legend_by, test_by}
use Rattle.step_snapshot.specs.declared.test_case.TestCase.{TestCase}
use Rattle.config_parts.specs.Legend.{component_by, data_by, going_by}
use Rattle.config_parts.specs.declared.component.Component.{Component}
use Rattle.config_parts.specs.declared.config.Going.{Going}

-- what a component asks for
abbrev pub asked : TestCase → Going → Component → said.Act
asked t going component =
    said.act (test_by t) (snapshot_of (going_by (legend_by t) going) (component_by (legend_by t) component)) (data_by (legend_by t) component.own)

-- a label with the configuration that it leads to, where it is enabled
abbrev pub lead : Test → rules.Configuration → Label → Option (Label × rules.Configuration)
lead test c label = option_map (λ d. (label, d)) (next test c label)

-- the enabled ones among labels, each with the configuration that it leads to
abbrev pub leads : Test → rules.Configuration → List Label → List (Label × rules.Configuration)
leads test c labels = filter_map (lead test c) labels

-- the labels that a component may have: its statement, and its timers that run
abbrev pub candidates_of : rules.Component → List Label
candidates_of component = if is_running_state component.state then Statement (path_of component) ∷ expiries component else []

abbrev pub candidates : Test → rules.Going → List Label
candidates test c = flat_map candidates_of c.components ++ deliveries test c
