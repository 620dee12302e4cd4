-- Machines, and the configurations that fit them.
use Rattle.std.specs.Prelude.{ℕ, List, length}
use Rattle.laws_order.specs.Order.{StandsInOrder}
use Rattle.semantics.specs.Configurations as rules
use Rattle.semantics.specs.Items.{Item}
use Rattle.semantics.specs.Snapshots.{Test}
use Rattle.step_snapshot.specs.Tests.{test_by}
use Rattle.step_snapshot.specs.declared.test_case.TestCase.{TestCase}
use Rattle.config_parts.specs.Legend.{Legend, config_by}
use Rattle.config_parts.specs.Names.{legend_of}
use Rattle.config_parts.specs.Views.{Extent, IsConfigWithin}
use Rattle.config_parts.specs.declared.config.Config.{Config}
use Rattle.ttcn_step.specs.FrameLimit.{AllKeepFrameLimit}

-- the test case that a machine runs, the lists that positions stand for, and the names that have slots
pub record Machine : Type 0 where
  pub test : Test
  pub lists : List (List Item)
  pub names : List (List ℕ)

-- what positions and slots stand for
abbrev pub legend : Machine → Legend
legend machine = legend_of machine.lists machine.names

-- how many lists have positions, and how many names have slots
abbrev pub extent : Machine → Extent
extent machine = record { lists = length machine.lists; names = length machine.names }

-- the machine that runs a test case of the code: the test case of the rules, with its lists and names
abbrev pub machine_of : TestCase → Machine
machine_of t = record { test = test_by t; lists = t.graphs.lists; names = t.names }

-- the configuration of the rules that one of the code stands for
abbrev pub said : Machine → Config → rules.Configuration
said machine config = config_by (legend machine) config

-- a configuration fits a machine
pub record Fits (machine : Machine) (config : Config) : Type 0 where
  -- what remains has positions, and each slot a name
  pub within : IsConfigWithin (extent machine) config
  -- components, names, timers and connections stand in their order, and no mark stands first
  pub ordered : StandsInOrder (said machine config)
  -- no component has more frames than the limit
  pub frames : AllKeepFrameLimit (said machine config)
