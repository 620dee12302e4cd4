-- Machines, as states know them.
use Rattle.std.specs.Prelude.{[]}
use Rattle.graph_numbers.specs.Lists.{AreDifferent}
use Rattle.config_parts.specs.Names.{AreInOrder}
use Rattle.ttcn_step.specs.Machines.{Machine}

-- no list has two positions, and slots are in the order of their names
pub record IsMachine (machine : Machine) : Type 0 where
  pub lists : AreDifferent machine.lists
  pub names : AreInOrder machine.names

-- a machine of an empty module, which has no lists and no names
abbrev pub no_machine : Machine
no_machine = record { test = record { definitions = []; testcase = 0; script = [] }; lists = []; names = [] }
