-- Configurations that stand in their order, as those of all runs do.
use Rattle.std.specs.Prelude.{◌≡◌}
use Rattle.std.specs.List.{All}
use Rattle.semantics.specs.Configurations.{Component, Configuration, Ended, Goes, Going}
use Rattle.semantics.specs.Order.{Ascends, HasNamesInOrder, IsOrdered}
use Rattle.semantics.specs.Steps.{connection_cmp}
use Rattle.semantics.specs.Taking.{uncovered}

-- the values of a component's frames ascend by name
pub record HasValuesInOrder (component : Component) : Type 0 where
  pub members : HasNamesInOrder component.own.members.values
  pub calls : All (λ frame. HasNamesInOrder frame.values) component.own.calls

-- no mark stands first in the component's last frame
abbrev pub HasNoMarkFirst : Component → Type 0
HasNoMarkFirst component = uncovered component.own ≡ component.own

-- components, timers, values, connections and mappings stand in their order, and no component has a mark in front
pub record IsInOrder (c : Going) : Type 0 where
  -- components by path, the timers of each frame by name, and mappings by the names of the system ports
  pub ordered : IsOrdered c
  -- the values of each frame by name
  pub values : All HasValuesInOrder c.components
  pub connections : Ascends connection_cmp c.connections
  pub marks : All HasNoMarkFirst c.components

-- a test case that goes on stands in its order; one that ended has nothing to be in order
abbrev pub StandsInOrder : Configuration → Type 0
StandsInOrder (Ended v) = Unit {0}
StandsInOrder (Goes c) = IsInOrder c
