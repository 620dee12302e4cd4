-- Configurations in which each component that is referred to is there.
use Rattle.std.specs.Prelude.{◌≡◌, ◌⊎◌, ℕ, true, List, map, IsSomeAnd, bytes_eq, is_some}
use Rattle.std.specs.List.{All, find, flat_map}
use Rattle.ttcn_syntax.specs.declared.tree.definition.Definition.{Definition}
use Rattle.check_scope.specs.Names.{kind_at, members_of}
use Rattle.laws_references.specs.References.{ComponentRefersTo, RefersToNone}
use Rattle.semantics.specs.Configurations.{Component, Configuration, Connection, End, Ended, Goes, Going, component_at}
use Rattle.semantics.specs.Creating.{ports_of}
use Rattle.semantics.specs.Entries.{Identifier}
use Rattle.semantics.specs.LiveParts.{husk}
use Rattle.semantics.specs.Snapshots.{Test, mtc_of}
use Rattle.value_types.specs.declared.value.ComponentId.{ComponentId}

-- ---- components

-- a component is there: the one at its path has its type too
abbrev pub IsThere : Going → ComponentId → Type 0
IsThere c id = IsSomeAnd (component_at c id.path) (λ component. component.itself ≡ id)

-- ---- ports

-- the names of the ports of the component type at a position
abbrev pub port_names : List Definition → ℕ → List (List ℕ)
port_names definitions at = flat_map ports_of (members_of (kind_at definitions at))

-- a component has the ports of its type
abbrev pub HasItsPorts : List Definition → Component → Type 0
HasItsPorts definitions component = map (λ queue. queue.0) component.queues ≡ port_names definitions component.itself.component_type

-- an end is a port of a component that is there
abbrev pub IsPortThere : Going → End → Type 0
IsPortThere c e = IsSomeAnd (component_at c e.component) (λ component. is_some (find (λ queue. bytes_eq queue.0 e.port) component.queues) ≡ true)

-- both ends of a connection are ports of components that are there
abbrev pub IsBetweenPorts : Going → Connection → Type 0
IsBetweenPorts c k = IsPortThere c k.one × IsPortThere c k.other

-- the port of a mapping is one of a component that is there
abbrev pub IsOfPort : Going → Identifier × End → Type 0
IsOfPort c m = IsPortThere c m.1

-- ---- configurations

-- all that is referred to is there: the MTC, the components that values, arguments and messages refer to, and the ports at the ends of connections and of mappings
pub record HasAllReferred (test : Test) (c : Going) : Type 0 where
  pub mtc : IsThere c (mtc_of test)
  pub components : All (ComponentRefersTo (IsThere c)) c.components
  pub ports : All (HasItsPorts test.definitions) c.components
  pub connections : All (IsBetweenPorts c) c.connections
  pub mappings : All (IsOfPort c) c.mappings

-- a test case that goes on has all that is referred to; one that ended has no references
abbrev pub StandsWithAllReferred : Test → Configuration → Type 0
StandsWithAllReferred test (Ended v) = Unit {0}
StandsWithAllReferred test (Goes c) = HasAllReferred test c

-- no message of the script of a test case refers to a component
abbrev pub ScriptRefersToNone : Test → Type 0
ScriptRefersToNone test = All (λ entry. All RefersToNone entry.1) test.script

-- ---- live parts

-- a component is there with its type, or terminated, and nothing but its path is left
abbrev pub IsLeft : Going → ComponentId → Type 0
IsLeft c id = IsSomeAnd (component_at c id.path) (λ component. (component.itself ≡ id) ⊎ (component ≡ husk id.path))

-- an end is a port of a component that is there, or of one of which nothing but the path is left
abbrev pub IsPortLeft : Going → End → Type 0
IsPortLeft c e =
    IsSomeAnd (component_at c e.component) (λ component. (is_some (find (λ queue. bytes_eq queue.0 e.port) component.queues) ≡ true) ⊎ (component ≡ husk e.component))

-- a test case that goes on refers only to components and ports of which something is left
pub record HasAllLeft (c : Going) : Type 0 where
  pub components : All (ComponentRefersTo (IsLeft c)) c.components
  pub connections : All (λ k. IsPortLeft c k.one × IsPortLeft c k.other) c.connections
  pub mappings : All (λ m. IsPortLeft c m.1) c.mappings

-- a live part that goes on refers only to components and ports of which something is left; of a test case that ended nothing is referred to
abbrev pub StandsWithAllLeft : Configuration → Type 0
StandsWithAllLeft (Ended v) = Unit {0}
StandsWithAllLeft (Goes c) = HasAllLeft c
