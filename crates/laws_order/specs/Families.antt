-- Components that were created one by one, each by one that is there.
use Rattle.std.specs.Prelude.{◌≡◌, ℕ, ◌<◌, [], Some, ◌⊎◌}
use Rattle.std.specs.List.{All}
use Rattle.semantics.specs.Configurations.{Component, Configuration, Ended, Goes, Going, component_at, path_of}
use Rattle.semantics.specs.Creating.{child_of}

-- a component is one of those that a component that is there has created so far
pub record IsChild (c : Going) (component : Component) : Type 0 where
  pub parent : Component
  pub there : component_at c (path_of parent) ≡ Some parent
  pub number : ℕ
  pub created : number < parent.own.children
  pub path : path_of component ≡ child_of parent.itself number

-- each component is the MTC, whose path has no numbers, or a child of one that is there
abbrev pub IsFamily : Going → Type 0
IsFamily c = All (λ component. ((path_of component).numbers ≡ []) ⊎ IsChild c component) c.components

-- the components of a test case that goes on are a family; one that ended has none
abbrev pub StandsInFamily : Configuration → Type 0
StandsInFamily (Ended v) = Unit {0}
StandsInFamily (Goes c) = IsFamily c
