-- Configurations whose components and timers stand in their order, as those of all runs do.
use Rattle.std.specs.Prelude.{◌≡◌, List, AllPairs}
use Rattle.std.specs.List.{All}
use Rattle.std.specs.declared.cmp.Ordering.{Ordering}
use Rattle.std.specs.declared.cmp.Ordering.TheVariants.{Less}
use Rattle.semantics.specs.Configurations.{Component, Frame, Going, path_cmp, path_of}
use Rattle.semantics.specs.Entries.{Entries, name_cmp}

-- each element of a list is less than those behind it
abbrev pub Ascends : {A : Type 0} → (A → A → Ordering) → List A → Type 0
Ascends cmp xs = AllPairs (λ a b. cmp a b ≡ Less) xs

-- names in the order of their bytes, none twice
abbrev pub HasNamesInOrder : {A : Type 0} → Entries A → Type 0
HasNamesInOrder entries = Ascends (λ d e. name_cmp d.0 e.0) entries

-- the timers of a frame stand in the order of their names
abbrev pub HasTimersInOrder : Frame → Type 0
HasTimersInOrder frame = HasNamesInOrder frame.timers

-- the timers of each frame of a component stand in the order of their names
pub record IsOrderedWithin (component : Component) : Type 0 where
  pub members : HasTimersInOrder component.own.members
  pub calls : All HasTimersInOrder component.own.calls

-- the components stand in the order of their paths, the timers within each in the order of their names, and the mappings in the order of the system ports' names
pub record IsOrdered (c : Going) : Type 0 where
  pub components : Ascends (λ one other. path_cmp (path_of one) (path_of other)) c.components
  pub within : All IsOrderedWithin c.components
  pub mappings : HasNamesInOrder c.mappings
