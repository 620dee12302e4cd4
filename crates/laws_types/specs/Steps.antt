-- What a component sees in its step.
use Rattle.std.specs.Prelude.{◌≡◌, ℕ, List, map, Option, is_some, IfSome}
use Rattle.std.specs.List.{All, flat_map}
use Rattle.ttcn_syntax.specs.declared.tree.definition.Definition.{Definition}
use Rattle.check_scope.specs.Names.{kind_at, members_of}
use Rattle.semantics.specs.Configurations.{Data, Frame, Message}
use Rattle.semantics.specs.Creating.{ports_of}
use Rattle.semantics.specs.Snapshots.{Snapshot}
use Rattle.value_types.specs.Frames.{entry}
use Rattle.laws_types.specs.Typed.{FitsMessage}

-- the ports that are seen are those of the component's type, and their first messages fit
pub record FitFronts (definitions : List Definition) (component_type : ℕ) (fronts : List (List ℕ × Option Message)) : Type 0 where
  pub ports : map (λ front. front.0) fronts ≡ flat_map ports_of (members_of (kind_at definitions component_type))
  pub messages : All (λ front. IfSome front.1 (FitsMessage definitions)) fronts

-- what a component with these data sees: its own timers, be they in other states, and what came first at its ports
pub record Sees (definitions : List Definition) (snapshot : Snapshot) (own : Data) (frame : Frame) : Type 0 where
  pub timers : (name : List ℕ) → is_some (entry snapshot.timers name) ≡ is_some (entry frame.timers name)
  pub member_timers : (name : List ℕ) → is_some (entry snapshot.member_timers name) ≡ is_some (entry own.members.timers name)
  pub fronts : FitFronts definitions snapshot.itself.component_type snapshot.fronts
