-- What expressions read of a component, as the code keeps it.
use Rattle.std.specs.Prelude.{◌≡◌, ◌<◌, ℕ, List, map, length, [], Some, slice_get}
use Rattle.std.specs.List.{All, filter}
use Rattle.semantics.specs.Snapshots.{View}
use Rattle.config_parts.specs.Legend.{Legend, entries_by}
use Rattle.config_parts.specs.declared.act.Act.{Act}
use Rattle.config_parts.specs.declared.act.Request.{Request}
use Rattle.config_parts.specs.declared.act.Request.TheVariants as request
use Rattle.config_parts.specs.declared.component.Component.{Component}
use Rattle.config_parts.specs.declared.config.Config.{Config}
use Rattle.config_parts.specs.declared.config.Config.TheVariants as config
use Rattle.config_parts.specs.declared.config.Going.{Going}
use Rattle.config_parts.specs.declared.frame.Cells.{Cells}
use Rattle.config_parts.specs.declared.frame.Data.{Data}
use Rattle.config_parts.specs.declared.frame.Frame.{Frame}
use Rattle.config_parts.specs.internal.Expiries.{is_running_state}
use Rattle.value_types.specs.declared.path.Path.{Path}

-- each slot with a name has that which a legend gives it
abbrev pub AreNames : Legend → List (List ℕ) → Type 0
AreNames legend names = (slot : ℕ) → slot < length names → slice_get names slot ≡ Some (legend.names slot)

-- the slots of these entries are less than this
abbrev pub AreWithin : {A : Type 0} → ℕ → List (ℕ × A) → Type 0
AreWithin size entries = All (λ e. e.0 < size) entries

-- each slot has a name
pub record HasSlotsWithin (size : ℕ) (cells : Cells) : Type 0 where
  pub values : AreWithin size cells.values
  pub timers : AreWithin size cells.timers

-- how many lists have positions, and how many names have slots
pub record Extent : Type 0 where
  pub lists : ℕ
  pub names : ℕ

-- what remains in a frame has a position, and each of its slots a name
pub record IsFrameWithin (size : Extent) (frame : Frame) : Type 0 where
  pub remaining : frame.remaining < size.lists
  pub cells : HasSlotsWithin size.names frame.cells

-- in all frames of a component what remains has a position, and each slot a name
pub record IsWithin (size : Extent) (own : Data) : Type 0 where
  pub members : HasSlotsWithin size.names own.members
  pub calls : All (IsFrameWithin size) own.calls

-- in all frames of all components what remains has a position, and each slot a name
abbrev pub AreAllWithin : Extent → List Component → Type 0
AreAllWithin size components = All (λ component. IsWithin size component.own) components

-- so it is in all frames of a test case that goes on, and each system port that is mapped has a name
pub record IsGoingWithin (size : Extent) (going : Going) : Type 0 where
  pub components : AreAllWithin size going.components
  pub mappings : AreWithin size.names going.links.mappings

-- so it is in a configuration: a test case that ended has no frames
abbrev pub IsConfigWithin : Extent → Config → Type 0
IsConfigWithin size (config.Ended v) = Unit {0}
IsConfigWithin size (config.Going going) = IsGoingWithin size going

-- in all frames that a request brings what remains has a position, and each slot a name; so has the system port of a mapping
abbrev pub IsRequestWithin : Extent → Request → Type 0
IsRequestWithin size (request.Creates new) = IsWithin size new.own
IsRequestWithin size (request.Starts path frame) = IsFrameWithin size frame
IsRequestWithin size (request.Maps e system_port) = system_port < size.names
IsRequestWithin size _ = Unit {0}

-- so it is in these, and in all frames of the component behind its step
abbrev pub IsActWithin : Extent → Act → Type 0
IsActWithin size act = IsRequestWithin size act.request × IsWithin size act.own

-- what is seen of the names of a frame
abbrev pub view_by : Legend → Cells → View
view_by legend cells = record { values = entries_by legend cells.values; timers = entries_by legend cells.timers }

-- the paths of the components that run
abbrev pub running_paths : List Component → List Path
running_paths components = map (λ component. component.itself.path) (filter (λ component. is_running_state component.state) components)
