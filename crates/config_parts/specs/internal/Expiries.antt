-- Timers that expire, as the private functions know them: slots are compared as numbers.
use Rattle.std.specs.Prelude.{◌≡◌, ℕ, suc, ◌+◌, Bool, true, false, ◌&&◌, List, [], ◌∷◌, length, nat_eq, Option, None, Some, Result, Ok, Err, if◌then◌else◌}
use Rattle.std.specs.List.{find}
use Rattle.std.specs.Option.{option_map}
use Rattle.config_parts.specs.declared.component.Component.{Component}
use Rattle.config_parts.specs.declared.component.State.{State}
use Rattle.config_parts.specs.declared.component.State.TheVariants as state
use Rattle.config_parts.specs.declared.frame.Data.{Data}
use Rattle.config_parts.specs.declared.frame.Frame.{Frame}
use Rattle.config_parts.specs.internal.Changes.{is_of, touch, with_calls, with_own}
use Rattle.config_parts.specs.internal.Stored.{with_cells, with_members, with_timer}
use Rattle.value_types.specs.Frames.{is_running}
use Rattle.value_types.specs.declared.frame.TimerState.{TimerState}
use Rattle.value_types.specs.declared.frame.TimerState.TheVariants as timer
use Rattle.value_types.specs.declared.path.Path.{Path}

-- ---- timers of a frame

abbrev pub is_of_slot : {A : Type 0} → ℕ → ℕ × A → Bool
is_of_slot slot e = nat_eq e.0 slot

abbrev pub runs_found : Option (ℕ × TimerState) → Bool
runs_found None = false
runs_found (Some e) = is_running e.1

-- a timer runs
abbrev pub runs_in : ℕ → List (ℕ × TimerState) → Bool
runs_in slot timers = runs_found (find (is_of_slot slot) timers)

-- a timer expired
abbrev pub with_expired : ℕ → Frame → Frame
with_expired slot frame = with_cells (with_timer slot timer.Expired frame.cells) frame

-- ---- frames by their numbers: they are counted from 1, the last one first in the list

-- the place of the frame of a number
abbrev pub place_above : ℕ → List Frame → Option ℕ
place_above number [] = None
place_above number (frame ∷ frames) = if nat_eq number (length frames + 1) then Some 0 else option_map suc (place_above number frames)

abbrev pub runs_above : ℕ → ℕ → List Frame → Bool
runs_above number slot [] = false
runs_above number slot (frame ∷ frames) = if nat_eq number (length frames + 1) then runs_in slot frame.cells.timers else runs_above number slot frames

abbrev pub expired_above : ℕ → ℕ → List Frame → List Frame
expired_above number slot [] = []
expired_above number slot (frame ∷ frames) = if nat_eq number (length frames + 1) then with_expired slot frame ∷ frames else frame ∷ expired_above number slot frames

-- a timer of a frame runs: frame 0 is the component's own
abbrev pub runs_of : ℕ → ℕ → Data → Bool
runs_of number slot own = if nat_eq number 0 then runs_in slot own.members.timers else runs_above number slot own.calls

abbrev pub expired_of : ℕ → ℕ → Data → Data
expired_of number slot own =
    if nat_eq number 0 then with_members (with_timer slot timer.Expired own.members) own
    else with_calls (expired_above number slot own.calls) own

-- ---- components

abbrev pub is_running_state : State → Bool
is_running_state state.Created = false
is_running_state state.Running = true
is_running_state state.Terminated = false

abbrev pub may_expire : ℕ → ℕ → Component → Bool
may_expire number slot c = is_running_state c.state && runs_of number slot c.own

abbrev pub expired_found : List Component → Path → ℕ → ℕ → Option Component → Option (List Component)
expired_found components path number slot None = None
expired_found components path number slot (Some c) =
    if may_expire number slot c then Some (touch components path (with_own (expired_of number slot c.own))) else None

-- a timer of a component expires
abbrev pub expired_at : List Component → Path → ℕ → ℕ → Option (List Component)
expired_at components path number slot = expired_found components path number slot (find (is_of path) components)

-- a call does what is wanted and says so, or says that it can't be had, unless memory was refused
abbrev pub DoesOrNot : {A E : Type 0} → Option A → A → Result Bool E → Type 0
DoesOrNot wanted left (Ok true) = wanted ≡ Some left
DoesOrNot wanted left (Ok false) = wanted ≡ None
DoesOrNot wanted left (Err refused) = Unit {0}
