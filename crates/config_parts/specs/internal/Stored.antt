-- What names have, as the private functions change it: slots are compared as numbers.
use Rattle.std.specs.Prelude.{ℕ, Bool, true, false, not, nat_eq, List, [], ◌∷◌}
use Rattle.std.specs.List.{filter}
use Rattle.std.specs.Ordering.{is_le, match_ordering, nat_cmp}
use Rattle.config_parts.specs.declared.frame.Cells.{Cells}
use Rattle.config_parts.specs.declared.frame.Data.{Data}
use Rattle.config_parts.specs.declared.frame.Frame.{Frame}
use Rattle.config_parts.specs.internal.Changes.{with_calls}
use Rattle.value_types.specs.declared.frame.TimerState.{TimerState}
use Rattle.value_types.specs.declared.frame.TimerState.TheVariants as timer
use Rattle.value_types.specs.declared.value.Value.{Value}

-- ---- entries

-- entries with this for this slot
abbrev pub put : {A : Type 0} → ℕ → A → List (ℕ × A) → List (ℕ × A)
put slot a [] = (slot, a) ∷ []
put slot a (e ∷ entries) = match_ordering (nat_cmp slot e.0) ((slot, a) ∷ e ∷ entries) ((slot, a) ∷ entries) (e ∷ put slot a entries)

-- an entry stands where that of a slot does, or behind it
abbrev pub is_not_below : {A : Type 0} → ℕ → ℕ × A → Bool
is_not_below slot e = is_le (nat_cmp slot e.0)

-- entries with nothing for this slot
abbrev pub without : {A : Type 0} → ℕ → List (ℕ × A) → List (ℕ × A)
without slot entries = filter (λ e. not (nat_eq e.0 slot)) entries

-- ---- the names of a frame

abbrev pub no_cells : Cells
no_cells = record { values = []; timers = [] }

-- a name has a value
abbrev pub with_value : ℕ → Value → Cells → Cells
with_value slot v cells = record { values = put slot v cells.values; timers = cells.timers }

-- a timer is in a state
abbrev pub with_timer : ℕ → TimerState → Cells → Cells
with_timer slot state cells = record { values = cells.values; timers = put slot state cells.timers }

-- a name is declared, without value
abbrev pub forget : ℕ → Cells → Cells
forget slot cells = record { values = without slot cells.values; timers = without slot cells.timers }

-- a name is declared with a value
abbrev pub declare : ℕ → Value → Cells → Cells
declare slot v cells = record { values = put slot v cells.values; timers = without slot cells.timers }

-- a timer is declared
abbrev pub declare_timer : ℕ → Cells → Cells
declare_timer slot cells = record { values = without slot cells.values; timers = put slot timer.Inactive cells.timers }

-- ---- frames

abbrev pub with_cells : Cells → Frame → Frame
with_cells cells frame = record { remaining = frame.remaining; cells = cells }

abbrev pub with_position : ℕ → Frame → Frame
with_position at frame = record { remaining = at; cells = frame.cells }

-- a change of the last frame
abbrev pub in_last : (Frame → Frame) → List Frame → List Frame
in_last change [] = []
in_last change (frame ∷ frames) = change frame ∷ frames

abbrev pub last_cells : List Frame → Cells
last_cells [] = no_cells
last_cells (frame ∷ frames) = frame.cells

-- the names of the last frame, or of frame 0
abbrev pub cells_in : Bool → Data → Cells
cells_in true own = last_cells own.calls
cells_in false own = own.members

abbrev pub with_members : Cells → Data → Data
with_members members own = record { members = members; calls = own.calls; defaults = own.defaults; activations = own.activations; children = own.children }

abbrev pub with_cells_in : Bool → Cells → Data → Data
with_cells_in true cells own = with_calls (in_last (with_cells cells) own.calls) own
with_cells_in false cells own = with_members cells own

-- a change of the names of the last frame, or of frame 0
abbrev pub changed_in : Bool → (Cells → Cells) → Data → Data
changed_in last change own = with_cells_in last (change (cells_in last own)) own
