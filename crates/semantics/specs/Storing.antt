-- Where values are stored, and timers set: in the last frame, or in frame 0 (ES 201 873-1, 19.1 and 23).
use Rattle.std.specs.Prelude.{Bool, true, false, List, [], ◌∷◌, Option, None}
use Rattle.ttcn_syntax.specs.declared.tree.expression.Reference.{Reference}
use Rattle.value_assignment.specs.Assignment.{assigned}
use Rattle.check_rules.specs.Expressions.{check_meaning}
use Rattle.check_scope.specs.Names.{Scope}
use Rattle.check_scope.specs.Typings.{type_known}
use Rattle.check_scope.specs.declared.types.DataType.{DataType}
use Rattle.semantics.specs.Configurations.{Data, Frame}
use Rattle.semantics.specs.Entries.{Entries, Identifier, put, without}
use Rattle.semantics.specs.Items.{Item, Target}
use Rattle.semantics.specs.Sites.{Site, is_own, scope_at}
use Rattle.semantics.specs.Snapshots.{Test}
use Rattle.value_types.specs.Frames.{entry}
use Rattle.value_types.specs.Outcomes.{Outcome, outcome_map}
use Rattle.value_types.specs.declared.frame.TimerState.{TimerState}
use Rattle.value_types.specs.declared.frame.TimerState.TheVariants as timer
use Rattle.value_types.specs.declared.value.Value.{Value}

-- ---- frames

-- a frame in which other items remain to be done
abbrev pub with_remaining : List Item → Frame → Frame
with_remaining items frame = record { remaining = items; values = frame.values; timers = frame.timers }

-- a frame with other values of its names
abbrev pub with_values : Entries Value → Frame → Frame
with_values values frame = record { remaining = frame.remaining; values = values; timers = frame.timers }

-- a frame with other states of its timers
abbrev pub with_timers : Entries TimerState → Frame → Frame
with_timers timers frame = record { remaining = frame.remaining; values = frame.values; timers = timers }

-- a name is declared, without value: what it had is gone
abbrev pub forget : Identifier → Frame → Frame
forget name frame = record { remaining = frame.remaining; values = without name frame.values; timers = without name frame.timers }

-- a name is declared with a value
abbrev pub declare : Identifier → Value → Frame → Frame
declare name v frame = record { remaining = frame.remaining; values = put name v frame.values; timers = without name frame.timers }

-- a timer is declared
abbrev pub declare_timer : Identifier → Frame → Frame
declare_timer name frame = record { remaining = frame.remaining; values = without name frame.values; timers = put name timer.Inactive frame.timers }

-- ---- data

-- the data of a component with other frames above frame 0
abbrev pub with_calls : List Frame → Data → Data
with_calls calls own = record { members = own.members; calls = calls; defaults = own.defaults; activations = own.activations; children = own.children }

-- the data of a component with another frame 0
abbrev pub with_members : Frame → Data → Data
with_members members own = record { members = members; calls = own.calls; defaults = own.defaults; activations = own.activations; children = own.children }

-- a change of the last frame
abbrev pub in_last : (Frame → Frame) → List Frame → List Frame
in_last change [] = []
in_last change (frame ∷ frames) = change frame ∷ frames

-- a change of the last frame, or of frame 0
abbrev pub in_frame : Bool → (Frame → Frame) → Data → Data
in_frame true change own = with_calls (in_last change own.calls) own
in_frame false change own = with_members (change own.members) own

-- what remains in the last frame is this
abbrev pub going_on : List Item → Data → Data
going_on items own = with_calls (in_last (with_remaining items) own.calls) own

-- ---- storing

-- the values of the last frame
abbrev pub last_values : List Frame → Entries Value
last_values [] = []
last_values (frame ∷ frames) = frame.values

-- the values of the last frame, or of frame 0
abbrev pub values_in : Bool → Data → Entries Value
values_in true own = last_values own.calls
values_in false own = own.members.values

-- a value goes to a target
abbrev pub store : Test → Target → Value → Data → Outcome Data
store test target v own = outcome_map (λ new. in_frame target.own (λ frame. with_values (put target.reference.name new frame.values) frame) own)
    (assigned test.definitions target.data_type (entry (values_in target.own own) target.reference.name) target.reference.fields v)

-- the type of what a name stands for
abbrev pub type_of_name : Scope → Identifier → Option DataType
type_of_name scope name = type_known (check_meaning scope.definitions (scope.names name)).typing

-- the type of a name that has fields behind it: without fields no type is needed
abbrev pub type_for : List Identifier → Option DataType → Option DataType
type_for [] of = None
type_for (field ∷ fields) of = of

-- what a reference at a site means as a target
abbrev pub target_meant : Test → Site → Reference → Target
target_meant test site reference = record {
  own = is_own test.definitions site reference.name;
  reference = reference;
  data_type = type_for reference.fields (type_of_name (scope_at test.definitions site) reference.name);
}

-- ---- timers

-- a timer that is declared in this frame, or at the component, is in a state
abbrev pub set_timer : Test → Site → Identifier → TimerState → Data → Data
set_timer test site name state own = in_frame (is_own test.definitions site name) (λ frame. with_timers (put name state frame.timers) frame) own
