-- What is stored, declared and set leaves values and timers in their order.
use Rattle.std.proofs.Common.{◌≡◌, ℕ, Bool, true, false, List, [], ◌∷◌}
use Rattle.std.specs.List.{All, zip}
use Rattle.std.proofs.lemmas.List.Elements.{All-cons, All-head, All-tail}
use Rattle.ttcn_syntax.specs.declared.tree.definition.Definition.{Definition}
use Rattle.ttcn_syntax.specs.declared.tree.definition.Parameter.{Parameter}
use Rattle.value_assignment.specs.Assignment.{assigned}
use Rattle.check_rules.specs.Calls.{parameters_of}
use Rattle.check_scope.specs.Names.{kind_at}
use Rattle.laws_steps.proofs.Outcomes.{any-yields, map-yields}
use Rattle.laws_order.proofs.Puts.{none-ordered, put-ordered, without-ordered}
use Rattle.semantics.specs.Branches.{frame_with, with_arguments}
use Rattle.semantics.specs.Configurations.{Data, Frame}
use Rattle.semantics.specs.Entries.{put}
use Rattle.semantics.specs.Items.{Item, Target}
use Rattle.semantics.specs.Order.{HasNamesInOrder}
use Rattle.semantics.specs.Sites.{Site, is_own}
use Rattle.semantics.specs.Snapshots.{Test}
use Rattle.semantics.specs.Storing.{declare, declare_timer, forget, going_on, in_frame, in_last, set_timer, store, values_in, with_calls, with_remaining, with_timers, with_values}
use Rattle.value_types.specs.Frames.{entry}
use Rattle.value_types.specs.Outcomes.{IfYields}
use Rattle.value_types.specs.declared.frame.TimerState.{TimerState}
use Rattle.value_types.specs.declared.frame.TimerState.TheVariants as timer
use Rattle.value_types.specs.declared.value.Value.{Value}

-- ---- frames

pub record IsFrameInOrder (frame : Frame) : Type 0 where
  pub values : HasNamesInOrder frame.values
  pub timers : HasNamesInOrder frame.timers

-- a change leaves the order
abbrev pub KeepsOrder : (Frame → Frame) → Type 0
KeepsOrder change = (frame : Frame) → IsFrameInOrder frame → IsFrameInOrder (change frame)

pub remaining-ordered : (items : List Item) → KeepsOrder (with_remaining items)
remaining-ordered items frame is = record { values = is.values; timers = is.timers }

pub put-value-ordered : (name : List ℕ) (v : Value) → KeepsOrder (λ frame. with_values (put name v frame.values) frame)
put-value-ordered name v frame is = record { values = put-ordered name v frame.values is.values; timers = is.timers }

pub put-timer-ordered : (name : List ℕ) (state : TimerState) → KeepsOrder (λ frame. with_timers (put name state frame.timers) frame)
put-timer-ordered name state frame is = record { values = is.values; timers = put-ordered name state frame.timers is.timers }

pub forget-ordered : (name : List ℕ) → KeepsOrder (forget name)
forget-ordered name frame is = record { values = without-ordered name frame.values is.values; timers = without-ordered name frame.timers is.timers }

pub declare-ordered : (name : List ℕ) (v : Value) → KeepsOrder (declare name v)
declare-ordered name v frame is = record { values = put-ordered name v frame.values is.values; timers = without-ordered name frame.timers is.timers }

pub declare-timer-ordered : (name : List ℕ) → KeepsOrder (declare_timer name)
declare-timer-ordered name frame is = record { values = without-ordered name frame.values is.values; timers = put-ordered name timer.Inactive frame.timers is.timers }

-- ---- new frames

arguments-ordered : (pairs : List (Parameter × Value)) → HasNamesInOrder (with_arguments pairs)
arguments-ordered [] = none-ordered
arguments-ordered (pair ∷ pairs) = put-ordered pair.0.name pair.1 (with_arguments pairs) (arguments-ordered pairs)

pub frame-ordered : (definitions : List Definition) (at : ℕ) (values : List Value) (items : List Item) → IsFrameInOrder (frame_with definitions at values items)
frame-ordered definitions at values items = record { values = arguments-ordered (zip (parameters_of (kind_at definitions at)) values); timers = none-ordered }

-- ---- data

-- a component that has created so many others
pub record IsDataInOrder (children : ℕ) (own : Data) : Type 0 where
  pub members : IsFrameInOrder own.members
  pub calls : All IsFrameInOrder own.calls
  pub count : own.children ≡ children

pub last-ordered : (change : Frame → Frame) → KeepsOrder change → (calls : List Frame) → All IsFrameInOrder calls → All IsFrameInOrder (in_last change calls)
last-ordered change keeps [] all = all
last-ordered change keeps (frame ∷ frames) all =
    All-cons IsFrameInOrder (change frame) frames (keeps frame (All-head IsFrameInOrder frame frames all)) (All-tail IsFrameInOrder frame frames all)

pub calls-ordered : (n : ℕ) (calls : List Frame) (own : Data) → IsDataInOrder n own → All IsFrameInOrder calls → IsDataInOrder n (with_calls calls own)
calls-ordered n calls own is all = record { members = is.members; calls = all; count = is.count }

-- a change of the last frame
pub in-last-ordered : (n : ℕ) (change : Frame → Frame) → KeepsOrder change → (own : Data) → IsDataInOrder n own → IsDataInOrder n (with_calls (in_last change own.calls) own)
in-last-ordered n change keeps own is = calls-ordered n (in_last change own.calls) own is (last-ordered change keeps own.calls is.calls)

pub in-frame-ordered : (n : ℕ) (last : Bool) (change : Frame → Frame) → KeepsOrder change → (own : Data) → IsDataInOrder n own → IsDataInOrder n (in_frame last change own)
in-frame-ordered n true change keeps own is = in-last-ordered n change keeps own is
in-frame-ordered n false change keeps own is = record { members = keeps own.members is.members; calls = is.calls; count = is.count }

pub going-on-ordered : (n : ℕ) (items : List Item) (own : Data) → IsDataInOrder n own → IsDataInOrder n (going_on items own)
going-on-ordered n items own is = in-last-ordered n (with_remaining items) (remaining-ordered items) own is

pub store-ordered : (n : ℕ) (test : Test) (target : Target) (v : Value) (own : Data) → IsDataInOrder n own → IfYields (store test target v own) (IsDataInOrder n)
store-ordered n test target v own is =
    map-yields (λ new. Unit {0}) (IsDataInOrder n) (λ new. in_frame target.own (λ frame. with_values (put target.reference.name new frame.values) frame) own)
    (assigned test.definitions target.data_type (entry (values_in target.own own) target.reference.name) target.reference.fields v)
    (λ new any. in-frame-ordered n target.own (λ frame. with_values (put target.reference.name new frame.values) frame) (put-value-ordered target.reference.name new) own is)
    (any-yields (assigned test.definitions target.data_type (entry (values_in target.own own) target.reference.name) target.reference.fields v))

pub set-timer-ordered : (n : ℕ) (test : Test) (site : Site) (name : List ℕ) (state : TimerState) (own : Data) → IsDataInOrder n own → IsDataInOrder n (set_timer test site name state own)
set-timer-ordered n test site name state own is =
    in-frame-ordered n (is_own test.definitions site name) (λ frame. with_timers (put name state frame.timers) frame) (put-timer-ordered name state) own is
