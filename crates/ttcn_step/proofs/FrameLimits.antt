-- A component has no more frames than the limit behind what it asks for.
use Rattle.std.proofs.Common.{lit<, ◌≡◌, ℕ, ◌<◌, arith, Bool, true, false, List, [], ◌∷◌, ◌++◌, length, Option, Some, None, IfSome, subst, refl}
use Rattle.std.proofs.lemmas.Bool.{ltb-true}
use Rattle.value_assignment.specs.Assignment.{assigned}
use Rattle.ttcn_syntax.specs.declared.tree.statement.Statement.{Statement}
use Rattle.check_rules.specs.Calls.{parameters_of}
use Rattle.check_scope.specs.Names.{kind_at}
use Rattle.laws_steps.proofs.Acting.{Keeps, act-asks, end-asks, part-asks}
use Rattle.laws_steps.proofs.Found.{some-of}
use Rattle.laws_steps.proofs.Outcomes.{any-each, any-yields, map-yields, yields-is}
use Rattle.semantics.specs.Configurations.{Data, Frame}
use Rattle.semantics.specs.Entries.{put}
use Rattle.semantics.specs.Items.{Item, Part, Target, Waiting, items}
use Rattle.semantics.specs.Sites.{Site, is_own}
use Rattle.semantics.specs.Snapshots.{Snapshot, Test}
use Rattle.semantics.specs.Statements.{Act, Creates, Errs, Request, Requests, Stand, Waits, act, declared, done, most, new_id, reads}
use Rattle.semantics.specs.Storing.{declare, declare_timer, forget, going_on, in_frame, in_last, set_timer, store, values_in, with_calls, with_remaining, with_timers, with_values}
use Rattle.semantics.specs.Taking.{uncovered, without_marks, from_mark, repeat_in, repeated}
use Rattle.ttcn_step.specs.FrameLimit.{KeepsFrameLimit}
use Rattle.value_types.specs.Literals.{value_wanted}
use Rattle.value_types.specs.Outcomes.{IfYields}
use Rattle.value_types.specs.Templates.{arguments}
use Rattle.value_types.specs.Frames.{entry}
use Rattle.value_types.specs.declared.frame.TimerState.{TimerState}
use Rattle.value_types.specs.declared.value.Value.{Value}
use Rattle.value_types.specs.declared.value.Value.TheVariants as value

-- ---- lists of frames

none-kept : 0 < most
none-kept = lit< tt

-- a change of the last frame leaves the number of frames
last-kept : (change : Frame → Frame) (calls : List Frame) → length calls < most → length (in_last change calls) < most
last-kept change [] is = is
last-kept change (frame ∷ frames) is = is

pub in-frame-kept : (last : Bool) (change : Frame → Frame) (own : Data) → KeepsFrameLimit own → KeepsFrameLimit (in_frame last change own)
in-frame-kept true change own is = last-kept change own.calls is
in-frame-kept false change own is = is

-- so it is where the marks go that come first
pub uncovered-kept : (own : Data) → KeepsFrameLimit own → KeepsFrameLimit (uncovered own)
uncovered-kept own is = last-kept (λ frame. with_remaining (without_marks frame.remaining) frame) own.calls is

pub going-on-kept : (items : List Item) (own : Data) → KeepsFrameLimit own → KeepsFrameLimit (going_on items own)
going-on-kept items own is = last-kept (with_remaining items) own.calls is

store-kept : (test : Test) (target : Target) (v : Value) (own : Data) → KeepsFrameLimit own → IfYields (store test target v own) KeepsFrameLimit
store-kept test target v own is =
    map-yields (λ new. Unit {0}) KeepsFrameLimit (λ new. in_frame target.own (λ frame. with_values (put target.reference.name new frame.values) frame) own)
    (assigned test.definitions target.data_type (entry (values_in target.own own) target.reference.name) target.reference.fields v)
    (λ new any. in-frame-kept target.own (λ frame. with_values (put target.reference.name new frame.values) frame) own is)
    (any-yields (assigned test.definitions target.data_type (entry (values_in target.own own) target.reference.name) target.reference.fields v))

set-timer-kept : (test : Test) (site : Site) (name : List ℕ) (state : TimerState) (own : Data) → KeepsFrameLimit own → KeepsFrameLimit (set_timer test site name state own)
set-timer-kept test site name state own is = in-frame-kept (is_own test.definitions site name) (λ frame. with_timers (put name state frame.timers) frame) own is

-- ---- what is asked for

-- a new component that is asked for has no more frames than the limit
abbrev pub BringsWithinLimit : Request → Type 0
BringsWithinLimit (Creates new) = KeepsFrameLimit new.own
BringsWithinLimit _ = Unit {0}

-- a component has no more frames than the limit behind its step, and so has a new one
abbrev pub AsksWithinLimit : Act → Type 0
AsksWithinLimit Waits = Unit {0}
AsksWithinLimit (Errs why) = Unit {0}
AsksWithinLimit (Requests request own) = BringsWithinLimit request × KeepsFrameLimit own

-- ---- `repeat`

-- `repeat` goes back to a frame that is there
repeat-kept-in : (most_left : ℕ) (frame : Frame) (frames : List Frame) (found : Option (List Item)) (below : Option (List Frame)) → length (frame ∷ frames) < most_left → IfSome below (λ calls. length calls < most_left)
    → IfSome (repeat_in frame frames found below) (λ calls. length calls < most_left)
repeat-kept-in most_left frame frames None below also others = others
repeat-kept-in most_left frame frames (Some items) below also others = also

repeat-kept : (most_left : ℕ) (calls : List Frame) → length calls < most_left → IfSome (repeated calls) (λ calls. length calls < most_left)
repeat-kept most_left [] also = tt
repeat-kept most_left (frame ∷ frames) also =
    repeat-kept-in most_left frame frames (from_mark frame.remaining) (repeated frames) also (repeat-kept most_left frames (omega arith))

-- ---- where a component stands

module _ (stand : Stand) (own : KeepsFrameLimit stand.own) (below : length stand.below < most) (site : Site) (s : Statement) (part : Part) where
  done-kept : KeepsFrameLimit (done stand)
  done-kept = going-on-kept stand.rest stand.own own

  declared-kept : (change : Frame → Frame) → KeepsFrameLimit (declared stand change)
  declared-kept change = last-kept change (done stand).calls done-kept

  keeps : Keeps stand site s part AsksWithinLimit KeepsFrameLimit KeepsFrameLimit KeepsFrameLimit (λ v. Unit {0}) (λ frame. Unit {0})
  keeps = record {
    evaluated = λ v wanted. any-yields (value_wanted v (reads stand site) wanted);
    handed = λ at given. any-each (arguments (reads stand site) (parameters_of (kind_at stand.test.definitions at)) given);
    default_given = λ n. tt;
    does = done-kept;
    forgets = λ name. declared-kept (forget name);
    opens = λ changed is. is;
    declares = λ name v given. declared-kept (declare name v);
    declares_timer = λ k timers t named e found. declared-kept (declare_timer t.name);
    stores = λ target v changed given is. store-kept stand.test target v changed is;
    sets_timer = λ name state. set-timer-kept stand.test site name state (done stand) done-kept;
    activates = λ at values changed all is. is;
    deactivates = λ stay. done-kept;
    deactivates_all = done-kept;
    ends = λ changed is. is;
    makes = λ made makes. going-on-kept (made ++ stand.rest) stand.own own;
    begins = λ at body values found all. tt;
    calls = λ frame begun fits. ltb-true (length (frame ∷ (done stand).calls)) most fits;
    awaits = λ target changed frame is begun fits. ltb-true (length (frame ∷ (going_on (Waiting target ∷ stand.rest) changed).calls)) most fits;
    leaves = λ frame frames under. subst (λ calls. length calls < most) under below;
    gives_back = λ frame frames target xs v under e given.
        store-kept stand.test target v (going_on xs (with_calls (frame ∷ frames) stand.own)) (subst (λ calls. length calls < most) under below);
    repeats = λ calls found. some-of (λ calls. length calls < most) (repeated stand.own.calls) calls found (repeat-kept most stand.own.calls own);
    takes = λ chance effect changed whole chosen taken fits. ltb-true (length changed.calls) most fits;
    fails = λ why. tt;
    waits = λ whole is. tt;
    continues = λ changed is. (tt, is);
    worsens = λ v reasons whole e. (tt, done-kept);
    removes = λ port changed is. (tt, is);
    sends = λ send v to of meant. (tt, done-kept);
    creates = λ target changed at members stored is made stores. (
      none-kept,
      yields-is KeepsFrameLimit (store stand.test target (value.Component (new_id stand changed at)) changed) stored stores (store-kept stand.test target (value.Component (new_id stand changed at)) changed is),
    );
    starts = λ reference c frame meant begun. (tt, done-kept);
    stops_itself = (tt, done-kept);
    stops_last = λ under. (tt, none-kept);
    stops = λ reference c meant. (tt, done-kept);
    connects = λ one other c d first second may. (tt, done-kept);
    maps = λ m c meant may. (tt, done-kept);
    unmaps = λ m c meant. (tt, done-kept);
  }

-- ---- steps of a component

below-less : (limit : ℕ) (frame : Frame) (below : List Frame) → length (frame ∷ below) < limit → length below < limit
below-less limit frame below is = omega arith

-- a component asks for no more frames than the limit, where it has no more
pub asked-kept : (test : Test) (snapshot : Snapshot) (own : Data) → KeepsFrameLimit own → AsksWithinLimit (act test snapshot own)
asked-kept test snapshot own is =
    act-asks test snapshot own AsksWithinLimit (λ why. tt)
    (λ frame below calls nothing.
    end-asks (record { test = test; snapshot = snapshot; own = own; frame = frame; below = below; rest = [] }) AsksWithinLimit (λ why. tt) (λ under. (tt, none-kept))
    (λ last frames under. (tt, subst (λ fs. length fs < most) under (under-kept frame below calls))) below refl)
    (λ frame below site s part rest calls first.
    let stand : Stand = record { test = test; snapshot = snapshot; own = own; frame = frame; below = below; rest = rest } in
    part-asks stand site s part AsksWithinLimit KeepsFrameLimit KeepsFrameLimit KeepsFrameLimit (λ v. Unit {0}) (λ f. Unit {0}) (keeps stand is (under-kept frame below calls) site s part))
  where
    under-kept : (frame : Frame) (below : List Frame) → own.calls ≡ frame ∷ below → length below < most
    under-kept frame below calls = below-less most frame below (subst (λ fs. length fs < most) calls is)
