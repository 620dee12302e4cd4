-- What is stored, declared and set refers to nothing else than before, and what is stored.
use Rattle.std.proofs.Common.{ℕ, Bool, true, false, not, List, [], ◌∷◌, bytes_eq, Option, Some, None, IfSome, option_map}
use Rattle.std.specs.List.{All, find, zip}
use Rattle.std.specs.Option.{option_or}
use Rattle.std.specs.Ordering.{match_ordering}
use Rattle.std.specs.declared.cmp.Ordering.{Ordering}
use Rattle.std.specs.declared.cmp.Ordering.TheVariants.{Less, Equal, Greater}
use Rattle.std.proofs.lemmas.List.Elements.{All-cons, All-filter, All-head, All-nil, All-tail}
use Rattle.ttcn_syntax.specs.declared.tree.definition.Definition.{Definition}
use Rattle.ttcn_syntax.specs.declared.tree.definition.Parameter.{Parameter}
use Rattle.value_assignment.specs.Assignment.{assigned}
use Rattle.check_rules.specs.Calls.{parameters_of}
use Rattle.check_scope.specs.Names.{kind_at}
use Rattle.laws_references.proofs.Assigned.{assigned-gives}
use Rattle.laws_references.proofs.Values.{StateRefersTo, zip-last}
use Rattle.laws_references.specs.References.{DataReferTo, EntriesReferTo, FrameRefersTo, RefersTo}
use Rattle.laws_steps.proofs.Found.{found-each}
use Rattle.laws_steps.proofs.Outcomes.{map-yields}
use Rattle.semantics.specs.Branches.{frame_with, with_arguments}
use Rattle.semantics.specs.Configurations.{Data, Frame}
use Rattle.semantics.specs.Entries.{Entries, name_cmp, put, without}
use Rattle.semantics.specs.Items.{Item, Target}
use Rattle.semantics.specs.Sites.{Site, is_own}
use Rattle.semantics.specs.Snapshots.{Test}
use Rattle.semantics.specs.Storing.{declare, declare_timer, forget, going_on, in_frame, in_last, last_values, set_timer, store, values_in, with_calls, with_remaining, with_timers, with_values}
use Rattle.value_types.specs.Frames.{entry, seen_entry}
use Rattle.value_types.specs.Outcomes.{IfYields}
use Rattle.value_types.specs.declared.frame.TimerState.{TimerState}
use Rattle.value_types.specs.declared.value.ComponentId.{ComponentId}
use Rattle.value_types.specs.declared.value.Value.{Value}

module _ (P : ComponentId → Type 0) where
  -- ---- entries

  put-first : (name : List ℕ) (v : Value) (e : List ℕ × Value) (entries : Entries Value) (o : Ordering) → RefersTo P v → EntriesReferTo P (e ∷ entries) → EntriesReferTo P (put name v entries)
      → EntriesReferTo P (match_ordering o ((name, v) ∷ e ∷ entries) ((name, v) ∷ entries) (e ∷ put name v entries))
  put-first name v e entries Less new all others = All-cons (λ e. RefersTo P e.1) (name, v) (e ∷ entries) new all
  put-first name v e entries Equal new all others = All-cons (λ e. RefersTo P e.1) (name, v) entries new (All-tail (λ e. RefersTo P e.1) e entries all)
  put-first name v e entries Greater new all others = All-cons (λ e. RefersTo P e.1) e (put name v entries) (All-head (λ e. RefersTo P e.1) e entries all) others

  pub put-refers : (name : List ℕ) (v : Value) (entries : Entries Value) → RefersTo P v → EntriesReferTo P entries → EntriesReferTo P (put name v entries)
  put-refers name v [] new all = All-cons (λ e. RefersTo P e.1) (name, v) [] new (All-nil (λ e. RefersTo P e.1))
  put-refers name v (e ∷ entries) new all =
      put-first name v e entries (name_cmp name e.0) new all (put-refers name v entries new (All-tail (λ e. RefersTo P e.1) e entries all))

  without-refers : (name : List ℕ) (entries : Entries Value) → EntriesReferTo P entries → EntriesReferTo P (without name entries)
  without-refers name entries all = All-filter (λ e. not (bytes_eq e.0 name)) (λ e. RefersTo P e.1) entries all

  entry-value : (o : Option (List ℕ × Value)) → IfSome o (λ e. RefersTo P e.1) → StateRefersTo P (option_map (λ e. e.1) o)
  entry-value None is = tt
  entry-value (Some e) is = is

  entry-refers : (entries : Entries Value) (name : List ℕ) → EntriesReferTo P entries → StateRefersTo P (entry entries name)
  entry-refers entries name all = entry-value (find (λ e. bytes_eq e.0 name) entries) (found-each (λ e. RefersTo P e.1) (λ e. bytes_eq e.0 name) entries all)

  either-refers : (o other : Option Value) → StateRefersTo P o → StateRefersTo P other → StateRefersTo P (option_or o other)
  either-refers None other is also = also
  either-refers (Some v) other is also = is

  pub seen-refers : (inner outer : Entries Value) (name : List ℕ) → EntriesReferTo P inner → EntriesReferTo P outer → StateRefersTo P (seen_entry inner outer name)
  seen-refers inner outer name one other = either-refers (entry inner name) (entry outer name) (entry-refers inner name one) (entry-refers outer name other)

  -- ---- frames

  -- a change adds no other references
  abbrev pub KeepsReferences : (Frame → Frame) → Type 0
  KeepsReferences change = (frame : Frame) → FrameRefersTo P frame → FrameRefersTo P (change frame)

  pub remaining-keeps : (items : List Item) → KeepsReferences (with_remaining items)
  remaining-keeps items frame is = is

  pub put-value-keeps : (name : List ℕ) (v : Value) → RefersTo P v → KeepsReferences (λ frame. with_values (put name v frame.values) frame)
  put-value-keeps name v new frame is = put-refers name v frame.values new is

  pub put-timer-keeps : (name : List ℕ) (state : TimerState) → KeepsReferences (λ frame. with_timers (put name state frame.timers) frame)
  put-timer-keeps name state frame is = is

  pub forget-keeps : (name : List ℕ) → KeepsReferences (forget name)
  forget-keeps name frame is = without-refers name frame.values is

  pub declare-keeps : (name : List ℕ) (v : Value) → RefersTo P v → KeepsReferences (declare name v)
  declare-keeps name v new frame is = put-refers name v frame.values new is

  pub declare-timer-keeps : (name : List ℕ) → KeepsReferences (declare_timer name)
  declare-timer-keeps name frame is = without-refers name frame.values is

  -- ---- new frames

  arguments-refer : (pairs : List (Parameter × Value)) → All (λ pair. RefersTo P pair.1) pairs → EntriesReferTo P (with_arguments pairs)
  arguments-refer [] all = All-nil (λ e. RefersTo P e.1)
  arguments-refer (pair ∷ pairs) all =
      put-refers pair.0.name pair.1 (with_arguments pairs) (All-head (λ pair. RefersTo P pair.1) pair pairs all) (arguments-refer pairs (All-tail (λ pair. RefersTo P pair.1) pair pairs all))

  pub frame-refers : (definitions : List Definition) (at : ℕ) (values : List Value) (items : List Item) → All (RefersTo P) values → FrameRefersTo P (frame_with definitions at values items)
  frame-refers definitions at values items all =
      arguments-refer (zip (parameters_of (kind_at definitions at)) values) (zip-last (RefersTo P) (parameters_of (kind_at definitions at)) values all)

  -- ---- data

  pub last-refers : (change : Frame → Frame) → KeepsReferences change → (calls : List Frame) → All (FrameRefersTo P) calls → All (FrameRefersTo P) (in_last change calls)
  last-refers change keeps [] all = all
  last-refers change keeps (frame ∷ frames) all =
      All-cons (FrameRefersTo P) (change frame) frames (keeps frame (All-head (FrameRefersTo P) frame frames all)) (All-tail (FrameRefersTo P) frame frames all)

  pub calls-refer : (calls : List Frame) (own : Data) → DataReferTo P own → All (FrameRefersTo P) calls → DataReferTo P (with_calls calls own)
  calls-refer calls own is all = record { members = is.members; calls = all; defaults = is.defaults }

  -- a change of the last frame
  pub in-last-refers : (change : Frame → Frame) → KeepsReferences change → (own : Data) → DataReferTo P own → DataReferTo P (with_calls (in_last change own.calls) own)
  in-last-refers change keeps own is = calls-refer (in_last change own.calls) own is (last-refers change keeps own.calls is.calls)

  in-frame-refers : (last : Bool) (change : Frame → Frame) → KeepsReferences change → (own : Data) → DataReferTo P own → DataReferTo P (in_frame last change own)
  in-frame-refers true change keeps own is = in-last-refers change keeps own is
  in-frame-refers false change keeps own is = record { members = keeps own.members is.members; calls = is.calls; defaults = is.defaults }

  pub going-on-refers : (items : List Item) (own : Data) → DataReferTo P own → DataReferTo P (going_on items own)
  going-on-refers items own is = in-last-refers (with_remaining items) (remaining-keeps items) own is

  -- ---- storing

  last-values-refer : (calls : List Frame) → All (FrameRefersTo P) calls → EntriesReferTo P (last_values calls)
  last-values-refer [] all = All-nil (λ e. RefersTo P e.1)
  last-values-refer (frame ∷ frames) all = All-head (FrameRefersTo P) frame frames all

  values-refer : (last : Bool) (own : Data) → DataReferTo P own → EntriesReferTo P (values_in last own)
  values-refer true own is = last-values-refer own.calls is.calls
  values-refer false own is = is.members

  pub store-refers : (test : Test) (target : Target) (v : Value) (own : Data) → RefersTo P v → DataReferTo P own → IfYields (store test target v own) (DataReferTo P)
  store-refers test target v own of is =
      map-yields (RefersTo P) (DataReferTo P) (λ new. in_frame target.own (λ frame. with_values (put target.reference.name new frame.values) frame) own)
      (assigned test.definitions target.data_type (entry (values_in target.own own) target.reference.name) target.reference.fields v)
      (λ new also. in-frame-refers target.own (λ frame. with_values (put target.reference.name new frame.values) frame) (put-value-keeps target.reference.name new also) own is)
      (assigned-gives P test.definitions target.data_type (entry (values_in target.own own) target.reference.name) target.reference.fields v
      (entry-refers (values_in target.own own) target.reference.name (values-refer target.own own is)) of)

  pub set-timer-refers : (test : Test) (site : Site) (name : List ℕ) (state : TimerState) (own : Data) → DataReferTo P own → DataReferTo P (set_timer test site name state own)
  set-timer-refers test site name state own is =
      in-frame-refers (is_own test.definitions site name) (λ frame. with_timers (put name state frame.timers) frame) (put-timer-keeps name state) own is
