-- What a component asks for is in order.
use Rattle.std.proofs.Common.{◌≡◌, subst, ℕ, ◌+◌, List, [], ◌∷◌, ◌++◌, Option, Some, None, IfSome, option_map, refl, ap}
use Rattle.std.specs.List.{All}
use Rattle.std.proofs.lemmas.List.Elements.{All-append, All-nil, All-cons, All-head, All-tail}
use Rattle.ttcn_syntax.specs.declared.tree.statement.Statement.{Statement, out-Statement}
use Rattle.check_rules.specs.Calls.{parameters_of}
use Rattle.check_scope.specs.Names.{kind_at}
use Rattle.laws_order.proofs.Members.{members-ordered}
use Rattle.laws_steps.proofs.Acting.{Keeps, act-asks, end-asks, part-asks}
use Rattle.laws_steps.proofs.Found.{some-of}
use Rattle.laws_steps.proofs.Outcomes.{any-each, any-yields, then-yields, yields-is}
use Rattle.laws_order.proofs.Stored.{IsDataInOrder, IsFrameInOrder, KeepsOrder, calls-ordered, declare-ordered, declare-timer-ordered, forget-ordered, frame-ordered, going-on-ordered, in-last-ordered, last-ordered, remaining-ordered, set-timer-ordered, store-ordered}
use Rattle.laws_order.proofs.Unmarked.{HasNone, block-none}
use Rattle.laws_order.proofs.Ways.{HasFramesInOrder, IsChoiceInOrder, IsWayInOrder, alt-ordered, choice-ordered, defaults-ordered}
use Rattle.semantics.specs.Branches.{Chance, Written, written_alt, written_defaults}
use Rattle.semantics.specs.Configurations.{Data, Frame, path_of}
use Rattle.semantics.specs.Creating.{child_of, new_members}
use Rattle.semantics.specs.Events.{Effect, Elapses, Plain, Receives, Redirect, Taken}
use Rattle.semantics.specs.Items.{Item, Part, Waiting, action_of, items}
use Rattle.semantics.specs.Sites.{Site, beginning}
use Rattle.semantics.specs.Snapshots.{Snapshot, Test}
use Rattle.semantics.specs.Statements.{Act, Connects, Continues, Creates, Errs, Maps, Removes, Requests, Sends, Stand, Starts, Stops, Unmaps, Waits, Worsens, act, choice_at, choose_from, declared, done, judge_at, new_id, reads, with_child}
use Rattle.semantics.specs.Storing.{declare, declare_timer, forget, going_on, in_last, store, target_meant, with_calls, with_remaining}
use Rattle.semantics.specs.Taking.{effected, entered, from_mark, marked, repeat_in, repeated, store_all, taken}
use Rattle.value_types.specs.Literals.{value_wanted}
use Rattle.value_types.specs.Outcomes.{IfYields}
use Rattle.value_types.specs.Templates.{arguments}
use Rattle.value_types.specs.declared.frame.TimerState.TheVariants as timer
use Rattle.value_types.specs.declared.value.ComponentId.{ComponentId}
use Rattle.value_types.specs.declared.value.Value.TheVariants as value

-- what a component that has created so many others asks for: its data are in order, and so is what starts or is new
abbrev pub IsAskedInOrder : ComponentId → ℕ → Act → Type 0
IsAskedInOrder itself n Waits = Unit {0}
IsAskedInOrder itself n (Errs why) = Unit {0}
IsAskedInOrder itself n (Requests Continues own) = IsDataInOrder n own
IsAskedInOrder itself n (Requests (Worsens v) own) = IsDataInOrder n own
IsAskedInOrder itself n (Requests (Removes port) own) = IsDataInOrder n own
IsAskedInOrder itself n (Requests (Sends port to v) own) = IsDataInOrder n own
IsAskedInOrder itself n (Requests (Creates new) own) = (path_of new ≡ child_of itself n) × IsFrameInOrder new.own.members × (new.own.calls ≡ []) × (new.own.children ≡ 0) × IsDataInOrder (n + 1) own
IsAskedInOrder itself n (Requests (Starts path frame) own) = IsFrameInOrder frame × HasNone frame.remaining × IsDataInOrder n own
IsAskedInOrder itself n (Requests (Stops path) own) = IsDataInOrder n own
IsAskedInOrder itself n (Requests (Connects d e) own) = IsDataInOrder n own
IsAskedInOrder itself n (Requests (Maps d system_port) own) = IsDataInOrder n own
IsAskedInOrder itself n (Requests (Unmaps d system_port) own) = IsDataInOrder n own

-- the frame of a call is in order, and begins with no mark
abbrev pub IsNewFrame : Frame → Type 0
IsNewFrame frame = IsFrameInOrder frame × HasNone frame.remaining

-- ---- `repeat`

repeat-ordered-in : (frame : Frame) (frames : List Frame) (found : Option (List Item)) (below : Option (List Frame)) → All IsFrameInOrder (frame ∷ frames) → IfSome below (All IsFrameInOrder)
    → IfSome (repeat_in frame frames found below) (All IsFrameInOrder)
repeat-ordered-in frame frames None below all others = others
repeat-ordered-in frame frames (Some items) below all others =
    All-cons IsFrameInOrder (with_remaining items frame) frames (remaining-ordered items frame (All-head IsFrameInOrder frame frames all)) (All-tail IsFrameInOrder frame frames all)

repeat-ordered : (calls : List Frame) → All IsFrameInOrder calls → IfSome (repeated calls) (All IsFrameInOrder)
repeat-ordered [] all = tt
repeat-ordered (frame ∷ frames) all =
    repeat-ordered-in frame frames (from_mark frame.remaining) (repeated frames) all (repeat-ordered frames (All-tail IsFrameInOrder frame frames all))

-- ---- where a component stands

module _ (n : ℕ) (stand : Stand) (own : IsDataInOrder n stand.own) (below : All IsFrameInOrder stand.below) where
  abbrev Asks : Act → Type 0
  Asks asked = IsAskedInOrder stand.snapshot.itself n asked

  remaining-in-order : (items : List Item) → IsDataInOrder n (going_on items stand.own)
  remaining-in-order items = going-on-ordered n items stand.own own

  done-ordered : IsDataInOrder n (done stand)
  done-ordered = remaining-in-order stand.rest

  declared-ordered : (change : Frame → Frame) → KeepsOrder change → IsDataInOrder n (declared stand change)
  declared-ordered change keeps = in-last-ordered n change keeps (done stand) done-ordered

  left-ordered : (frames : List Frame) → All IsFrameInOrder frames → IsDataInOrder n (with_calls frames stand.own)
  left-ordered frames all = calls-ordered n frames stand.own own all

  child-ordered : (changed : Data) → IsDataInOrder n changed → IsDataInOrder (n + 1) (with_child changed)
  child-ordered changed is = record { members = is.members; calls = is.calls; count = ap (λ m. m + 1) is.count }

  -- ---- alts

  choose-ordered : (written : List Written) → All IsWayInOrder written → IsChoiceInOrder (choose_from stand written)
  choose-ordered written all =
      choice-ordered stand.test stand.snapshot stand.own (written ++ written_defaults stand.test stand.snapshot stand.own)
      (All-append IsWayInOrder written (written_defaults stand.test stand.snapshot stand.own) all (defaults-ordered stand.test stand.snapshot stand.own))

  choose-if : (o : Option (List Written)) → IfSome o (All IsWayInOrder) → IfSome (option_map (choose_from stand) o) IsChoiceInOrder
  choose-if None all = tt
  choose-if (Some written) all = choose-ordered written all

  chosen-ordered : (site : Site) (s : Statement) → IfSome (choice_at stand site s) IsChoiceInOrder
  chosen-ordered site s =
      choose-if (written_alt stand.test stand.snapshot stand.own (judge_at stand site) (out-Statement s).place (action_of s))
      (alt-ordered stand.test stand.snapshot stand.own (judge_at stand site) (out-Statement s).place (action_of s))

  all-stored : (site : Site) (redirects : List Redirect) (changed : Data) → IsDataInOrder n changed → IfYields (store_all stand.test site redirects changed) (IsDataInOrder n)
  all-stored site [] changed is = is
  all-stored site (redirect ∷ redirects) changed is =
      then-yields (IsDataInOrder n) (IsDataInOrder n) (store_all stand.test site redirects) (store stand.test (target_meant stand.test site redirect.reference) redirect.value changed)
      (λ next ordered. all-stored site redirects next ordered) (store-ordered n stand.test (target_meant stand.test site redirect.reference) redirect.value changed is)

  effect-ordered : (site : Site) (effect : Effect) (changed : Data) → IsDataInOrder n changed → IfYields (effected stand.test site effect changed) (IsDataInOrder n)
  effect-ordered site Plain changed is = is
  effect-ordered site (Receives port redirects) changed is = all-stored site redirects changed is
  effect-ordered site (Elapses name) changed is = set-timer-ordered n stand.test site name timer.Inactive changed is

  taken-ordered : (site : Site) (s : Statement) (chance : Chance) (effect : Effect) → HasFramesInOrder chance → IfYields (taken stand.test site s stand.rest chance effect stand.own) (IsDataInOrder n)
  taken-ordered site s chance effect frames =
      effect-ordered chance.judge.site effect (with_calls (entered site s stand.rest chance.way stand.own.calls) stand.own)
      (calls-ordered n (entered site s stand.rest chance.way stand.own.calls) stand.own own
      (All-append IsFrameInOrder chance.way.frames (in_last (with_remaining (marked site s stand.rest chance.way)) stand.own.calls) frames
      (last-ordered (with_remaining (marked site s stand.rest chance.way)) (remaining-ordered (marked site s stand.rest chance.way)) stand.own.calls own.calls)))

  -- ---- what each change keeps

  keeps : (site : Site) (s : Statement) (part : Part) → Keeps stand site s part Asks (IsDataInOrder n) (IsDataInOrder n) (IsDataInOrder n) (λ v. Unit {0}) IsNewFrame
  keeps site s part = record {
    evaluated = λ v wanted. any-yields (value_wanted v (reads stand site) wanted);
    handed = λ at given. any-each (arguments (reads stand site) (parameters_of (kind_at stand.test.definitions at)) given);
    default_given = λ number. tt;
    does = done-ordered;
    forgets = λ name. declared-ordered (forget name) (forget-ordered name);
    opens = λ changed is. is;
    declares = λ name v given. declared-ordered (declare name v) (declare-ordered name v);
    declares_timer = λ k timers t named e found. declared-ordered (declare_timer t.name) (declare-timer-ordered t.name);
    stores = λ target v changed given is. store-ordered n stand.test target v changed is;
    sets_timer = λ name state. set-timer-ordered n stand.test site name state (done stand) done-ordered;
    activates = λ at values changed all is. record { members = is.members; calls = is.calls; count = is.count };
    deactivates = λ stay. record { members = done-ordered.members; calls = done-ordered.calls; count = done-ordered.count };
    deactivates_all = record { members = done-ordered.members; calls = done-ordered.calls; count = done-ordered.count };
    ends = λ changed is. is;
    makes = λ made makes. remaining-in-order (made ++ stand.rest);
    begins = λ at body values is all. (frame-ordered stand.test.definitions at values (items stand.test.definitions (beginning at) body), block-none stand.test.definitions (beginning at) body);
    calls = λ frame new fits. left-ordered (frame ∷ (done stand).calls) (All-cons IsFrameInOrder frame (done stand).calls new.0 done-ordered.calls);
    awaits = λ target changed frame is new fits. calls-ordered n (frame ∷ (going_on (Waiting target ∷ stand.rest) changed).calls) changed is
        (All-cons IsFrameInOrder frame (going_on (Waiting target ∷ stand.rest) changed).calls new.0
        (last-ordered (with_remaining (Waiting target ∷ stand.rest)) (remaining-ordered (Waiting target ∷ stand.rest)) changed.calls is.calls));
    leaves = λ frame frames under. left-ordered (frame ∷ frames) (subst (All IsFrameInOrder) under below);
    gives_back = λ frame frames target xs v under e given.
        store-ordered n stand.test target v (going_on xs (with_calls (frame ∷ frames) stand.own))
        (going-on-ordered n xs (with_calls (frame ∷ frames) stand.own) (left-ordered (frame ∷ frames) (subst (All IsFrameInOrder) under below)));
    repeats = λ calls found. left-ordered calls (some-of (All IsFrameInOrder) (repeated stand.own.calls) calls found (repeat-ordered stand.own.calls own.calls));
    takes = λ chance effect changed whole chosen taken-is fits.
        let is : IsDataInOrder n changed =
        yields-is (IsDataInOrder n) (taken stand.test site s stand.rest chance effect stand.own) changed taken-is
        (taken-ordered site s chance effect (some-of IsChoiceInOrder (choice_at stand site s) (Taken chance effect) chosen (chosen-ordered site s))) in
        calls-ordered n changed.calls changed is is.calls;
    fails = λ why. tt;
    waits = λ whole is. tt;
    continues = λ changed is. is;
    worsens = λ v reasons whole e. done-ordered;
    removes = λ port changed is. is;
    sends = λ send v to of meant. done-ordered;
    creates = λ target changed at members stored is made stores. (
      ap (child_of stand.snapshot.itself) is.count,
      yields-is IsFrameInOrder (new_members stand.test (new_id stand changed at) stand.snapshot) members made (members-ordered stand.test (new_id stand changed at) stand.snapshot),
      refl,
      refl,
      child-ordered stored (yields-is (IsDataInOrder n) (store stand.test target (value.Component (new_id stand changed at)) changed) stored stores (store-ordered n stand.test target (value.Component (new_id stand changed at)) changed is)),
    );
    starts = λ reference c frame meant new. (new.0, new.1, done-ordered);
    stops_itself = done-ordered;
    stops_last = λ under. left-ordered [] (All-nil IsFrameInOrder);
    stops = λ reference c meant. done-ordered;
    connects = λ one other c d first second may. done-ordered;
    maps = λ m c meant may. done-ordered;
    unmaps = λ m c meant. done-ordered;
  }

-- a component asks for what is in order, where its data are
pub asked-ordered : (n : ℕ) (test : Test) (snapshot : Snapshot) (own : Data) → IsDataInOrder n own → IsAskedInOrder snapshot.itself n (act test snapshot own)
asked-ordered n test snapshot own is =
    act-asks test snapshot own (IsAskedInOrder snapshot.itself n) (λ why. tt)
    (λ frame below calls nothing. let stand : Stand = record { test = test; snapshot = snapshot; own = own; frame = frame; below = below; rest = [] } in
    end-asks stand (IsAskedInOrder snapshot.itself n) (λ why. tt) (λ under. left-ordered n stand is (under-ordered frame below calls) [] (All-nil IsFrameInOrder))
    (λ last frames under. left-ordered n stand is (under-ordered frame below calls) (last ∷ frames) (subst (All IsFrameInOrder) under (under-ordered frame below calls))) below refl)
    (λ frame below site s part rest calls first. let stand : Stand = record { test = test; snapshot = snapshot; own = own; frame = frame; below = below; rest = rest } in
    part-asks stand site s part (IsAskedInOrder snapshot.itself n) (IsDataInOrder n) (IsDataInOrder n) (IsDataInOrder n) (λ v. Unit {0}) IsNewFrame
    (keeps n stand is (under-ordered frame below calls) site s part))
  where
    under-ordered : (frame : Frame) (below : List Frame) → own.calls ≡ frame ∷ below → All IsFrameInOrder below
    under-ordered frame below calls = All-tail IsFrameInOrder frame below (subst (All IsFrameInOrder) calls is.calls)
