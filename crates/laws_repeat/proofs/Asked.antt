-- What remains in a component's frames behind its step follows from what remained before.
use Rattle.std.proofs.Common.{◌≡◌, ℕ, Bool, true, false, List, [], ◌∷◌, ◌++◌, Option, Some, None, IfSome, option_map, slice_get, refl, sym, ap, ◌∙◌, inl}
use Rattle.std.specs.List.{All}
use Rattle.std.proofs.lemmas.List.Elements.{All-append, All-cons, All-head, All-nil, All-tail}
use Rattle.ttcn_syntax.specs.declared.tree.definition.Definition.{Definition}
use Rattle.ttcn_syntax.specs.declared.tree.statement.Conditional.{out-Conditional}
use Rattle.ttcn_syntax.specs.declared.tree.statement.Statement.{Statement, out-Statement}
use Rattle.value_assignment.specs.Assignment.{assigned}
use Rattle.check_rules.specs.Calls.{parameters_of}
use Rattle.check_scope.specs.Names.{kind_at}
use Rattle.laws_repeat.proofs.Blocks.{IsClosedBlock, conditional-closed, do-closed, for-closed, for-made, last-closed, made-block, made-block-if, made-both, made-none, made-part, made-waiting, while-closed}
use Rattle.laws_repeat.proofs.Ways.{HasNoMark, IsChanceAt, IsChoiceAt, IsWayAt, alt-ways, choice-at, default-ways}
use Rattle.laws_repeat.specs.Following.{Branched, Called, Follows, GaveBack, IsFollowed, IsNewFrame, IsMade, IsUnmarked, Left, Repeated, Replaced, lists_of, repeated_from, repeated_lists}
use Rattle.laws_steps.proofs.Acting.{Keeps, act-asks, end-asks, part-asks}
use Rattle.laws_steps.proofs.Found.{some-of}
use Rattle.laws_steps.proofs.Outcomes.{any-each, any-yields, map-yields, then-yields, yields-is}
use Rattle.laws_steps.specs.Making.{Makes, MakesBlock, MakesDo, MakesDoAgain, MakesElse, MakesFor, MakesForAgain, MakesTest, MakesWhile}
use Rattle.semantics.specs.Branches.{Chance, Written, written_alt, written_defaults}
use Rattle.semantics.specs.Configurations.{Data, Frame}
use Rattle.semantics.specs.Entries.{put}
use Rattle.semantics.specs.Events.{Effect, Elapses, Plain, Receives, Redirect, Taken}
use Rattle.semantics.specs.Items.{Doing, From, Item, Last, Loop, Part, Target, Waiting, Whole, action_of, items}
use Rattle.semantics.specs.Sites.{Site, beginning, is_own}
use Rattle.semantics.specs.Snapshots.{Snapshot, Test}
use Rattle.semantics.specs.Statements.{Stand, act, choice_at, choose_from, declared, done, judge_at, new_id, reads, remaining, with_child}
use Rattle.semantics.specs.Storing.{declare, declare_timer, forget, going_on, in_frame, in_last, set_timer, store, target_meant, values_in, with_calls, with_remaining, with_timers, with_values}
use Rattle.semantics.specs.Taking.{effected, entered, from_mark, marked, repeat_in, repeated, store_all, taken}
use Rattle.value_types.specs.Frames.{entry}
use Rattle.value_types.specs.Literals.{value_wanted}
use Rattle.value_types.specs.Outcomes.{Fails, IfYields, Outcome, Yields}
use Rattle.value_types.specs.Templates.{arguments}
use Rattle.value_types.specs.declared.frame.TimerState.{TimerState}
use Rattle.value_types.specs.declared.frame.TimerState.TheVariants as timer
use Rattle.value_types.specs.declared.value.Value.{Value}
use Rattle.value_types.specs.declared.value.Value.TheVariants as value

-- ---- what remains in frames

abbrev pub lists : Data → List (List Item)
lists own = lists_of own.calls

lists-append : (frames others : List Frame) → lists_of (frames ++ others) ≡ lists_of frames ++ lists_of others
lists-append [] others = refl
lists-append (frame ∷ frames) others = ap (λ xs. frame.remaining ∷ xs) (lists-append frames others)

abbrev without-last : List (List Item) → List (List Item)
without-last [] = []
without-last (xs ∷ others) = others

-- other items remain in the last of some frames
last-lists : (calls : List Frame) (xs ys : List Item) (under : List (List Item)) → lists_of calls ≡ ys ∷ under → lists_of (in_last (with_remaining xs) calls) ≡ xs ∷ under
last-lists [] xs ys under e = absurd (let is = e in cc)
last-lists (frame ∷ frames) xs ys under e = ap (λ remaining. xs ∷ without-last remaining) e

-- a change that leaves alone what remains
abbrev KeepsRemaining : (Frame → Frame) → Type 0
KeepsRemaining change = (frame : Frame) → (change frame).remaining ≡ frame.remaining

last-kept : (change : Frame → Frame) → KeepsRemaining change → (calls : List Frame) → lists_of (in_last change calls) ≡ lists_of calls
last-kept change keeps [] = refl
last-kept change keeps (frame ∷ frames) = ap (λ xs. xs ∷ lists_of frames) (keeps frame)

frame-kept : (last : Bool) (change : Frame → Frame) → KeepsRemaining change → (own : Data) → lists (in_frame last change own) ≡ lists own
frame-kept true change keeps own = last-kept change keeps own.calls
frame-kept false change keeps own = refl

-- these lists remain
abbrev Holds : List (List Item) → Data → Type 0
Holds remaining own = lists own ≡ remaining

store-kept : (remaining : List (List Item)) (test : Test) (target : Target) (v : Value) (own : Data) → Holds remaining own → IfYields (store test target v own) (Holds remaining)
store-kept remaining test target v own is =
    map-yields (λ new. Unit {0}) (Holds remaining) (λ new. in_frame target.own (λ frame. with_values (put target.reference.name new frame.values) frame) own)
    (assigned test.definitions target.data_type (entry (values_in target.own own) target.reference.name) target.reference.fields v)
    (λ new any. frame-kept target.own (λ frame. with_values (put target.reference.name new frame.values) frame) (λ frame. refl) own ∙ is)
    (any-yields (assigned test.definitions target.data_type (entry (values_in target.own own) target.reference.name) target.reference.fields v))

timer-kept : (remaining : List (List Item)) (test : Test) (site : Site) (name : List ℕ) (state : TimerState) (own : Data) → Holds remaining own → Holds remaining (set_timer test site name state own)
timer-kept remaining test site name state own is = frame-kept (is_own test.definitions site name) (λ frame. with_timers (put name state frame.timers) frame) (λ frame. refl) own ∙ is

all-stored : (remaining : List (List Item)) (test : Test) (site : Site) (redirects : List Redirect) (own : Data) → Holds remaining own → IfYields (store_all test site redirects own) (Holds remaining)
all-stored remaining test site [] own is = is
all-stored remaining test site (redirect ∷ redirects) own is =
    then-yields (Holds remaining) (Holds remaining) (store_all test site redirects) (store test (target_meant test site redirect.reference) redirect.value own)
    (λ next also. all-stored remaining test site redirects next also) (store-kept remaining test (target_meant test site redirect.reference) redirect.value own is)

effect-kept : (remaining : List (List Item)) (test : Test) (site : Site) (effect : Effect) (own : Data) → Holds remaining own → IfYields (effected test site effect own) (Holds remaining)
effect-kept remaining test site Plain own is = is
effect-kept remaining test site (Receives port redirects) own is = all-stored remaining test site redirects own is
effect-kept remaining test site (Elapses name) own is = timer-kept remaining test site name timer.Inactive own is

-- ---- `repeat`

found-lists : (frame : Frame) (frames : List Frame) (found : Option (List Item)) (below : Option (List Frame)) (others : Option (List (List Item))) → option_map lists_of below ≡ others
    → option_map lists_of (repeat_in frame frames found below) ≡ repeated_from (lists_of frames) found others
found-lists frame frames None below others is = is
found-lists frame frames (Some xs) below others is = refl

pub lists-repeated : (calls : List Frame) → option_map lists_of (repeated calls) ≡ repeated_lists (lists_of calls)
lists-repeated [] = refl
lists-repeated (frame ∷ frames) = found-lists frame frames (from_mark frame.remaining) (repeated frames) (repeated_lists (lists_of frames)) (lists-repeated frames)

-- ---- where a component stands

yields-more : (P Q : Data → Type 0) → ((own : Data) → P own → Q own) → (o : Outcome Data) → IfYields o P → IfYields o Q
yields-more P Q more (Yields own) is = more own is
yields-more P Q more (Fails why) is = tt

module _ (stand : Stand) (at-frame : stand.own.calls ≡ stand.frame ∷ stand.below) where
  abbrev ds : List Definition
  ds = stand.test.definitions

  abbrev before : List (List Item)
  before = lists stand.own

  abbrev under : List (List Item)
  under = lists_of stand.below

  -- what remains follows from what remained before
  abbrev Follow : Data → Type 0
  Follow own = Follows ds before (lists own)

  -- these items remain in the last frame
  abbrev In : List Item → Data → Type 0
  In xs own = Holds (xs ∷ under) own

  before-is : before ≡ stand.frame.remaining ∷ under
  before-is = ap lists_of at-frame

  remaining-in : (xs : List Item) → In xs (going_on xs stand.own)
  remaining-in xs = last-lists stand.own.calls xs stand.frame.remaining under before-is

  left : (frames : List Frame) → stand.below ≡ frames → Follow (with_calls frames stand.own)
  left frames is = Left stand.frame.remaining under before-is (sym (ap lists_of is))

  given-back : (frame : Frame) (frames : List Frame) (target : Target) (xs : List Item) (v : Value) → stand.below ≡ frame ∷ frames → frame.remaining ≡ Waiting target ∷ xs
      → IfYields (store stand.test target v (going_on xs (with_calls (frame ∷ frames) stand.own))) Follow
  given-back frame frames target xs v is e =
      let own : Data = going_on xs (with_calls (frame ∷ frames) stand.own) in
      yields-more (Holds (xs ∷ lists_of frames)) Follow
      (λ changed also. GaveBack stand.frame.remaining target xs (lists_of frames) (before-is ∙ ap (λ fs. stand.frame.remaining ∷ lists_of fs) is ∙ ap (λ ys. stand.frame.remaining ∷ ys ∷ lists_of frames) e) also)
      (store stand.test target v own) (store-kept (xs ∷ lists_of frames) stand.test target v own refl)

  repeats : (calls : List Frame) → repeated stand.own.calls ≡ Some calls → Follow (with_calls calls stand.own)
  repeats calls is = Repeated (sym (lists-repeated stand.own.calls) ∙ ap (option_map lists_of) is)

  -- ---- a part of a statement

  module _ (site : Site) (s : Statement) (part : Part) (first : stand.frame.remaining ≡ Doing site s part ∷ stand.rest) where
    before-first : before ≡ (Doing site s part ∷ stand.rest) ∷ under
    before-first = before-is ∙ ap (λ xs. xs ∷ under) first

    replaced : (made : List Item) → IsMade site s made → (own : Data) → In (made ++ stand.rest) own → Follow own
    replaced made is own holds = Replaced site s part made stand.rest under before-first is holds

    -- nothing comes in its place
    over : (own : Data) → In stand.rest own → Follow own
    over own holds = replaced [] (made-none ds site s) own holds

    done-in : In stand.rest (done stand)
    done-in = remaining-in stand.rest

    done-follows : Follow (done stand)
    done-follows = over (done stand) done-in

    -- what it leaves in its place
    made-by : (made : List Item) → Makes ds site s part made → IsMade site s made
    made-by made (MakesBlock k conditionals last c tests e is) =
        made-block ds site s (out-Conditional c).block (λ closed. some-of (λ c. IsClosedBlock ds (out-Conditional c).block) (slice_get conditionals k) c is (conditional-closed ds site s conditionals last k e closed))
    made-by made (MakesTest k conditionals last tests e) = made-part ds site s (From k)
    made-by made (MakesElse conditionals last tests e) = made-block-if ds site s last (last-closed ds site s conditionals last e)
    made-by made (MakesWhile condition block whole e) =
        made-both ds site s (items ds site block) (Doing site s Whole ∷ []) (made-block ds site s block (while-closed ds site s condition block e)) (made-part ds site s Whole)
    made-by made (MakesDo block condition whole e) =
        made-both ds site s (items ds site block) (Doing site s Loop ∷ []) (made-block ds site s block (do-closed ds site s block condition e)) (made-part ds site s Loop)
    made-by made (MakesDoAgain block condition loop e) =
        made-both ds site s (items ds site block) (Doing site s Loop ∷ []) (made-block ds site s block (do-closed ds site s block condition e)) (made-part ds site s Loop)
    made-by made (MakesFor start condition step block whole e) = for-made ds site s start
    made-by made (MakesForAgain start condition step block loop e) =
        made-both ds site s (items ds site block) (Doing site s Last ∷ Doing site s Loop ∷ []) (made-block ds site s block (for-closed ds site s start condition step block e))
        (made-both ds site s (Doing site s Last ∷ []) (Doing site s Loop ∷ []) (made-part ds site s Last) (made-part ds site s Loop))

    declared-in : (change : Frame → Frame) → KeepsRemaining change → In stand.rest (declared stand change)
    declared-in change keeps = last-kept change keeps (done stand).calls ∙ done-in

    -- a frame with the body of a function comes on top
    called : (made : List Item) (own : Data) (frame : Frame) (xs : List Item) → IsMade site s made → In xs own → IsNewFrame ds frame → Follow (with_calls (frame ∷ (going_on (made ++ stand.rest) own).calls) own)
    called made own frame xs is holds new =
        Called site s part made stand.rest under new.0 new.1 before-first is new.2
        (ap (λ ys. ys ∷ lists_of (in_last (with_remaining (made ++ stand.rest)) own.calls)) new.3
        ∙ ap (λ others. items ds (beginning new.0) new.1 ∷ others) (last-lists own.calls (made ++ stand.rest) xs under holds))

    -- ---- alts

    choose-at : (written : List Written) → All (IsWayAt site) written → IsChoiceAt stand.test stand.snapshot stand.own site (choose_from stand written)
    choose-at written all =
        choice-at stand.test stand.snapshot stand.own site (written ++ written_defaults stand.test stand.snapshot stand.own)
        (All-append (IsWayAt site) written (written_defaults stand.test stand.snapshot stand.own) all (default-ways stand.test stand.snapshot stand.own site))

    choose-if : (o : Option (List Written)) → IfSome o (All (IsWayAt site)) → IfSome (option_map (choose_from stand) o) (IsChoiceAt stand.test stand.snapshot stand.own site)
    choose-if None all = tt
    choose-if (Some written) all = choose-at written all

    chosen-at : IfSome (choice_at stand site s) (IsChoiceAt stand.test stand.snapshot stand.own site)
    chosen-at =
        choose-if (written_alt stand.test stand.snapshot stand.own (judge_at stand site) (out-Statement s).place (action_of s))
        (alt-ways stand.test stand.snapshot stand.own (judge_at stand site) (out-Statement s).place (action_of s))

    frames-unmarked : (frames : List Frame) → All HasNoMark frames → All (All IsUnmarked) (lists_of frames)
    frames-unmarked [] all = All-nil (All IsUnmarked)
    frames-unmarked (frame ∷ frames) all =
        All-cons (All IsUnmarked) frame.remaining (lists_of frames) (All-head HasNoMark frame frames all) (frames-unmarked frames (All-tail HasNoMark frame frames all))

    taken-follows : (chance : Chance) (effect : Effect) → IsChanceAt site chance → IfYields (taken stand.test site s stand.rest chance effect stand.own) Follow
    taken-follows chance effect found =
        let xs : List Item = marked site s stand.rest chance.way in
        let after : List (List Item) = lists_of chance.way.frames ++ xs ∷ under in
        let own : Data = with_calls (entered site s stand.rest chance.way stand.own.calls) stand.own in
        yields-more (Holds after) Follow
        (λ changed also. Branched site s part chance.way.block stand.rest under (lists_of chance.way.frames) before-first found.block (frames-unmarked chance.way.frames found.frames) also)
        (effected stand.test chance.judge.site effect own)
        (effect-kept after stand.test chance.judge.site effect own
        (lists-append chance.way.frames (in_last (with_remaining xs) stand.own.calls) ∙ ap (λ others. lists_of chance.way.frames ++ others) (remaining-in xs)))

    -- ---- what each change keeps

    keeps : Keeps stand site s part (IsFollowed ds before) (In stand.rest) (In stand.rest) Follow (λ v. Unit {0}) (IsNewFrame ds)
    keeps = record {
      evaluated = λ v wanted. any-yields (value_wanted v (reads stand site) wanted);
      handed = λ at given. any-each (arguments (reads stand site) (parameters_of (kind_at ds at)) given);
      default_given = λ n. tt;
      does = done-in;
      forgets = λ name. declared-in (forget name) (λ frame. refl);
      opens = λ own holds. holds;
      declares = λ name v given. declared-in (declare name v) (λ frame. refl);
      declares_timer = λ k timers t named e found. declared-in (declare_timer t.name) (λ frame. refl);
      stores = λ target v own given holds. store-kept (stand.rest ∷ under) stand.test target v own holds;
      sets_timer = λ name state. timer-kept (stand.rest ∷ under) stand.test site name state (done stand) done-in;
      activates = λ at values own all holds. holds;
      deactivates = λ stay. done-in;
      deactivates_all = done-in;
      ends = over;
      makes = λ made makes. replaced made (made-by made makes) (remaining stand (made ++ stand.rest)) (remaining-in (made ++ stand.rest));
      begins = λ at body values found all. (at, body, inl found, refl);
      calls = λ frame new fits. called [] stand.own frame stand.frame.remaining (made-none ds site s) before-is new;
      awaits = λ target own frame holds new fits. called (Waiting target ∷ []) own frame stand.rest (made-waiting ds site s target) holds new;
      leaves = λ frame frames is. left (frame ∷ frames) is;
      gives_back = λ frame frames target xs v is e given. given-back frame frames target xs v is e;
      repeats = repeats;
      takes = λ chance effect own whole chosen taken-is fits.
          yields-is Follow (taken stand.test site s stand.rest chance effect stand.own) own taken-is
          (taken-follows chance effect (some-of (IsChoiceAt stand.test stand.snapshot stand.own site) (choice_at stand site s) (Taken chance effect) chosen chosen-at));
      fails = λ why. tt;
      waits = λ whole is. tt;
      continues = λ own is. (tt, is);
      worsens = λ v reasons whole e. ((site, s, stand.rest, under, reasons, before-first ∙ ap (λ p. (Doing site s p ∷ stand.rest) ∷ under) whole, e), done-follows);
      removes = λ port own is. (tt, is);
      sends = λ send v to of meant. (tt, done-follows);
      creates = λ target own at members changed holds made stored. (
        (refl, refl),
        over (with_child changed) (yields-is (In stand.rest) (store stand.test target (value.Component (new_id stand own at)) own) changed stored
            (store-kept (stand.rest ∷ under) stand.test target (value.Component (new_id stand own at)) own holds)),
      );
      starts = λ reference c frame meant new. (new, done-follows);
      stops_itself = (tt, done-follows);
      stops_last = λ is. (tt, left [] is);
      stops = λ reference c meant. (tt, done-follows);
      connects = λ one other c d first second may. (tt, done-follows);
      maps = λ m c meant may. (tt, done-follows);
      unmaps = λ m c meant. (tt, done-follows);
    }

-- ---- steps of a component

-- what remains behind the step of a component's statement, by whatever snapshot
pub asked_followed : (test : Test) (snapshot : Snapshot) (own : Data) → IsFollowed test.definitions (lists own) (act test snapshot own)
asked_followed test snapshot own =
    act-asks test snapshot own (IsFollowed test.definitions (lists own)) (λ why. tt)
    (λ frame below calls nothing. let stand : Stand = record { test = test; snapshot = snapshot; own = own; frame = frame; below = below; rest = [] } in
    end-asks stand (IsFollowed test.definitions (lists own)) (λ why. tt) (λ is. (tt, left stand calls [] is)) (λ last frames is. (tt, left stand calls (last ∷ frames) is)) below refl)
    (λ frame below site s part rest calls first. let stand : Stand = record { test = test; snapshot = snapshot; own = own; frame = frame; below = below; rest = rest } in
    part-asks stand site s part (IsFollowed test.definitions (lists own)) (λ changed. lists changed ≡ rest ∷ lists_of below) (λ changed. lists changed ≡ rest ∷ lists_of below)
    (λ changed. Follows test.definitions (lists own) (lists changed)) (λ v. Unit {0}) (IsNewFrame test.definitions)
    (keeps stand calls site s part first))
