-- What a component asks for breaks no rule.
use Rattle.std.proofs.Common.{◌≡◌, ℕ, List, [], ◌∷◌, ◌++◌, Option, Some, None, IfSome, IsSomeAnd, option_map, slice_get, refl, sym, subst}
use Rattle.std.specs.List.{All}
use Rattle.std.proofs.lemmas.List.Elements.{All-append, All-cons, All-head, All-nil, All-tail}
use Rattle.ttcn_syntax.specs.declared.tree.definition.Definition.{Definition}
use Rattle.ttcn_syntax.specs.declared.tree.statement.Action.TheOpen.{Action-F}
use Rattle.ttcn_syntax.specs.declared.tree.statement.Conditional.{out-Conditional}
use Rattle.ttcn_syntax.specs.declared.tree.statement.Statement.{Statement, out-Statement}
use Rattle.ttcn_syntax.specs.declared.tree.statement.Timer.{Timer}
use Rattle.check_rules.specs.Calls.{parameters_of}
use Rattle.check_rules.specs.Targets.{check_timer_name}
use Rattle.check_scope.specs.Names.{kind_at}
use Rattle.check_rules.specs.Statements.{statements}
use Rattle.laws_sites.proofs.Blocks.{block-fine, block-fine-if, for-fine, parts-of, place}
use Rattle.laws_sites.proofs.Frames.{AreOpen, IsDataIn, IsFineData, KeepsFrame, all-in, declare-kept, declare-timer-kept, effect-kept, entered-in, forget-kept, last-kept, last-remaining, open-in, set-timer-kept, store-kept}
use Rattle.laws_sites.proofs.Outside.{Begins, beginning-fine, body-fine}
use Rattle.laws_sites.proofs.Ports.{new-queues}
use Rattle.laws_sites.proofs.Repeats.{repeat-each}
use Rattle.laws_sites.proofs.Sites.{new-free}
use Rattle.laws_sites.proofs.Ways.{IsFineChance, IsFineChoice, IsFineWay, alt-fine, choice-fine, defaults-fine, new-frame}
use Rattle.laws_sites.specs.Standing.{BreaksNone, IsFineComponent, IsFineFrame, IsFineItem, IsFineLoop, IsFineName, IsFinePart, IsFineSite, IsFineStep, IsFrameOf, IsIf}
use Rattle.laws_statements.specs.Parts.{HasFineParts, IsFineConditional}
use Rattle.laws_steps.proofs.Acting.{Keeps, act-asks, end-asks, part-asks}
use Rattle.laws_steps.proofs.Found.{get-each, some-of}
use Rattle.laws_steps.proofs.Outcomes.{any-each, any-yields, yields-is}
use Rattle.laws_steps.specs.Making.{IsTest, Makes, MakesBlock, MakesDo, MakesDoAgain, MakesElse, MakesFor, MakesForAgain, MakesTest, MakesWhile}
use Rattle.laws_statements.proofs.Growing.{new-unseen}
use Rattle.semantics.specs.Branches.{Chance, Written, written_alt, written_defaults}
use Rattle.semantics.specs.Configurations.{Data, Frame}
use Rattle.semantics.specs.Creating.{new_component}
use Rattle.semantics.specs.Events.{Effect, Taken}
use Rattle.semantics.specs.Items.{Does, Doing, From, Item, Last, Loop, Mark, Name, Part, Start, Target, Waiting, Whole, action_of, items}
use Rattle.semantics.specs.Sites.{Site, beginning, scope_at}
use Rattle.semantics.specs.Snapshots.{Snapshot, Test}
use Rattle.semantics.specs.Statements.{Act, Creates, Errs, Request, Requests, Stand, Starts, Waits, act, body_of, choice_at, choose_from, declared, done, judge_at, new_id, reads}
use Rattle.semantics.specs.Storing.{declare, declare_timer, forget, going_on, in_last, store, with_calls, with_remaining}
use Rattle.semantics.specs.Taking.{effected, entered, marked, repeated, taken}
use Rattle.check_rules.specs.Rules.{AreWellTyped}
use Rattle.value_types.specs.Literals.{value_wanted}
use Rattle.value_types.specs.Outcomes.{Fails, IfYields, Outcome, Yields}
use Rattle.value_types.specs.Templates.{arguments}
use Rattle.value_types.specs.declared.value.ComponentId.{ComponentId}
use Rattle.value_types.specs.declared.value.Value.{Value}
use Rattle.value_types.specs.declared.value.Value.TheVariants as value

-- what is asked for brings a component and frames that are fine
abbrev pub IsFineRequest : List Definition → Request → Type 0
IsFineRequest definitions (Creates new) = IsFineComponent definitions new
IsFineRequest definitions (Starts path frame) = IsFineFrame definitions frame
IsFineRequest definitions _ = Unit {0}

-- what a component does: its frames are fine behind the step, and so is what it asks for
abbrev pub IsFineAct : List Definition → Act → Type 0
IsFineAct definitions Waits = Unit {0}
IsFineAct definitions (Errs why) = Unit {0}
IsFineAct definitions (Requests request own) = IsFineRequest definitions request × IsFineData definitions own

-- where the last frame is one of this behaviour
yields-in : (definitions : List Definition) (at : ℕ) (o : Outcome Data) → IfYields o (IsDataIn definitions at) → IfYields o (IsFineData definitions)
yields-in definitions at (Yields own) is = all-in definitions at own.calls is
yields-in definitions at (Fails why) is = tt

-- ---- where a component stands

-- in a frame of the behaviour at a position
pub record StandsIn (at : ℕ) (stand : Stand) : Type 0 where
  pub calls : All (IsFineFrame stand.test.definitions) stand.own.calls
  pub current : AreOpen stand.test.definitions at stand.own.calls
  pub below : All (IsFineFrame stand.test.definitions) stand.below
  pub rest : All (IsFineItem stand.test.definitions at) stand.rest

module _ (stand : Stand) (well : AreWellTyped stand.test.definitions) (at : ℕ) (is : StandsIn at stand) where
  abbrev ds : List Definition
  ds = stand.test.definitions

  abbrev Asks : Act → Type 0
  Asks asked = IsFineAct ds asked

  abbrev Items : List Item → Type 0
  Items xs = All (IsFineItem ds at) xs

  remaining-in : (xs : List Item) → Items xs → IsDataIn ds at (going_on xs stand.own)
  remaining-in xs all = last-remaining ds at xs stand.own.calls is.current all

  goes-on : (xs : List Item) → Items xs → IsFineData ds (going_on xs stand.own)
  goes-on xs all = all-in ds at (going_on xs stand.own).calls (remaining-in xs all)

  done-in : IsDataIn ds at (done stand)
  done-in = remaining-in stand.rest is.rest

  done-fine : IsFineData ds (done stand)
  done-fine = goes-on stand.rest is.rest

  in-front : (xs : List Item) → Items xs → Items (xs ++ stand.rest)
  in-front xs all = All-append (IsFineItem ds at) xs stand.rest all is.rest

  -- ---- frames

  body-items : (behaviour : ℕ) (body : List Statement) → body_of (kind_at ds behaviour) ≡ Some body → All (IsFineItem ds behaviour) (items ds (beginning behaviour) body)
  body-items behaviour body is =
      let fine = some-of (λ b. Begins ds well behaviour (statements b)) (body_of (kind_at ds behaviour)) body is (body-fine ds well behaviour) in
      block-fine ds behaviour body (beginning behaviour) fine.0 (beginning-fine ds well behaviour) fine.1

  new-fine : (new : ComponentId) (members : Frame) → IsFineComponent ds (new_component stand.test new members)
  new-fine new members = record { calls = All-nil (IsFineFrame ds); queues = new-queues ds well new.component_type }

  declared-in : (change : Frame → Frame) → KeepsFrame ds at change → IsDataIn ds at (declared stand change)
  declared-in change keeps = last-kept ds at change keeps (done stand).calls done-in

  result-fine : (frame : Frame) (frames : List Frame) (target : Target) (xs : List Item) (v : Value) → stand.below ≡ frame ∷ frames → frame.remaining ≡ Waiting target ∷ xs
      → IfYields (store stand.test target v (going_on xs (with_calls (frame ∷ frames) stand.own))) (IsFineData ds)
  result-fine frame frames target xs v under e =
      let all : All (IsFineFrame ds) (frame ∷ frames) = subst (All (IsFineFrame ds)) under is.below in
      let first : IsFineFrame ds frame = All-head (IsFineFrame ds) frame frames all in
      let here : IsFrameOf ds first.0 frame = first.1 in
      let own : Data = going_on xs (with_calls (frame ∷ frames) stand.own) in
      yields-in ds first.0 (store stand.test target v own)
      (store-kept ds first.0 stand.test target v own
      (last-remaining ds first.0 xs (frame ∷ frames) (here.timers, All-tail (IsFineFrame ds) frame frames all)
      (All-tail (IsFineItem ds first.0) (Waiting target) xs (subst (All (IsFineItem ds first.0)) e here.items))))

  -- ---- a part of a statement that stands at a site and breaks no rule there

  module _ (site : Site) (s : Statement) (part : Part) (fine : IsFineSite ds at site) (known : IsFinePart ds at (scope_at ds site) s part) where
    known-as : (p : Part) → part ≡ p → IsFinePart ds at (scope_at ds site) s p
    known-as p is = subst (IsFinePart ds at (scope_at ds site) s) is known

    tested : (p : Part) → IsTest p → IsFinePart ds at (scope_at ds site) s p → BreaksNone ds at (scope_at ds site) s
    tested Whole tests fits = fits.1
    tested (From k) tests fits = fits.1
    tested (Name k) tests fits = absurd tests
    tested Start tests fits = absurd tests
    tested Loop tests fits = absurd tests
    tested Last tests fits = absurd tests

    parts-in : (x : Does) → action_of s ≡ x → (none : BreaksNone ds at (scope_at ds site) s) → HasFineParts (place ds at site none.0) x
    parts-in x e none = subst (HasFineParts (place ds at site none.0)) e (parts-of ds at site s none.0 fine none.1)

    -- ---- what it leaves in its place

    again-loop : (x : Does) → action_of s ≡ x → IsFineLoop ds at (scope_at ds site) x → Items (Doing site s Loop ∷ [])
    again-loop x e loop = All-cons (IsFineItem ds at) (Doing site s Loop) [] (fine, subst (IsFineLoop ds at (scope_at ds site)) (sym e) loop) (All-nil (IsFineItem ds at))

    loop-as : (x : Does) → action_of s ≡ x → part ≡ Loop → IsFineLoop ds at (scope_at ds site) x
    loop-as x e loop = subst (IsFineLoop ds at (scope_at ds site)) e (known-as Loop loop)

    made-fine : (made : List Item) → Makes ds site s part made → Items made
    made-fine made (MakesBlock k conditionals last c tests e is) =
        let none : BreaksNone ds at (scope_at ds site) s = tested part tests known in
        let parts = parts-in (Action-F.If conditionals last) e none in
        let each = some-of (IsFineConditional (place ds at site none.0)) (slice_get conditionals k) c is (get-each (IsFineConditional (place ds at site none.0)) conditionals k parts.0) in
        block-fine ds at (out-Conditional c).block site none.0 fine each.block
    made-fine made (MakesTest k conditionals last tests e) =
        All-cons (IsFineItem ds at) (Doing site s (From k)) [] (fine, (subst IsIf (sym e) tt, tested part tests known)) (All-nil (IsFineItem ds at))
    made-fine made (MakesElse conditionals last tests e) =
        let none : BreaksNone ds at (scope_at ds site) s = tested part tests known in
        let parts = parts-in (Action-F.If conditionals last) e none in
        block-fine-if ds at last site none.0 fine parts.1
    made-fine made (MakesWhile condition block whole e) =
        let all : IsFinePart ds at (scope_at ds site) s Whole = known-as Whole whole in
        let parts = parts-in (Action-F.While condition block) e all.1 in
        All-append (IsFineItem ds at) (items ds site block) (Doing site s Whole ∷ []) (block-fine ds at block site all.1.0 fine parts.1)
        (All-cons (IsFineItem ds at) (Doing site s Whole) [] (fine, all) (All-nil (IsFineItem ds at)))
    made-fine made (MakesDo block condition whole e) =
        let all : IsFinePart ds at (scope_at ds site) s Whole = known-as Whole whole in
        let parts = parts-in (Action-F.DoWhile block condition) e all.1 in
        All-append (IsFineItem ds at) (items ds site block) (Doing site s Loop ∷ []) (block-fine ds at block site all.1.0 fine parts.0)
        (again-loop (Action-F.DoWhile block condition) e (all.1.0, parts.0, parts.1))
    made-fine made (MakesDoAgain block condition loop e) =
        let fits = loop-as (Action-F.DoWhile block condition) e loop in
        All-append (IsFineItem ds at) (items ds site block) (Doing site s Loop ∷ []) (block-fine ds at block site fits.0 fine fits.1)
        (again-loop (Action-F.DoWhile block condition) e fits)
    made-fine made (MakesFor start condition step block whole e) =
        let all : IsFinePart ds at (scope_at ds site) s Whole = known-as Whole whole in
        for-fine ds at site s all.1.0 start condition step block [] e fine all.1.1 (parts-in (Action-F.For start condition step block) e all.1) (All-nil (IsFineItem ds at))
    made-fine made (MakesForAgain start condition step block loop e) =
        let fits = loop-as (Action-F.For start condition step block) e loop in
        All-append (IsFineItem ds at) (items ds site block) (Doing site s Last ∷ Doing site s Loop ∷ []) (block-fine ds at block site fits.0 fine fits.1)
        (All-cons (IsFineItem ds at) (Doing site s Last) (Doing site s Loop ∷ []) (fine, subst (IsFineStep (scope_at ds site)) (sym e) fits.3) (again-loop (Action-F.For start condition step block) e fits))

    -- ---- alts

    choose-fine : (written : List Written) → All (IsFineWay ds at) written → IsFineChoice ds at (choose_from stand written)
    choose-fine written all =
        choice-fine stand.test stand.snapshot stand.own at (written ++ written_defaults stand.test stand.snapshot stand.own)
        (All-append (IsFineWay ds at) written (written_defaults stand.test stand.snapshot stand.own) all (defaults-fine stand.test well stand.snapshot stand.own at))

    choose-if : (o : Option (List Written)) → IfSome o (All (IsFineWay ds at)) → IfSome (option_map (choose_from stand) o) (IsFineChoice ds at)
    choose-if None all = tt
    choose-if (Some written) all = choose-fine written all

    chosen-fine : BreaksNone ds at (scope_at ds site) s → IfSome (choice_at stand site s) (IsFineChoice ds at)
    chosen-fine none =
        choose-if (written_alt stand.test stand.snapshot stand.own (judge_at stand site) (out-Statement s).place (action_of s))
        (alt-fine stand.test well stand.snapshot stand.own at (judge_at stand site) none.0 (out-Statement s).place (action_of s) fine (parts-of ds at site s none.0 fine none.1))

    taken-fine : (chance : Chance) (effect : Effect) → IsFinePart ds at (scope_at ds site) s Whole → IsFineChance ds at chance → IfYields (taken stand.test site s stand.rest chance effect stand.own) (IsFineData ds)
    taken-fine chance effect whole found =
        let xs : List Item = marked site s stand.rest chance.way in
        let all : Items xs = All-append (IsFineItem ds at) chance.way.block (Mark site s ∷ stand.rest) found.block (All-cons (IsFineItem ds at) (Mark site s) stand.rest (fine, whole) is.rest) in
        let own : Data = with_calls (entered site s stand.rest chance.way stand.own.calls) stand.own in
        let into = entered-in ds at chance.judge.site chance.way.frames (in_last (with_remaining xs) stand.own.calls) found.site found.frames (remaining-in xs all) in
        yields-in ds into.0 (effected stand.test chance.judge.site effect own) (effect-kept stand.test well into.0 chance.judge.site effect own into.1 into.2)

    -- ---- timers

    timer-in : (k : ℕ) (timers : List Timer) (t : Timer) → part ≡ Name k → action_of s ≡ Action-F.Timers timers → slice_get timers k ≡ Some t → IsDataIn ds at (declared stand (declare_timer t.name))
    timer-in k timers t named e found =
        let new : IsFineName (scope_at ds site) k (Action-F.Timers timers) = subst (IsFineName (scope_at ds site) k) e (known-as (Name k) named) in
        declared-in (declare_timer t.name) (declare-timer-kept ds at t.name (new-free ds at site t.name fine (new-unseen (scope_at ds site).names t.name
        (subst (λ o. IsSomeAnd o (λ t. check_timer_name (scope_at ds site) t ≡ [])) found new))))

    -- ---- what each change keeps

    keeps : Keeps stand site s part Asks (IsDataIn ds at) (IsDataIn ds at) (IsFineData ds) (λ v. Unit {0}) (IsFineFrame ds)
    keeps = record {
      evaluated = λ v wanted. any-yields (value_wanted v (reads stand site) wanted);
      handed = λ behaviour given. any-each (arguments (reads stand site) (parameters_of (kind_at ds behaviour)) given);
      default_given = λ n. tt;
      does = done-in;
      forgets = λ name. declared-in (forget name) (forget-kept ds at name);
      opens = λ own also. also;
      declares = λ name v given. declared-in (declare name v) (declare-kept ds at name v);
      declares_timer = timer-in;
      stores = λ target v own given also. store-kept ds at stand.test target v own also;
      sets_timer = λ name state. set-timer-kept stand.test well at site name state (done stand) fine done-in;
      activates = λ behaviour values own all also. also;
      deactivates = λ stay. done-in;
      deactivates_all = done-in;
      ends = λ own also. all-in ds at own.calls also;
      makes = λ made makes. goes-on (made ++ stand.rest) (in-front made (made-fine made makes));
      begins = λ behaviour body values found all. (behaviour, new-frame ds behaviour values (items ds (beginning behaviour) body) (body-items behaviour body found));
      calls = λ frame new fits. All-cons (IsFineFrame ds) frame (done stand).calls new done-fine;
      awaits = λ target own frame also new fits. All-cons (IsFineFrame ds) frame (going_on (Waiting target ∷ stand.rest) own).calls new
          (all-in ds at (going_on (Waiting target ∷ stand.rest) own).calls
          (last-remaining ds at (Waiting target ∷ stand.rest) own.calls (open-in ds at own.calls also) (All-cons (IsFineItem ds at) (Waiting target) stand.rest tt is.rest)));
      leaves = λ frame frames under. subst (All (IsFineFrame ds)) under is.below;
      gives_back = λ frame frames target xs v under e given. result-fine frame frames target xs v under e;
      repeats = λ calls found. some-of (All (IsFineFrame ds)) (repeated stand.own.calls) calls found (repeat-each ds stand.own.calls is.calls);
      takes = λ chance effect own whole chosen taken-is fits.
          yields-is (IsFineData ds) (taken stand.test site s stand.rest chance effect stand.own) own taken-is
          (taken-fine chance effect (known-as Whole whole) (some-of (IsFineChoice ds at) (choice_at stand site s) (Taken chance effect) chosen (chosen-fine (known-as Whole whole).1)));
      fails = λ why. tt;
      waits = λ whole is. tt;
      continues = λ own also. (tt, also);
      worsens = λ v reasons whole e. (tt, done-fine);
      removes = λ port own also. (tt, also);
      sends = λ send v to of meant. (tt, done-fine);
      creates = λ target own type_at members changed also made stored. (
        new-fine (new_id stand own type_at) members,
        all-in ds at changed.calls (yields-is (IsDataIn ds at) (store stand.test target (value.Component (new_id stand own type_at)) own) changed stored
            (store-kept ds at stand.test target (value.Component (new_id stand own type_at)) own also)),
      );
      starts = λ reference c frame meant new. (new, done-fine);
      stops_itself = (tt, done-fine);
      stops_last = λ under. (tt, All-nil (IsFineFrame ds));
      stops = λ reference c meant. (tt, done-fine);
      connects = λ one other c d first second may. (tt, done-fine);
      maps = λ m c meant may. (tt, done-fine);
      unmaps = λ m c meant. (tt, done-fine);
    }

-- ---- steps of a component

-- what a component asks for is fine, where its frames are
pub asked-fine : (test : Test) → AreWellTyped test.definitions → (snapshot : Snapshot) (own : Data) → IsFineData test.definitions own → IsFineAct test.definitions (act test snapshot own)
asked-fine test well snapshot own all =
    act-asks test snapshot own (IsFineAct test.definitions) (λ why. tt)
    (λ frame below calls nothing.
    end-asks (record { test = test; snapshot = snapshot; own = own; frame = frame; below = below; rest = [] }) (IsFineAct test.definitions) (λ why. tt) (λ under. (tt, All-nil (IsFineFrame test.definitions)))
    (λ last frames under. (tt, subst (All (IsFineFrame test.definitions)) under (under-fine frame below calls))) below refl)
    (λ frame below site s part rest calls first.
    let stand : Stand = record { test = test; snapshot = snapshot; own = own; frame = frame; below = below; rest = rest } in
    let found : IsFineFrame test.definitions frame = All-head (IsFineFrame test.definitions) frame below (frames-fine frame below calls) in
    let here : IsFrameOf test.definitions found.0 frame = found.1 in
    let each : All (IsFineItem test.definitions found.0) (Doing site s part ∷ rest) = subst (All (IsFineItem test.definitions found.0)) first here.items in
    let item : IsFineItem test.definitions found.0 (Doing site s part) = All-head (IsFineItem test.definitions found.0) (Doing site s part) rest each in
    part-asks stand site s part (IsFineAct test.definitions) (IsDataIn test.definitions found.0) (IsDataIn test.definitions found.0) (IsFineData test.definitions) (λ v. Unit {0}) (IsFineFrame test.definitions)
    (keeps stand well found.0 (record {
      calls = all;
      current = subst (AreOpen test.definitions found.0) (sym calls) (here.timers, under-fine frame below calls);
      below = under-fine frame below calls;
      rest = All-tail (IsFineItem test.definitions found.0) (Doing site s part) rest each;
    }) site s part item.0 item.1))
  where
    frames-fine : (frame : Frame) (below : List Frame) → own.calls ≡ frame ∷ below → All (IsFineFrame test.definitions) (frame ∷ below)
    frames-fine frame below calls = subst (All (IsFineFrame test.definitions)) calls all

    under-fine : (frame : Frame) (below : List Frame) → own.calls ≡ frame ∷ below → All (IsFineFrame test.definitions) below
    under-fine frame below calls = All-tail (IsFineFrame test.definitions) frame below (frames-fine frame below calls)
