-- What a component asks for fits, where its data does and what it stands at breaks no rule.
use Rattle.std.proofs.Common.{◌≡◌, ℕ, ◌+◌, Bool, true, false, List, [], ◌∷◌, ◌++◌, length, nat_lt, slice_get, Option, Some, None, IfSome, option_map, append_assoc, inl, refl, sym, ap, subst, ◌∙◌, if◌then◌else◌}
use Rattle.std.specs.List.{All, flat_map}
use Rattle.std.proofs.lemmas.List.Elements.{All-append, All-head, All-nil, All-tail}
use Rattle.ttcn_syntax.specs.declared.tree.definition.Definition.{Definition}
use Rattle.ttcn_syntax.specs.declared.tree.expression.Expr.{Expr}
use Rattle.ttcn_syntax.specs.declared.tree.statement.Action.TheOpen.{Action-F}
use Rattle.ttcn_syntax.specs.declared.tree.statement.Branch.{Branch}
use Rattle.ttcn_syntax.specs.declared.tree.statement.Conditional.{Conditional, out-Conditional}
use Rattle.ttcn_syntax.specs.declared.tree.statement.ForStart.TheVariants as for_start
use Rattle.ttcn_syntax.specs.declared.tree.statement.Statement.{Statement, out-Statement}
use Rattle.ttcn_syntax.specs.declared.tree.value.Call.{Call}
use Rattle.check_rules.specs.Calls.{altstep_meant, behaviour_meant, is_altstep, stands_alone}
use Rattle.check_scope.specs.Names.{Entry, Scope, kind_at, module_names}
use Rattle.check_scope.specs.declared.names.Meaning.{Meaning}
use Rattle.check_scope.specs.declared.names.Meaning.TheVariants as meaning
use Rattle.check_rules.specs.Statements.{is_function, statements}
use Rattle.laws_checker.proofs.Fitting.{call_resolves}
use Rattle.laws_checker.specs.Laws.{Resolves}
use Rattle.laws_evaluation.specs.Uses.{GivesOnly}
use Rattle.laws_sites.proofs.Blocks.{parts-of, place}
use Rattle.laws_sites.specs.Standing.{BeginsByAssignment, IsFineLoop, IsFinePart, IsFineItem, IsFineFrame, IsFineStep, IsFrameOf, IsIf, IsNoDeclaration, PlaceIn}
use Rattle.laws_statements.proofs.Naming.{name_defined}
use Rattle.laws_statements.proofs.Resolving.{activation_resolves}
use Rattle.laws_statements.proofs.Within.{activation_stays, call_stays}
use Rattle.laws_statements.specs.Named.{IsDefinedAs}
use Rattle.laws_statements.specs.Parts.{HasFineParts, IsCondition, IsFineBranch, IsFineConditional, IsFineIfAny}
use Rattle.laws_steps.proofs.Found.{get-each}
use Rattle.semantics.specs.Branches.{open_branch, write_altsteps, written_alt, written_branch, written_call}
use Rattle.semantics.specs.Configurations.{Data, Frame}
use Rattle.semantics.specs.Items.{Does, Doing, From, Item, Last, Loop, Mark, Name, Part, Start, Waiting, Whole, action_of, items, items_if_any, site_in_for, start_items}
use Rattle.semantics.specs.Sites.{Site, scope_at}
use Rattle.semantics.specs.Snapshots.{Snapshot, Test}
use Rattle.semantics.specs.Statements.{Act, Errs, Stand, act, act_alt_or, act_conditional, act_first, act_for_start, act_for_step, act_from, act_if, act_in, act_loop, act_part, act_while, act_whole, activated, call_function, choose_from, done, judge_at, otherwise}
use Rattle.semantics.specs.Taking.{repeat_alt, without_marks}
use Rattle.check_rules.specs.Rules.{AreWellTyped}
use Rattle.value_types.specs.Outcomes.{DynamicError, Fails, Outcome, Unmet, Yields}
use Rattle.laws_types.proofs.Branches.{FitsWritten, alt-branch-fits, lone-call-fits, lone-event-fits}
use Rattle.laws_types.proofs.Choices.{WritesFit, choice-asks, choose-fits, judge-fits}
use Rattle.laws_types.proofs.Data.{Any, LastAt, frame-outside}
use Rattle.laws_types.proofs.Forms.{connect-asks, deactivate-asks, map-asks, return-asks, start-asks, start-timer-asks, stop-of-asks, test-asks}
use Rattle.laws_types.proofs.Leaving.{end-asks}
use Rattle.laws_types.proofs.Nested.{nest-block, nest-block-if, nest-for, nest-one}
use Rattle.laws_types.proofs.Rights.{activated-fits, assignment-asks, name-asks}
use Rattle.laws_types.proofs.Sends.{send-asks}
use Rattle.laws_types.proofs.Stands.{Asks, At, NestHere, StandsAt, awaits-none, call-asks, continuing-fits, fine-site, fits-at, goes-on, kind-of, meant-there, members-fit, remains, runs-there, wide, within}
use Rattle.laws_repeat.specs.Marks.{IsAtRepeat}
use Rattle.laws_types.specs.Steps.{FitFronts, Sees}
use Rattle.laws_types.specs.internal.Asked.{FitsAct, IsMeant}
use Rattle.laws_types.specs.Typed.{FitBelow, FitCalls, FitsData, FitsFrame, FitsOwn, Leaves, Nest, StandsIn, result_of}

some-is : (n m : ℕ) → Some n ≡ Some m → n ≡ m
some-is n m h = cc

-- a name of an altstep, and one of a function
altstep-is : (definitions : List Definition) (name : List ℕ) (m : Option Meaning) (n at : ℕ) → module_names definitions name ≡ m → altstep_meant m ≡ Some n → behaviour_meant m ≡ Some at
    → is_altstep (kind_at definitions at) ≡ true
altstep-is definitions name (Some (meaning.Altstep k)) n at e is meant =
    let defined : IsDefinedAs definitions name (meaning.Altstep k) = name_defined definitions name (meaning.Altstep k) e in
    ap is_altstep (ap (kind_at definitions) (sym (some-is k at meant)) ∙ defined.1)
altstep-is definitions name (Some (meaning.Function k)) n at e is meant = absurd (let x = is in cc)
altstep-is definitions name (Some (meaning.Testcase k)) n at e is meant = absurd (let x = is in cc)
altstep-is definitions name _ n at e is meant = absurd (let x = meant in cc)

function-is : (definitions : List Definition) (name : List ℕ) (m : Option Meaning) (at : ℕ) → module_names definitions name ≡ m → altstep_meant m ≡ None → behaviour_meant m ≡ Some at → stands_alone (kind_at definitions at) ≡ true
    → is_function (kind_at definitions at) ≡ true
function-is definitions name (Some (meaning.Function k)) at e is meant alone =
    let defined : IsDefinedAs definitions name (meaning.Function k) = name_defined definitions name (meaning.Function k) e in
    ap is_function (ap (kind_at definitions) (sym (some-is k at meant)) ∙ defined.1)
function-is definitions name (Some (meaning.Testcase k)) at e is meant alone =
    let defined : IsDefinedAs definitions name (meaning.Testcase k) = name_defined definitions name (meaning.Testcase k) e in
    absurd (let no : false ≡ true = sym (ap stands_alone (ap (kind_at definitions) (sym (some-is k at meant)) ∙ defined.1)) ∙ alone in cc)
function-is definitions name (Some (meaning.Altstep k)) at e is meant alone = absurd (let x = is in cc)
function-is definitions name _ at e is meant alone = absurd (let x = meant in cc)

module _ (stand : Stand) (well : AreWellTyped stand.test.definitions) (site : Site) (is : StandsAt stand site) (fronts : FitFronts stand.test.definitions stand.snapshot.itself.component_type stand.snapshot.fronts)
    (s : Statement) (repeats : action_of s ≡ Action-F.Repeat → GivesOnly (repeat_alt stand.own) (FitsData stand.test.definitions stand.snapshot.itself.component_type)) where
  abbrev ds : List Definition
  ds = stand.test.definitions

  abbrev b : ℕ
  b = site.behaviour

  abbrev ct : ℕ
  ct = kind-of stand well site is

  abbrev Asking : Act → Type 0
  Asking asked = Asks stand well site is asked

  abbrev Nesting : List Item → Type 0
  Nesting xs = NestHere stand well site is site.declared xs

  abbrev here : Scope
  here = scope_at ds site

  abbrev scope : Scope
  scope = wide stand well site is

  module _ (nest : Nesting stand.rest) where
    done-fits : FitsData ds ct (done stand)
    done-fits = goes-on stand well site is stand.rest nest

    -- ---- loops and conditions

    loop-asks : (condition : Expr) (block : List Statement) (again : List Item) (inside : PlaceIn ds b) → statements block (place ds b site inside) ≡ [] → IsCondition here condition → Nesting (again ++ stand.rest)
        → Asking (act_loop stand site condition block again)
    loop-asks condition block again inside nothing boolean more =
        test-asks stand well site is nest condition ((items ds site block ++ again) ++ stand.rest) stand.rest boolean
        (subst Nesting (sym (append_assoc (items ds site block) again stand.rest)) (nest-block ds b block site inside (again ++ stand.rest) (fine-site stand well site is) nothing more)) nest

    otherwise-if : (next : ℕ) (last : Option (List Statement)) (inside : PlaceIn ds b) (more : Bool) → IsFineIfAny (place ds b site inside) last
        → Nesting (if more then Doing site s (From next) ∷ stand.rest else items_if_any ds site last ++ stand.rest)
    otherwise-if next last inside true block = nest-one ds b site s (From next) stand.rest refl refl nest
    otherwise-if next last inside false block = nest-block-if ds b last site inside stand.rest (fine-site stand well site is) block nest

    conditional-asks : (k : ℕ) (conditionals : List Conditional) (last : Option (List Statement)) (inside : PlaceIn ds b) (c : Option Conditional) → IfSome c (IsFineConditional (place ds b site inside)) → IsFineIfAny (place ds b site inside) last
        → Asking (act_conditional stand site s k conditionals last c)
    conditional-asks k conditionals last inside None each block = goes-on stand well site is (items_if_any ds site last ++ stand.rest) (nest-block-if ds b last site inside stand.rest (fine-site stand well site is) block nest)
    conditional-asks k conditionals last inside (Some c) each block =
        test-asks stand well site is nest (out-Conditional c).condition (items ds site (out-Conditional c).block ++ stand.rest) (otherwise stand site s (k + 1) conditionals last) each.condition
        (nest-block ds b (out-Conditional c).block site inside stand.rest (fine-site stand well site is) each.block nest)
        (otherwise-if (k + 1) last inside (nat_lt (k + 1) (length conditionals)) block)

    if-asks : (k : ℕ) (conditionals : List Conditional) (last : Option (List Statement)) (inside : PlaceIn ds b) → HasFineParts (place ds b site inside) (Action-F.If conditionals last) → Asking (act_if stand site s k conditionals last)
    if-asks k conditionals last inside parts =
        conditional-asks k conditionals last inside (slice_get conditionals k) (get-each (IsFineConditional (place ds b site inside)) conditionals k parts.0) parts.1

    -- ---- alts

    abbrev Chooses : Act → Does → Type 0
    Chooses other x = Asking (act_alt_or other stand site s (option_map (choose_from stand) (written_alt stand.test stand.snapshot stand.own (judge_at stand site) (out-Statement s).place x)))

    written-all : (inside : PlaceIn ds b) (branches : List Branch) → All (IsFineBranch (place ds b site inside)) branches
        → WritesFit stand well site is fronts nest (flat_map (written_branch (write_altsteps stand.test stand.snapshot stand.own) stand.test stand.snapshot stand.own (judge_at stand site)) branches)
    written-all inside [] all = All-nil (FitsWritten ds ct b site.declared)
    written-all inside (x ∷ branches) all =
        let write = written_branch (write_altsteps stand.test stand.snapshot stand.own) stand.test stand.snapshot stand.own (judge_at stand site) in
        All-append (FitsWritten ds ct b site.declared) (write x) (flat_map write branches)
        (alt-branch-fits stand.test well stand.snapshot stand.own (members-fit stand well site is) (judge_at stand site) (judge-fits stand well site is fronts nest) inside x (All-head (IsFineBranch (place ds b site inside)) x branches all))
        (written-all inside branches (All-tail (IsFineBranch (place ds b site inside)) x branches all))

    call-chosen : (call : Call) (resolves : Resolves scope stands_alone call) (m : Option ℕ) → altstep_meant (module_names ds call.name) ≡ m
        → Asking (act_alt_or (call_function stand site call stand.own stand.rest) stand site s
        (option_map (choose_from stand) (option_map (λ at. written_call (write_altsteps stand.test stand.snapshot stand.own) stand.test stand.snapshot stand.own (judge_at stand site) call [] (Some at)) m)))
    call-chosen call resolves None meant =
        let at : ℕ = resolves.at in
        let function = function-is ds call.name (module_names ds call.name) at refl meant (meant-there stand well site is call.name at resolves.meant) resolves.kind in
        call-asks stand well site is site.declared Any call stand.own stand.rest at resolves.meant function (runs-there stand well site is at resolves.kind resolves.runs) resolves.arguments
        (awaits-none stand well site is (result_of ds at) site.declared stand.rest nest) is.here
    call-chosen call resolves (Some n) meant =
        let at : ℕ = resolves.at in
        let altstep = altstep-is ds call.name (module_names ds call.name) n at refl meant (meant-there stand well site is call.name at resolves.meant) in
        let write = λ (m : Option ℕ). written_call (write_altsteps stand.test stand.snapshot stand.own) stand.test stand.snapshot stand.own (judge_at stand site) call [] m in
        choice-asks stand well site is fronts nest s (choose_from stand (write (Some n))) (choose-fits stand well site is fronts nest (write (Some n))
        (subst (λ m. WritesFit stand well site is fronts nest (write m)) meant
        (lone-call-fits stand.test well stand.snapshot stand.own (members-fit stand well site is) (judge_at stand site) (judge-fits stand well site is fronts nest) call at resolves.meant altstep resolves.arguments resolves.runs)))

    -- ---- statements

    whole-asks : (inside : PlaceIn ds b) (x : Does) → action_of s ≡ x → IsNoDeclaration x → HasFineParts (place ds b site inside) x → Asking (act_whole stand site s x)
    whole-asks inside (Action-F.Variables vs) e form parts = absurd form
    whole-asks inside (Action-F.Constants cs) e form parts = absurd form
    whole-asks inside (Action-F.Timers timers) e form parts = absurd form
    whole-asks inside (Action-F.Assign a) e form parts = assignment-asks stand well site is a parts nest
    whole-asks inside (Action-F.«Action::Call» call) e form parts =
        subst (Chooses (call_function stand site call stand.own stand.rest)) (sym e)
        (call-chosen call (call_resolves scope stands_alone call (call_stays stands_alone call here scope (within stand well site is) parts)) (altstep_meant (module_names ds call.name)) refl)
    whole-asks inside (Action-F.«Action::Event» event) e form parts =
        subst (Chooses (Errs Unmet)) (sym e)
        (choice-asks stand well site is fronts nest s _
        (choose-fits stand well site is fronts nest (open_branch stand.test (judge_at stand site) (out-Statement s).place (Some event) [] ∷ [])
        (lone-event-fits stand.test well stand.snapshot stand.own (members-fit stand well site is) (judge_at stand site) (judge-fits stand well site is fronts nest) (out-Statement s).place event parts)))
    whole-asks inside (Action-F.Alt branches) e form parts =
        subst (Chooses (Errs Unmet)) (sym e) (choice-asks stand well site is fronts nest s _ (choose-fits stand well site is fronts nest _ (written-all inside branches parts)))
    whole-asks inside Action-F.Repeat e form parts = continuing-fits stand.test ct stand.snapshot.itself.path (IsMeant stand.test stand.snapshot stand.own stand.frame) (repeat_alt stand.own) (repeats e)
    whole-asks inside (Action-F.If conditionals last) e form parts = if-asks 0 conditionals last inside parts
    whole-asks inside (Action-F.While condition block) e form parts =
        loop-asks condition block (Doing site s Whole ∷ []) inside parts.1 parts.0 (nest-one ds b site s Whole stand.rest refl refl nest)
    whole-asks inside (Action-F.DoWhile block condition) e form parts =
        goes-on stand well site is (items ds site block ++ Doing site s Loop ∷ stand.rest)
        (nest-block ds b block site inside (Doing site s Loop ∷ stand.rest) (fine-site stand well site is) parts.0 (nest-one ds b site s Loop stand.rest refl refl nest))
    whole-asks inside (Action-F.For start condition step block) e form parts =
        goes-on stand well site is (start_items ds site s start ++ Doing (site_in_for ds site start) s Loop ∷ stand.rest)
        (nest-for ds b site s inside start condition step block stand.rest e (fine-site stand well site is) parts nest)
    whole-asks inside (Action-F.Return v) e form parts = return-asks stand well site is nest inside.place v inside.returns parts
    whole-asks inside Action-F.Stop e form parts = (record { members = done-fits.members; calls = done-fits.calls; defaults = done-fits.defaults }, inl refl)
    whole-asks inside (Action-F.Log logged) e form parts = done-fits
    whole-asks inside (Action-F.Setverdict verdict reasons) e form parts = done-fits
    whole-asks inside (Action-F.Connect one other) e form parts = connect-asks stand well site is nest one other parts
    whole-asks inside (Action-F.Map m) e form parts = map-asks stand well site is nest m parts
    whole-asks inside (Action-F.Send send) e form parts = send-asks stand well site is nest send parts
    whole-asks inside (Action-F.StartComponent reference call) e form parts = start-asks stand well site is nest reference call parts
    whole-asks inside (Action-F.StartTimer name) e form parts = start-timer-asks stand well site is nest name parts
    whole-asks inside (Action-F.StopOf reference) e form parts = stop-of-asks stand well site is nest reference parts
    whole-asks inside (Action-F.Activate call) e form parts =
        continuing-fits stand.test ct stand.snapshot.itself.path (IsMeant stand.test stand.snapshot stand.own stand.frame) (activated stand site call (done stand))
        (only-fits (activated stand site call (done stand))
        (activated-fits stand well site is site.declared Nesting call (done stand)
        (activation_resolves scope call (activation_stays call here scope (within stand well site is) parts)) (remains stand well site is stand.rest nest)))
      where
        only-fits : (o : Outcome Data) → GivesOnly o (At stand well site is site.declared Nesting) → GivesOnly o (FitsData ds ct)
        only-fits (Yields own) fits = fits-at stand well site is site.declared own fits
        only-fits (Fails DynamicError) fits = tt
        only-fits (Fails Unmet) fits = fits
    whole-asks inside (Action-F.Deactivate reference) e form parts = deactivate-asks stand well site is nest reference parts

    for-start-asks : (inside : PlaceIn ds b) (x : Does) → BeginsByAssignment x → HasFineParts (place ds b site inside) x → Asking (act_for_start stand site x)
    for-start-asks inside (Action-F.For (for_start.Assign a) condition step block) form parts = assignment-asks stand well site is a parts.0 nest
    for-start-asks inside (Action-F.For (for_start.Variables vs) condition step block) form parts = absurd form
    for-start-asks inside _ form parts = absurd form

    for-step-asks : (x : Does) → IsFineStep here x → Asking (act_for_step stand site x)
    for-step-asks (Action-F.For start condition step block) fine = assignment-asks stand well site is step fine nest
    for-step-asks _ fine = absurd fine

    from-asks : (k : ℕ) (inside : PlaceIn ds b) (x : Does) → IsIf x → HasFineParts (place ds b site inside) x → Asking (act_from stand site s k x)
    from-asks k inside (Action-F.If conditionals last) form parts = if-asks k conditionals last inside parts
    from-asks k inside _ form parts = absurd form

    while-asks : (x : Does) → IsFineLoop ds b here x → Asking (act_while stand site s x)
    while-asks (Action-F.DoWhile block condition) loop = loop-asks condition block (Doing site s Loop ∷ []) loop.0 loop.1 loop.2 (nest-one ds b site s Loop stand.rest refl refl nest)
    while-asks (Action-F.For start condition step block) loop =
        loop-asks condition block (Doing site s Last ∷ Doing site s Loop ∷ []) loop.0 loop.1 loop.2
        (nest-one ds b site s Last (Doing site s Loop ∷ stand.rest) refl refl (nest-one ds b site s Loop stand.rest refl refl nest))
    while-asks _ loop = absurd loop

  pub part-asks : (part : Part) (next : List Entry) → IsFinePart ds b here s part → Leaves ds site s part next → Nest ds b next stand.rest → Asking (act_part stand site s part)
  part-asks Whole next fine leaves nest =
      whole-asks (subst (λ n. Nest ds b n stand.rest) leaves nest) fine.1.0 (action_of s) refl fine.0 (parts-of ds b site s fine.1.0 (fine-site stand well site is) fine.1.1)
  part-asks (Name k) next fine leaves nest = name-asks stand well site is k (action_of s) next leaves.0 fine leaves.1 leaves.2 leaves.3 nest
  part-asks (From k) next fine leaves nest =
      from-asks (subst (λ n. Nest ds b n stand.rest) leaves nest) k fine.1.0 (action_of s) fine.0 (parts-of ds b site s fine.1.0 (fine-site stand well site is) fine.1.1)
  part-asks Start next fine leaves nest =
      for-start-asks (subst (λ n. Nest ds b n stand.rest) leaves nest) fine.1.0 (action_of s) fine.0 (parts-of ds b site s fine.1.0 (fine-site stand well site is) fine.1.1)
  part-asks Loop next fine leaves nest = while-asks (subst (λ n. Nest ds b n stand.rest) leaves nest) (action_of s) fine
  part-asks Last next fine leaves nest = for-step-asks (subst (λ n. Nest ds b n stand.rest) leaves nest) (action_of s) fine

-- ---- steps of a component

-- a mark stands first
abbrev is-mark-first : List Item → Bool
is-mark-first [] = false
is-mark-first (Mark site s ∷ xs) = true
is-mark-first (Doing site s part ∷ xs) = false
is-mark-first (Waiting target ∷ xs) = false

none-first : (xs : List Item) → is-mark-first (without_marks xs) ≡ false
none-first [] = refl
none-first (Mark site s ∷ xs) = none-first xs
none-first (Doing site s part ∷ xs) = refl
none-first (Waiting target ∷ xs) = refl

module _ (test : Test) (well : AreWellTyped test.definitions) (snapshot : Snapshot) (own : Data) (frame : Frame) (below : List Frame) (fits : FitsOwn test.definitions snapshot.itself.component_type own)
    (sees : Sees test.definitions snapshot own frame) (repeats : IsAtRepeat frame.remaining → GivesOnly (repeat_alt own) (FitsData test.definitions snapshot.itself.component_type)) (calls : own.calls ≡ frame ∷ below) where
  abbrev all : List Definition
  all = test.definitions

  abbrev type-of : ℕ
  type-of = snapshot.itself.component_type

  abbrev Inside : Site → Statement → Part → List Entry → List Item → List Entry → ℕ → Type 0
  Inside site s part next rest declared n = FitsFrame all type-of n declared frame × Nest all n next rest × FitBelow all type-of (result_of all n) below

  first-asks : (xs : List Item) (at behaviour : ℕ) (declared : List Entry) → FitsFrame all type-of at declared frame → Nest all at declared xs → FitBelow all type-of (result_of all at) below
      → All (IsFineItem all behaviour) xs → without_marks xs ≡ xs → frame.remaining ≡ xs → FitsAct test type-of snapshot.itself.path (IsMeant test snapshot own frame) (act_first test snapshot own frame below xs)
  first-asks [] at behaviour declared here nest under fine unmarked e =
      end-asks (record { test = test; snapshot = snapshot; own = own; frame = frame; below = below; rest = [] }) well type-of fits.members fits.defaults (result_of all at) below under
  first-asks (Mark site s ∷ rest) at behaviour declared here nest under fine unmarked e =
      absurd (let no : false ≡ true = sym (none-first rest) ∙ ap is-mark-first unmarked in cc)
  first-asks (Waiting target ∷ rest) at behaviour declared here nest under fine unmarked e = absurd nest
  first-asks (Doing site s part ∷ rest) at behaviour declared here nest under fine unmarked e =
      let stands : StandsIn at declared site = nest.0 in
      let next : List Entry = nest.1.0 in
      let inside : Inside site s part next rest declared site.behaviour = subst (Inside site s part next rest declared) (sym stands.0) (here, nest.1.2, under) in
      let item : IsFineItem all behaviour (Doing site s part) = All-head (IsFineItem all behaviour) (Doing site s part) rest fine in
      let outer : FitsFrame all type-of site.behaviour site.declared frame = frame-outside all type-of site.behaviour well site.declared declared frame stands.1 inside.0 in
      let stand : Stand = record { test = test; snapshot = snapshot; own = own; frame = frame; below = below; rest = rest } in
      let there : StandsAt stand site = record {
        on = outer.on;
        names = outer.names;
        seen = outer.seen;
        timers = sees.timers;
        member_timers = sees.member_timers;
        here = record { members = fits.members; last = subst (LastAt all type-of site.behaviour site.declared Any) (sym calls) (outer, tt, inside.2); defaults = fits.defaults };
        below = inside.2;
      } in
      part-asks stand well site there sees.fronts s (λ is. repeats (subst IsAtRepeat (sym e) is)) part next
      (subst (λ n. IsFinePart all n (scope_at all site) s part) (sym item.0.within) item.1) nest.1.1 inside.1

  pub frames-ask : FitCalls all type-of (frame ∷ below) → IsFineFrame all frame → without_marks frame.remaining ≡ frame.remaining → FitsAct test type-of snapshot.itself.path (IsMeant test snapshot own frame) (act_first test snapshot own frame below frame.remaining)
  frames-ask here fine unmarked =
      let of : IsFrameOf all fine.0 frame = fine.1 in
      first-asks frame.remaining here.0 fine.0 here.1 here.2 here.3 here.4 of.items unmarked refl

  pub asked-fits : IsFineFrame all frame → without_marks frame.remaining ≡ frame.remaining → FitsAct test type-of snapshot.itself.path (IsMeant test snapshot own frame) (act test snapshot own)
  asked-fits fine unmarked =
      subst (λ frames. FitsAct test type-of snapshot.itself.path (IsMeant test snapshot own frame) (act_in test snapshot own frames)) (sym calls) (frames-ask (subst (FitCalls all type-of) calls fits.calls) fine unmarked)
