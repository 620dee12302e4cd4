-- The frames that a branch brings with it refer only to what is read.
use Rattle.std.proofs.Common.{ℕ, zero, suc, Bool, true, false, List, [], ◌∷◌, Option, Some, None, IfSome, option_map}
use Rattle.std.specs.List.{All, flat_map}
use Rattle.std.proofs.lemmas.List.Elements.{All-append, All-cons, All-head, All-map, All-nil, All-tail}
use Rattle.ttcn_syntax.specs.declared.place.Span.{Span}
use Rattle.ttcn_syntax.specs.declared.tree.statement.Action.{Action}
use Rattle.ttcn_syntax.specs.declared.tree.statement.Action.TheOpen.{Action-F, Alternative-F}
use Rattle.ttcn_syntax.specs.declared.tree.statement.Alternative.{Alternative, out-Alternative}
use Rattle.ttcn_syntax.specs.declared.tree.statement.Branch.{Branch, out-Branch}
use Rattle.ttcn_syntax.specs.declared.tree.statement.Conditional.{Conditional}
use Rattle.ttcn_syntax.specs.declared.tree.statement.Event.{Event}
use Rattle.ttcn_syntax.specs.declared.tree.statement.Statement.{Statement}
use Rattle.ttcn_syntax.specs.declared.tree.value.Call.{Call}
use Rattle.check_rules.specs.Calls.{altstep_meant, parameters_of}
use Rattle.check_scope.specs.Names.{kind_at, module_names}
use Rattle.laws_references.proofs.Events.{EffectRefers, TrialRefers, chance-refers}
use Rattle.laws_references.proofs.Members.{reading-refers}
use Rattle.laws_references.proofs.Stored.{frame-refers}
use Rattle.laws_references.proofs.Templates.{arguments-give}
use Rattle.laws_references.proofs.Values.{all-of}
use Rattle.laws_references.specs.References.{DataReferTo, DefaultRefersTo, EntriesReferTo, FrameRefersTo, ReadingRefersTo, RefersTo, SnapshotRefersTo}
use Rattle.semantics.proofs.Pairs.{All-flat, All-more}
use Rattle.semantics.specs.Branches.{Chance, Fault, Judge, Open, Writing, Written, behind_guard, branches_of, frame_with, guard_holds, judge_in, open_branch, read_by, through, write_altsteps, written_alt, written_alternative, written_branch, written_call, written_default, written_defaults, written_with, written_within}
use Rattle.semantics.specs.Configurations.{Data}
use Rattle.semantics.specs.Events.{Choice, Faulty, Happened, Nothing, Passed, Refused, Taken, Trial, chosen_by, first_choice, try_chance}
use Rattle.semantics.specs.Items.{Does, Item, items, items_if_any}
use Rattle.semantics.specs.Snapshots.{Snapshot, Test, mtc_of}
use Rattle.check_rules.specs.Limits.{longest_chain}
use Rattle.value_types.specs.Outcomes.{Fails, IfYields, Outcome, Unmet, Yields}
use Rattle.value_types.specs.Templates.{arguments}
use Rattle.value_types.specs.declared.value.ComponentId.{ComponentId}
use Rattle.value_types.specs.declared.value.Value.{Value}

-- ---- lists

module _ (P : ComponentId → Type 0) where
  abbrev pub ChanceRefers : Chance → Type 0
  ChanceRefers chance = All (FrameRefersTo P) chance.way.frames

  abbrev pub WayRefers : Written → Type 0
  WayRefers (Fault why) = Unit {0}
  WayRefers (Open chance) = ChanceRefers chance

  one-way : (w : Written) → WayRefers w → All WayRefers (w ∷ [])
  one-way w is = All-cons WayRefers w [] is (All-nil WayRefers)

  opened : (test : Test) (judge : Judge) (place : Span) (event : Option Event) (block : List Item) → All WayRefers (open_branch test judge place event block ∷ [])
  opened test judge place event block = one-way (open_branch test judge place event block) (All-nil (FrameRefersTo P))

  guarded : (o : Outcome Bool) (ws : List Written) → All WayRefers ws → All WayRefers (behind_guard o ws)
  guarded (Yields true) ws all = all
  guarded (Yields false) ws all = All-nil WayRefers
  guarded (Fails why) ws all = one-way (Fault why) tt

  -- ---- the choice

  abbrev pub ChoiceRefers : Choice → Type 0
  ChoiceRefers Nothing = Unit {0}
  ChoiceRefers (Refused why) = Unit {0}
  ChoiceRefers (Taken chance effect) = ChanceRefers chance × EffectRefers P effect

  chosen-refers : (chance : Chance) (trial : Trial) (others : Choice) → ChanceRefers chance → TrialRefers P trial → ChoiceRefers others → ChoiceRefers (chosen_by chance trial others)
  chosen-refers chance Passed others is tries all = all
  chosen-refers chance (Faulty why) others is tries all = tt
  chosen-refers chance (Happened effect) others is tries all = (is, tries)

  pub choice-refers : (test : Test) (snapshot : Snapshot) (own : Data) (ws : List Written) → SnapshotRefersTo P snapshot → All WayRefers ws → ChoiceRefers (first_choice test snapshot own ws)
  choice-refers test snapshot own [] fronts all = tt
  choice-refers test snapshot own (Fault why ∷ ws) fronts all = tt
  choice-refers test snapshot own (Open chance ∷ ws) fronts all =
      chosen-refers chance (try_chance test snapshot own chance.judge chance.event) (first_choice test snapshot own ws)
      (All-head WayRefers (Open chance) ws all) (chance-refers P test snapshot own chance.judge chance.event fronts)
      (choice-refers test snapshot own ws fronts (All-tail WayRefers (Open chance) ws all))

  module _ (test : Test) (snapshot : Snapshot) (own : Data) (itself : P snapshot.itself) (mtc : P (mtc_of test)) (is : DataReferTo P own) where
    -- ---- branches

    abbrev JudgeRefers : Judge → Type 0
    JudgeRefers judge = EntriesReferTo P judge.view.values

    judged : (judge : Judge) → JudgeRefers judge → ReadingRefersTo P (read_by test snapshot own judge)
    judged judge seen = reading-refers P test snapshot mtc own judge.site judge.view itself is seen

    -- how the branches of altsteps are written out
    abbrev Writes : Writing → Type 0
    Writes below = (judge : Judge) (branches : List Branch) → JudgeRefers judge → All WayRefers (below judge branches)

    through-refers : (at : ℕ) (values : List Value) (before : List Item) → All (RefersTo P) values → (w : Written) → WayRefers w → WayRefers (through test at values before w)
    through-refers at values before given (Fault why) way = tt
    through-refers at values before given (Open chance) way =
        All-append (FrameRefersTo P) chance.way.frames (frame_with test.definitions at values chance.way.block ∷ []) way
        (All-cons (FrameRefersTo P) (frame_with test.definitions at values chance.way.block) [] (frame-refers P test.definitions at values chance.way.block given) (All-nil (FrameRefersTo P)))

    with-refers : (below : Writing) → Writes below → (at : ℕ) (before : List Item) (o : Outcome (List Value)) → IfYields o (All (RefersTo P)) → All WayRefers (written_with below test snapshot own at before o)
    with-refers below writes at before (Fails why) given = one-way (Fault why) tt
    with-refers below writes at before (Yields values) given =
        All-map WayRefers (through test at values before) (below (judge_in test at values) (branches_of (kind_at test.definitions at)))
        (All-more WayRefers (λ w. WayRefers (through test at values before w)) (through-refers at values before given) (below (judge_in test at values) (branches_of (kind_at test.definitions at)))
        (writes (judge_in test at values) (branches_of (kind_at test.definitions at)) (frame-refers P test.definitions at values [] given)))

    call-refers : (below : Writing) → Writes below → (judge : Judge) (call : Call) (before : List Item) (at : Option ℕ) → JudgeRefers judge → All WayRefers (written_call below test snapshot own judge call before at)
    call-refers below writes judge call before None seen = one-way (Fault Unmet) tt
    call-refers below writes judge call before (Some at) seen =
        with-refers below writes at before (arguments (read_by test snapshot own judge) (parameters_of (kind_at test.definitions at)) call.arguments)
        (arguments-give P (read_by test snapshot own judge) (judged judge seen) (parameters_of (kind_at test.definitions at)) call.arguments)

    alternative-refers : (below : Writing) → Writes below → (judge : Judge) (place : Span) (x : Alternative-F Action Alternative Branch Conditional Statement) → JudgeRefers judge
        → All WayRefers (written_alternative below test snapshot own judge place x)
    alternative-refers below writes judge place (Alternative-F.«Alternative::Event» guard event block) seen =
        guarded (guard_holds (read_by test snapshot own judge) guard) (open_branch test judge place (Some event) (items_if_any test.definitions judge.site block) ∷ [])
        (opened test judge place (Some event) (items_if_any test.definitions judge.site block))
    alternative-refers below writes judge place (Alternative-F.«Alternative::Call» guard call block) seen =
        guarded (guard_holds (read_by test snapshot own judge) guard)
        (written_call below test snapshot own judge call (items_if_any test.definitions judge.site block) (altstep_meant (module_names test.definitions call.name)))
        (call-refers below writes judge call (items_if_any test.definitions judge.site block) (altstep_meant (module_names test.definitions call.name)) seen)
    alternative-refers below writes judge place (Alternative-F.Else block) seen = opened test judge place None (items test.definitions judge.site block)

    branches-refer : (below : Writing) → Writes below → (judge : Judge) → JudgeRefers judge → (branches : List Branch) → All WayRefers (flat_map (written_branch below test snapshot own judge) branches)
    branches-refer below writes judge seen branches =
        All-flat WayRefers (written_branch below test snapshot own judge) branches
        (all-of (λ b. All WayRefers (written_branch below test snapshot own judge b))
        (λ b. alternative-refers below writes judge (out-Branch b).place (out-Alternative (out-Branch b).alternative) seen) branches)

    within-refers : (n : ℕ) → Writes (written_within n test snapshot own)
    within-refers zero judge branches seen = one-way (Fault Unmet) tt
    within-refers (suc n) judge branches seen = branches-refer (written_within n test snapshot own) (within-refers n) judge seen branches

    writes : Writes (write_altsteps test snapshot own)
    writes = within-refers longest_chain

    -- ---- an `alt` and the defaults

    -- what is written out where something is
    abbrev AreWays : Option (List Written) → Type 0
    AreWays o = IfSome o (All WayRefers)

    alt-call-refers : (judge : Judge) (call : Call) (at : Option ℕ) → JudgeRefers judge → AreWays (option_map (λ n. written_call (write_altsteps test snapshot own) test snapshot own judge call [] (Some n)) at)
    alt-call-refers judge call None seen = tt
    alt-call-refers judge call (Some at) seen = call-refers (write_altsteps test snapshot own) writes judge call [] (Some at) seen

    pub alt-refers : (judge : Judge) (place : Span) (x : Does) → JudgeRefers judge → AreWays (written_alt test snapshot own judge place x)
    alt-refers judge place (Action-F.Alt branches) seen = branches-refer (write_altsteps test snapshot own) writes judge seen branches
    alt-refers judge place (Action-F.«Action::Event» event) seen = opened test judge place (Some event) []
    alt-refers judge place (Action-F.«Action::Call» call) seen = alt-call-refers judge call (altstep_meant (module_names test.definitions call.name)) seen
    alt-refers judge place _ seen = tt

    pub defaults-refer : All WayRefers (written_defaults test snapshot own)
    defaults-refer =
        All-flat WayRefers (written_default test snapshot own) own.defaults
        (All-more (DefaultRefersTo P) (λ d. All WayRefers (written_default test snapshot own d))
        (λ d given. with-refers (write_altsteps test snapshot own) writes d.altstep [] (Yields d.arguments) given) own.defaults is.defaults)
