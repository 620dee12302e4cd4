-- What branches bring with them when they are taken has no marks, and their blocks stand at the site of the `alt` or further in.
use Rattle.std.proofs.Common.{ℕ, zero, suc, Bool, true, false, List, [], ◌∷◌, map, Option, Some, None, IfSome, option_map}
use Rattle.std.specs.List.{All, flat_map}
use Rattle.std.proofs.lemmas.List.Elements.{All-append, All-cons, All-head, All-nil, All-tail}
use Rattle.ttcn_syntax.specs.declared.place.Span.{Span}
use Rattle.ttcn_syntax.specs.declared.tree.statement.Action.{Action}
use Rattle.ttcn_syntax.specs.declared.tree.statement.Action.TheOpen.{Action-F, Alternative-F}
use Rattle.ttcn_syntax.specs.declared.tree.statement.Alternative.{Alternative, out-Alternative}
use Rattle.ttcn_syntax.specs.declared.tree.statement.Branch.{Branch, out-Branch}
use Rattle.ttcn_syntax.specs.declared.tree.statement.Conditional.{Conditional}
use Rattle.ttcn_syntax.specs.declared.tree.statement.Event.{Event}
use Rattle.ttcn_syntax.specs.declared.tree.statement.Statement.{Statement}
use Rattle.ttcn_syntax.specs.declared.tree.value.Call.{Call}
use Rattle.check_rules.specs.Calls.{altstep_meant, parameters_of}
use Rattle.check_scope.specs.Names.{kind_at, module_names}
use Rattle.laws_repeat.proofs.Blocks.{block-inside, block-inside-if}
use Rattle.laws_repeat.specs.Following.{IsInside, IsUnmarked}
use Rattle.semantics.proofs.Pairs.{All-more}
use Rattle.semantics.specs.Branches.{Chance, Fault, Judge, Open, Writing, Written, behind_guard, branches_of, frame_with, guard_holds, judge_in, open_branch, read_by, through, write_altsteps, written_alt, written_alternative, written_branch, written_call, written_default, written_defaults, written_with, written_within}
use Rattle.semantics.specs.Configurations.{Data, Frame}
use Rattle.semantics.specs.Events.{Choice, Faulty, Happened, Nothing, Passed, Refused, Taken, Trial, chosen_by, first_choice, try_chance}
use Rattle.semantics.specs.Items.{Does, Doing, Item, Mark, Waiting, items, items_if_any}
use Rattle.semantics.specs.Sites.{Site}
use Rattle.semantics.specs.Snapshots.{Snapshot, Test}
use Rattle.check_rules.specs.Limits.{longest_chain}
use Rattle.value_types.specs.Outcomes.{Fails, Outcome, Unmet, Yields}
use Rattle.value_types.specs.Templates.{arguments}
use Rattle.value_types.specs.declared.value.Value.{Value}

-- in a frame no mark remains
abbrev pub HasNoMark : Frame → Type 0
HasNoMark frame = All IsUnmarked frame.remaining

-- a branch at an `alt` at a site
pub record IsChanceAt (site : Site) (chance : Chance) : Type 0 where
  pub block : All (IsInside site) chance.way.block
  pub frames : All HasNoMark chance.way.frames

abbrev pub IsWayAt : Site → Written → Type 0
IsWayAt site (Fault why) = Unit {0}
IsWayAt site (Open chance) = IsChanceAt site chance

unmarked : (site : Site) (x : Item) → IsInside site x → IsUnmarked x
unmarked site (Doing inner s part) is = tt
unmarked site (Mark inner s) is = is
unmarked site (Waiting target) is = tt

pub inside-unmarked : (site : Site) (xs : List Item) → All (IsInside site) xs → All IsUnmarked xs
inside-unmarked site xs all = All-more (IsInside site) IsUnmarked (unmarked site) xs all

-- ---- lists

module _ (site : Site) where
  abbrev Ways : List Written → Type 0
  Ways written = All (IsWayAt site) written

  one-way : (w : Written) → IsWayAt site w → Ways (w ∷ [])
  one-way w is = All-cons (IsWayAt site) w [] is (All-nil (IsWayAt site))

  flat-ways : {A : Type 0} (f : A → List Written) → ((a : A) → Ways (f a)) → (xs : List A) → Ways (flat_map f xs)
  flat-ways f each [] = All-nil (IsWayAt site)
  flat-ways f each (x ∷ xs) = All-append (IsWayAt site) (f x) (flat_map f xs) (each x) (flat-ways f each xs)

  guarded : (o : Outcome Bool) (ws : List Written) → Ways ws → Ways (behind_guard o ws)
  guarded (Yields true) ws all = all
  guarded (Yields false) ws all = All-nil (IsWayAt site)
  guarded (Fails why) ws all = one-way (Fault why) tt

  opened : (test : Test) (judge : Judge) (span : Span) (event : Option Event) (block : List Item) → All (IsInside site) block → Ways (open_branch test judge span event block ∷ [])
  opened test judge span event block all = one-way (open_branch test judge span event block) (record { block = all; frames = All-nil HasNoMark })

  map-ways : (P : Written → Type 0) (f : Written → Written) → ((w : Written) → P w → IsWayAt site (f w)) → (ws : List Written) → All P ws → Ways (map f ws)
  map-ways P f keeps [] all = All-nil (IsWayAt site)
  map-ways P f keeps (w ∷ ws) all = All-cons (IsWayAt site) (f w) (map f ws) (keeps w (All-head P w ws all)) (map-ways P f keeps ws (All-tail P w ws all))

-- ---- altsteps

module _ (test : Test) (snapshot : Snapshot) (own : Data) where
  -- how the branches of altsteps are written out
  abbrev Writes : Writing → Type 0
  Writes below = (judge : Judge) (branches : List Branch) → All (IsWayAt judge.site) (below judge branches)

  through-way : (site inner : Site) (at : ℕ) (values : List Value) (before : List Item) → All (IsInside site) before → (w : Written) → IsWayAt inner w → IsWayAt site (through test at values before w)
  through-way site inner at values before all (Fault why) is = tt
  through-way site inner at values before all (Open chance) is = record {
    block = all;
    frames = All-append HasNoMark chance.way.frames (frame_with test.definitions at values chance.way.block ∷ []) is.frames
        (All-cons HasNoMark (frame_with test.definitions at values chance.way.block) [] (inside-unmarked inner chance.way.block is.block) (All-nil HasNoMark));
  }

  with-ways : (below : Writing) → Writes below → (site : Site) (at : ℕ) (before : List Item) (o : Outcome (List Value)) → All (IsInside site) before
      → All (IsWayAt site) (written_with below test snapshot own at before o)
  with-ways below writes site at before (Fails why) all = one-way site (Fault why) tt
  with-ways below writes site at before (Yields values) all =
      map-ways site (IsWayAt (judge_in test at values).site) (through test at values before) (through-way site (judge_in test at values).site at values before all)
      (below (judge_in test at values) (branches_of (kind_at test.definitions at))) (writes (judge_in test at values) (branches_of (kind_at test.definitions at)))

  call-ways : (below : Writing) → Writes below → (site : Site) (judge : Judge) (call : Call) (before : List Item) (at : Option ℕ) → All (IsInside site) before
      → All (IsWayAt site) (written_call below test snapshot own judge call before at)
  call-ways below writes site judge call before None all = one-way site (Fault Unmet) tt
  call-ways below writes site judge call before (Some at) all =
      with-ways below writes site at before (arguments (read_by test snapshot own judge) (parameters_of (kind_at test.definitions at)) call.arguments) all

  alternative-ways : (below : Writing) → Writes below → (judge : Judge) (span : Span) (x : Alternative-F Action Alternative Branch Conditional Statement)
      → All (IsWayAt judge.site) (written_alternative below test snapshot own judge span x)
  alternative-ways below writes judge span (Alternative-F.«Alternative::Event» guard event block) =
      guarded judge.site (guard_holds (read_by test snapshot own judge) guard) (open_branch test judge span (Some event) (items_if_any test.definitions judge.site block) ∷ [])
      (opened judge.site test judge span (Some event) (items_if_any test.definitions judge.site block) (block-inside-if test.definitions judge.site block))
  alternative-ways below writes judge span (Alternative-F.«Alternative::Call» guard call block) =
      guarded judge.site (guard_holds (read_by test snapshot own judge) guard)
      (written_call below test snapshot own judge call (items_if_any test.definitions judge.site block) (altstep_meant (module_names test.definitions call.name)))
      (call-ways below writes judge.site judge call (items_if_any test.definitions judge.site block) (altstep_meant (module_names test.definitions call.name)) (block-inside-if test.definitions judge.site block))
  alternative-ways below writes judge span (Alternative-F.Else block) =
      opened judge.site test judge span None (items test.definitions judge.site block) (block-inside test.definitions judge.site block)

  branch-ways : (below : Writing) → Writes below → (judge : Judge) (b : Branch) → All (IsWayAt judge.site) (written_branch below test snapshot own judge b)
  branch-ways below writes judge b = alternative-ways below writes judge (out-Branch b).place (out-Alternative (out-Branch b).alternative)

  within-ways : (n : ℕ) → Writes (written_within n test snapshot own)
  within-ways zero judge branches = one-way judge.site (Fault Unmet) tt
  within-ways (suc n) judge branches =
      flat-ways judge.site (written_branch (written_within n test snapshot own) test snapshot own judge) (branch-ways (written_within n test snapshot own) (within-ways n) judge) branches

  writes : Writes (write_altsteps test snapshot own)
  writes = within-ways longest_chain

  -- ---- an `alt` and the defaults

  alt-call-ways : (judge : Judge) (call : Call) (at : Option ℕ) → IfSome (option_map (λ n. written_call (write_altsteps test snapshot own) test snapshot own judge call [] (Some n)) at) (All (IsWayAt judge.site))
  alt-call-ways judge call None = tt
  alt-call-ways judge call (Some at) = call-ways (write_altsteps test snapshot own) writes judge.site judge call [] (Some at) (All-nil (IsInside judge.site))

  pub alt-ways : (judge : Judge) (span : Span) (x : Does) → IfSome (written_alt test snapshot own judge span x) (All (IsWayAt judge.site))
  alt-ways judge span (Action-F.Alt branches) = flat-ways judge.site (written_branch (write_altsteps test snapshot own) test snapshot own judge) (branch-ways (write_altsteps test snapshot own) writes judge) branches
  alt-ways judge span (Action-F.«Action::Event» event) = opened judge.site test judge span (Some event) [] (All-nil (IsInside judge.site))
  alt-ways judge span (Action-F.«Action::Call» call) = alt-call-ways judge call (altstep_meant (module_names test.definitions call.name))
  alt-ways judge span _ = tt

  pub default-ways : (site : Site) → All (IsWayAt site) (written_defaults test snapshot own)
  default-ways site =
      flat-ways site (written_default test snapshot own) (λ d. with-ways (write_altsteps test snapshot own) writes site d.altstep [] (Yields d.arguments) (All-nil (IsInside site))) own.defaults

  -- ---- the choice

  abbrev pub IsChoiceAt : Site → Choice → Type 0
  IsChoiceAt site Nothing = Unit {0}
  IsChoiceAt site (Refused why) = Unit {0}
  IsChoiceAt site (Taken chance effect) = IsChanceAt site chance

  chosen : (site : Site) (chance : Chance) (trial : Trial) (others : Choice) → IsChanceAt site chance → IsChoiceAt site others → IsChoiceAt site (chosen_by chance trial others)
  chosen site chance Passed others is all = all
  chosen site chance (Faulty why) others is all = tt
  chosen site chance (Happened effect) others is all = is

  pub choice-at : (site : Site) (ws : List Written) → All (IsWayAt site) ws → IsChoiceAt site (first_choice test snapshot own ws)
  choice-at site [] all = tt
  choice-at site (Fault why ∷ ws) all = tt
  choice-at site (Open chance ∷ ws) all =
      chosen site chance (try_chance test snapshot own chance.judge chance.event) (first_choice test snapshot own ws) (All-head (IsWayAt site) (Open chance) ws all)
      (choice-at site ws (All-tail (IsWayAt site) (Open chance) ws all))
