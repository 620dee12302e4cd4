-- The names that the branch of a choice changes are those of the branches, and those that altsteps have.
use Rattle.std.proofs.Common.{◌≡◌, ℕ, zero, suc, Bool, true, false, List, [], ◌∷◌, ◌++◌, map, Option, Some, None, Result, Ok, Err, IfOk, IfSome, sym, ap, arith, subst, ◌∙◌}
use Rattle.std.specs.List.{All, flat_map}
use Rattle.std.specs.Option.{option_map}
use Rattle.std.proofs.lemmas.List.Elements.{All-append, All-cons, All-head, All-nil, All-tail}
use Rattle.ttcn_syntax.specs.declared.place.Span.{Span}
use Rattle.ttcn_syntax.specs.declared.tree.definition.DefinitionKind.{DefinitionKind}
use Rattle.ttcn_syntax.specs.declared.tree.definition.DefinitionKind.TheVariants as kind
use Rattle.ttcn_syntax.specs.declared.tree.statement.Action.{Action}
use Rattle.ttcn_syntax.specs.declared.tree.statement.Action.TheOpen.{Action-F, Alternative-F}
use Rattle.ttcn_syntax.specs.declared.tree.statement.Alternative.{Alternative, out-Alternative}
use Rattle.ttcn_syntax.specs.declared.tree.statement.Branch.{Branch, out-Branch}
use Rattle.ttcn_syntax.specs.declared.tree.statement.Conditional.{Conditional}
use Rattle.ttcn_syntax.specs.declared.tree.statement.Event.{Event}
use Rattle.ttcn_syntax.specs.declared.tree.statement.Statement.{Statement, out-Statement}
use Rattle.ttcn_syntax.specs.declared.tree.value.Call.{Call}
use Rattle.check_rules.specs.Calls.{altstep_meant, parameters_of}
use Rattle.check_scope.specs.Names.{kind_at, module_names}
use Rattle.semantics.specs.Branches.{Chance, Fault, Judge, Open, Written, Writing, behind_guard, branches_of, guard_holds, judge_in, open_branch, read_by, through, write_altsteps, written_alt, written_alternative, written_branch, written_call, written_default, written_defaults, written_with, written_within}
use Rattle.semantics.specs.Configurations.{ActiveDefault, Data}
use Rattle.semantics.specs.Events as events
use Rattle.semantics.specs.Events.{Choice, Effect, Faulty, Happened, Passed, Trial, chosen_by, first_choice, try_chance}
use Rattle.semantics.specs.Items.{Item, action_of, items, items_if_any}
use Rattle.semantics.specs.Sites.{Site}
use Rattle.semantics.specs.Snapshots as snapshots
use Rattle.semantics.specs.Snapshots.{Test}
use Rattle.step_choice.proofs.KnownEffects.{EffectKnown, deed-known, event-known, left-known, right-known}
use Rattle.step_choice.specs.Choices.{Chooses, choice_from, judge_at}
use Rattle.step_choice.specs.Deeds.{HasKnownNames}
use Rattle.step_choice.specs.declared.taken.Taken.{Taken}
use Rattle.step_choice.specs.internal.Judged.{test_of}
use Rattle.step_snapshot.specs.Seen.{own_by, seen_by}
use Rattle.step_snapshot.specs.Slots.{NoneIsMissing}
use Rattle.step_snapshot.specs.Tests.{legend_by}
use Rattle.step_snapshot.specs.declared.snapshot.Snapshot.{Snapshot}
use Rattle.graph_names.specs.Known.{names_of_alternative, names_of_branch, names_of_event, names_of_kind}
use Rattle.check_rules.specs.Limits.{longest_chain}
use Rattle.value_types.specs.Outcomes.{Fails, Outcome, Unmet, Yields}
use Rattle.value_types.specs.Templates.{arguments}
use Rattle.value_types.specs.declared.fault.Fault as faults
use Rattle.value_types.specs.declared.value.Value.{Value}

-- ---- branches that are written out

-- the names of what a branch waits for
abbrev names-waited : Option Event → List (List ℕ)
names-waited None = []
names-waited (Some e) = names_of_event e

-- the names of the branch have slots
abbrev WrittenKnown : List (List ℕ) → Written → Type 0
WrittenKnown names (Fault why) = Unit {0}
WrittenKnown names (Open chance) = NoneIsMissing names (names-waited chance.event)

no-names : (names : List (List ℕ)) → NoneIsMissing names []
no-names names name there = absurd (omega (arith, there.1))

one-fault : (names : List (List ℕ)) (written : Written) → WrittenKnown names written → All (WrittenKnown names) (written ∷ [])
one-fault names written known = All-cons (WrittenKnown names) written [] known (All-nil (WrittenKnown names))

guard-known : (names : List (List ℕ)) (guard : Outcome Bool) (written : List Written) → All (WrittenKnown names) written → All (WrittenKnown names) (behind_guard guard written)
guard-known names (Yields true) written known = known
guard-known names (Yields false) written known = All-nil (WrittenKnown names)
guard-known names (Fails why) written known = one-fault names (Fault why) tt

through-one : (names : List (List ℕ)) (test : Test) (at : ℕ) (values : List Value) (before : List Item) (written : Written) → WrittenKnown names written → WrittenKnown names (through test at values before written)
through-one names test at values before (Fault why) known = tt
through-one names test at values before (Open chance) known = known

through-known : (names : List (List ℕ)) (test : Test) (at : ℕ) (values : List Value) (before : List Item) (written : List Written) → All (WrittenKnown names) written
    → All (WrittenKnown names) (map (through test at values before) written)
through-known names test at values before [] known = All-nil (WrittenKnown names)
through-known names test at values before (one ∷ written) known =
    All-cons (WrittenKnown names) (through test at values before one) (map (through test at values before) written)
    (through-one names test at values before one (All-head (WrittenKnown names) one written known))
    (through-known names test at values before written (All-tail (WrittenKnown names) one written known))

branches-known : (names : List (List ℕ)) (k : Option DefinitionKind) → NoneIsMissing names (names_of_kind k) → NoneIsMissing names (flat_map names_of_branch (branches_of k))
branches-known names None all = no-names names
branches-known names (Some (kind.Record d)) all = no-names names
branches-known names (Some (kind.Enumerated d)) all = no-names names
branches-known names (Some (kind.Port d)) all = no-names names
branches-known names (Some (kind.Component d)) all = no-names names
branches-known names (Some (kind.Constants d)) all = no-names names
branches-known names (Some (kind.Template d)) all = no-names names
branches-known names (Some (kind.Function d)) all = no-names names
branches-known names (Some (kind.Altstep a)) all = right-known names (map (λ p. p.name) a.parameters) (flat_map names_of_branch a.branches) all
branches-known names (Some (kind.Testcase d)) all = no-names names

-- what is written of branches whose names have slots
abbrev WritesKnown : List (List ℕ) → Writing → Type 0
WritesKnown names write = (judge : Judge) (branches : List Branch) → NoneIsMissing names (flat_map names_of_branch branches) → All (WrittenKnown names) (write judge branches)

module _ (names : List (List ℕ)) (test : Test) (snapshot : snapshots.Snapshot) (own : Data) (known : (at : ℕ) → NoneIsMissing names (names_of_kind (kind_at test.definitions at))) where
  with-known : (below : Writing) → WritesKnown names below → (at : ℕ) (before : List Item) (given : Outcome (List Value)) → All (WrittenKnown names) (written_with below test snapshot own at before given)
  with-known below writes at before (Fails why) = one-fault names (Fault why) tt
  with-known below writes at before (Yields values) =
      through-known names test at values before (below (judge_in test at values) (branches_of (kind_at test.definitions at)))
      (writes (judge_in test at values) (branches_of (kind_at test.definitions at)) (branches-known names (kind_at test.definitions at) (known at)))

  call-known : (below : Writing) → WritesKnown names below → (judge : Judge) (call : Call) (before : List Item) (meant : Option ℕ) → All (WrittenKnown names) (written_call below test snapshot own judge call before meant)
  call-known below writes judge call before None = one-fault names (Fault Unmet) tt
  call-known below writes judge call before (Some at) =
      with-known below writes at before (arguments (read_by test snapshot own judge) (parameters_of (kind_at test.definitions at)) call.arguments)

  alternative-known : (below : Writing) → WritesKnown names below → (judge : Judge) (place : Span) (alternative : Alternative-F Action Alternative Branch Conditional Statement) → NoneIsMissing names (names_of_alternative alternative)
      → All (WrittenKnown names) (written_alternative below test snapshot own judge place alternative)
  alternative-known below writes judge place (Alternative-F.«Alternative::Event» guard event block) all =
      guard-known names (guard_holds (read_by test snapshot own judge) guard) (open_branch test judge place (Some event) (items_if_any test.definitions judge.site block) ∷ [])
      (one-fault names (open_branch test judge place (Some event) (items_if_any test.definitions judge.site block)) all)
  alternative-known below writes judge place (Alternative-F.«Alternative::Call» guard call block) all =
      guard-known names (guard_holds (read_by test snapshot own judge) guard) (written_call below test snapshot own judge call (items_if_any test.definitions judge.site block) (altstep_meant (module_names test.definitions call.name)))
      (call-known below writes judge call (items_if_any test.definitions judge.site block) (altstep_meant (module_names test.definitions call.name)))
  alternative-known below writes judge place (Alternative-F.Else block) all = one-fault names (open_branch test judge place None (items test.definitions judge.site block)) (no-names names)

  pub all-known : (below : Writing) → WritesKnown names below → (judge : Judge) (branches : List Branch) → NoneIsMissing names (flat_map names_of_branch branches)
      → All (WrittenKnown names) (flat_map (written_branch below test snapshot own judge) branches)
  all-known below writes judge [] all = All-nil (WrittenKnown names)
  all-known below writes judge (b ∷ branches) all =
      All-append (WrittenKnown names) (written_branch below test snapshot own judge b) (flat_map (written_branch below test snapshot own judge) branches)
      (alternative-known below writes judge (out-Branch b).place (out-Alternative (out-Branch b).alternative) (left-known names (names_of_branch b) (flat_map names_of_branch branches) all))
      (all-known below writes judge branches (right-known names (names_of_branch b) (flat_map names_of_branch branches) all))

  within-known : (n : ℕ) → WritesKnown names (written_within n test snapshot own)
  within-known zero judge branches all = one-fault names (Fault Unmet) tt
  within-known (suc n) judge branches all = all-known (written_within n test snapshot own) (within-known n) judge branches all

  default-known : (defaults : List ActiveDefault) → All (WrittenKnown names) (flat_map (written_default test snapshot own) defaults)
  default-known [] = All-nil (WrittenKnown names)
  default-known (d ∷ defaults) =
      All-append (WrittenKnown names) (written_default test snapshot own d) (flat_map (written_default test snapshot own) defaults)
      (with-known (write_altsteps test snapshot own) (within-known longest_chain) d.altstep [] (Yields d.arguments)) (default-known defaults)

-- ---- choices

either-chosen : (K : Type 0) (chance found : Chance) (trial : Trial) (others : Choice) (effect : Effect) → chosen_by chance trial others ≡ events.Taken found effect
    → (trial ≡ Happened effect → K) → (others ≡ events.Taken found effect → K) → K
either-chosen K chance found Passed others effect is here later = later is
either-chosen K chance found (Faulty why) others effect is here later = absurd (let e = is in cc)
either-chosen K chance found (Happened so) others effect is here later = here (let same : so ≡ effect = cc in ap Happened same)

chance-known : (names : List (List ℕ)) (test : Test) (snapshot : snapshots.Snapshot) (own : Data) (judge : Judge) (e : Option Event) (effect : Effect) → try_chance test snapshot own judge e ≡ Happened effect
    → NoneIsMissing names (names-waited e) → EffectKnown names effect
chance-known names test snapshot own judge None effect is all = let same : events.Plain ≡ effect = cc in subst (EffectKnown names) same tt
chance-known names test snapshot own judge (Some e) effect is all = event-known names test snapshot own judge e effect is all

first-known : (names : List (List ℕ)) (test : Test) (snapshot : snapshots.Snapshot) (own : Data) (written : List Written) (chance : Chance) (effect : Effect) → first_choice test snapshot own written ≡ events.Taken chance effect
    → All (WrittenKnown names) written → EffectKnown names effect
first-known names test snapshot own [] chance effect is all = absurd (let e = is in cc)
first-known names test snapshot own (Fault why ∷ written) chance effect is all = absurd (let e = is in cc)
first-known names test snapshot own (Open one ∷ written) chance effect is all =
    either-chosen (EffectKnown names effect) one chance (try_chance test snapshot own one.judge one.event) (first_choice test snapshot own written) effect is
    (λ here. chance-known names test snapshot own one.judge one.event effect here (All-head (WrittenKnown names) (Open one) written all))
    (λ later. first-known names test snapshot own written chance effect later (All-tail (WrittenKnown names) (Open one) written all))

-- the names that the branch of a choice changes have slots, where those of the branches have
pub choice-known : (s : Snapshot) (site : Site) (st : Statement) (written : List Written) (result : Result (Option Taken) faults.Fault)
    → written_alt (test_of s) (seen_by s) (own_by s) (judge_at (seen_by s) (own_by s) site) (out-Statement st).place (action_of st) ≡ Some written
    → All (WrittenKnown (s.test.now).names) written → Chooses s site st result
    → IfOk result (λ found. IfSome found (λ taken. HasKnownNames (s.test.now).names taken.deed))
choice-known s site st written (Err fault) is known chooses = tt
choice-known s site st written (Ok None) is known chooses = tt
choice-known s site st written (Ok (Some taken)) is known (choice, (so, (chance, (effect, (taken_is, of))))) =
    let names = (s.test.now).names in
    let same : Some (choice_from (test_of s) (seen_by s) (own_by s) written) ≡ Some choice =
    sym (ap (option_map (choice_from (test_of s) (seen_by s) (own_by s))) is) ∙ so in
    let chosen : choice_from (test_of s) (seen_by s) (own_by s) written ≡ choice = cc in
    deed-known names (legend_by s.test.now) (test_of s) chance.judge.site taken.deed effect of.deed
    (first-known names (test_of s) (seen_by s) (own_by s) (written ++ written_defaults (test_of s) (seen_by s) (own_by s)) chance effect (chosen ∙ taken_is)
    (All-append (WrittenKnown names) written (written_defaults (test_of s) (seen_by s) (own_by s)) known (default-known names (test_of s) (seen_by s) (own_by s) (s.test.now).known (own_by s).defaults)))

-- among the branches of an `alt`
pub alt-known : (s : Snapshot) (site : Site) (st : Statement) (branches : List Branch) (result : Result (Option Taken) faults.Fault) → action_of st ≡ Action-F.Alt branches
    → NoneIsMissing (s.test.now).names (flat_map names_of_branch branches) → Chooses s site st result → IfOk result (λ found. IfSome found (λ taken. HasKnownNames (s.test.now).names taken.deed))
alt-known s site st branches result is all chooses =
    let names = (s.test.now).names in
    let judge = judge_at (seen_by s) (own_by s) site in
    choice-known s site st (flat_map (written_branch (write_altsteps (test_of s) (seen_by s) (own_by s)) (test_of s) (seen_by s) (own_by s) judge) branches) result
    (ap (written_alt (test_of s) (seen_by s) (own_by s) judge (out-Statement st).place) is)
    (all-known names (test_of s) (seen_by s) (own_by s) (s.test.now).known (write_altsteps (test_of s) (seen_by s) (own_by s)) (within-known names (test_of s) (seen_by s) (own_by s) (s.test.now).known longest_chain) judge branches all)
    chooses

-- at an event
pub lone-event-known : (s : Snapshot) (site : Site) (st : Statement) (e : Event) (result : Result (Option Taken) faults.Fault) → action_of st ≡ Action-F.«Action::Event» e
    → NoneIsMissing (s.test.now).names (names_of_event e) → Chooses s site st result → IfOk result (λ found. IfSome found (λ taken. HasKnownNames (s.test.now).names taken.deed))
lone-event-known s site st e result is all chooses =
    let names = (s.test.now).names in
    let judge = judge_at (seen_by s) (own_by s) site in
    let one = open_branch (test_of s) judge (out-Statement st).place (Some e) [] in
    choice-known s site st (one ∷ []) result
    (ap (written_alt (test_of s) (seen_by s) (own_by s) judge (out-Statement st).place) is)
    (one-fault names one all) chooses

-- at a call of an altstep
pub lone-call-known : (s : Snapshot) (site : Site) (st : Statement) (call : Call) (at : ℕ) (result : Result (Option Taken) faults.Fault) → action_of st ≡ Action-F.«Action::Call» call
    → altstep_meant (module_names (test_of s).definitions call.name) ≡ Some at → Chooses s site st result → IfOk result (λ found. IfSome found (λ taken. HasKnownNames (s.test.now).names taken.deed))
lone-call-known s site st call at result is meant chooses =
    let names = (s.test.now).names in
    let judge = judge_at (seen_by s) (own_by s) site in
    let write : ℕ → List Written = λ k. written_call (write_altsteps (test_of s) (seen_by s) (own_by s)) (test_of s) (seen_by s) (own_by s) judge call [] (Some k) in
    choice-known s site st (write at) result
    (ap (written_alt (test_of s) (seen_by s) (own_by s) judge (out-Statement st).place) is ∙ ap (option_map write) meant)
    (call-known names (test_of s) (seen_by s) (own_by s) (s.test.now).known (write_altsteps (test_of s) (seen_by s) (own_by s)) (within-known names (test_of s) (seen_by s) (own_by s) (s.test.now).known longest_chain) judge call [] (Some at))
    chooses
