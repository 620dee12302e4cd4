-- What is found at a statement is what a component chooses there.
use Rattle.std.proofs.Common.{◌≡◌, ℕ, zero, suc, List, [], ◌∷◌, ◌++◌, map, length, Option, Some, None, Result, refl, sym, ap, ◌∙◌}
use Rattle.std.specs.List.{flat_map, slice_get}
use Rattle.std.specs.Option.{option_map}
use Rattle.ttcn_syntax.specs.declared.tree.definition.Definition.{Definition}
use Rattle.ttcn_syntax.specs.declared.tree.statement.Action.TheOpen.{Action-F}
use Rattle.ttcn_syntax.specs.declared.tree.statement.Branch.{Branch}
use Rattle.ttcn_syntax.specs.declared.tree.statement.Event.{Event}
use Rattle.ttcn_syntax.specs.declared.tree.statement.Statement.{Statement, out-Statement}
use Rattle.ttcn_syntax.specs.declared.tree.value.Call.{Call}
use Rattle.check_rules.specs.Calls.{altstep_meant}
use Rattle.check_scope.specs.Names.{module_names}
use Rattle.semantics.specs.Branches.{Judge, Written, open_branch, written_alt, written_branch, written_call, written_defaults}
use Rattle.semantics.specs.Items.{Doing, Item, Mark, Whole, action_of}
use Rattle.semantics.specs.Sites.{Site}
use Rattle.semantics.specs.Snapshots.{View}
use Rattle.semantics.specs.Storing.{last_values}
use Rattle.step_choice.proofs.Choosing.{first_of_branches}
use Rattle.step_choice.proofs.Firsts.{first-append}
use Rattle.step_choice.proofs.Found.{same-choice}
use Rattle.step_choice.specs.Choices.{Chooses, Finds, IsWayOf, choice_from, judge_at}
use Rattle.step_choice.specs.declared.taken.Taken.{Taken}
use Rattle.step_choice.specs.internal.Judged.{below, first_of, judge_of, test_of}
use Rattle.step_choice.specs.internal.Later.{or_later}
use Rattle.step_snapshot.specs.Seen.{own_by, seen_by}
use Rattle.step_snapshot.specs.Tests.{legend_by}
use Rattle.step_snapshot.specs.declared.snapshot.Snapshot.{Snapshot}
use Rattle.config_parts.specs.Views.{view_by}
use Rattle.config_parts.specs.declared.frame.Cells.{Cells}
use Rattle.ttcn_graph.specs.Ways.{for_whole, items_of_branch, ways_of, ways_of_call, ways_of_part}
use Rattle.check_rules.specs.Limits.{longest_chain}
use Rattle.value_types.specs.declared.fault.Fault.{Fault}

-- ---- ways

among-marked : {A : Type 0} (f : A → List Item) (marked : List Item) (bs : List A) (way : ℕ) (block : List Item) → slice_get (map f bs) way ≡ Some block
    → slice_get (map (λ b. f b ++ marked) bs ++ marked ∷ []) way ≡ Some (block ++ marked)
among-marked f marked [] way block is = absurd (let e = is in cc)
among-marked f marked (b ∷ bs) zero block is = ap (λ items. Some (items ++ marked)) (let e : f b ≡ block = cc in e)
among-marked f marked (b ∷ bs) (suc way) block is = among-marked f marked bs way block is

last-marked : {A : Type 0} (f : A → List Item) (marked : List Item) (bs : List A) → slice_get (map f bs ++ marked ∷ []) (length bs) ≡ Some marked
last-marked f marked [] = refl
last-marked f marked (b ∷ bs) = last-marked f marked bs

pub branch-way : (definitions : List Definition) (site : Site) (s : Statement) (branches : List Branch) → action_of s ≡ Action-F.Alt branches
    → (way : ℕ) (block : List Item) → slice_get (map (items_of_branch definitions site) branches) way ≡ Some block → IsWayOf definitions site s way block
branch-way definitions site s branches is way block among rest =
    ap (λ does. slice_get (ways_of_part definitions site s rest Whole does) way) is ∙ among-marked (items_of_branch definitions site) (Mark site s ∷ rest) branches way block among

pub default-way : (definitions : List Definition) (site : Site) (s : Statement) (branches : List Branch) → action_of s ≡ Action-F.Alt branches
    → (way : ℕ) (block : List Item) → (way ≡ length branches) × (block ≡ []) → IsWayOf definitions site s way block
default-way definitions site s branches is way block (at, none) rest =
    ap (λ does. slice_get (ways_of_part definitions site s rest Whole does) way) is
    ∙ ap (slice_get (ways_of_part definitions site s rest Whole (Action-F.Alt branches))) at
    ∙ last-marked (λ b. items_of_branch definitions site b ++ Mark site s ∷ rest) (Mark site s ∷ rest) branches
    ∙ ap (λ items. Some (items ++ Mark site s ∷ rest)) (sym none)

-- the one way of what stands for an `alt`
lone-way : (definitions : List Definition) (site : Site) (s : Statement) → ((rest : List Item) → ways_of definitions (Doing site s Whole ∷ rest) ≡ (Mark site s ∷ rest) ∷ [])
    → (way : ℕ) (block : List Item) → (way ≡ 0) × (block ≡ []) → IsWayOf definitions site s way block
lone-way definitions site s one way block (at, none) rest =
    ap (λ ways. slice_get ways way) (one rest) ∙ ap (slice_get ((Mark site s ∷ rest) ∷ [])) at ∙ ap (λ items. Some (items ++ Mark site s ∷ rest)) (sym none)

pub event-way : (definitions : List Definition) (site : Site) (s : Statement) (e : Event) → action_of s ≡ Action-F.«Action::Event» e → (way : ℕ) (block : List Item) → (way ≡ 0) × (block ≡ []) → IsWayOf definitions site s way block
event-way definitions site s e is = lone-way definitions site s (λ rest. ap (ways_of_part definitions site s rest Whole) is)

pub call-way : (definitions : List Definition) (site : Site) (s : Statement) (call : Call) (at : ℕ) → action_of s ≡ Action-F.«Action::Call» call → altstep_meant (module_names definitions call.name) ≡ Some at
    → (way : ℕ) (block : List Item) → (way ≡ 0) × (block ≡ []) → IsWayOf definitions site s way block
call-way definitions site s call at is meant =
    lone-way definitions site s (λ rest. ap (ways_of_part definitions site s rest Whole) is ∙ ap (λ o. for_whole Whole (ways_of_call (Mark site s ∷ rest) o)) meant)

-- ---- choices

-- what is found among these branches and then those of the defaults
pub chooses : (s : Snapshot) (site : Site) (st : Statement) (written : List Written) (result : Result (Option Taken) Fault)
    → written_alt (test_of s) (seen_by s) (own_by s) (judge_at (seen_by s) (own_by s) site) (out-Statement st).place (action_of st) ≡ Some written
    → Finds s (IsWayOf (test_of s).definitions site st) (or_later (first_of s written) (first_of s (written_defaults (test_of s) (seen_by s) (own_by s)))) result
    → Chooses s site st result
chooses s site st written result is found = (
  choice_from (test_of s) (seen_by s) (own_by s) written,
  (
    ap (option_map (choice_from (test_of s) (seen_by s) (own_by s))) is,
    same-choice s (IsWayOf (test_of s).definitions site st)
        (or_later (first_of s written) (first_of s (written_defaults (test_of s) (seen_by s) (own_by s))))
        (choice_from (test_of s) (seen_by s) (own_by s) written) result
        (first-append (test_of s) (seen_by s) (own_by s) written (written_defaults (test_of s) (seen_by s) (own_by s))) found,
  ),
)

-- the judge in the last frame
abbrev last-judge : Snapshot → Site → View → Judge
last-judge s site view = record { site = site; view = view }

-- what is seen of the last frame
abbrev pub last_seen : Snapshot → View
last_seen s = record { values = last_values (own_by s).calls; timers = (seen_by s).timers }

-- among the branches of an `alt`
pub alt-found : (s : Snapshot) (site : Site) (st : Statement) (branches : List Branch) (levels : ℕ) (inner : Cells) (result : Result (Option Taken) Fault) → action_of st ≡ Action-F.Alt branches
    → levels ≡ longest_chain → view_by (legend_by s.test.now) inner ≡ last_seen s
    → Finds s (IsWayOf (test_of s).definitions site st) (or_later (first_of_branches s levels site inner branches) (first_of s (written_defaults (test_of s) (seen_by s) (own_by s)))) result
    → Chooses s site st result
alt-found s site st branches levels inner result does as_many seen found =
    let later = first_of s (written_defaults (test_of s) (seen_by s) (own_by s)) in
    let write : ℕ → View → List Written = λ n view. flat_map (written_branch (below n s) (test_of s) (seen_by s) (own_by s) (last-judge s site view)) branches in
    chooses s site st (write longest_chain (last_seen s)) result
    (ap (written_alt (test_of s) (seen_by s) (own_by s) (judge_at (seen_by s) (own_by s) site) (out-Statement st).place) does)
    (same-choice s (IsWayOf (test_of s).definitions site st) (or_later (first_of_branches s levels site inner branches) later) (or_later (first_of s (write longest_chain (last_seen s))) later) result
    (ap (λ c. or_later c later) (sym (ap (λ n. first_of s (write n (view_by (legend_by s.test.now) inner))) as_many ∙ ap (λ view. first_of s (write longest_chain view)) seen))) found)

-- at an event
pub event-found : (s : Snapshot) (site : Site) (st : Statement) (e : Event) (inner : Cells) (result : Result (Option Taken) Fault) → action_of st ≡ Action-F.«Action::Event» e
    → view_by (legend_by s.test.now) inner ≡ last_seen s
    → Finds s (IsWayOf (test_of s).definitions site st) (or_later (first_of s (open_branch (test_of s) (judge_of s site inner) (out-Statement st).place (Some e) [] ∷ [])) (first_of s (written_defaults (test_of s) (seen_by s) (own_by s)))) result
    → Chooses s site st result
event-found s site st e inner result does seen found =
    let later = first_of s (written_defaults (test_of s) (seen_by s) (own_by s)) in
    let write : View → List Written = λ view. open_branch (test_of s) (last-judge s site view) (out-Statement st).place (Some e) [] ∷ [] in
    chooses s site st (write (last_seen s)) result
    (ap (written_alt (test_of s) (seen_by s) (own_by s) (judge_at (seen_by s) (own_by s) site) (out-Statement st).place) does)
    (same-choice s (IsWayOf (test_of s).definitions site st) (or_later (first_of s (write (view_by (legend_by s.test.now) inner))) later) (or_later (first_of s (write (last_seen s))) later) result
    (ap (λ view. or_later (first_of s (write view)) later) (sym seen)) found)

-- at a call of an altstep
pub call-found : (s : Snapshot) (site : Site) (st : Statement) (call : Call) (at levels : ℕ) (inner : Cells) (result : Result (Option Taken) Fault) → action_of st ≡ Action-F.«Action::Call» call
    → altstep_meant (module_names (test_of s).definitions call.name) ≡ Some at → levels ≡ longest_chain → view_by (legend_by s.test.now) inner ≡ last_seen s
    → Finds s (IsWayOf (test_of s).definitions site st) (or_later (first_of s (written_call (below levels s) (test_of s) (seen_by s) (own_by s) (judge_of s site inner) call [] (Some at))) (first_of s (written_defaults (test_of s) (seen_by s) (own_by s)))) result
    → Chooses s site st result
call-found s site st call at levels inner result does meant as_many seen found =
    let later = first_of s (written_defaults (test_of s) (seen_by s) (own_by s)) in
    let write : ℕ → View → List Written = λ n view. written_call (below n s) (test_of s) (seen_by s) (own_by s) (last-judge s site view) call [] (Some at) in
    chooses s site st (write longest_chain (last_seen s)) result
    (ap (written_alt (test_of s) (seen_by s) (own_by s) (judge_at (seen_by s) (own_by s) site) (out-Statement st).place) does
    ∙ ap (option_map (λ k. written_call (below longest_chain s) (test_of s) (seen_by s) (own_by s) (judge_at (seen_by s) (own_by s) site) call [] (Some k))) meant)
    (same-choice s (IsWayOf (test_of s).definitions site st) (or_later (first_of s (write levels (view_by (legend_by s.test.now) inner))) later) (or_later (first_of s (write longest_chain (last_seen s))) later) result
    (ap (λ c. or_later c later) (sym (ap (λ n. first_of s (write n (view_by (legend_by s.test.now) inner))) as_many ∙ ap (λ view. first_of s (write longest_chain view)) seen))) found)
