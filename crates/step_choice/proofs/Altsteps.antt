-- The branches of an altstep, from a call of the altstep.
use Rattle.std.proofs.Common.{◌≡◌, ℕ, zero, suc, List, [], ◌∷◌, map, length, Option, Some, None, IsSome, is_some, Result, Ok, Err, sym, ap, subst, ◌∙◌}
use Rattle.std.proofs.lemmas.List.{length-map}
use Rattle.std.proofs.lemmas.List.Elements.{Contains-append_left}
use Rattle.std.specs.List.{flat_map, slice_get}
use Rattle.std.specs.Result.{IsErrAnd}
use Rattle.ttcn_syntax.specs.declared.tree.definition.Altstep.{Altstep}
use Rattle.ttcn_syntax.specs.declared.tree.definition.DefinitionKind.{DefinitionKind}
use Rattle.ttcn_syntax.specs.declared.tree.definition.DefinitionKind.TheVariants as kind
use Rattle.ttcn_syntax.specs.declared.tree.statement.Branch.{Branch}
use Rattle.check_rules.specs.Calls.{parameters_of}
use Rattle.check_scope.specs.Names.{kind_at}
use Rattle.semantics.specs.Branches.{Judge, argument_values, branches_of, judge_in, through}
use Rattle.semantics.specs.Events as events
use Rattle.semantics.specs.Events.{Choice, Refused}
use Rattle.semantics.specs.Items.{Item}
use Rattle.semantics.specs.Sites.{beginning}
use Rattle.semantics.specs.Snapshots.{View, view_of_arguments}
use Rattle.step_choice.proofs.Choosing.{first_of_branches}
use Rattle.step_choice.proofs.Firsts.{first-through}
use Rattle.step_choice.proofs.Guarded.{no-branches}
use Rattle.step_choice.specs.Choices.{Finds}
use Rattle.step_choice.specs.declared.taken.Taken.{Taken}
use Rattle.step_choice.specs.internal.Judged.{IsAmong, altstep_of, below, first_of, judge_of, test_of}
use Rattle.step_choice.specs.internal.Later.{choice_through}
use Rattle.step_snapshot.specs.Seen.{own_by, seen_by}
use Rattle.step_snapshot.specs.Slots.{NoneIsMissing}
use Rattle.step_snapshot.specs.Tests.{legend_by}
use Rattle.step_snapshot.specs.declared.snapshot.Snapshot.{Snapshot}
use Rattle.config_parts.specs.Views.{view_by}
use Rattle.config_parts.specs.declared.frame.Cells.{Cells}
use Rattle.graph_names.specs.Known.{names_of_branch, names_of_kind}
use Rattle.ttcn_graph.specs.Graphs.{beginnings}
use Rattle.ttcn_graph.specs.Ways.{items_of_branch}
use Rattle.value_types.specs.Outcomes.{Unmet}
use Rattle.value_types.specs.declared.fault.Fault.{Fault}
use Rattle.value_types.specs.declared.fault.Fault.TheVariants.{Dynamic, Memory}
use Rattle.value_types.specs.declared.value.Value.{Value}

-- the choice among branches of the altstep at a position, from a call with these arguments
abbrev pub first_from_call : Snapshot → ℕ → ℕ → List Value → List Item → List Branch → Choice
first_from_call s levels at values block branches = first_of s (map (through (test_of s) at values block) (below levels s (judge_in (test_of s) at values) branches))

pub no-levels : (s : Snapshot) (levels at : ℕ) (values : List Value) (block : List Item) (branches : List Branch) → levels ≡ 0 → first_from_call s levels at values block branches ≡ Refused Unmet
no-levels s levels at values block branches none = ap (λ n. first_from_call s n at values block branches) none

-- the judge of an altstep's branches, by what the frame's names have
judge-seen : (s : Snapshot) (at : ℕ) (values : List Value) (inner : Cells) → view_by (legend_by s.test.now) inner ≡ view_of_arguments (argument_values (test_of s).definitions at values)
    → judge_in (test_of s) at values ≡ judge_of s (beginning at) inner
judge-seen s at values inner seen =
    let judge : View → Judge = λ view. record { site = beginning at; view = view } in ap judge (sym seen)

-- the choice from a call is that among the altstep's branches
pub from-call : (s : Snapshot) (levels below_it at : ℕ) (values : List Value) (block : List Item) (inner : Cells) (branches : List Branch) → levels ≡ suc below_it
    → view_by (legend_by s.test.now) inner ≡ view_of_arguments (argument_values (test_of s).definitions at values)
    → first_from_call s levels at values block branches ≡ choice_through (test_of s) at values block (first_of_branches s below_it (beginning at) inner branches)
from-call s levels below_it at values block inner branches more seen =
    ap (λ n. first_from_call s n at values block branches) more
    ∙ first-through (test_of s) (seen_by s) (own_by s) at values block (below (suc below_it) s (judge_in (test_of s) at values) branches)
    ∙ ap (λ judge. choice_through (test_of s) at values block (first_of s (below (suc below_it) s judge branches))) (judge-seen s at values inner seen)

-- where no altstep is defined there are no branches
pub none-from-call : (s : Snapshot) (levels below_it at : ℕ) (values : List Value) (block : List Item) → levels ≡ suc below_it → altstep_of (kind_at (test_of s).definitions at) ≡ None
    → first_from_call s levels at values block (branches_of (kind_at (test_of s).definitions at)) ≡ events.Nothing
none-from-call s levels below_it at values block more none =
    ap (λ n. first_from_call s n at values block (branches_of (kind_at (test_of s).definitions at))) more
    ∙ ap (first_from_call s (suc below_it) at values block) (no-branches (kind_at (test_of s).definitions at) none)

-- what is found among the branches of an altstep, by its definition
pub found-in-altstep : (s : Snapshot) (levels at : ℕ) (inner : Cells) (branches : List Branch) (a : Altstep) (k : Option DefinitionKind) (result : Result (Option Taken) Fault) → branches ≡ a.branches → k ≡ Some (kind.Altstep a)
    → Finds s (IsAmong (map (items_of_branch (test_of s).definitions (beginning at)) branches)) (first_of_branches s levels (beginning at) inner branches) result
    → Finds s (IsAmong (beginnings (test_of s).definitions (beginning at) k)) (first_of_branches s levels (beginning at) inner (branches_of k)) result
found-in-altstep s levels at inner branches a k result are is found =
    let P : List Branch → Type 0 = λ bs. Finds s (IsAmong (map (items_of_branch (test_of s).definitions (beginning at)) bs)) (first_of_branches s levels (beginning at) inner bs) result in
    let Q : Option DefinitionKind → Type 0 = λ o. Finds s (IsAmong (beginnings (test_of s).definitions (beginning at) o)) (first_of_branches s levels (beginning at) inner (branches_of o)) result in
    subst Q (sym is) (subst P are found)

pub fault-through : (s : Snapshot) (P Q : ℕ → List Item → Type 0) (at : ℕ) (values : List Value) (block : List Item) (choice : Choice) (fault : Fault) → Finds s P choice (Err fault) → Finds s Q (choice_through (test_of s) at values block choice) (Err fault)
fault-through s P Q at values block choice Dynamic (why, is) = (why, ap (choice_through (test_of s) at values block) is)
fault-through s P Q at values block choice Memory found = tt

-- where memory was refused, nothing is said
pub memory-found : (s : Snapshot) (P : ℕ → List Item → Type 0) (choice : Choice) (result : Result (Option Taken) Fault) → IsErrAnd result (λ fault. fault ≡ Memory) → Finds s P choice result
memory-found s P choice (Ok taken) is = absurd is
memory-found s P choice (Err fault) is = let R : Fault → Type 0 = λ f. Finds s P choice (Err f) in subst R (sym is) tt

-- ---- what the calls ask for

pub there : {A : Type 0} (xs : List A) (k : ℕ) (x : A) → slice_get xs k ≡ Some x → IsSome (slice_get xs k)
there xs k x is = ap is_some is

pub as-long : {A B C : Type 0} (f : A → C) (g : B → C) (xs : List A) (ys : List B) → map f xs ≡ map g ys → length xs ≡ length ys
as-long f g xs ys same = sym (length-map xs f) ∙ ap length same ∙ length-map ys g

-- the parameters of an altstep have slots, where all names of the altstep have
pub parameters-known : (names : List (List ℕ)) (k : Option DefinitionKind) (a : Altstep) → k ≡ Some (kind.Altstep a) → NoneIsMissing names (names_of_kind k)
    → NoneIsMissing names (map (λ parameter. parameter.name) (parameters_of k))
parameters-known names k a is known =
    let P : Option DefinitionKind → Type 0 = λ o. NoneIsMissing names (names_of_kind o) in
    let Q : Option DefinitionKind → Type 0 = λ o. NoneIsMissing names (map (λ parameter. parameter.name) (parameters_of o)) in
    let all : P (Some (kind.Altstep a)) = subst P is known in
    subst Q (sym is) (λ name there. all name (Contains-append_left (map (λ parameter. parameter.name) a.parameters) (flat_map names_of_branch a.branches) name there))
