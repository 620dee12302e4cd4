-- The frames that a branch brings with it are in order.
use Rattle.std.proofs.Common.{ℕ, zero, suc, Bool, true, false, List, [], ◌∷◌, map, Option, Some, None, IfSome, option_map}
use Rattle.std.specs.List.{All, flat_map}
use Rattle.std.proofs.lemmas.List.Elements.{All-append, All-cons, All-head, All-nil, All-tail}
use Rattle.ttcn_syntax.specs.declared.place.Span.{Span}
use Rattle.ttcn_syntax.specs.declared.tree.statement.Action.{Action}
use Rattle.ttcn_syntax.specs.declared.tree.statement.Action.TheOpen.{Action-F, Alternative-F}
use Rattle.ttcn_syntax.specs.declared.tree.statement.Alternative.{Alternative, out-Alternative}
use Rattle.ttcn_syntax.specs.declared.tree.statement.Branch.{Branch, out-Branch}
use Rattle.ttcn_syntax.specs.declared.tree.statement.Conditional.{Conditional}
use Rattle.ttcn_syntax.specs.declared.tree.statement.Event.{Event}
use Rattle.ttcn_syntax.specs.declared.tree.statement.Statement.{Statement}
use Rattle.ttcn_syntax.specs.declared.tree.value.Call.{Call}
use Rattle.check_rules.specs.Calls.{altstep_meant, parameters_of}
use Rattle.check_scope.specs.Names.{kind_at, module_names}
use Rattle.laws_order.proofs.Stored.{IsFrameInOrder, frame-ordered}
use Rattle.semantics.specs.Branches.{Chance, Fault, Judge, Open, Writing, Written, behind_guard, branches_of, frame_with, guard_holds, judge_in, open_branch, read_by, through, write_altsteps, written_alt, written_alternative, written_branch, written_call, written_default, written_defaults, written_with, written_within}
use Rattle.semantics.specs.Configurations.{Data}
use Rattle.semantics.specs.Events.{Choice, Faulty, Happened, Nothing, Passed, Refused, Taken, Trial, chosen_by, first_choice, try_chance}
use Rattle.semantics.specs.Items.{Does, Item, items, items_if_any}
use Rattle.semantics.specs.Snapshots.{Snapshot, Test}
use Rattle.check_rules.specs.Limits.{longest_chain}
use Rattle.value_types.specs.Outcomes.{Fails, Outcome, Unmet, Yields}
use Rattle.value_types.specs.Templates.{arguments}
use Rattle.value_types.specs.declared.value.Value.{Value}

abbrev pub HasFramesInOrder : Chance → Type 0
HasFramesInOrder chance = All IsFrameInOrder chance.way.frames

abbrev pub IsWayInOrder : Written → Type 0
IsWayInOrder (Fault why) = Unit {0}
IsWayInOrder (Open chance) = HasFramesInOrder chance

-- ---- lists

one-way : (w : Written) → IsWayInOrder w → All IsWayInOrder (w ∷ [])
one-way w is = All-cons IsWayInOrder w [] is (All-nil IsWayInOrder)

map-ways : (f : Written → Written) → ((w : Written) → IsWayInOrder w → IsWayInOrder (f w)) → (ws : List Written) → All IsWayInOrder ws → All IsWayInOrder (map f ws)
map-ways f keeps [] all = All-nil IsWayInOrder
map-ways f keeps (w ∷ ws) all =
    All-cons IsWayInOrder (f w) (map f ws) (keeps w (All-head IsWayInOrder w ws all)) (map-ways f keeps ws (All-tail IsWayInOrder w ws all))

flat-ways : {A : Type 0} (f : A → List Written) → ((a : A) → All IsWayInOrder (f a)) → (xs : List A) → All IsWayInOrder (flat_map f xs)
flat-ways f each [] = All-nil IsWayInOrder
flat-ways f each (x ∷ xs) = All-append IsWayInOrder (f x) (flat_map f xs) (each x) (flat-ways f each xs)

-- ---- branches

through-ordered : (test : Test) (at : ℕ) (values : List Value) (before : List Item) (w : Written) → IsWayInOrder w → IsWayInOrder (through test at values before w)
through-ordered test at values before (Fault why) is = tt
through-ordered test at values before (Open chance) is =
    All-append IsFrameInOrder chance.way.frames (frame_with test.definitions at values chance.way.block ∷ []) is
    (All-cons IsFrameInOrder (frame_with test.definitions at values chance.way.block) [] (frame-ordered test.definitions at values chance.way.block) (All-nil IsFrameInOrder))

open-ordered : (test : Test) (judge : Judge) (place : Span) (event : Option Event) (block : List Item) → All IsWayInOrder (open_branch test judge place event block ∷ [])
open-ordered test judge place event block = one-way (open_branch test judge place event block) (All-nil IsFrameInOrder)

guarded-ordered : (o : Outcome Bool) (ws : List Written) → All IsWayInOrder ws → All IsWayInOrder (behind_guard o ws)
guarded-ordered (Yields true) ws all = all
guarded-ordered (Yields false) ws all = All-nil IsWayInOrder
guarded-ordered (Fails why) ws all = one-way (Fault why) tt

-- how the branches of altsteps are written out keeps the order
abbrev Writes : Writing → Type 0
Writes below = (judge : Judge) (branches : List Branch) → All IsWayInOrder (below judge branches)

with-ordered : (below : Writing) → Writes below → (test : Test) (snapshot : Snapshot) (own : Data) (at : ℕ) (before : List Item) (o : Outcome (List Value))
    → All IsWayInOrder (written_with below test snapshot own at before o)
with-ordered below writes test snapshot own at before (Fails why) = one-way (Fault why) tt
with-ordered below writes test snapshot own at before (Yields values) =
    map-ways (through test at values before) (through-ordered test at values before) (below (judge_in test at values) (branches_of (kind_at test.definitions at)))
    (writes (judge_in test at values) (branches_of (kind_at test.definitions at)))

call-ordered : (below : Writing) → Writes below → (test : Test) (snapshot : Snapshot) (own : Data) (judge : Judge) (call : Call) (before : List Item) (at : Option ℕ)
    → All IsWayInOrder (written_call below test snapshot own judge call before at)
call-ordered below writes test snapshot own judge call before None = one-way (Fault Unmet) tt
call-ordered below writes test snapshot own judge call before (Some at) =
    with-ordered below writes test snapshot own at before (arguments (read_by test snapshot own judge) (parameters_of (kind_at test.definitions at)) call.arguments)

alternative-ordered : (below : Writing) → Writes below → (test : Test) (snapshot : Snapshot) (own : Data) (judge : Judge) (place : Span) (x : Alternative-F Action Alternative Branch Conditional Statement)
    → All IsWayInOrder (written_alternative below test snapshot own judge place x)
alternative-ordered below writes test snapshot own judge place (Alternative-F.«Alternative::Event» guard event block) =
    guarded-ordered (guard_holds (read_by test snapshot own judge) guard) (open_branch test judge place (Some event) (items_if_any test.definitions judge.site block) ∷ [])
    (open-ordered test judge place (Some event) (items_if_any test.definitions judge.site block))
alternative-ordered below writes test snapshot own judge place (Alternative-F.«Alternative::Call» guard call block) =
    guarded-ordered (guard_holds (read_by test snapshot own judge) guard)
    (written_call below test snapshot own judge call (items_if_any test.definitions judge.site block) (altstep_meant (module_names test.definitions call.name)))
    (call-ordered below writes test snapshot own judge call (items_if_any test.definitions judge.site block) (altstep_meant (module_names test.definitions call.name)))
alternative-ordered below writes test snapshot own judge place (Alternative-F.Else block) =
    open-ordered test judge place None (items test.definitions judge.site block)

branch-ordered : (below : Writing) → Writes below → (test : Test) (snapshot : Snapshot) (own : Data) (judge : Judge) (b : Branch) → All IsWayInOrder (written_branch below test snapshot own judge b)
branch-ordered below writes test snapshot own judge b =
    alternative-ordered below writes test snapshot own judge (out-Branch b).place (out-Alternative (out-Branch b).alternative)

within-ordered : (n : ℕ) (test : Test) (snapshot : Snapshot) (own : Data) → Writes (written_within n test snapshot own)
within-ordered zero test snapshot own judge branches = one-way (Fault Unmet) tt
within-ordered (suc n) test snapshot own judge branches =
    flat-ways (written_branch (written_within n test snapshot own) test snapshot own judge)
    (branch-ordered (written_within n test snapshot own) (within-ordered n test snapshot own) test snapshot own judge) branches

writes : (test : Test) (snapshot : Snapshot) (own : Data) → Writes (write_altsteps test snapshot own)
writes test snapshot own = within-ordered longest_chain test snapshot own

-- ---- an `alt` and the defaults

-- what is written out where something is
abbrev AreWays : Option (List Written) → Type 0
AreWays o = IfSome o (All IsWayInOrder)

alt-call-ordered : (test : Test) (snapshot : Snapshot) (own : Data) (judge : Judge) (call : Call) (at : Option ℕ)
    → AreWays (option_map (λ n. written_call (write_altsteps test snapshot own) test snapshot own judge call [] (Some n)) at)
alt-call-ordered test snapshot own judge call None = tt
alt-call-ordered test snapshot own judge call (Some at) = call-ordered (write_altsteps test snapshot own) (writes test snapshot own) test snapshot own judge call [] (Some at)

pub alt-ordered : (test : Test) (snapshot : Snapshot) (own : Data) (judge : Judge) (place : Span) (x : Does) → AreWays (written_alt test snapshot own judge place x)
alt-ordered test snapshot own judge place (Action-F.Alt branches) =
    flat-ways (written_branch (write_altsteps test snapshot own) test snapshot own judge) (branch-ordered (write_altsteps test snapshot own) (writes test snapshot own) test snapshot own judge) branches
alt-ordered test snapshot own judge place (Action-F.«Action::Event» event) = open-ordered test judge place (Some event) []
alt-ordered test snapshot own judge place (Action-F.«Action::Call» call) = alt-call-ordered test snapshot own judge call (altstep_meant (module_names test.definitions call.name))
alt-ordered test snapshot own judge place _ = tt

pub defaults-ordered : (test : Test) (snapshot : Snapshot) (own : Data) → All IsWayInOrder (written_defaults test snapshot own)
defaults-ordered test snapshot own =
    flat-ways (written_default test snapshot own) (λ d. with-ordered (write_altsteps test snapshot own) (writes test snapshot own) test snapshot own d.altstep [] (Yields d.arguments)) own.defaults

-- ---- the choice

abbrev pub IsChoiceInOrder : Choice → Type 0
IsChoiceInOrder Nothing = Unit {0}
IsChoiceInOrder (Refused why) = Unit {0}
IsChoiceInOrder (Taken chance effect) = HasFramesInOrder chance

chosen-ordered : (chance : Chance) (trial : Trial) (others : Choice) → HasFramesInOrder chance → IsChoiceInOrder others → IsChoiceInOrder (chosen_by chance trial others)
chosen-ordered chance Passed others is all = all
chosen-ordered chance (Faulty why) others is all = tt
chosen-ordered chance (Happened effect) others is all = is

pub choice-ordered : (test : Test) (snapshot : Snapshot) (own : Data) (ws : List Written) → All IsWayInOrder ws → IsChoiceInOrder (first_choice test snapshot own ws)
choice-ordered test snapshot own [] all = tt
choice-ordered test snapshot own (Fault why ∷ ws) all = tt
choice-ordered test snapshot own (Open chance ∷ ws) all =
    chosen-ordered chance (try_chance test snapshot own chance.judge chance.event) (first_choice test snapshot own ws)
    (All-head IsWayInOrder (Open chance) ws all) (choice-ordered test snapshot own ws (All-tail IsWayInOrder (Open chance) ws all))
