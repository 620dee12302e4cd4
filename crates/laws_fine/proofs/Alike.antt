-- What a component chooses by a snapshot is determined by the values and the defaults that it has, and not by the states of its timers.
use Rattle.std.proofs.Common.{◌≡◌, ℕ, zero, suc, List, [], ◌∷◌, ◌++◌, map, Option, Some, None, option_map, refl, ap, ◌∙◌}
use Rattle.std.specs.List.{flat_map}
use Rattle.ttcn_syntax.specs.declared.place.Span.{Span}
use Rattle.ttcn_syntax.specs.declared.tree.statement.Action.{Action}
use Rattle.ttcn_syntax.specs.declared.tree.statement.Action.TheOpen.{Action-F, Alternative-F}
use Rattle.ttcn_syntax.specs.declared.tree.statement.Alternative.{Alternative, out-Alternative}
use Rattle.ttcn_syntax.specs.declared.tree.statement.Branch.{Branch, out-Branch}
use Rattle.ttcn_syntax.specs.declared.tree.statement.Conditional.{Conditional}
use Rattle.ttcn_syntax.specs.declared.tree.statement.Event.{Event}
use Rattle.ttcn_syntax.specs.declared.tree.statement.Event.TheVariants as event
use Rattle.ttcn_syntax.specs.declared.tree.statement.Statement.{Statement}
use Rattle.ttcn_syntax.specs.declared.tree.value.Call.{Call}
use Rattle.check_rules.specs.Calls.{altstep_meant, parameters_of}
use Rattle.check_scope.specs.Names.{kind_at, module_names}
use Rattle.semantics.specs.Branches.{Fault, Judge, Open, Writing, Written, behind_guard, branches_of, guard_holds, judge_in, open_branch, read_by, through, write_altsteps, written_alt, written_alternative, written_branch, written_call, written_default, written_defaults, written_with, written_within}
use Rattle.semantics.specs.Configurations.{Data}
use Rattle.semantics.specs.Events.{chosen_by, first_choice, try_all_done, try_chance, try_done, try_event, try_receive, try_timeout}
use Rattle.semantics.specs.Items.{Does, Item, items_if_any}
use Rattle.semantics.specs.Snapshots.{Snapshot, Test, facts_of, seen_members}
use Rattle.check_rules.specs.Limits.{longest_chain}
use Rattle.value_types.specs.Chains.{within_chains}
use Rattle.value_types.specs.Frames.{seen_entry}
use Rattle.value_types.specs.Outcomes.{Fails, Outcome, Yields}
use Rattle.value_types.specs.Templates.{arguments}
use Rattle.value_types.specs.declared.value.Value.{Value}

-- two components' data of which a choice by one snapshot reads the same
pub record AreAlike (own other : Data) : Type 0 where
  pub values : own.members.values ≡ other.members.values
  pub defaults : own.defaults ≡ other.defaults

read-alike : (test : Test) (snapshot : Snapshot) (own other : Data) (judge : Judge) → AreAlike own other → read_by test snapshot own judge ≡ read_by test snapshot other judge
read-alike test snapshot own other judge alike =
    ap (λ values. within_chains longest_chain (facts_of test snapshot.itself snapshot judge.view (seen_members test judge.site (record { values = values; timers = snapshot.member_timers })))) alike.values

-- ---- lists

flat-alike : {A B : Type 0} (f g : A → List B) → ((a : A) → f a ≡ g a) → (xs : List A) → flat_map f xs ≡ flat_map g xs
flat-alike f g same [] = refl
flat-alike f g same (x ∷ xs) = ap (λ ys. ys ++ flat_map f xs) (same x) ∙ ap (λ ys. g x ++ ys) (flat-alike f g same xs)

option-alike : {A B : Type 0} (f g : A → B) → ((a : A) → f a ≡ g a) → (o : Option A) → option_map f o ≡ option_map g o
option-alike f g same None = refl
option-alike f g same (Some a) = ap Some (same a)

-- ---- branches

-- altsteps are written out alike
abbrev WriteAlike : Writing → Writing → Type 0
WriteAlike below others = (judge : Judge) (branches : List Branch) → below judge branches ≡ others judge branches

with-alike : (below others : Writing) → WriteAlike below others → (test : Test) (snapshot : Snapshot) (own other : Data) (at : ℕ) (before : List Item) (o : Outcome (List Value))
    → written_with below test snapshot own at before o ≡ written_with others test snapshot other at before o
with-alike below others same test snapshot own other at before (Fails why) = refl
with-alike below others same test snapshot own other at before (Yields values) =
    ap (map (through test at values before)) (same (judge_in test at values) (branches_of (kind_at test.definitions at)))

call-alike : (below others : Writing) → WriteAlike below others → (test : Test) (snapshot : Snapshot) (own other : Data) → AreAlike own other → (judge : Judge) (call : Call) (before : List Item) (at : Option ℕ)
    → written_call below test snapshot own judge call before at ≡ written_call others test snapshot other judge call before at
call-alike below others same test snapshot own other alike judge call before None = refl
call-alike below others same test snapshot own other alike judge call before (Some at) =
    ap (λ reading. written_with below test snapshot own at before (arguments reading (parameters_of (kind_at test.definitions at)) call.arguments)) (read-alike test snapshot own other judge alike)
    ∙ with-alike below others same test snapshot own other at before (arguments (read_by test snapshot other judge) (parameters_of (kind_at test.definitions at)) call.arguments)

alternative-alike : (below others : Writing) → WriteAlike below others → (test : Test) (snapshot : Snapshot) (own other : Data) → AreAlike own other → (judge : Judge) (place : Span)
    → (x : Alternative-F Action Alternative Branch Conditional Statement) → written_alternative below test snapshot own judge place x ≡ written_alternative others test snapshot other judge place x
alternative-alike below others same test snapshot own other alike judge place (Alternative-F.«Alternative::Event» guard event block) =
    ap (λ reading. behind_guard (guard_holds reading guard) (open_branch test judge place (Some event) (items_if_any test.definitions judge.site block) ∷ [])) (read-alike test snapshot own other judge alike)
alternative-alike below others same test snapshot own other alike judge place (Alternative-F.«Alternative::Call» guard call block) =
    ap (λ reading. behind_guard (guard_holds reading guard) (written_call below test snapshot own judge call (items_if_any test.definitions judge.site block) (altstep_meant (module_names test.definitions call.name))))
    (read-alike test snapshot own other judge alike)
    ∙ ap (behind_guard (guard_holds (read_by test snapshot other judge) guard))
    (call-alike below others same test snapshot own other alike judge call (items_if_any test.definitions judge.site block) (altstep_meant (module_names test.definitions call.name)))
alternative-alike below others same test snapshot own other alike judge place (Alternative-F.Else block) = refl

branch-alike : (below others : Writing) → WriteAlike below others → (test : Test) (snapshot : Snapshot) (own other : Data) → AreAlike own other → (judge : Judge) (b : Branch)
    → written_branch below test snapshot own judge b ≡ written_branch others test snapshot other judge b
branch-alike below others same test snapshot own other alike judge b =
    alternative-alike below others same test snapshot own other alike judge (out-Branch b).place (out-Alternative (out-Branch b).alternative)

within-alike : (n : ℕ) (test : Test) (snapshot : Snapshot) (own other : Data) → AreAlike own other → WriteAlike (written_within n test snapshot own) (written_within n test snapshot other)
within-alike zero test snapshot own other alike judge branches = refl
within-alike (suc n) test snapshot own other alike judge branches =
    flat-alike (written_branch (written_within n test snapshot own) test snapshot own judge) (written_branch (written_within n test snapshot other) test snapshot other judge)
    (branch-alike (written_within n test snapshot own) (written_within n test snapshot other) (within-alike n test snapshot own other alike) test snapshot own other alike judge) branches

writes-alike : (test : Test) (snapshot : Snapshot) (own other : Data) → AreAlike own other → WriteAlike (write_altsteps test snapshot own) (write_altsteps test snapshot other)
writes-alike test snapshot own other alike = within-alike longest_chain test snapshot own other alike

-- ---- an `alt` and the defaults

alt-alike : (test : Test) (snapshot : Snapshot) (own other : Data) → AreAlike own other → (judge : Judge) (place : Span) (x : Does)
    → written_alt test snapshot own judge place x ≡ written_alt test snapshot other judge place x
alt-alike test snapshot own other alike judge place (Action-F.Alt branches) =
    ap Some (flat-alike (written_branch (write_altsteps test snapshot own) test snapshot own judge) (written_branch (write_altsteps test snapshot other) test snapshot other judge)
    (branch-alike (write_altsteps test snapshot own) (write_altsteps test snapshot other) (writes-alike test snapshot own other alike) test snapshot own other alike judge) branches)
alt-alike test snapshot own other alike judge place (Action-F.«Action::Event» event) = refl
alt-alike test snapshot own other alike judge place (Action-F.«Action::Call» call) =
    option-alike (λ at. written_call (write_altsteps test snapshot own) test snapshot own judge call [] (Some at)) (λ at. written_call (write_altsteps test snapshot other) test snapshot other judge call [] (Some at))
    (λ at. call-alike (write_altsteps test snapshot own) (write_altsteps test snapshot other) (writes-alike test snapshot own other alike) test snapshot own other alike judge call [] (Some at))
    (altstep_meant (module_names test.definitions call.name))
alt-alike test snapshot own other alike judge place _ = refl

defaults-alike : (test : Test) (snapshot : Snapshot) (own other : Data) → AreAlike own other → written_defaults test snapshot own ≡ written_defaults test snapshot other
defaults-alike test snapshot own other alike =
    ap (flat_map (written_default test snapshot own)) alike.defaults
    ∙ flat-alike (written_default test snapshot own) (written_default test snapshot other)
    (λ d. with-alike (write_altsteps test snapshot own) (write_altsteps test snapshot other) (writes-alike test snapshot own other alike) test snapshot own other d.altstep [] (Yields d.arguments)) other.defaults

-- ---- the choice

event-alike : (test : Test) (snapshot : Snapshot) (own other : Data) → AreAlike own other → (judge : Judge) (e : Event) → try_event test snapshot own judge e ≡ try_event test snapshot other judge e
event-alike test snapshot own other alike judge (event.Receive receive) =
    ap (λ reading. try_receive test snapshot judge.site reading receive receive.port) (read-alike test snapshot own other judge alike)
event-alike test snapshot own other alike judge (event.Timeout name) =
    ap (λ values. try_timeout name (seen_entry judge.view.timers (seen_members test judge.site (record { values = values; timers = snapshot.member_timers })).timers name)) alike.values
event-alike test snapshot own other alike judge (event.Done reference) =
    ap (λ reading. try_done snapshot reading reference) (read-alike test snapshot own other judge alike)
event-alike test snapshot own other alike judge event.AllDone =
    ap (λ reading. try_all_done test snapshot reading) (read-alike test snapshot own other judge alike)

chance-alike : (test : Test) (snapshot : Snapshot) (own other : Data) → AreAlike own other → (judge : Judge) (e : Option Event) → try_chance test snapshot own judge e ≡ try_chance test snapshot other judge e
chance-alike test snapshot own other alike judge None = refl
chance-alike test snapshot own other alike judge (Some e) = event-alike test snapshot own other alike judge e

first-alike : (test : Test) (snapshot : Snapshot) (own other : Data) → AreAlike own other → (ws : List Written) → first_choice test snapshot own ws ≡ first_choice test snapshot other ws
first-alike test snapshot own other alike [] = refl
first-alike test snapshot own other alike (Fault why ∷ ws) = refl
first-alike test snapshot own other alike (Open chance ∷ ws) =
    ap (λ trial. chosen_by chance trial (first_choice test snapshot own ws)) (chance-alike test snapshot own other alike chance.judge chance.event)
    ∙ ap (chosen_by chance (try_chance test snapshot other chance.judge chance.event)) (first-alike test snapshot own other alike ws)

choice-from : (test : Test) (snapshot : Snapshot) (own other : Data) → AreAlike own other → (ws : List Written)
    → first_choice test snapshot own (ws ++ written_defaults test snapshot own) ≡ first_choice test snapshot other (ws ++ written_defaults test snapshot other)
choice-from test snapshot own other alike ws =
    ap (λ more. first_choice test snapshot own (ws ++ more)) (defaults-alike test snapshot own other alike)
    ∙ first-alike test snapshot own other alike (ws ++ written_defaults test snapshot other)

-- they choose alike
pub choice-alike : (test : Test) (snapshot : Snapshot) (own other : Data) → AreAlike own other → (judge : Judge) (place : Span) (x : Does)
    → option_map (λ ws. first_choice test snapshot own (ws ++ written_defaults test snapshot own)) (written_alt test snapshot own judge place x)
    ≡ option_map (λ ws. first_choice test snapshot other (ws ++ written_defaults test snapshot other)) (written_alt test snapshot other judge place x)
choice-alike test snapshot own other alike judge place x =
    ap (option_map (λ ws. first_choice test snapshot own (ws ++ written_defaults test snapshot own))) (alt-alike test snapshot own other alike judge place x)
    ∙ option-alike (λ ws. first_choice test snapshot own (ws ++ written_defaults test snapshot own)) (λ ws. first_choice test snapshot other (ws ++ written_defaults test snapshot other))
    (choice-from test snapshot own other alike) (written_alt test snapshot other judge place x)
