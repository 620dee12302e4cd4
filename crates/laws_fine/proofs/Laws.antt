-- Fine runs of modules that break no rule of the checker.
use Rattle.std.proofs.Common.{◌≡◌, ◌∙◌, ℕ, true, false, List, [], ◌∷◌, map, bytes_eq, Option, Some, None, Result, Ok, Err, IfSome, ◌↔◌, refl, sym, subst, ap}
use Rattle.std.specs.List.{AllPairs}
use Rattle.std.specs.Option.{option_and_then}
use Rattle.ttcn_syntax.specs.declared.tree.statement.Action.{Action}
use Rattle.ttcn_syntax.specs.declared.tree.statement.Action.TheOpen.{Action-F, Alternative-F}
use Rattle.ttcn_syntax.specs.declared.tree.statement.Alternative.{Alternative, out-Alternative}
use Rattle.ttcn_syntax.specs.declared.tree.statement.Branch.{Branch, out-Branch}
use Rattle.ttcn_syntax.specs.declared.tree.statement.Conditional.{Conditional}
use Rattle.ttcn_syntax.specs.declared.tree.statement.Event.{Event}
use Rattle.ttcn_syntax.specs.declared.tree.statement.Event.TheVariants as event
use Rattle.ttcn_syntax.specs.declared.tree.statement.Statement.{Statement}
use Rattle.ttcn_syntax.specs.declared.tree.statement.Verdict.{Verdict}
use Rattle.laws_fine.proofs.EarlySteps.{expires-to}
use Rattle.laws_fine.proofs.Fronts.{PortsDiffer}
use Rattle.laws_fine.proofs.Holds.{RunsAlike, runs-alike, start-held}
use Rattle.laws_fine.proofs.Kept.{IsApart, IsApartAt}
use Rattle.laws_fine.proofs.Lapses.{lapsed}
use Rattle.laws_fine.proofs.Leading.{fine_of, fine_run}
use Rattle.laws_fine.proofs.Moves.{HasMoved, moves}
use Rattle.laws_fine.proofs.Origins.{HasEvent, WaitsFor}
use Rattle.laws_fine.proofs.Replays.{coarse-runs, doubled_runs, fine-leads, start-sound}
use Rattle.laws_fine.proofs.Sound.{HoldsIn, IsKeptBySteps, IsSound, IsSoundIn, Stores, found-stands, moved-sound}
use Rattle.laws_fine.proofs.Stays.{AscendsIn}
use Rattle.laws_fine.proofs.Told.{gathered-is, told}
use Rattle.laws_fine.specs.Doubling.{doubled}
use Rattle.laws_fine.specs.Fates.{coarse}
use Rattle.laws_fine.specs.Fine.{Choose, Fine, FineLabel, Plain, Snap, Stored, fine_next, fine_replay, chosen, fine_start, is_found, stands_at_alt, still_stored, stored_at, without_stored}
use Rattle.laws_fine.specs.Gathering.{Told, gathered}
use Rattle.laws_fine.specs.Holding.{Holding, hold_run, hold_start}
use Rattle.laws_fine.specs.Verdicts.{EndsFinelyWith, EndsWith}
use Rattle.laws_sites.proofs.Awaited.{awaited_outside}
use Rattle.laws_sites.proofs.Firsts.{queues-differ}
use Rattle.laws_sites.proofs.Runs.{apply_stands, come-stands, expiry-stands, start_stands}
use Rattle.laws_sites.specs.Awaiting.{AwaitsTimeout, BeginsByTimeout, IsTimeout}
use Rattle.laws_sites.specs.Standing.{StandsByRules}
use Rattle.laws_order.proofs.Runs.{start_ordered}
use Rattle.laws_order.specs.Order.{IsInOrder, StandsInOrder}
use Rattle.semantics.proofs.Pairs.{pairs-map}
use Rattle.semantics.specs.Configurations.{Component, Configuration, Ended, Frame, Goes, Going, Queue, component_at, path_of}
use Rattle.semantics.specs.Items.{Does, Doing, From, Item, Last, Loop, Mark, Name, Start, Waiting, Whole, action_of}
use Rattle.semantics.specs.Runs.{replay, start}
use Rattle.semantics.specs.Snapshots.{Snapshot, Test, front_at}
use Rattle.semantics.specs.Statements.{act}
use Rattle.semantics.specs.Steps.{apply, settled}
use Rattle.check_rules.specs.Rules.{AreWellTyped}
use Rattle.value_types.specs.Outcomes.{Fails, IfYields, Outcome, Yields}
use Rattle.value_types.specs.declared.path.Path.{Path}

-- ---- what the rules of the checker say of each configuration

abbrev Stands : Test → Going → Type 0
Stands test c = StandsByRules test (Goes c)

ports-differ : (queues : List Queue) → AllPairs (λ q r. bytes_eq q.0 r.0 ≡ false) queues → PortsDiffer (map front_at queues)
ports-differ queues differ = pairs-map (λ d e. bytes_eq d.0 e.0 ≡ false) front_at queues differ

timeout-is : (name : List ℕ) (e : Event) → e ≡ event.Timeout name → IsTimeout name e
timeout-is name e is = subst (IsTimeout name) (sym is) refl

branch-awaits : (name : List ℕ) (x : Alternative-F Action Alternative Branch Conditional Statement) → HasEvent (event.Timeout name) x → BeginsByTimeout name x
branch-awaits name (Alternative-F.«Alternative::Event» guard event block) is = timeout-is name event is
branch-awaits name (Alternative-F.«Alternative::Call» guard call block) is = is
branch-awaits name (Alternative-F.Else block) is = is

waits-awaits : (name : List ℕ) (x : Does) → WaitsFor x (event.Timeout name) → AwaitsTimeout name x
waits-awaits name (Action-F.Alt branches) is = (is.0, is.1, branch-awaits name (out-Alternative (out-Branch is.0).alternative) is.2)
waits-awaits name (Action-F.«Action::Event» event) is = timeout-is name event is
waits-awaits name (Action-F.Variables vs) is = is
waits-awaits name (Action-F.Constants cs) is = is
waits-awaits name (Action-F.Timers timers) is = is
waits-awaits name (Action-F.Assign a) is = is
waits-awaits name (Action-F.«Action::Call» call) is = is
waits-awaits name Action-F.Repeat is = is
waits-awaits name (Action-F.If conditionals last) is = is
waits-awaits name (Action-F.While condition block) is = is
waits-awaits name (Action-F.DoWhile block condition) is = is
waits-awaits name (Action-F.For start condition step block) is = is
waits-awaits name (Action-F.Return v) is = is
waits-awaits name Action-F.Stop is = is
waits-awaits name (Action-F.Log logged) is = is
waits-awaits name (Action-F.Setverdict verdict reasons) is = is
waits-awaits name (Action-F.Connect one other) is = is
waits-awaits name (Action-F.Map m) is = is
waits-awaits name (Action-F.Send send) is = is
waits-awaits name (Action-F.StartComponent reference call) is = is
waits-awaits name (Action-F.StartTimer timer) is = is
waits-awaits name (Action-F.StopOf reference) is = is
waits-awaits name (Action-F.Activate call) is = is
waits-awaits name (Action-F.Deactivate reference) is = is

items-apart : (test : Test) (c : Going) (p : Path) (x : Component) (frame : Frame) (below : List Frame) (items : List Item) → Stands test c → component_at c p ≡ Some x → x.own.calls ≡ frame ∷ below → frame.remaining ≡ items
    → IsApartAt test frame items
items-apart test c p x frame below (Doing site s Whole ∷ rest) is there calls remains =
    λ name waits own. awaited_outside test c p x frame below site s rest name is there calls remains (waits-awaits name (action_of s) waits) own
items-apart test c p x frame below [] is there calls remains = tt
items-apart test c p x frame below (Doing site s (Name k) ∷ rest) is there calls remains = tt
items-apart test c p x frame below (Doing site s (From k) ∷ rest) is there calls remains = tt
items-apart test c p x frame below (Doing site s Start ∷ rest) is there calls remains = tt
items-apart test c p x frame below (Doing site s Loop ∷ rest) is there calls remains = tt
items-apart test c p x frame below (Doing site s Last ∷ rest) is there calls remains = tt
items-apart test c p x frame below (Mark site s ∷ rest) is there calls remains = tt
items-apart test c p x frame below (Waiting target ∷ rest) is there calls remains = tt

calls-apart : (test : Test) (c : Going) (p : Path) (x : Component) (calls : List Frame) → Stands test c → component_at c p ≡ Some x → x.own.calls ≡ calls → IsApart test calls
calls-apart test c p x [] is there calls = tt
calls-apart test c p x (frame ∷ below) is there calls = items-apart test c p x frame below frame.remaining is there calls refl

holds-of : (test : Test) (d : Configuration) → StandsByRules test d → HoldsIn (Stands test) d
holds-of test (Ended v) is = tt
holds-of test (Goes c) is = is

outcome-holds : (test : Test) (o : Outcome Configuration) → StandsByRules test (settled o) → IfYields o (HoldsIn (Stands test))
outcome-holds test (Yields d) is = holds-of test d is
outcome-holds test (Fails why) is = tt

option-holds : (test : Test) (o : Option (Outcome Configuration)) → IfSome o (λ out. StandsByRules test (settled out)) → IfSome o (λ out. IfYields out (HoldsIn (Stands test)))
option-holds test None is = tt
option-holds test (Some o) is = outcome-holds test o is

stands-kept : (test : Test) → AreWellTyped test.definitions → IsKeptBySteps test (Stands test)
stands-kept test well = record {
  differ = λ c is p x there. ports-differ x.queues (queues-differ test c p x is there);
  apart = λ c is p x there. calls-apart test c p x x.own.calls is there refl;
  acts = λ c is p x there runs snapshot. option-holds test (apply test c x.itself (act test snapshot x.own)) (apply_stands test snapshot c p x well is there);
  expires = λ c is p n name x there runs ran. expiry-stands test c p x n name (lapsed n name x.own) is there (expires-to n name x.own ran);
  comes = λ c is system_port e v mapped found. come-stands test c system_port e v is;
}

-- ---- the start

ascends-of : (d : Configuration) → StandsInOrder d → AscendsIn d
ascends-of (Ended v) is = tt
ascends-of (Goes c) is = let order : IsInOrder c = is in order.ordered.components

start-ascends : (test : Test) → AscendsIn (start test)
start-ascends test = ascends-of (start test) (start_ordered test)

start-holds : (test : Test) → AreWellTyped test.definitions → HoldsIn (Stands test) (start test)
start-holds test well = holds-of test (start test) (start_stands test well)

-- ---- verdicts

pub coarse_runs : (test : Test) (labels : List FineLabel) (f : Fine) (v : Verdict) → AreWellTyped test.definitions → fine_replay test labels ≡ Ok f → f.now ≡ Ended v → replay test (coarse test labels) ≡ Ok (Ended v)
coarse_runs test labels f v well e ends = coarse-runs (Stands test) test (stands-kept test well) (start-ascends test) (start-holds test well) labels f v e ends

pub same-verdicts : (test : Test) (v : Verdict) → AreWellTyped test.definitions → EndsFinelyWith test v ↔ EndsWith test v
same-verdicts test v well = (
  λ fine. record { run = coarse test fine.labels; ends = coarse_runs test fine.labels fine.behind v well fine.leads fine.ends },
  λ is. record { labels = doubled test is.run; behind = fine_of (Ended v) []; leads = doubled_runs test is.run (Ended v) is.ends; ends = refl },
)

-- ---- stored snapshots

abbrev Sound : Test → Fine → Type 0
Sound test f = IsSoundIn (Stands test) test f.now f.stored

in-sound : (test : Test) → AreWellTyped test.definitions → (now : Configuration) (stored : Stored) (label : FineLabel) (f : Fine) → IsSoundIn (Stands test) test now stored → fine_next test (fine_of now stored) label ≡ Some f → Sound test f
in-sound test well (Ended v) stored label f sound e = absurd (let no = e in cc)
in-sound test well (Goes c) stored label f sound e = moved-sound (Stands test) test (stands-kept test well) c stored label f sound (moves test c stored label f e)

some-sound : (test : Test) → AreWellTyped test.definitions → (labels : List FineLabel) (before g : Fine) (label : FineLabel) (o : Option Fine) → ((f : Fine) → Sound test f → fine_run test labels f ≡ Some g → Sound test g)
    → Sound test before → fine_next test before label ≡ o → option_and_then (fine_run test labels) o ≡ Some g → Sound test g
some-sound test well labels before g label None rest sound next e = absurd (let no = e in cc)
some-sound test well labels before g label (Some f) rest sound next e = rest f (in-sound test well before.now before.stored label f sound next) e

some-is : {A : Type 0} (P : A → Type 0) (a b : A) → Some a ≡ Some b → P a → P b
some-is P a b e is = subst P (let found : a ≡ b = let same = e in cc in found) is

run-sound : (test : Test) → AreWellTyped test.definitions → (labels : List FineLabel) (f g : Fine) → Sound test f → fine_run test labels f ≡ Some g → Sound test g
run-sound test well [] f g sound e = some-is (Sound test) f g e sound
run-sound test well (label ∷ labels) f g sound e =
    some-sound test well labels f g label (fine_next test f label) (λ h also is. run-sound test well labels h g also is) sound refl e

stands-of : (test : Test) → AreWellTyped test.definitions → (f : Fine) (c : Going) (p : Path) (s : Snapshot) → Sound test f → f.now ≡ Goes c → stored_at f.stored p ≡ Some s → is_found (stands_at_alt test) (component_at c p) ≡ true
stands-of test well f c p s sound at has =
    let is : IsSound (Stands test) test c f.stored = subst (λ n. IsSoundIn (Stands test) test n f.stored) at sound in
    let mine : Stores test c p s = is.stores p s has in
    found-stands (Stands test) test (stands-kept test well) c p mine.x mine.there mine.runs mine.alt

-- only components that run and stand at an `alt` have stored snapshots
pub stored_stand : (test : Test) (labels : List FineLabel) (f : Fine) (c : Going) (p : Path) (s : Snapshot) → AreWellTyped test.definitions → fine_replay test labels ≡ Ok f → f.now ≡ Goes c → stored_at f.stored p ≡ Some s
    → is_found (stands_at_alt test) (component_at c p) ≡ true
stored_stand test labels f c p s well e at has =
    stands-of test well f c p s
    (run-sound test well labels (fine_start test) f (start-sound (Stands test) test (start test) (start-ascends test) (start-holds test well)) (fine-leads test labels 1 (fine_start test) f e)) at has

-- ---- the end

still-none : (d : Configuration) (v : Verdict) (stored : Stored) → d ≡ Ended v → still_stored d stored ≡ []
still-none d v stored ended = ap (λ x. still_stored x stored) ended

chosen-none : (c : Going) (others : Stored) (o : Option (Outcome Configuration)) (v : Verdict) → (chosen c others o).now ≡ Ended v → (chosen c others o).stored ≡ []
chosen-none c others None v ended = absurd (let no = ended in cc)
chosen-none c others (Some outcome) v ended = still-none (settled outcome) v others ended

moved-none : (test : Test) (c : Going) (stored : Stored) (label : FineLabel) (f : Fine) (v : Verdict) → HasMoved test c stored label f → f.now ≡ Ended v → f.stored ≡ []
moved-none test c stored (Snap p) f v is ended = absurd (let no : Goes c ≡ Ended v = sym (ap (λ (g : Fine). g.now) is.to) ∙ ended in cc)
moved-none test c stored (Choose p) f v is ended =
    ap (λ (g : Fine). g.stored) is.to
    ∙ chosen-none c (without_stored (path_of is.x) stored) (apply test c is.x.itself (act test is.snapshot is.x.own)) v (sym (ap (λ (g : Fine). g.now) is.to) ∙ ended)
moved-none test c stored (Plain label) f v is ended =
    ap (λ (g : Fine). g.stored) is.to ∙ still-none is.d v stored (sym (ap (λ (g : Fine). g.now) is.to) ∙ ended)

-- a test case that has ended has no stored snapshots
abbrev IsEmptyWhereEnded : Fine → Type 0
IsEmptyWhereEnded f = (v : Verdict) → f.now ≡ Ended v → f.stored ≡ []

next-none : (test : Test) (now : Configuration) (stored : Stored) (label : FineLabel) (f : Fine) → fine_next test (fine_of now stored) label ≡ Some f → IsEmptyWhereEnded f
next-none test (Ended w) stored label f e = absurd (let no = e in cc)
next-none test (Goes c) stored label f e = λ v ended. moved-none test c stored label f v (moves test c stored label f e) ended

some-none : (test : Test) (labels : List FineLabel) (before g : Fine) (label : FineLabel) (o : Option Fine) → ((f : Fine) → IsEmptyWhereEnded f → fine_run test labels f ≡ Some g → IsEmptyWhereEnded g)
    → fine_next test before label ≡ o → option_and_then (fine_run test labels) o ≡ Some g → IsEmptyWhereEnded g
some-none test labels before g label None rest next e = absurd (let no = e in cc)
some-none test labels before g label (Some f) rest next e = rest f (next-none test before.now before.stored label f next) e

run-none : (test : Test) (labels : List FineLabel) (f g : Fine) → IsEmptyWhereEnded f → fine_run test labels f ≡ Some g → IsEmptyWhereEnded g
run-none test [] f g is e = some-is IsEmptyWhereEnded f g e is
run-none test (label ∷ labels) f g is e = some-none test labels f g label (fine_next test f label) (λ h also on. run-none test labels h g also on) refl e

pub ended_none : (test : Test) (labels : List FineLabel) (f : Fine) (v : Verdict) → fine_replay test labels ≡ Ok f → f.now ≡ Ended v → f.stored ≡ []
ended_none test labels f v e ended = run-none test labels (fine_start test) f (λ w same. refl) (fine-leads test labels 1 (fine_start test) f e) v ended

-- ---- what a program holds

-- what is held leads where the fine labels lead, and what is told of choices gives the run that they stand for
abbrev pub TellsRun : Test → List FineLabel → Result (Holding × List Told) ℕ → Result Fine ℕ → Type 0
TellsRun test labels (Ok made) (Ok f) = (made.0.now ≡ f.now) × (gathered made.1 ≡ coarse test labels)
TellsRun test labels (Ok made) (Err k) = ⊥
TellsRun test labels (Err k) (Ok f) = ⊥
TellsRun test labels (Err k) (Err j) = k ≡ j

run-told : (test : Test) (labels : List FineLabel) (made : Result (Holding × List Told) ℕ) (o : Result Fine ℕ) → fine_replay test labels ≡ o → RunsAlike made o (told test (fine_start test) labels) → TellsRun test labels made o
run-told test labels (Ok made) (Ok f) e alike =
    (alike.0, ap gathered alike.1 ∙ gathered-is test labels (fine_start test) f (fine-leads test labels 1 (fine_start test) f e))
run-told test labels (Ok made) (Err k) e alike = absurd alike
run-told test labels (Err k) (Ok f) e alike = absurd alike
run-told test labels (Err k) (Err j) e alike = alike

pub held-runs : (test : Test) (labels : List FineLabel) → AreWellTyped test.definitions → TellsRun test labels (hold_run test labels) (fine_replay test labels)
held-runs test labels well =
    run-told test labels (hold_run test labels) (fine_replay test labels) refl
    (runs-alike (Stands test) test (stands-kept test well) labels 1 (hold_start test) (fine_start test) []
    (record { now = refl; sound = start-sound (Stands test) test (start test) (start-ascends test) (start-holds test well); held = start-held test (start test) }))
