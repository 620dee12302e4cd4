-- Runs and fine runs from the start, as they are replayed.
use Rattle.std.proofs.Common.{◌≡◌, ℕ, ◌+◌, ◌≤◌, List, [], ◌∷◌, length, map, Option, Some, None, Result, Ok, Err, refl, sym, ap, ◌∙◌, arith}
use Rattle.std.specs.Option.{option_and_then}
use Rattle.ttcn_syntax.specs.declared.tree.statement.Verdict.{Verdict}
use Rattle.laws_fine.proofs.Coarse.{coarse-leads}
use Rattle.laws_fine.proofs.Doubled.{doubled-leads}
use Rattle.laws_fine.proofs.Early.{Pending, early_in, made_if, hastened, map-all, each-all}
use Rattle.laws_fine.proofs.Pending.{pending, pending-none}
use Rattle.laws_fine.proofs.Sound.{HoldsIn, IsKeptBySteps, IsSoundIn}
use Rattle.laws_fine.proofs.Stays.{AscendsIn}
use Rattle.laws_fine.specs.Doubling.{doubled}
use Rattle.laws_fine.specs.Fates.{Fate, Faults, Lapses, Takes, by_fate, coarse, coarse_from, fate, fine_after}
use Rattle.laws_fine.specs.Fine.{Choose, Fine, FineLabel, Plain, Snap, fine_next, fine_replay, fine_replay_from, fine_start}
use Rattle.laws_steps.proofs.Finding.{some-is}
use Rattle.laws_fine.proofs.Leading.{fine_of, fine_run, leads}
use Rattle.semantics.specs.Configurations.{Component, Configuration, Ended, Goes, Going, path_of}
use Rattle.semantics.specs.Runs.{option_elim, replay, replay_from, start}
use Rattle.semantics.specs.Snapshots.{Test}
use Rattle.semantics.specs.Steps.{Label, next}
use Rattle.value_types.specs.declared.path.Path.{Path}

-- ---- leading and replaying

abbrev Answer : Type 0 → Type 0
Answer A = Result A ℕ

ok-is : {A : Type 0} (a b : A) (r : Answer A) → r ≡ Ok a → r ≡ Ok b → a ≡ b
ok-is a b r one other = let found = sym one ∙ other in cc

replay-some : (test : Test) (labels : List Label) (n : ℕ) (o : Option Configuration) (d : Configuration) → ((c : Configuration) → replay_from test labels n c ≡ Ok d → leads test labels c ≡ Some d) → (k : ℕ)
    → option_elim (Err k) (replay_from test labels n) o ≡ Ok d → option_and_then (leads test labels) o ≡ Some d
replay-some test labels n None d rest k e = absurd (let no = e in cc)
replay-some test labels n (Some c) d rest k e = rest c e

pub replay-leads : (test : Test) (labels : List Label) (n : ℕ) (c d : Configuration) → replay_from test labels n c ≡ Ok d → leads test labels c ≡ Some d
replay-leads test [] n c d e = ap Some (ok-is c d (replay_from test [] n c) refl e)
replay-leads test (label ∷ labels) n c d e = replay-some test labels (n + 1) (next test c label) d (λ b is. replay-leads test labels (n + 1) b d is) n e

leads-some : (test : Test) (labels : List Label) (n : ℕ) (o : Option Configuration) (d : Configuration) → ((c : Configuration) → leads test labels c ≡ Some d → replay_from test labels n c ≡ Ok d) → (k : ℕ)
    → option_and_then (leads test labels) o ≡ Some d → option_elim (Err k) (replay_from test labels n) o ≡ Ok d
leads-some test labels n None d rest k e = absurd (let no = e in cc)
leads-some test labels n (Some c) d rest k e = rest c e

pub leads-replay : (test : Test) (labels : List Label) (n : ℕ) (c d : Configuration) → leads test labels c ≡ Some d → replay_from test labels n c ≡ Ok d
leads-replay test [] n c d e = ap Ok (some-is c d e)
leads-replay test (label ∷ labels) n c d e = leads-some test labels (n + 1) (next test c label) d (λ b is. leads-replay test labels (n + 1) b d is) n e

fine-some : (test : Test) (labels : List FineLabel) (n : ℕ) (o : Option Fine) (g : Fine) → ((f : Fine) → fine_replay_from test labels n f ≡ Ok g → fine_run test labels f ≡ Some g) → (k : ℕ)
    → option_elim (Err k) (fine_replay_from test labels n) o ≡ Ok g → option_and_then (fine_run test labels) o ≡ Some g
fine-some test labels n None g rest k e = absurd (let no = e in cc)
fine-some test labels n (Some f) g rest k e = rest f e

pub fine-leads : (test : Test) (labels : List FineLabel) (n : ℕ) (f g : Fine) → fine_replay_from test labels n f ≡ Ok g → fine_run test labels f ≡ Some g
fine-leads test [] n f g e = ap Some (ok-is f g (fine_replay_from test [] n f) refl e)
fine-leads test (label ∷ labels) n f g e = fine-some test labels (n + 1) (fine_next test f label) g (λ h is. fine-leads test labels (n + 1) h g is) n e

run-some : (test : Test) (labels : List FineLabel) (n : ℕ) (o : Option Fine) (g : Fine) → ((f : Fine) → fine_run test labels f ≡ Some g → fine_replay_from test labels n f ≡ Ok g) → (k : ℕ)
    → option_and_then (fine_run test labels) o ≡ Some g → option_elim (Err k) (fine_replay_from test labels n) o ≡ Ok g
run-some test labels n None g rest k e = absurd (let no = e in cc)
run-some test labels n (Some f) g rest k e = rest f e

pub run-replays : (test : Test) (labels : List FineLabel) (n : ℕ) (f g : Fine) → fine_run test labels f ≡ Some g → fine_replay_from test labels n f ≡ Ok g
run-replays test [] n f g e = ap Ok (some-is f g e)
run-replays test (label ∷ labels) n f g e = run-some test labels (n + 1) (fine_next test f label) g (λ h is. run-replays test labels (n + 1) h g is) n e

-- ---- the doubling

pub doubled_runs : (test : Test) (run : List Label) (d : Configuration) → replay test run ≡ Ok d → fine_replay test (doubled test run) ≡ Ok (fine_of d [])
doubled_runs test run d e =
    run-replays test (doubled test run) 1 (fine_start test) (fine_of d []) (doubled-leads test run (start test) d (replay-leads test run 1 (start test) d e))

-- ---- moving choices to their snapshots

map-own : (xs : List Component) → map (λ x. x) xs ≡ xs
map-own [] = refl
map-own (x ∷ xs) = ap (λ ys. x ∷ ys) (map-own xs)

-- where none has to choose, nothing is done early
none-early : (test : Test) (none : Pending) → ((p : Path) → none p ≡ None) → (d : Configuration) → early_in test none d ≡ d
none-early test none each (Ended v) = refl
none-early test none each (Goes c) =
    ap (λ xs. going-of xs)
    (map-all (hastened test none) (λ x. x) c.components (each-all (λ x. hastened test none x ≡ x) (λ x. ap (λ o. made_if test o x) (each (path_of x))) c.components) ∙ map-own c.components)
  where
    going-of : List Component → Configuration
    going-of xs = Goes (record { components = xs; connections = c.connections; mappings = c.mappings; delivered = c.delivered; forgotten = c.forgotten })

pub start-sound : (Lawful : Going → Type 0) (test : Test) (d : Configuration) → AscendsIn d → HoldsIn Lawful d → IsSoundIn Lawful test d []
start-sound Lawful test (Ended v) ascend holds = tt
start-sound Lawful test (Goes c) ascend holds = record { ascend = ascend; lawful = holds; stores = λ p s e. absurd (let no = e in cc) }

pub coarse-runs : (Lawful : Going → Type 0) (test : Test) → IsKeptBySteps test Lawful → AscendsIn (start test) → HoldsIn Lawful (start test) → (labels : List FineLabel) (g : Fine) (v : Verdict)
    → fine_replay test labels ≡ Ok g → g.now ≡ Ended v → replay test (coarse test labels) ≡ Ok (Ended v)
coarse-runs Lawful test laws ascend holds labels g v e ends =
    leads-replay test (coarse test labels) 1 (start test) (Ended v)
    (ap (leads test (coarse test labels)) (sym (none-early test (pending test (fine_start test) labels) (λ p. pending-none test (fine_start test) labels p refl) (start test)))
    ∙ coarse-leads Lawful test laws labels g v ends (start test) [] (start-sound Lawful test (start test) ascend holds) (λ p s has. absurd (let no = has in cc))
    (fine-leads test labels 1 (fine_start test) g e))

-- ---- how long it is

fate-short : (path : Path) (k : Fate) (others : List Label) (n : ℕ) → length others ≤ n → length (by_fate path k others) ≤ n + 1
fate-short path Lapses others n less = omega (arith, less)
fate-short path Takes others n less = omega (arith, less)
fate-short path Faults others n less = omega (arith, less)

short-from : (test : Test) (f : Fine) (labels : List FineLabel) → length (coarse_from test f labels) ≤ length labels
short-from test f [] = omega arith
short-from test f (Snap path ∷ labels) =
    let rest = short-from test (fine_after test f (Snap path)) labels in
    let all = fate-short path (fate test path (fine_after test f (Snap path)) labels) (coarse_from test (fine_after test f (Snap path)) labels) (length labels) rest in
    omega (arith, all)
short-from test f (Choose path ∷ labels) = let rest = short-from test (fine_after test f (Choose path)) labels in omega (arith, rest)
short-from test f (Plain label ∷ labels) = let rest = short-from test (fine_after test f (Plain label)) labels in omega (arith, rest)

pub coarse_short : (test : Test) (labels : List FineLabel) → length (coarse test labels) ≤ length labels
coarse_short test labels = short-from test (fine_start test) labels
