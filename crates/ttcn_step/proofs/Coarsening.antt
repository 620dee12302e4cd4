-- What `coarsen` and `double` answer, by the laws of fine runs.
use Rattle.std.proofs.Common.{◌≡◌, ◌≤◌, ℕ, List, length, Result, Ok, Err, IfOk, refl, sym, ap, subst, ◌∙◌}
use Rattle.std.specs.declared.alloc.Global.{Global}
use Rattle.std.specs.declared.vec.Vec.{Vec}
use Rattle.laws_fine.proofs.Laws.{TellsRun, coarse_runs, held-runs}
use Rattle.laws_fine.proofs.Replays.{coarse_short, doubled_runs}
use Rattle.laws_fine.proofs.Returning.{doubled_returns}
use Rattle.laws_fine.specs.Doubling.{doubled}
use Rattle.laws_fine.specs.Fates.{coarse}
use Rattle.laws_fine.specs.Fine.{Fine, FineLabel, fine_replay}
use Rattle.laws_fine.specs.Gathering.{Told, gathered}
use Rattle.laws_fine.specs.Holding.{Holding, hold_run}
use Rattle.semantics.specs.Configurations.{Configuration, Ended, Goes}
use Rattle.semantics.specs.Runs.{replay}
use Rattle.semantics.specs.Snapshots.{Test}
use Rattle.semantics.specs.Steps.{Label}
use Rattle.ttcn_step.specs.FineAnswers.{Coarsens, Doubles, HasEnded, HasLed, IsDoubling, LeadTo, StandsFor}
use Rattle.ttcn_step.specs.Machines.{Machine}
use Rattle.ttcn_step.specs.declared.error.CoarsenError.{CoarsenError}
use Rattle.ttcn_step.specs.declared.error.CoarsenError.TheVariants as coarsening
use Rattle.ttcn_step.specs.declared.error.ReplayError.{ReplayError}
use Rattle.ttcn_step.specs.internal.Following.{Follows}
use Rattle.check_rules.specs.Rules.{AreWellTyped}

-- ---- a fine run that ends

stands-ended : (test : Test) (labels : List FineLabel) (run : List Label) (f : Fine) (now : Configuration) → AreWellTyped test.definitions → fine_replay test labels ≡ Ok f → f.now ≡ now → HasEnded now → run ≡ coarse test labels
    → StandsFor test labels run
stands-ended test labels run f (Ended v) well leads ends ended is = record {
  verdict = v;
  behind = f;
  leads = leads;
  ends = ends;
  replays = ap (replay test) is ∙ coarse_runs test labels f v well leads ends;
  short = subst (λ n. n ≤ length labels) (sym (ap length is)) (coarse_short test labels);
}
stands-ended test labels run f (Goes c) well leads ends ended is = absurd ended

stands-led : (test : Test) (labels : List FineLabel) (run : List Label) (o : Result Fine ℕ) → AreWellTyped test.definitions → fine_replay test labels ≡ o → LeadTo HasEnded o → run ≡ coarse test labels → StandsFor test labels run
stands-led test labels run (Ok f) well leads ended is = stands-ended test labels run f f.now well leads refl ended is
stands-led test labels run (Err number) well leads ended is = absurd ended

pub stands-for : (machine : Machine) (labels : List FineLabel) (run : Vec Label Global) → AreWellTyped machine.test.definitions → Coarsens machine labels (Ok run) → StandsFor machine.test labels run.items
stands-for machine labels run well coarsens = stands-led machine.test labels run.items (fine_replay machine.test labels) well refl coarsens.0 coarsens.1

-- ---- by what is held

lead-by : (P : Configuration → Type 0) (test : Test) (labels : List FineLabel) (h : Holding) (tolds : List Told) (o : Result Fine ℕ) → TellsRun test labels (Ok (h, tolds)) o → P h.now → LeadTo P o
lead-by P test labels h tolds (Ok f) tells is = subst P tells.0 is
lead-by P test labels h tolds (Err number) tells is = absurd tells

gather-by : (test : Test) (labels : List FineLabel) (h : Holding) (tolds : List Told) (o : Result Fine ℕ) → TellsRun test labels (Ok (h, tolds)) o → gathered tolds ≡ coarse test labels
gather-by test labels h tolds (Ok f) tells = tells.1
gather-by test labels h tolds (Err number) tells = absurd tells

refuse-by : (test : Test) (labels : List FineLabel) (number : ℕ) (o : Result Fine ℕ) → TellsRun test labels (Err number) o → o ≡ Err number
refuse-by test labels number (Ok f) tells = absurd tells
refuse-by test labels number (Err other) tells = ap Err (sym tells)

told-run : (test : Test) (labels : List FineLabel) (made : Result (Holding × List Told) ℕ) → AreWellTyped test.definitions → hold_run test labels ≡ made → TellsRun test labels made (fine_replay test labels)
told-run test labels made well is = subst (λ m. TellsRun test labels m (fine_replay test labels)) is (held-runs test labels well)

pub coarsens-ended : (machine : Machine) (labels : List FineLabel) (run : Vec Label Global) (h : Holding) (tolds : List Told) → AreWellTyped machine.test.definitions → hold_run machine.test labels ≡ Ok (h, tolds) → HasEnded h.now
    → run.items ≡ gathered tolds → Coarsens machine labels (Ok run)
coarsens-ended machine labels run h tolds well held ended gathers =
    let tells = told-run machine.test labels (Ok (h, tolds)) well held in
    (lead-by HasEnded machine.test labels h tolds (fine_replay machine.test labels) tells ended, gathers ∙ gather-by machine.test labels h tolds (fine_replay machine.test labels) tells)

pub coarsens-open : (machine : Machine) (labels : List FineLabel) (h : Holding) (tolds : List Told) → AreWellTyped machine.test.definitions → hold_run machine.test labels ≡ Ok (h, tolds) → (HasEnded h.now → ⊥)
    → LeadTo (λ c. ¬ HasEnded c) (fine_replay machine.test labels)
coarsens-open machine labels h tolds well held open-end =
    lead-by (λ c. ¬ HasEnded c) machine.test labels h tolds (fine_replay machine.test labels) (told-run machine.test labels (Ok (h, tolds)) well held) open-end

pub coarsens-refused : (machine : Machine) (labels : List FineLabel) (number : ℕ) → AreWellTyped machine.test.definitions → hold_run machine.test labels ≡ Err number → fine_replay machine.test labels ≡ Err number
coarsens-refused machine labels number well held = refuse-by machine.test labels number (fine_replay machine.test labels) (told-run machine.test labels (Err number) well held)

-- ---- doublings

doubling-of : (test : Test) (run : List Label) (labels : List FineLabel) (o : Result Configuration ℕ) → replay test run ≡ o → HasLed o → labels ≡ doubled test run → IsDoubling test run labels
doubling-of test run labels (Ok c) leads led is = record {
  end = c;
  replays = leads;
  leads = ap (fine_replay test) is ∙ doubled_runs test run c leads;
  back = ap (coarse test) is ∙ doubled_returns test run c leads;
}
doubling-of test run labels (Err number) leads led is = absurd led

pub is-doubling : (machine : Machine) (run : List Label) (labels : Vec FineLabel Global) → Doubles machine run (Ok labels) → IsDoubling machine.test run labels.items
is-doubling machine run labels doubles = doubling-of machine.test run labels.items (replay machine.test run) refl doubles.0 doubles.1

pub has-led : (o : Result Configuration ℕ) (c : Configuration) → Ok c ≡ o → HasLed o
has-led o c is = subst HasLed is tt

-- ---- results

pub coarsens-err : (machine : Machine) (labels : List FineLabel) (e : CoarsenError) → AreWellTyped machine.test.definitions → Follows machine labels (Err e) → Coarsens machine labels (Err e)
coarsens-err machine labels (coarsening.NotFine number) well held = coarsens-refused machine labels number well held
coarsens-err machine labels coarsening.NotEnded well held = absurd held
coarsens-err machine labels coarsening.Memory well held = tt

pub stands-if : (machine : Machine) (labels : List FineLabel) (r : Result (Vec Label Global) CoarsenError) → AreWellTyped machine.test.definitions → Coarsens machine labels r
    → IfOk r (λ run. StandsFor machine.test labels run.items)
stands-if machine labels (Ok run) well coarsens = stands-for machine labels run well coarsens
stands-if machine labels (Err e) well coarsens = tt

pub doubling-if : (machine : Machine) (run : List Label) (r : Result (Vec FineLabel Global) ReplayError) → Doubles machine run r → IfOk r (λ labels. IsDoubling machine.test run labels.items)
doubling-if machine run (Ok labels) doubles = is-doubling machine run labels doubles
doubling-if machine run (Err e) doubles = tt
