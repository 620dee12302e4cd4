-- The verdicts that a complete report lists are those of runs of any length, and of fine runs.
use Rattle.std.proofs.Common.{◌≡◌, ℕ, ◌+◌, ◌≤◌, suc, true, List, [], ◌∷◌, map, Contains, Option, Some, None, is_some, ◌↔◌, refl, sym, ap, subst, arith}
use Rattle.std.specs.List.{All, cons_option, filter_map}
use Rattle.std.specs.declared.alloc.Global.{Global}
use Rattle.std.specs.declared.vec.Vec.{Vec}
use Rattle.std.proofs.lemmas.List.Elements.{All-cons, All-contains, All-nil}
use Rattle.ttcnx_runs.specs.Found.{IsBestRun}
use Rattle.laws_fine.proofs.Ends.{ends-as-runs}
use Rattle.laws_fine.proofs.Laws.{same-verdicts}
use Rattle.laws_fine.specs.Verdicts.{EndsFinelyWith, EndsWith, HasRun}
use Rattle.report.specs.declared.report.Outcome.{Outcome}
use Rattle.report.specs.declared.report.Report.{Report}
use Rattle.step_labels.specs.declared.label.Label.{Label}
use Rattle.semantics.specs.Snapshots.{Test}
use Rattle.ttcn_syntax.specs.declared.tree.statement.Verdict.{Verdict}
use Rattle.ttcn_syntax.specs.declared.tree.statement.Verdict.TheVariants as verdict
use Rattle.check_rules.specs.Rules.{AreWellTyped}
use Rattle.ttcnx.specs.Named.{IsTestOf, Source}
use Rattle.ttcnx.specs.Tells.{Lists, TellsOfRuns, all_verdicts, labels_in, outcome_of, outcomes_of}

abbrev Kept : Type 0
Kept = Verdict → Option (Vec Label Global)

-- ---- which verdicts are listed

first-kept : (kept : Kept) (w : Verdict) (o : Option (Vec Label Global)) (rest : List Outcome) → kept w ≡ o → All (λ v. is_some (kept v) ≡ true) (map (λ outcome. outcome.verdict) rest)
    → All (λ v. is_some (kept v) ≡ true) (map (λ outcome. outcome.verdict) (cons_option (outcome_of w o) rest))
first-kept kept w None rest is all = all
first-kept kept w (Some run) rest is all = All-cons (λ v. is_some (kept v) ≡ true) w (map (λ outcome. outcome.verdict) rest) (ap is_some is) all

-- those that are listed have a run
all-kept : (kept : Kept) (vs : List Verdict) → All (λ v. is_some (kept v) ≡ true) (map (λ outcome. outcome.verdict) (filter_map (λ w. outcome_of w (kept w)) vs))
all-kept kept [] = All-nil (λ v. is_some (kept v) ≡ true)
all-kept kept (w ∷ vs) = first-kept kept w (kept w) (filter_map (λ w. outcome_of w (kept w)) vs) refl (all-kept kept vs)

here : (v : Verdict) (vs : List Verdict) → Contains (v ∷ vs) v
here v vs = (0, omega arith, refl)

there : (w v : Verdict) (vs : List Verdict) → Contains vs v → Contains (w ∷ vs) v
there w v vs h = let lt = h.1 in (suc h.0, omega arith, h.2)

first-listed : (w v : Verdict) (o : Option (Vec Label Global)) (rest : List Outcome) → Contains (map (λ outcome. outcome.verdict) rest) v
    → Contains (map (λ outcome. outcome.verdict) (cons_option (outcome_of w o) rest)) v
first-listed w v None rest h = h
first-listed w v (Some run) rest h = there w v (map (λ outcome. outcome.verdict) rest) h

own-listed : (w : Verdict) (o : Option (Vec Label Global)) (rest : List Outcome) → is_some o ≡ true → Contains (map (λ outcome. outcome.verdict) (cons_option (outcome_of w o) rest)) w
own-listed w None rest is = absurd (let no = is in cc)
own-listed w (Some run) rest is = here w (map (λ outcome. outcome.verdict) rest)

abbrev behind : Kept → List Verdict → List Outcome
behind kept vs = filter_map (λ w. outcome_of w (kept w)) vs

-- those that have a run are listed
some-listed : (kept : Kept) (v : Verdict) → is_some (kept v) ≡ true → Contains (map (λ outcome. outcome.verdict) (outcomes_of kept)) v
some-listed kept verdict.None is = own-listed verdict.None (kept verdict.None) (behind kept (verdict.Pass ∷ verdict.Inconc ∷ verdict.Fail ∷ verdict.Error ∷ [])) is
some-listed kept verdict.Pass is =
    first-listed verdict.None verdict.Pass (kept verdict.None) (behind kept (verdict.Pass ∷ verdict.Inconc ∷ verdict.Fail ∷ verdict.Error ∷ []))
    (own-listed verdict.Pass (kept verdict.Pass) (behind kept (verdict.Inconc ∷ verdict.Fail ∷ verdict.Error ∷ [])) is)
some-listed kept verdict.Inconc is =
    first-listed verdict.None verdict.Inconc (kept verdict.None) (behind kept (verdict.Pass ∷ verdict.Inconc ∷ verdict.Fail ∷ verdict.Error ∷ []))
    (first-listed verdict.Pass verdict.Inconc (kept verdict.Pass) (behind kept (verdict.Inconc ∷ verdict.Fail ∷ verdict.Error ∷ []))
    (own-listed verdict.Inconc (kept verdict.Inconc) (behind kept (verdict.Fail ∷ verdict.Error ∷ [])) is))
some-listed kept verdict.Fail is =
    first-listed verdict.None verdict.Fail (kept verdict.None) (behind kept (verdict.Pass ∷ verdict.Inconc ∷ verdict.Fail ∷ verdict.Error ∷ []))
    (first-listed verdict.Pass verdict.Fail (kept verdict.Pass) (behind kept (verdict.Inconc ∷ verdict.Fail ∷ verdict.Error ∷ []))
    (first-listed verdict.Inconc verdict.Fail (kept verdict.Inconc) (behind kept (verdict.Fail ∷ verdict.Error ∷ []))
    (own-listed verdict.Fail (kept verdict.Fail) (behind kept (verdict.Error ∷ [])) is)))
some-listed kept verdict.Error is =
    first-listed verdict.None verdict.Error (kept verdict.None) (behind kept (verdict.Pass ∷ verdict.Inconc ∷ verdict.Fail ∷ verdict.Error ∷ []))
    (first-listed verdict.Pass verdict.Error (kept verdict.Pass) (behind kept (verdict.Inconc ∷ verdict.Fail ∷ verdict.Error ∷ []))
    (first-listed verdict.Inconc verdict.Error (kept verdict.Inconc) (behind kept (verdict.Fail ∷ verdict.Error ∷ []))
    (first-listed verdict.Fail verdict.Error (kept verdict.Fail) (behind kept (verdict.Error ∷ []))
    (own-listed verdict.Error (kept verdict.Error) [] is))))

-- ---- runs

kept-run : (test : Test) (n : ℕ) (v : Verdict) (o : Option (Vec Label Global)) → is_some o ≡ true → IsBestRun test n v (labels_in o) → HasRun test v
kept-run test n v None is best = absurd (let no = is in cc)
kept-run test n v (Some run) is best = record { steps = n; run = best.0; has = best.1.has }

run-kept : (test : Test) (n : ℕ) (v : Verdict) (o : Option (Vec Label Global)) → (run : HasRun test v) → run.steps ≤ n → IsBestRun test n v (labels_in o) → is_some o ≡ true
run-kept test n v None run less best = absurd (best run.run (record { is_run = run.has.is_run; short = let short = run.has.short in omega (arith, short, less); marked = run.has.marked }))
run-kept test n v (Some kept) run less best = refl

listed-has : (test : Test) (n : ℕ) (report : Report) (v : Verdict) → TellsOfRuns test n report → Lists report v → HasRun test v
listed-has test n report v tells lists =
    kept-run test n v (tells.run_of v)
    (All-contains (λ w. is_some (tells.run_of w) ≡ true) (map (λ outcome. outcome.verdict) report.outcomes.items) v
    (subst (λ (outcomes : List Outcome). All (λ w. is_some (tells.run_of w) ≡ true) (map (λ outcome. outcome.verdict) outcomes)) (sym tells.outcomes) (all-kept tells.run_of all_verdicts)) lists)
    (tells.best v)

has-listed : (test : Test) (n : ℕ) (report : Report) (v : Verdict) → TellsOfRuns test n report → (run : HasRun test v) → run.steps ≤ n → Lists report v
has-listed test n report v tells run less =
    subst (λ (outcomes : List Outcome). Contains (map (λ outcome. outcome.verdict) outcomes) v) (sym tells.outcomes)
    (some-listed tells.run_of v (run-kept test n v (tells.run_of v) run less (tells.best v)))

-- a report that is true of the runs of every greater bound lists the verdicts of all runs
lists-all : (test : Test) (n : ℕ) (report : Report) → ((bound : ℕ) → n ≤ bound → TellsOfRuns test bound report) → (v : Verdict) → Lists report v ↔ HasRun test v
lists-all test n report every v = (
  listed-has test n report v (every n (omega arith)),
  λ run. has-listed test (n + run.steps) report v (every (n + run.steps) (omega arith)) run (omega arith),
)

-- ---- of a text

-- the module of a text breaks no rule
pub well-typed : (given : Source) (name : List ℕ) (test : Test) → IsTestOf given name test → AreWellTyped test.definitions
well-typed given name test is = subst AreWellTyped (sym is.is_case.of_tree) is.is_case.is_text.well_typed

-- a report that is true of the runs of every greater bound lists the verdicts of runs and of fine runs
pub lists-verdicts : (given : Source) (name : List ℕ) (test : Test) (n : ℕ) (report : Report) → IsTestOf given name test → ((bound : ℕ) → n ≤ bound → TellsOfRuns test bound report) → (v : Verdict)
    → (Lists report v ↔ EndsWith test v) × (Lists report v ↔ EndsFinelyWith test v)
lists-verdicts given name test n report is every v =
    let listed = lists-all test n report every v in
    let runs = ends-as-runs test v in
    let fine = same-verdicts test v (well-typed given name test is) in
    ((λ lists. runs.1 (listed.0 lists), λ ends. listed.1 (runs.0 ends)), (λ lists. fine.1 (runs.1 (listed.0 lists)), λ ends. listed.1 (runs.0 (fine.0 ends))))
