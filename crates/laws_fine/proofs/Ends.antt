-- What ends with a verdict by its labels one after the other, and as a run of the graph of a test case.
use Rattle.std.proofs.Common.{◌≡◌, ℕ, true, List, [], ◌∷◌, ◌++◌, Contains, Option, Some, None, Ok, is_some, nat_eq, option_map, ◌↔◌, refl, sym, ap, ◌∙◌, arith, if◌then◌else◌}
use Rattle.std.specs.Option.{option_and_then}
use Rattle.ttcn_syntax.specs.declared.tree.statement.Verdict.{Verdict}
use Rattle.ttcn_syntax.specs.declared.tree.statement.Verdict.TheVariants as verdict
use Rattle.laws_steps.proofs.Finding.{some-is}
use Rattle.laws_fine.proofs.Leading.{leads}
use Rattle.laws_fine.proofs.Replays.{leads-replay, replay-leads}
use Rattle.laws_fine.specs.Verdicts.{EndsWith, HasRun}
use Rattle.laws_order.proofs.Runs.{labels_step_in_runs}
use Rattle.semantics.specs.Configurations.{Configuration, Ended, Goes, badness}
use Rattle.semantics.specs.Labels.{labels}
use Rattle.semantics.specs.Runs.{graph_of, mark_of, option_elim, replay, start}
use Rattle.semantics.specs.Snapshots.{Test}
use Rattle.semantics.specs.Steps.{Label, next, settled, step}
use Rattle.summary.specs.Run.{IsRun, Run, Start, Then, end_of, labels_of, steps_of}
use Rattle.value_types.specs.Outcomes.{Outcome}

-- ---- one label more

more-leads : (test : Test) (one other : List Label) (c : Configuration) → leads test (one ++ other) c ≡ option_and_then (leads test other) (leads test one c)
more-leads test [] other c = refl
more-leads test (label ∷ one) other c = told (next test c label) (more-leads test one other)
  where
    told : (o : Option Configuration) → ((d : Configuration) → leads test (one ++ other) d ≡ option_and_then (leads test other) (leads test one d))
        → option_and_then (leads test (one ++ other)) o ≡ option_and_then (leads test other) (option_and_then (leads test one) o)
    told None rest = refl
    told (Some d) rest = rest d

some-settled : (o : Option (Outcome Configuration)) → is_some o ≡ true → (d : Configuration) × (option_map settled o ≡ Some d)
some-settled None is = absurd (let no = is in cc)
some-settled (Some out) is = (settled out, refl)

graph-after : (test : Test) (c d : Configuration) (label : Label) → next test c label ≡ Some d → (graph_of test).after c label ≡ d
graph-after test c d label e = ap (option_elim c (λ x. x)) e

-- an enabled label leads on
next-some : (test : Test) (ls : List Label) (c : Configuration) (label : Label) → replay test ls ≡ Ok c → Contains (labels test c) label → (d : Configuration) × (next test c label ≡ Some d)
next-some test ls (Ended v) label e h = let lt = h.1 in absurd (omega (arith, lt))
next-some test ls (Goes c) label e h = some-settled (step test (Goes c) label) ((labels_step_in_runs test ls c e label).0 h)

-- what leads on is enabled
some-step : (o : Option (Outcome Configuration)) (d : Configuration) → option_map settled o ≡ Some d → is_some o ≡ true
some-step None d e = absurd (let no = e in cc)
some-step (Some out) d e = refl

enabled : (test : Test) (ls : List Label) (c d : Configuration) (label : Label) → replay test ls ≡ Ok c → next test c label ≡ Some d → Contains (labels test c) label
enabled test ls (Ended v) d label e leads-on = absurd (let no = leads-on in cc)
enabled test ls (Goes c) d label e leads-on = (labels_step_in_runs test ls c e label).1 (some-step (step test (Goes c) label) d leads-on)

-- ---- runs of the graph

last-leads : (test : Test) (c d : Configuration) (label : Label) → next test c label ≡ Some d → leads test (label ∷ []) c ≡ Some ((graph_of test).after c label)
last-leads test c d label e = ap (option_and_then (leads test [])) e ∙ ap Some (sym (graph-after test c d label e))

-- a run leads to its end
run-leads : (test : Test) (run : Run Label) → IsRun (graph_of test) run → leads test (labels_of run) (start test) ≡ Some (end_of (graph_of test) run)
run-leads test Start is = refl
run-leads test (Then run label) is =
    let before : leads test (labels_of run) (start test) ≡ Some (end_of (graph_of test) run) = run-leads test run is.0 in
    let on = next-some test (labels_of run) (end_of (graph_of test) run) label (leads-replay test (labels_of run) 1 (start test) (end_of (graph_of test) run) before) is.1 in
    more-leads test (labels_of run) (label ∷ []) (start test) ∙ ap (option_and_then (leads test (label ∷ []))) before ∙ last-leads test (end_of (graph_of test) run) on.0 label on.1

-- some run ends there
abbrev Reaches : Test → Configuration → Type 0
Reaches test d = (run : Run Label) × IsRun (graph_of test) run × (end_of (graph_of test) run ≡ d)

grown : (test : Test) (run : Run Label) (label : Label) (labels : List Label) (d : Configuration) (o : Option Configuration) → ((more : Run Label) → IsRun (graph_of test) more → leads test labels (end_of (graph_of test) more) ≡ Some d → Reaches test d)
    → IsRun (graph_of test) run → next test (end_of (graph_of test) run) label ≡ o → option_and_then (leads test labels) o ≡ Some d → Reaches test d
grown test run label labels d None rest is e leads-on = absurd (let no = leads-on in cc)
grown test run label labels d (Some c) rest is e leads-on =
    rest (Then run label)
    (is, enabled test (labels_of run) (end_of (graph_of test) run) c label (leads-replay test (labels_of run) 1 (start test) (end_of (graph_of test) run) (run-leads test run is)) e)
    (ap (leads test labels) (graph-after test (end_of (graph_of test) run) c label e) ∙ leads-on)

grows : (test : Test) (labels : List Label) (d : Configuration) (run : Run Label) → IsRun (graph_of test) run → leads test labels (end_of (graph_of test) run) ≡ Some d → Reaches test d
grows test [] d run is e = (run, is, some-is (end_of (graph_of test) run) d e)
grows test (label ∷ labels) d run is e = grown test run label labels d (next test (end_of (graph_of test) run) label) (grows test labels d) is refl e

-- ---- verdicts

abbrev bad-verdict : ℕ → Verdict
bad-verdict n = if nat_eq n 0 then verdict.None else if nat_eq n 1 then verdict.Pass else if nat_eq n 2 then verdict.Inconc else if nat_eq n 3 then verdict.Fail else verdict.Error

of-badness : (v : Verdict) → bad-verdict (badness v) ≡ v
of-badness verdict.None = refl
of-badness verdict.Pass = refl
of-badness verdict.Inconc = refl
of-badness verdict.Fail = refl
of-badness verdict.Error = refl

number-is : (n m : ℕ) → Some n ≡ Some m → n ≡ m
number-is n m e = let found = e in cc

ended-is : (c : Configuration) (v : Verdict) → mark_of c ≡ Some (badness v) → c ≡ Ended v
ended-is (Ended w) v e = ap Ended (sym (of-badness w) ∙ ap bad-verdict (number-is (badness w) (badness v) e) ∙ of-badness v)
ended-is (Goes c) v e = absurd (let no = e in cc)

has-run : (test : Test) (v : Verdict) → Reaches test (Ended v) → HasRun test v
has-run test v is = record { steps = steps_of is.0; run = is.0; has = record { is_run = is.1; short = omega arith; marked = ap mark_of is.2 } }

pub ends-as-runs : (test : Test) (v : Verdict) → EndsWith test v ↔ HasRun test v
ends-as-runs test v = (
  λ is. has-run test v (grows test is.run (Ended v) Start tt (replay-leads test is.run 1 (start test) (Ended v) is.ends)),
  λ is. record {
    run = labels_of is.run;
    ends = leads-replay test (labels_of is.run) 1 (start test) (Ended v)
        (run-leads test is.run is.has.is_run ∙ ap Some (ended-is (end_of (graph_of test) is.run) v is.has.marked));
  },
)
