-- What runs over live parts reach is what all runs reach, up to live parts.
use Rattle.std.proofs.Common.{◌≡◌, ℕ, sym, ap, subst, ◌∙◌, ◌↔◌}
use Rattle.laws_live.specs.Parts.{CountsParts, IsCompleteByParts, IsPartReached}
use Rattle.semantics.proofs.CanonicalRuns.{ends_live, marks-alike, runs_alike}
use Rattle.semantics.proofs.LiveTheorem.{labels_live}
use Rattle.semantics.specs.Canonical.{canonical_graph}
use Rattle.semantics.specs.Configurations.{Configuration}
use Rattle.semantics.specs.Labels.{labels}
use Rattle.semantics.specs.Runs.{graph_of}
use Rattle.semantics.specs.Snapshots.{Test}
use Rattle.semantics.specs.Steps.{Label}
use Rattle.summary.specs.Exploration.{Counts, HasMark, IsComplete, IsReached}
use Rattle.summary.specs.Graph.{Graph}
use Rattle.summary.specs.Run.{IsRun, Run, end_of}

module _ (test : Test) where
  abbrev g : Graph Configuration Label
  g = graph_of test

  abbrev h : Graph Configuration Label
  h = canonical_graph test

  to-run : (run : Run Label) → IsRun g run → IsRun h run
  to-run run is = subst (λ T. T) (sym (runs_alike test run)) is

  from-run : (run : Run Label) → IsRun h run → IsRun g run
  from-run run is = subst (λ T. T) (runs_alike test run) is

  pub same-runs : (run : Run Label) → IsRun h run ↔ IsRun g run
  same-runs run = (from-run run, to-run run)

  -- ---- what is reached, and how many

  to-reached : (n : ℕ) (part : Configuration) → IsPartReached test n part → IsReached h n part
  to-reached n part is = record { run = is.run; is_run = to-run is.run is.is_run; short = is.short; ends = ends_live test is.run ∙ is.ends }

  from-reached : (n : ℕ) (part : Configuration) → IsReached h n part → IsPartReached test n part
  from-reached n part is = record { run = is.run; is_run = from-run is.run is.is_run; short = is.short; ends = sym (ends_live test is.run) ∙ is.ends }

  pub same-reached : (n : ℕ) (part : Configuration) → IsReached h n part ↔ IsPartReached test n part
  same-reached n part = (from-reached n part, to-reached n part)

  pub same-counts : (n count : ℕ) → Counts h n count ↔ CountsParts test n count
  same-counts n count = (
    λ counts. record {
      parts = counts.configurations;
      different = counts.different;
      reached = λ part found. from-reached n part (counts.reached part found);
      all = λ part is. counts.all part (to-reached n part is);
      number = counts.number;
    },
    λ counts. record {
      configurations = counts.parts;
      different = counts.different;
      reached = λ part found. to-reached n part (counts.reached part found);
      all = λ part is. counts.all part (from-reached n part is);
      number = counts.number;
    },
  )

  -- ---- whether longer runs reach more

  same-labels : (run : Run Label) → labels test (end_of h run) ≡ labels test (end_of g run)
  same-labels run = ap (labels test) (ends_live test run) ∙ labels_live test (end_of g run)

  to-complete : (n : ℕ) → IsCompleteByParts test n → IsComplete h n
  to-complete n complete run is long first =
      same-labels run
      ∙ complete run (from-run run is) long (λ other also short same. first other (to-run other also) short (ends_live test other ∙ same ∙ sym (ends_live test run)))

  from-complete : (n : ℕ) → IsComplete h n → IsCompleteByParts test n
  from-complete n complete run is long first =
      sym (same-labels run)
      ∙ complete run (to-run run is) long (λ other also short same. first other (from-run other also) short (sym (ends_live test other) ∙ same ∙ ends_live test run))

  pub same-complete : (n : ℕ) → IsComplete h n ↔ IsCompleteByParts test n
  same-complete n = (from-complete n, to-complete n)

  -- ---- marks

  pub same-marked : (n mark : ℕ) (run : Run Label) → HasMark h n mark run ↔ HasMark g n mark run
  same-marked n mark run = (
    λ has. record { is_run = from-run run has.is_run; short = has.short; marked = sym (marks-alike test run) ∙ has.marked },
    λ has. record { is_run = to-run run has.is_run; short = has.short; marked = marks-alike test run ∙ has.marked },
  )
