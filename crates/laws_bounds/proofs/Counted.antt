-- What is counted over a graph that stands for another is what is kept of the configurations of the other.
use Rattle.std.proofs.Common.{◌≡◌, ℕ, sym, ◌∙◌, ◌↔◌}
use Rattle.laws_bounds.proofs.Standing.{ends-kept, enabled-alike, from-run, to-run}
use Rattle.laws_bounds.specs.Seen.{CountsKept, IsCompleteByKept, IsKeptReached}
use Rattle.laws_bounds.specs.StandsFor.{StandsFor}
use Rattle.summary.specs.Exploration.{Counts, IsComplete, IsReached}
use Rattle.summary.specs.Graph.{Graph}
use Rattle.summary.specs.Run.{Run, end_of}

module _ {C D L : Type 0} (g : Graph C L) (h : Graph D L) (kept : C → D) (stands : StandsFor g h kept) where
  end-is : (run : Run L) → end_of h run ≡ kept (end_of g run)
  end-is = ends-kept g h kept stands

  to-reached : (n : ℕ) (d : D) → IsKeptReached g kept n d → IsReached h n d
  to-reached n d is = record { run = is.run; is_run = to-run g h kept stands is.run is.is_run; short = is.short; ends = end-is is.run ∙ is.ends }

  from-reached : (n : ℕ) (d : D) → IsReached h n d → IsKeptReached g kept n d
  from-reached n d is = record { run = is.run; is_run = from-run g h kept stands is.run is.is_run; short = is.short; ends = sym (end-is is.run) ∙ is.ends }

  pub same-reached : (n : ℕ) (d : D) → IsReached h n d ↔ IsKeptReached g kept n d
  same-reached n d = (from-reached n d, to-reached n d)

  pub same-counts : (n count : ℕ) → Counts h n count ↔ CountsKept g kept n count
  same-counts n count = (
    λ counts. record {
      parts = counts.configurations;
      different = counts.different;
      reached = λ d found. from-reached n d (counts.reached d found);
      all = λ d is. counts.all d (to-reached n d is);
      number = counts.number;
    },
    λ counts. record {
      configurations = counts.parts;
      different = counts.different;
      reached = λ d found. to-reached n d (counts.reached d found);
      all = λ d is. counts.all d (from-reached n d is);
      number = counts.number;
    },
  )

  pub same-complete : (n : ℕ) → IsComplete h n ↔ IsCompleteByKept g kept n
  same-complete n = (
    λ complete run is long first. sym (enabled-alike g h kept stands run)
        ∙ complete run (to-run g h kept stands run is) long (λ other also short same. first other (from-run g h kept stands other also) short (sym (end-is other) ∙ same ∙ end-is run)),
    λ complete run is long first. enabled-alike g h kept stands run
        ∙ complete run (from-run g h kept stands run is) long (λ other also short same. first other (to-run g h kept stands other also) short (end-is other ∙ same ∙ sym (end-is run))),
  )
