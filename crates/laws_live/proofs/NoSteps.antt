-- What runs without a step reach.
use Rattle.std.proofs.Common.{◌≡◌, ℕ, zero, suc, ◌<◌, ◌≤◌, [], ◌∷◌, length, get_or, refl, sym, ap, ◌∙◌, ◌↔◌, arith}
use Rattle.std.specs.Prelude.{Contains}
use Rattle.laws_live.specs.Parts.{CountsParts, IsCompleteByParts}
use Rattle.semantics.specs.Configurations.{Configuration}
use Rattle.semantics.specs.Labels.{labels}
use Rattle.semantics.specs.LiveParts.{live_part}
use Rattle.semantics.specs.Runs.{graph_of, start}
use Rattle.semantics.specs.Snapshots.{Test}
use Rattle.semantics.specs.Steps.{Label}
use Rattle.summary.specs.Run.{Run, Start, Then, end_of, steps_of}

only-start : (run : Run Label) → steps_of run ≤ 0 → run ≡ Start
only-start Start short = refl
only-start (Then run label) short = absurd (omega arith)

the-one : (c part : Configuration) → Contains (c ∷ []) part → c ≡ part
the-one c part found = at found.0 found.1 found.2
  where
    at : (k : ℕ) → k < length (c ∷ []) → get_or (c ∷ []) k part ≡ part → c ≡ part
    at zero within e = e
    at (suc k) within e = absurd (omega arith)

pub counts_the_start : (test : Test) → CountsParts test 0 1
counts_the_start test = record {
  parts = live_part (start test) ∷ [];
  different = λ i j d before within. absurd (omega arith);
  reached = λ part found. record { run = Start; is_run = tt; short = omega arith; ends = the-one (live_part (start test)) part found };
  all = λ part is. (0, omega arith, sym (ap (λ run. live_part (end_of (graph_of test) run)) (only-start is.run is.short)) ∙ is.ends);
  number = refl;
}

pub complete_at_the_start : (test : Test) → IsCompleteByParts test 0 ↔ (labels test (start test) ≡ [])
complete_at_the_start test = (
  λ complete. complete Start tt refl (λ other is fewer same. absurd (omega (arith, fewer))),
  λ none run is long first. ap (λ r. labels test (end_of (graph_of test) r)) (only-start run (omega (arith, long))) ∙ none,
)
