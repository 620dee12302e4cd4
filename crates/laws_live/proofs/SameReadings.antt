-- Marks, blocked components and branches are seen of live parts.
use Rattle.std.proofs.Common.{ℕ, List, Option, refl, ap, ◌∙◌}
use Rattle.ttcn_syntax.specs.declared.place.Span.{Span}
use Rattle.laws_live.specs.PlaceReadings.{blocked_reading, both_readings, branch_reading, mark_reading}
use Rattle.semantics.proofs.LiveTheorem.{blocked_live, branch_live, mark_live}
use Rattle.semantics.specs.Canonical.{SeesLiveParts}
use Rattle.semantics.specs.Configurations.{Configuration}
use Rattle.semantics.specs.LiveParts.{live_part}
use Rattle.semantics.specs.Snapshots.{Test}
use Rattle.semantics.specs.Steps.{Label}
use Rattle.step_labels.specs.declared.standing.Standing.{Standing}
use Rattle.summary.specs.Sums.{Observation}

pub marks_seen : {S : Type 0} (put : Option ℕ → S) (none : S) → SeesLiveParts (mark_reading put none)
marks_seen put none = record { at = λ c. ap put (mark_live c); by = λ c label. refl }

pub blocked_seen : {S : Type 0} (test : Test) (put : List Standing → S) (none : S) → SeesLiveParts (blocked_reading test put none)
blocked_seen test put none = record { at = λ c. ap put (blocked_live test c); by = λ c label. refl }

pub branches_seen : {S : Type 0} (test : Test) (put : Option Span → S) (none : S) → SeesLiveParts (branch_reading test put none)
branches_seen test put none = record { at = λ c. refl; by = λ c label. ap put (branch_live test c label) }

pub both_seen : {S T U : Type 0} (pair : S → T → U) (one : Observation Configuration Label S) (other : Observation Configuration Label T)
    → SeesLiveParts one → SeesLiveParts other → SeesLiveParts (both_readings pair one other)
both_seen pair one other first second = record {
  at = λ c. ap (λ s. pair s (other.at (live_part c))) (first.at c) ∙ ap (pair (one.at c)) (second.at c);
  by = λ c label. ap (λ s. pair s (other.by (live_part c) label)) (first.by c label) ∙ ap (pair (one.by c label)) (second.by c label);
}
