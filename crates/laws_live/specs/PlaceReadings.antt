-- What summaries may read of configurations and of steps: marks, blocked components and branches, each put into a summary of any type.
use Rattle.std.specs.Prelude.{ℕ, List, Option}
use Rattle.ttcn_syntax.specs.declared.place.Span.{Span}
use Rattle.semantics.specs.Configurations.{Configuration}
use Rattle.semantics.specs.Places.{blocked, branch_of}
use Rattle.semantics.specs.Runs.{mark_of}
use Rattle.semantics.specs.Snapshots.{Test}
use Rattle.semantics.specs.Steps.{Label}
use Rattle.step_labels.specs.declared.standing.Standing.{Standing}
use Rattle.summary.specs.Sums.{Observation}

-- a reading of marks: a configuration shows its mark, a step shows nothing
abbrev pub mark_reading : {S : Type 0} → (Option ℕ → S) → S → Observation Configuration Label S
mark_reading put none = record { at = λ c. put (mark_of c); by = λ c label. none }

-- a reading of blocked components: a configuration shows them with the places where they stand, a step shows nothing
abbrev pub blocked_reading : {S : Type 0} → Test → (List Standing → S) → S → Observation Configuration Label S
blocked_reading test put none = record { at = λ c. put (blocked test c); by = λ c label. none }

-- a reading of branches: a configuration shows nothing, a step shows the place of the branch that it takes, where it takes one
abbrev pub branch_reading : {S : Type 0} → Test → (Option Span → S) → S → Observation Configuration Label S
branch_reading test put none = record { at = λ c. none; by = λ c label. put (branch_of test c label) }

-- two readings made one
abbrev pub both_readings : {S T U : Type 0} → (S → T → U) → Observation Configuration Label S → Observation Configuration Label T → Observation Configuration Label U
both_readings pair one other = record { at = λ c. pair (one.at c) (other.at c); by = λ c label. pair (one.by c label) (other.by c label) }
