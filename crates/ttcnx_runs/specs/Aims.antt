-- Runs that get somewhere: to a place in the text, or to a block at a place.
use Rattle.std.specs.Prelude.{◌≡◌, ℕ, ◌≤◌, Bool, true, List, Option, None, Some, if◌then◌else◌}
use Rattle.std.specs.List.{list_any}
use Rattle.std.specs.Ordering.{eq_by_cmp}
use Rattle.std.specs.declared.cmp.Ordering.{Ordering}
use Rattle.summary.specs.Graph.{Graph}
use Rattle.summary.specs.Run.{IsRun, NoLater, Run, labels_of, steps_of}
use Rattle.step_labels.specs.Standings.{place_cmp}
use Rattle.step_labels.specs.declared.standing.Standing.{Standing}
use Rattle.ttcn_syntax.specs.declared.place.Span.{Span}

-- a run of at most n steps that shows something of a kind
pub record Gets {C L E : Type 0} (g : Graph C L) (n : ℕ) (shown : Run L → Option E) (kind : E → Bool) (run : Run L) : Type 0 where
  pub is_run : IsRun g run
  pub short : steps_of run ≤ n
  pub what : E
  pub shows : shown run ≡ Some what
  pub is_of : kind what ≡ true

-- the labels of the least of the runs of at most n steps that show something of a kind, or none exactly where no run does
abbrev pub IsLeastTo : {C L E : Type 0} → Graph C L → (L → L → Ordering) → ℕ → (Run L → Option E) → (E → Bool) → Option (List L) → Type 0
IsLeastTo {C} {L} g cmp n shown kind None = (run : Run L) → Gets g n shown kind run → ⊥
IsLeastTo {C} {L} g cmp n shown kind (Some labels) =
    (run : Run L) × Gets g n shown kind run × ((other : Run L) → Gets g n shown kind other → NoLater cmp run other) × (labels ≡ labels_of run)

-- the place is this one
abbrev pub is_at : Span → Span → Bool
is_at place other = eq_by_cmp place_cmp other place

-- some component stands at this place
abbrev pub stands_at : Span → List Standing → Bool
stands_at place standings = list_any (λ s. is_at place s.place) standings

-- the one that was found, or else this one where it fits
abbrev pub first_of : {A : Type 0} → Option A → Bool → A → Option A
first_of (Some found) fits other = Some found
first_of None fits other = if fits then Some other else None
