-- Runs that show something: by their last step, or by the state in which they end.
use Rattle.std.specs.Prelude.{◌≡◌, ℕ, ◌≤◌, List, AllPairs, Contains, Option, None, Some}
use Rattle.std.specs.List.{AllZip}
use Rattle.std.specs.declared.cmp.Ordering.{Ordering}
use Rattle.explore.specs.declared.sightings.Sighting.{Sighting}
use Rattle.summary.specs.Graph.{Graph}
use Rattle.summary.specs.Run.{Before, IsRun, NoLater, Run, Start, Then, end_of, labels_of, steps_of}

-- what the last step of a run shows
abbrev pub shown_by_step : {C L E : Type 0} → Graph C L → (C → L → Option E) → Run L → Option E
shown_by_step g event Start = None
shown_by_step g event (Then run label) = event (end_of g run) label

-- what the end of a run shows
abbrev pub shown_at_end : {C L E : Type 0} → Graph C L → (C → Option E) → Run L → Option E
shown_at_end g stand run = stand (end_of g run)

-- a run of at most n steps that shows this
pub record HasShown {C L E : Type 0} (g : Graph C L) (n : ℕ) (shown : Run L → Option E) (e : E) (run : Run L) : Type 0 where
  pub is_run : IsRun g run
  pub short : steps_of run ≤ n
  pub shows : shown run ≡ Some e

-- the least of the runs of at most n steps that show this: none of them comes before it
pub record IsLeastShowing {C L E : Type 0} (g : Graph C L) (cmp : L → L → Ordering) (n : ℕ) (shown : Run L → Option E) (e : E) (run : Run L) : Type 0 where
  pub has : HasShown g n shown e run
  pub least : (other : Run L) → HasShown g n shown e other → NoLater cmp run other

-- all that runs of at most n steps show, each with the labels of the least run that shows it, in the order of these runs
pub record AreSighted {C L E : Type 0} (g : Graph C L) (cmp : L → L → Ordering) (n : ℕ) (shown : Run L → Option E) (sightings : List (Sighting E L)) : Type 0 where
  pub runs : List (Run L)
  pub ordered : AllPairs (Before cmp) runs
  pub least : AllZip (λ s run. IsLeastShowing g cmp n shown s.event run × (s.run.items ≡ labels_of run)) sightings runs
  pub all : (e : E) (run : Run L) → HasShown g n shown e run → (s : Sighting E L) × Contains sightings s × (s.event ≡ e)
