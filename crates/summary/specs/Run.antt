-- Runs of a system, one by one, and their order.
use Rattle.std.specs.Prelude.{◌≡◌, ◌⊎◌, ℕ, zero, suc, ◌<◌, List, [], ◌∷◌, ◌++◌, map, Contains}
use Rattle.std.specs.List.{flat_map}
use Rattle.std.specs.Cmp.Lexicographic.{slice_cmp}
use Rattle.std.specs.declared.cmp.Ordering.{Ordering}
use Rattle.std.specs.declared.cmp.Ordering.TheVariants.{Less}
use Rattle.summary.specs.Graph.{Graph}

-- a list of labels, the last one outermost, so that the configuration before the last step is at hand
pub data Run (L : Type 0) : Type 0 where
  Start : Run L
  Then : Run L → L → Run L

-- how many steps a run has
abbrev pub steps_of : {L : Type 0} → Run L → ℕ
steps_of Start = 0
steps_of (Then run label) = suc (steps_of run)

-- the labels of a run, the first step's first
abbrev pub labels_of : {L : Type 0} → Run L → List L
labels_of Start = []
labels_of (Then run label) = labels_of run ++ label ∷ []

-- the configuration that a run ends in
abbrev pub end_of : {C L : Type 0} → Graph C L → Run L → C
end_of g Start = g.first
end_of g (Then run label) = g.after (end_of g run) label

-- each label of the run is enabled where it stands
abbrev pub IsRun : {C L : Type 0} → Graph C L → Run L → Type 0
IsRun g Start = Unit {0}
IsRun g (Then run label) = IsRun g run × Contains (g.enabled (end_of g run)) label

-- a run goes on by each label that is enabled where it ends
abbrev pub longer : {C L : Type 0} → Graph C L → Run L → List (Run L)
longer g run = map (λ label. Then run label) (g.enabled (end_of g run))

-- all runs of exactly n steps
abbrev pub runs_of : {C L : Type 0} → Graph C L → ℕ → List (Run L)
runs_of g zero = Start ∷ []
runs_of g (suc n) = flat_map (longer g) (runs_of g n)

-- all runs of at most n steps
abbrev pub all_runs : {C L : Type 0} → Graph C L → ℕ → List (Run L)
all_runs g zero = Start ∷ []
all_runs g (suc n) = all_runs g n ++ runs_of g (suc n)

-- a run comes before another: it is shorter, or as long, and has the lesser label where they first differ
abbrev pub Before : {L : Type 0} → (L → L → Ordering) → Run L → Run L → Type 0
Before cmp r s = (steps_of r < steps_of s) ⊎ ((steps_of r ≡ steps_of s) × (slice_cmp cmp (labels_of r) (labels_of s) ≡ Less))

-- a run comes before another, or is the same run
abbrev pub NoLater : {L : Type 0} → (L → L → Ordering) → Run L → Run L → Type 0
NoLater cmp r s = Before cmp r s ⊎ (r ≡ s)
