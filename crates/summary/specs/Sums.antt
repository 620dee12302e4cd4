-- What is summed up over runs, and the sum.
use Rattle.std.specs.Prelude.{◌≡◌, ℕ, List, [], ◌∷◌, map}
use Rattle.summary.specs.Graph.{Graph}
use Rattle.summary.specs.Run.{Run, Start, Then, end_of, all_runs}

-- a summary of nothing, and two summaries made one
pub record Join (S : Type 0) : Type 0 where
  pub none : S
  pub join : S → S → S

-- order and repetition have no effect, and a summary of nothing adds nothing
pub record IsSemilattice {S : Type 0} (j : Join S) : Type 0 where
  pub associates : (x y z : S) → j.join (j.join x y) z ≡ j.join x (j.join y z)
  pub commutes : (x y : S) → j.join x y ≡ j.join y x
  pub repeats : (x : S) → j.join x x ≡ x
  pub unit : (x : S) → j.join j.none x ≡ x

-- what is seen of a configuration, and of a step that a label takes from it
pub record Observation (C L S : Type 0) : Type 0 where
  pub at : C → S
  pub by : C → L → S

-- what one run shows: its end, and its last step where it has one
abbrev pub shown : {C L S : Type 0} → Graph C L → Join S → Observation C L S → Run L → S
shown g j r Start = r.at g.first
shown g j r (Then run label) = j.join (r.by (end_of g run) label) (r.at (end_of g (Then run label)))

-- the join of a list
abbrev pub join_all : {S : Type 0} → Join S → List S → S
join_all j [] = j.none
join_all j (x ∷ xs) = j.join x (join_all j xs)

-- the join, over all runs of at most n steps, of what each shows
abbrev pub sum_of : {C L S : Type 0} → Graph C L → Join S → Observation C L S → ℕ → S
sum_of g j r n = join_all j (map (shown g j r) (all_runs g n))
