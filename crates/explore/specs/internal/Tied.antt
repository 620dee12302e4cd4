-- What the code's values stand for.
use Rattle.std.specs.Prelude.{◌≡◌, ◌≢◌, ℕ, ◌<◌, List, length, slice_index_or, All, Option, None, Some, IfSome}
use Rattle.summary.specs.Graph.{Graph}
use Rattle.std.specs.declared.alloc.Global.{Global}
use Rattle.std.specs.declared.vec.Vec.{Vec}
use Rattle.summary.specs.Run.{Run, Start, Then, labels_of}
use Rattle.search_layer.specs.declared.visited.Step.{Step}

-- the run that is kept at a place
abbrev pub run_at : {L : Type 0} → List (Run L) → ℕ → Run L
run_at runs place = slice_index_or runs place Start

-- the last step that is kept at a place: none for the first state, and behind the last place
abbrev pub step_at : {L : Type 0} → List (Option (Step L)) → ℕ → Option (Step L)
step_at steps place = slice_index_or steps place None

-- each step leads back to an earlier place
abbrev pub GoBack : {L : Type 0} → List (Option (Step L)) → Type 0
GoBack steps = (place : ℕ) → place < length steps → IfSome (step_at steps place) (λ step. step.before < place)

-- a run is the run before its last step, and that step
abbrev pub Tells : {L : Type 0} → List (Run L) → Run L → Option (Step L) → Type 0
Tells runs run None = run ≡ Start
Tells runs run (Some step) = run ≡ Then (run_at runs step.before) step.label

-- the steps are the last steps of these runs
pub record AreLastSteps {L : Type 0} (runs : List (Run L)) (steps : List (Option (Step L))) : Type 0 where
  pub as_many : length steps ≡ length runs
  pub back : GoBack steps
  pub tell : (place : ℕ) → place < length steps → Tells runs (run_at runs place) (step_at steps place)

-- the state at the place has the mark, and none before it
pub record IsFirstMarked {C L : Type 0} (g : Graph C L) (mark : ℕ) (states : List C) (place : ℕ) : Type 0 where
  pub within : place < length states
  pub marked : (d : C) → g.mark (slice_index_or states place d) ≡ Some mark
  pub first : (k : ℕ) (d : C) → k < place → g.mark (slice_index_or states k d) ≢ Some mark

-- the place of the first state with the mark, or none exactly where no state has it
abbrev pub IsPlaceOf : {C L : Type 0} → Graph C L → List C → ℕ → Option ℕ → Type 0
IsPlaceOf g states mark None = All (λ state. g.mark state ≢ Some mark) states
IsPlaceOf g states mark (Some place) = IsFirstMarked g mark states place

-- the place of the first state with each of the eight marks, in the order of the marks
pub record AreFirstMarked {C L : Type 0} (g : Graph C L) (states : List C) (places : List (Option ℕ)) : Type 0 where
  pub eight : length places ≡ 8
  pub each : (mark : ℕ) → mark < 8 → IsPlaceOf g states mark (slice_index_or places mark None)

-- what is answered for a mark, by the kept places: the run that is kept at the first state with it
abbrev pub IsKept : {C L : Type 0} → Graph C L → List C → List (Option (Step L)) → ℕ → Option (Vec L Global) → Type 0
IsKept g states steps mark None = All (λ state. g.mark state ≢ Some mark) states
IsKept {C} {L} g states steps mark (Some labels) =
    (place : ℕ) × IsFirstMarked g mark states place × ((runs : List (Run L)) → AreLastSteps runs steps → labels.items ≡ labels_of (run_at runs place))

-- the labels of the run that is kept at the place, where there is one
abbrev pub IsRunKept : {L : Type 0} → List (Option (Step L)) → Option ℕ → Option (Vec L Global) → Type 0
IsRunKept steps None None = Unit {0}
IsRunKept steps None (Some labels) = ⊥
IsRunKept steps (Some place) None = ⊥
IsRunKept {L} steps (Some place) (Some labels) =
    (runs : List (Run L)) → AreLastSteps runs steps → labels.items ≡ labels_of (run_at runs place)
