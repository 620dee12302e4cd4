-- A layer's candidates, put together from the successors of its states. Those whose states are late may have none.
use Rattle.std.specs.Prelude.{◌≡◌, ℕ, ◌<◌, Bool, List, length, map, flat_map, slice_index_or, All, Contains, IfSome, Option, None, Some}
use Rattle.std.specs.List.{AllZip}
use Rattle.std.specs.declared.cmp.Ordering.{Ordering}
use Rattle.summary.specs.Graph.{Graph}
use Rattle.search_layer.specs.Late.{IsLate}
use Rattle.search_layer.specs.declared.visited.Candidate.{Candidate}
use Rattle.search_layer.specs.declared.visited.Step.{Step}
use Rattle.search_layer.specs.internal.Search.{step_of, with_steps}
use Rattle.search_layer.specs.internal.Thinned.{AreThinned}
use Rattle.search_layer.specs.internal.Work.{AreFirst}
use Rattle.summary.specs.Sums.{Join, Observation}
use Rattle.explore.specs.declared.expand.Expanded.{Expanded}
use Rattle.explore.specs.internal.Tied.{GoBack, step_at}

module _ {C L : Type 0} where
  -- successors, each with its state
  abbrev pub all_given : List (L × C) → List (L × Option C)
  all_given pairs = map (λ (p : L × C). (p.0, Some p.1)) pairs

  -- a candidate for each successor of the state at a place
  abbrev pub candidates_with : ℕ → List (L × C) → List (Candidate C L)
  candidates_with place pairs = map (λ p. record { before = place; label = p.0; state = p.1 }) pairs

  -- the candidates of expanded states, one state behind the other
  abbrev pub candidates_in : List (Expanded C L) → List (Candidate C L)
  candidates_in states = flat_map (λ e. candidates_with e.place e.successors.items) states

-- the step leads to the state at the place, from a state that enables its label
pub record IsBehind {C L : Type 0} (g : Graph C L) (states : List C) (place : ℕ) (step : Step L) : Type 0 where
  pub enabled : Contains (g.enabled (slice_index_or states step.before g.first)) step.label
  pub leads : slice_index_or states place g.first ≡ g.after (slice_index_or states step.before g.first) step.label

module _ {C L : Type 0} (g : Graph C L) (states : List C) (steps : List (Option (Step L))) where
  -- the steps are the last steps of runs that lead to these states
  pub record AreKept : Type 0 where
    pub as_many : length steps ≡ length states
    pub back : GoBack steps
    pub behind : (place : ℕ) → place < length steps → IfSome (step_at steps place) (IsBehind g states place)

  module _ (cmp : L → L → Ordering) where
    -- a state that is late where it is reached from the state at the place
    pub record IsLateBehind (place : ℕ) (state : C) : Type 0 where
      pub step : Step L
      pub last : step_at steps place ≡ Some step
      pub late : IsLate g cmp (slice_index_or states step.before g.first) step.label state

    -- what is given of a state that is reached from the state at the place: it is left out only where it is late
    abbrev pub IsUnlessLate : ℕ → C → Option C → Type 0
    IsUnlessLate place state (Some given) = given ≡ state
    IsUnlessLate place state None = IsLateBehind place state

    -- the place of one of these states, and the state's labels, each with what is given of the state that it leads to
    pub record IsExpanded (at place : ℕ) (pairs : List (L × Option C)) : Type 0 where
      pub is_place : place ≡ at
      pub labels : map (λ p. p.0) pairs ≡ g.enabled (slice_index_or states at g.first)
      pub given : All (λ p. IsUnlessLate at (g.after (slice_index_or states at g.first) p.0) p.1) pairs

    -- the same candidate, whose state is left out only where it is late
    pub record IsThinOf (c : Candidate C L) (t : Candidate (Option C) L) : Type 0 where
      pub step : step_of t ≡ step_of c
      pub state : IsUnlessLate c.before c.state t.state

    -- the candidates of the states from a place on, of which some that are late have no state
    abbrev pub AreThinOf : List (Candidate C L) → List (Candidate (Option C) L) → Type 0
    AreThinOf all thinned = AllZip IsThinOf all thinned

-- these are all candidates of a layer: the given ones are the same, of which some have no state, the positions are those of the
-- first ones, and this is what all their steps show
pub record AreAll {C L S : Type 0} (g : Graph C L) (j : Join S) (r : Observation C L S) (eq : C → C → Bool) (F : C → Type 0) (known : List C)
    (thinned : List (Candidate (Option C) L)) (firsts : List ℕ) (shown : S) (all : List (Candidate C L)) : Type 0 where
  pub fits : All (λ c. F c.state) all
  pub thin : AreThinned eq known all thinned
  pub first : AreFirst eq known all firsts
  pub shows : shown ≡ with_steps j r g known j.none all
