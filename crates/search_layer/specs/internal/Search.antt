-- The search layer by layer, as a function: what the code computes. No public contract cites it; the theory shows
-- that it finds what is said of all runs.
use Rattle.std.specs.Prelude.{ℕ, ◌+◌, ◌<◌, zero, suc, Bool, List, [], ◌∷◌, ◌++◌, map, length, drop, slice_index_or, Option, None, Some, if◌then◌else◌, Contains}
use Rattle.std.specs.List.{list_any}
use Rattle.summary.specs.Graph.{Graph}
use Rattle.summary.specs.Sums.{Join, Observation}
use Rattle.search_layer.specs.declared.visited.Step.{Step}
use Rattle.search_layer.specs.declared.visited.Candidate.{Candidate}

-- the states found so far, how each was reached, the place where the last layer begins, and the summary so far
pub record Found (C L S : Type 0) : Type 0 where
  pub states : List C
  pub steps : List (Option (Step L))
  pub from : ℕ
  pub summary : S

-- these states, steps, place and summary, as what was found
abbrev pub as_found : {C L S : Type 0} → List C → List (Option (Step L)) → ℕ → S → Found C L S
as_found states steps from summary = record { states = states; steps = steps; from = from; summary = summary }

module _ {C L : Type 0} (g : Graph C L) where
  -- a candidate for a label of the state at a place
  abbrev pub candidate_of : ℕ → C → L → Candidate C L
  candidate_of place state label = record { before = place; label = label; state = g.after state label }

  -- a candidate for each of these labels of the state at a place, in their order
  abbrev pub candidates_of : ℕ → C → List L → List (Candidate C L)
  candidates_of place state labels = map (candidate_of place state) labels

  -- the candidates of the states of a layer, the first of them at a place
  abbrev pub layer_candidates : ℕ → List C → List (Candidate C L)
  layer_candidates place [] = []
  layer_candidates place (state ∷ states) = candidates_of place state (g.enabled state) ++ layer_candidates (place + 1) states

  -- the candidate is a step from one of these states by an enabled label
  abbrev pub IsStep : {D : Type 0} → List C → Candidate D L → Type 0
  IsStep states c = (c.before < length states) × Contains (g.enabled (slice_index_or states c.before g.first)) c.label

module _ {C L : Type 0} where
  abbrev pub state_of : Candidate C L → C
  state_of c = c.state

  abbrev pub step_of : Candidate C L → Option (Step L)
  step_of c = Some (record { before = c.before; label = c.label })

  -- the candidates whose state is none of those found before, and no earlier candidate's
  abbrev pub newly : (C → C → Bool) → List C → List (Candidate C L) → List (Candidate C L)
  newly eq known [] = []
  newly eq known (c ∷ cs) = if list_any (eq c.state) known then newly eq known cs else c ∷ newly eq (known ++ c.state ∷ []) cs

module _ {C L S : Type 0} (j : Join S) (r : Observation C L S) where
  -- a summary, and what the steps by these labels show
  abbrev pub with_labels : C → S → List L → S
  with_labels state summary [] = summary
  with_labels state summary (label ∷ labels) = with_labels state (j.join summary (r.by state label)) labels

  -- a summary, and what the steps from the states of a layer show
  abbrev pub with_layer : Graph C L → S → List C → S
  with_layer g summary [] = summary
  with_layer g summary (state ∷ states) = with_layer g (with_labels state summary (g.enabled state)) states

  -- a summary, and what the steps of these candidates show, each from its state before
  abbrev pub with_steps : {D : Type 0} → Graph C L → List C → S → List (Candidate D L) → S
  with_steps g states summary [] = summary
  with_steps g states summary (c ∷ cs) = with_steps g states (j.join summary (r.by (slice_index_or states c.before g.first) c.label)) cs

  -- a summary, and what these states show
  abbrev pub with_states : S → List C → S
  with_states summary [] = summary
  with_states summary (state ∷ states) = with_states (j.join summary (r.at state)) states

  module _ (eq : C → C → Bool) where
    -- a candidate is new if no state found so far is equal to its own
    abbrev pub place : Found C L S → Candidate C L → Found C L S
    place found c =
        if list_any (eq c.state) found.states then found else record {
          states = found.states ++ c.state ∷ [];
          steps = found.steps ++ Some (record { before = c.before; label = c.label }) ∷ [];
          from = found.from;
          summary = j.join found.summary (r.at c.state);
        }

    -- what is found with these candidates, placed one after the other
    abbrev pub place_all : Found C L S → List (Candidate C L) → Found C L S
    place_all found [] = found
    place_all found (c ∷ cs) = place_all (place found c) cs

module _ {C L S : Type 0} (g : Graph C L) (j : Join S) (r : Observation C L S) (eq : C → C → Bool) where
  -- what is found before the first layer
  abbrev pub begin : Found C L S
  begin = record { states = g.first ∷ []; steps = None ∷ []; from = 0; summary = r.at g.first }

  -- the layer's states are left for those that they lead to
  abbrev pub advanced : Found C L S → Found C L S
  advanced found = record {
    states = found.states;
    steps = found.steps;
    from = length found.states;
    summary = with_layer j r g found.summary (drop found.from found.states);
  }

  -- what is found with one more layer: the last layer's states are left, and all their candidates placed
  abbrev pub next : Found C L S → Found C L S
  next found = place_all j r eq (advanced found) (layer_candidates g found.from (drop found.from found.states))

  -- what is found after n layers
  unfoldable pub found_after : ℕ → Found C L S
  found_after zero = begin
  found_after (suc n) = next (found_after n)
