-- Candidates of which some have no state, since a search finds it without them.
use Rattle.std.specs.Prelude.{◌≡◌, ℕ, ◌||◌, Bool, true, List, map, slice_get, take, Option, None, Some}
use Rattle.std.specs.List.{list_any}
use Rattle.search_layer.specs.declared.visited.Candidate.{Candidate}
use Rattle.search_layer.specs.internal.Search.{step_of}

module _ {C L : Type 0} (eq : C → C → Bool) (known : List C) (all : List (Candidate C L)) where
  -- a state is one of those found before, or that of a candidate before the one at the position
  abbrev pub IsKnownAt : ℕ → C → Type 0
  IsKnownAt i state = (list_any (eq state) known || list_any (λ d. eq state d.state) (take i all)) ≡ true

  -- what is given of the state of the candidate at the position: it is left out only where it is known there
  abbrev pub IsGiven : ℕ → C → Option C → Type 0
  IsGiven i state (Some given) = given ≡ state
  IsGiven i state None = IsKnownAt i state

  -- the same candidates, of which some have no state
  pub record AreThinned (thinned : List (Candidate (Option C) L)) : Type 0 where
    pub steps : map step_of thinned ≡ map step_of all
    pub states : (i : ℕ) (c : Candidate C L) (t : Candidate (Option C) L) → slice_get all i ≡ Some c → slice_get thinned i ≡ Some t → IsGiven i c.state t.state
