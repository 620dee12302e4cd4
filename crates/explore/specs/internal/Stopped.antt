-- Why a search went no further, in the words of the search.
use Rattle.std.specs.Prelude.{◌≡◌, ◌≢◌, ℕ, ◌<◌, ◌≤◌, ◌&&◌, Bool, suc, true, false, List, [], length, take, drop, slice_index_or, All, Option, Some, if◌then◌else◌}
use Rattle.explore.specs.declared.ending.Ending.{Ending}
use Rattle.explore.specs.declared.ending.Ending.TheVariants as ending
use Rattle.explore.specs.declared.ending.Stops.{Stops}
use Rattle.explore.specs.declared.layers.Explored.{Explored}
use Rattle.search_layer.specs.declared.plan.Plan.{Plan}
use Rattle.search_layer.specs.internal.Search.{Found, as_found, found_after}
use Rattle.summary.specs.Graph.{Graph}
use Rattle.summary.specs.Sums.{Join, Observation}

-- some state has the mark
pub record IsMarked {C L : Type 0} (g : Graph C L) (states : List C) (mark : Option ℕ) : Type 0 where
  pub number : ℕ
  pub place : ℕ
  pub is : mark ≡ Some number
  pub within : place < length states
  pub marked : g.mark (slice_index_or states place g.first) ≡ Some number

-- no state has the mark, where there is one
abbrev pub IsUnmarked : {C L : Type 0} → Graph C L → List C → Option ℕ → Type 0
IsUnmarked g states mark = (number : ℕ) → mark ≡ Some number → All (λ c. g.mark c ≢ Some number) states

-- no state of the last layer has labels
abbrev pub IsQuiet : {C L S : Type 0} → Graph C L → Found C L S → Type 0
IsQuiet g found = All (λ c. g.enabled c ≡ []) (drop found.from found.states)

-- the search that found these states in so many layers, of which the last begins at the place, ended where it was to end
pub data HasStopped {C L S : Type 0} (g : Graph C L) (j : Join S) (r : Observation C L S) (eq : C → C → Bool) (plan : Plan) (stops : Stops) (states : List C) (from steps : ℕ) : Ending → Type 0 where
  all_done : steps ≡ plan.steps → HasStopped g j r eq plan stops states from steps ending.Steps
  at_limit : stops.at_limit ≡ true → steps < plan.steps → plan.limit < length (found_after g j r eq (suc steps)).states → HasStopped g j r eq plan stops states from steps ending.Limit
  complete : stops.when_complete ≡ true → All (λ c. g.enabled c ≡ []) (drop from states) → HasStopped g j r eq plan stops states from steps ending.Complete
  at_mark : IsMarked g states stops.at_mark → HasStopped g j r eq plan stops states from steps ending.Mark

-- a search whose last states have no labels ends here where it is to end when complete; else its further layers are empty
abbrev pub finished_by : {C L S : Type 0} → Plan → Stops → Explored C L S → Explored C L S
finished_by plan stops e = if stops.when_complete then record e { ending = ending.Complete } else record e { from = length e.visited.states.keys; steps = plan.steps }

-- what a search answers where it ends
pub record IsEnd {C L S : Type 0} (g : Graph C L) (j : Join S) (r : Observation C L S) (eq : C → C → Bool) (F : C → Type 0) (plan : Plan) (stops : Stops) (e : Explored C L S) : Type 0 where
  pub found : as_found e.visited.states.keys e.visited.steps e.from e.summary ≡ found_after g j r eq e.steps
  pub fits : All F e.visited.states.keys
  pub within : length e.visited.states.keys ≤ plan.limit
  pub from : e.from ≤ length e.visited.states.keys
  pub steps : e.steps ≤ plan.steps
  pub stopped : HasStopped g j r eq plan stops e.visited.states.keys e.from e.steps e.ending
  -- no fewer layers were enough
  pub led_on : stops.when_complete ≡ true → (layer : ℕ) → layer < e.steps → ¬ IsQuiet g (found_after g j r eq layer)
  pub unmarked : IsUnmarked g (take e.from e.visited.states.keys) stops.at_mark

-- the reason that is told of a search that ended: a mark of the last layer, else that this one is quiet, where the search is to end
-- there, else why it went no further
pub data IsReason {C L S : Type 0} (g : Graph C L) (stops : Stops) (e : Explored C L S) (quiet : Bool) : Ending → Type 0 where
  marked : IsMarked g e.visited.states.keys stops.at_mark → IsReason g stops e quiet ending.Mark
  is_quiet : IsUnmarked g (drop e.from e.visited.states.keys) stops.at_mark → stops.when_complete ≡ true → quiet ≡ true → IsReason g stops e quiet ending.Complete
  kept : IsUnmarked g (drop e.from e.visited.states.keys) stops.at_mark → stops.when_complete && quiet ≡ false → IsReason g stops e quiet e.ending

-- what a search found, in so many layers
pub record IsSearched {C L S : Type 0} (g : Graph C L) (j : Join S) (r : Observation C L S) (eq : C → C → Bool) (F : C → Type 0) (e : Explored C L S) : Type 0 where
  pub found : as_found e.visited.states.keys e.visited.steps e.from e.summary ≡ found_after g j r eq e.steps
  pub fits : All F e.visited.states.keys
  pub from : e.from ≤ length e.visited.states.keys

-- a search that went on up to a layer, behind which there is no room for all states
pub record HasNoRoom {C L S : Type 0} (g : Graph C L) (j : Join S) (r : Observation C L S) (eq : C → C → Bool) (plan : Plan) (stops : Stops) : Type 0 where
  pub layer : ℕ
  pub below : layer < plan.steps
  pub many : plan.limit < length (found_after g j r eq (suc layer)).states
  pub led_on : (k : ℕ) → k < suc layer → ¬ IsQuiet g (found_after g j r eq k)
  pub unmarked : IsUnmarked g (found_after g j r eq layer).states stops.at_mark
