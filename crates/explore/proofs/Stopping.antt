-- Where a search stops before the plan's steps: what has no room, and what has no labels.
use Rattle.std.proofs.Common.{◌≡◌, ◌≢◌, ℕ, zero, suc, ◌+◌, ◌-◌, ◌<◌, ◌≤◌, Bool, true, false, true≢false, if◌then◌else◌, List, [], ◌∷◌, ◌++◌, length, get_or, take, drop, map, sym, refl, ap, subst, ◌∙◌, append_assoc, append-nil, length-append, arith}
use Rattle.std.specs.Prelude.{All, Option, Some, slice_get}
use Rattle.std.specs.List.{list_any}
use Rattle.std.specs.Cmp.{IsEquivalence}
use Rattle.std.proofs.lemmas.List.{length-map, take-append-drop, take-append-le, take_all}
use Rattle.std.proofs.lemmas.List.Elements.{All-nil, All-cons, All-append, All-get_or, All-head, All-tail}
use mathlib.Core.Logic.{dite}
use native.Mathlib.Decide.{dec_le, ℕ_discrete}
use Rattle.search_layer.proofs.Drawing.{stands-at}
use Rattle.search_layer.proofs.Newly.{all-placed}
use Rattle.search_layer.proofs.NotFirst.{IsUpTo, not-there, up-first, up-other, first-is-new, other-is-known, with_new, with_known, positions-within}
use Rattle.search_layer.proofs.SearchSteps.{found-more, layer-too-many}
use Rattle.search_layer.specs.declared.visited.Candidate.{Candidate}
use Rattle.search_layer.specs.declared.visited.Step.{Step}
use Rattle.search_layer.specs.internal.Search.{Found, as_found, candidate_of, candidates_of, found_after, layer_candidates, newly, next, place_all, state_of, with_layer, with_steps}
use Rattle.search_layer.specs.internal.Work.{AreFirst}
use Rattle.shared.specs.Totals.{Stands}
use Rattle.summary.specs.Graph.{Graph}
use Rattle.summary.specs.Sums.{Join, Observation}
use Rattle.explore.proofs.LayerSteps.{steps-shown}
use Rattle.explore.specs.declared.ending.Ending.{Ending}
use Rattle.explore.specs.declared.ending.Ending.TheVariants as ending
use Rattle.explore.specs.declared.ending.Stops.{Stops}
use Rattle.explore.specs.declared.layers.Explored.{Explored}
use Rattle.explore.specs.internal.Stopped.{HasStopped, IsEnd, IsQuiet, IsUnmarked, complete, all_done, finished_by}
use Rattle.search_layer.specs.declared.plan.Plan.{Plan}

-- ---- there are as many first candidates as new states

get-middle : {X : Type 0} (front : List X) (x : X) (rest : List X) → slice_get ((front ++ x ∷ []) ++ rest) (length front) ≡ Some x
get-middle [] x rest = refl
get-middle (y ∷ front) x rest = get-middle front x rest

take-front : {X : Type 0} (front : List X) (x : X) (rest : List X) → take (length front) ((front ++ x ∷ []) ++ rest) ≡ front
take-front [] x rest = refl
take-front (y ∷ front) x rest = ap (λ ys. y ∷ ys) (take-front front x rest)

module _ {C L : Type 0} (eq : C → C → Bool) (laws : IsEquivalence eq) (known : List C) (cs : List (Candidate C L)) (firsts : List ℕ) (h : AreFirst eq known cs firsts) where
  at-the-end : (next : ℕ) → IsUpTo firsts next (length cs) → length firsts ≡ next
  at-the-end next up = dite (dec_le (suc next) (length firsts))
      (λ more.
      let behind = up.behind next (omega arith) more in
      let within : get_or firsts next 0 < length cs = All-get_or (λ at. at < length cs) firsts next 0 more (positions-within eq known cs firsts h) in
      absurd (omega arith))
      (λ none. let low = up.next_within in omega arith)

  counted : (front rest : List (Candidate C L)) (next : ℕ) → cs ≡ front ++ rest → IsUpTo firsts next (length front) → length (newly eq known front) ≡ next
      → length (newly eq known cs) ≡ length firsts
  counted front [] next split up count =
      let whole : cs ≡ front = split ∙ append-nil front in
      ap (λ xs. length (newly eq known xs)) whole ∙ count ∙ sym (at-the-end next (subst (λ xs. IsUpTo firsts next (length xs)) (sym whole) up))
  counted front (c ∷ rest) next split up count =
      let regroup : cs ≡ (front ++ c ∷ []) ++ rest = split ∙ sym (append_assoc front (c ∷ []) rest) in
      let more : length front + 1 ≡ length (front ++ c ∷ []) = sym (length-append front (c ∷ [])) in
      let there : slice_get cs (length front) ≡ Some c = ap (λ xs. slice_get xs (length front)) regroup ∙ get-middle front c rest in
      let fronts : take (length front) cs ≡ front = ap (take (length front)) regroup ∙ take-front front c rest in
      let elsewhere : (next < length firsts → get_or firsts next 0 ≢ length front) → length (newly eq known cs) ≡ length firsts = λ differ.
      let old = subst (λ xs. list_any (eq c.state) (known ++ map state_of (newly eq known xs)) ≡ true) fronts
      (other-is-known eq laws known cs firsts c (length front) h there (not-there firsts next (length front) h.ascending up differ)) in
      counted (front ++ c ∷ []) rest next regroup
      (subst (λ k. IsUpTo firsts next k) more (up-other firsts next (length front) h.ascending up differ))
      (ap length (with_known eq laws known front c old) ∙ count) in
      dite (dec_le (suc next) (length firsts))
      (λ low. dite (ℕ_discrete (get_or firsts next 0) (length front))
      (λ here.
      let has : Stands (length front) firsts = subst (λ k. Stands k firsts) here (stands-at firsts next low) in
      let new = subst (λ xs. list_any (eq c.state) (known ++ map state_of (newly eq known xs)) ≡ false) fronts
      (first-is-new eq laws known cs firsts c (length front) h there has) in
      counted (front ++ c ∷ []) rest (next + 1) regroup
      (subst (λ k. IsUpTo firsts (next + 1) k) more (up-first firsts next (length front) h.ascending up low here))
      (ap length (with_new eq laws known front c new) ∙ length-append (newly eq known front) (c ∷ []) ∙ ap (λ k. k + 1) count))
      (λ apart. elsewhere (λ low. apart)))
      (λ high. elsewhere (λ low e. absurd (omega arith)))

  pub as-many-new : length (newly eq known cs) ≡ length firsts
  as-many-new = counted [] cs 0 refl (record {
    next_within = omega arith;
    before = λ k less. absurd (omega arith);
    behind = λ k more near. omega arith;
  }) refl

  -- states, and those of the first candidates
  pub length-with-new : length (known ++ map state_of (newly eq known cs)) ≡ length known + length firsts
  length-with-new = length-append known (map state_of (newly eq known cs)) ∙ ap (λ k. length known + k) (length-map (newly eq known cs) state_of ∙ as-many-new)

-- ---- no room for the new states

module _ {C L S : Type 0} (j : Join S) (r : Observation C L S) (eq : C → C → Bool) (laws : IsEquivalence eq) where
  -- more first candidates than there is room for are more states than the limit
  pub no-room : (limit : ℕ) (states : List C) (steps : List (Option (Step L))) (from : ℕ) (shown : S) (cs : List (Candidate C L)) (firsts : List ℕ)
      → AreFirst eq states cs firsts → limit < length states + length firsts
      → limit < length (place_all j r eq (as_found states steps from shown) cs).states
  no-room limit states steps from shown cs firsts first many =
      let placed : (place_all j r eq (as_found states steps from shown) cs).states ≡ states ++ map state_of (newly eq states cs) =
      ap (λ (f : Found C L S). f.states) (all-placed j r eq (as_found states steps from shown) cs) in
      subst (λ k. limit < k) (sym (ap length placed ∙ length-with-new eq laws states cs firsts first)) many

-- ---- a layer without candidates

module _ {C L : Type 0} (g : Graph C L) where
  no-first : {A : Type 0} (x : A) (xs : List A) → x ∷ xs ≡ [] → ⊥
  no-first x xs e = cc

  front-empty : {A : Type 0} (xs ys : List A) → xs ++ ys ≡ [] → (xs ≡ []) × (ys ≡ [])
  front-empty [] ys e = (refl, e)
  front-empty (x ∷ xs) ys e = absurd (no-first x (xs ++ ys) e)

  no-labels : (place : ℕ) (c : C) (labels : List L) → candidates_of g place c labels ≡ [] → labels ≡ []
  no-labels place c [] e = refl
  no-labels place c (l ∷ ls) e = absurd (no-first (candidate_of g place c l) (candidates_of g place c ls) e)

  pub quiet-layer : (place : ℕ) (states : List C) → layer_candidates g place states ≡ [] → All (λ c. g.enabled c ≡ []) states
  quiet-layer place [] e = All-nil (λ c. g.enabled c ≡ [])
  quiet-layer place (c ∷ cs) e =
      let parts = front-empty (candidates_of g place c (g.enabled c)) (layer_candidates g (place + 1) cs) e in
      All-cons (λ c. g.enabled c ≡ []) c cs (no-labels place c (g.enabled c) parts.0) (quiet-layer (place + 1) cs parts.1)

  -- a layer whose states have no labels has no candidates
  none-of-quiet : (place : ℕ) (states : List C) → All (λ c. g.enabled c ≡ []) states → layer_candidates g place states ≡ []
  none-of-quiet place [] all = refl
  none-of-quiet place (c ∷ cs) all =
      ap (λ labels. candidates_of g place c labels ++ layer_candidates g (place + 1) cs) (All-head (λ c. g.enabled c ≡ []) c cs all)
      ∙ none-of-quiet (place + 1) cs (All-tail (λ c. g.enabled c ≡ []) c cs all)

  -- states without a mark, before a place and from it on
  pub unmarked-both : (states : List C) (from : ℕ) (mark : Option ℕ) → IsUnmarked g (take from states) mark → IsUnmarked g (drop from states) mark → IsUnmarked g states mark
  unmarked-both states from mark before behind number is =
      subst (All (λ c. g.mark c ≢ Some number)) (take-append-drop from states)
      (All-append (λ c. g.mark c ≢ Some number) (take from states) (drop from states) (before number is) (behind number is))

  drop-all : {A : Type 0} (xs : List A) → drop (length xs) xs ≡ []
  drop-all [] = refl
  drop-all (x ∷ xs) = drop-all xs

  module _ {S : Type 0} (j : Join S) (r : Observation C L S) (eq : C → C → Bool) where
    -- where the last layer has no states, a layer more finds nothing
    next-same : (found : Found C L S) → found.from ≡ length found.states → next g j r eq found ≡ found
    next-same found from =
        let none : drop found.from found.states ≡ [] = ap (λ k. drop k found.states) from ∙ drop-all found.states in
        (λ i. place_all j r eq (as_found found.states found.steps (sym from i) (with_layer j r g found.summary (none i))) (layer_candidates g found.from (none i)))

    stays : (n k : ℕ) → (found_after g j r eq n).from ≡ length (found_after g j r eq n).states → found_after g j r eq (k + n) ≡ found_after g j r eq n
    unfolding found_after
    stays n zero from = let none : 0 + n ≡ n = omega arith in ap (found_after g j r eq) none
    stays n (suc k) from =
        let so_far = stays n k from in
        let one : suc k + n ≡ (k + n) + 1 = omega arith in
        ap (found_after g j r eq) one
        ∙ found-more g j r eq (k + n)
        ∙ ap (next g j r eq) so_far
        ∙ next-same (found_after g j r eq n) from

    -- behind a layer without candidates further layers are empty
    pub nothing-more : (n m from : ℕ) (states : List C) (steps : List (Option (Step L))) (summary : S) (cs : List (Candidate C L)) → n < m
        → as_found states steps from summary ≡ found_after g j r eq n → cs ≡ layer_candidates g from (drop from states) → cs ≡ []
        → as_found states steps (length states) summary ≡ found_after g j r eq m
    nothing-more n m from states steps summary cs below is cs_are none =
        let shown : with_layer j r g summary (drop from states) ≡ summary =
        sym (steps-shown g states j r from summary cs cs_are) ∙ ap (with_steps j r g states summary) none in
        let one : as_found states steps (length states) summary ≡ found_after g j r eq (n + 1) =
        (λ i. place_all j r eq (as_found states steps (length states) (sym shown i)) ((sym none ∙ cs_are) i)) ∙ ap (next g j r eq) is ∙ sym (found-more g j r eq n) in
        let at : (found_after g j r eq (n + 1)).from ≡ length (found_after g j r eq (n + 1)).states =
        sym (ap (λ (f : Found C L S). f.from) one) ∙ ap (λ (f : Found C L S). length f.states) one in
        let far : (m - (n + 1)) + (n + 1) ≡ m = omega arith in
        one ∙ sym (stays (n + 1) (m - (n + 1)) at) ∙ ap (found_after g j r eq) far

    -- where a layer has candidates, the search leads on
    pub leads-on : (layer from : ℕ) (states : List C) (steps : List (Option (Step L))) (summary : S) (cs : List (Candidate C L))
        → as_found states steps from summary ≡ found_after g j r eq layer → cs ≡ layer_candidates g from (drop from states) → cs ≢ []
        → ((k : ℕ) → k < layer → ¬ IsQuiet g (found_after g j r eq k)) → (k : ℕ) → k < layer + 1 → ¬ IsQuiet g (found_after g j r eq k)
    leads-on layer from states steps summary cs is cs_are some before k low quiet = dite (dec_le (suc k) layer)
        (λ less. before k less quiet)
        (λ more.
        let here : k ≡ layer = omega arith in
        let last : All (λ c. g.enabled c ≡ []) (drop from states) = subst (λ (f : Found C L S). IsQuiet g f) (ap (found_after g j r eq) here ∙ sym is) quiet in
        some (cs_are ∙ none-of-quiet from (drop from states) last))

    -- where no state of a layer has a mark, either, none does before the next
    pub still-unmarked : (mark : Option ℕ) (from from' : ℕ) (states states' : List C) (shown summary' : S) (steps steps' : List (Option (Step L))) (cs : List (Candidate C L))
        → IsUnmarked g (take from states) mark → IsUnmarked g (drop from states) mark → from' ≡ length states
        → as_found states' steps' 0 summary' ≡ place_all j r eq (as_found states steps 0 shown) cs → IsUnmarked g (take from' states') mark
    still-unmarked mark from from' states states' shown summary' steps steps' cs before behind count placed =
        let more : states' ≡ states ++ map state_of (newly eq states cs) =
        ap (λ (f : Found C L S). f.states) (placed ∙ all-placed j r eq (as_found states steps 0 shown) cs) in
        let front : take from' states' ≡ states =
        (λ i. take (count i) (more i)) ∙ take-append-le (length states) states (map state_of (newly eq states cs)) (omega arith) ∙ take_all (length states) states (omega arith) in
        subst (λ xs. IsUnmarked g xs mark) (sym front) (unmarked-both states from mark before behind)

    module _ (F : C → Type 0) (plan : Plan) (stops : Stops) where
      -- the search ends with what it found, for a reason
      pub ended-here : (e d : Explored C L S) (layer : ℕ) (why : Ending) → d ≡ record e { ending = why }
          → as_found e.visited.states.keys e.visited.steps e.from e.summary ≡ found_after g j r eq layer
          → All F e.visited.states.keys → length e.visited.states.keys ≤ plan.limit → e.from ≤ length e.visited.states.keys → e.steps ≡ layer → layer ≤ plan.steps
          → ((k : ℕ) → k < layer → ¬ IsQuiet g (found_after g j r eq k)) → IsUnmarked g (take e.from e.visited.states.keys) stops.at_mark
          → HasStopped g j r eq plan stops e.visited.states.keys e.from layer why → IsEnd g j r eq F plan stops d
      ended-here e d layer why same is fits within from steps below led unmarked stop = subst (IsEnd g j r eq F plan stops) (sym same) (record {
        found = is ∙ ap (found_after g j r eq) (sym steps);
        fits = fits;
        within = within;
        from = from;
        steps = omega arith;
        stopped = subst (λ k. HasStopped g j r eq plan stops e.visited.states.keys e.from k why) (sym steps) stop;
        led_on = λ wanted k low. led k (subst (λ n. k < n) steps low);
        unmarked = unmarked;
      })

      -- behind a layer without candidates the search ends as it is to end
      pub finishes : (e : Explored C L S) (layer : ℕ) (cs : List (Candidate C L)) → layer < plan.steps
          → as_found e.visited.states.keys e.visited.steps e.from e.summary ≡ found_after g j r eq layer
          → All F e.visited.states.keys → length e.visited.states.keys ≤ plan.limit → e.from ≤ length e.visited.states.keys → e.steps ≡ layer → e.ending ≡ ending.Steps
          → ((k : ℕ) → k < layer → ¬ IsQuiet g (found_after g j r eq k)) → IsUnmarked g (take e.from e.visited.states.keys) stops.at_mark → IsUnmarked g (drop e.from e.visited.states.keys) stops.at_mark
          → cs ≡ layer_candidates g e.from (drop e.from e.visited.states.keys) → cs ≡ [] → IsEnd g j r eq F plan stops (finished_by plan stops e)
      finishes e layer cs below is fits within from steps going led before behind cs_are none = by-case stops.when_complete refl
        where
          by-case : (b : Bool) → stops.when_complete ≡ b
              → IsEnd g j r eq F plan stops (if b then record e { ending = ending.Complete } else record e { from = length e.visited.states.keys; steps = plan.steps })
          by-case true stop = record {
            found = is ∙ ap (found_after g j r eq) (sym steps);
            fits = fits;
            within = within;
            from = from;
            steps = omega arith;
            stopped = complete stop (quiet-layer e.from (drop e.from e.visited.states.keys) (sym cs_are ∙ none));
            led_on = λ wanted k low. led k (subst (λ n. k < n) steps low);
            unmarked = before;
          }
          by-case false go = record {
            found = nothing-more layer plan.steps e.from e.visited.states.keys e.visited.steps e.summary cs below is cs_are none;
            fits = fits;
            within = within;
            from = omega arith;
            steps = omega arith;
            stopped = subst (HasStopped g j r eq plan stops e.visited.states.keys (length e.visited.states.keys) plan.steps) (sym going) (all_done refl);
            led_on = λ wanted. absurd (true≢false (sym wanted ∙ go));
            unmarked =
                let all : take (length e.visited.states.keys) e.visited.states.keys ≡ e.visited.states.keys = take_all (length e.visited.states.keys) e.visited.states.keys (omega arith) in
                subst (λ xs. IsUnmarked g xs stops.at_mark) (sym all) (unmarked-both e.visited.states.keys e.from stops.at_mark before behind);
          }

    -- where the new states have no room, this layer and each later one have more states than the limit
    pub beyond : IsEquivalence eq → (layer n limit from : ℕ) (states : List C) (steps : List (Option (Step L))) (summary : S) (cs : List (Candidate C L)) (firsts : List ℕ) → layer < n
        → as_found states steps from summary ≡ found_after g j r eq layer → cs ≡ layer_candidates g from (drop from states) → AreFirst eq states cs firsts
        → limit < length states + length firsts → limit < length (found_after g j r eq n).states
    beyond laws layer n limit from states steps summary cs firsts below is cs_are first many =
        layer-too-many g j r eq layer n limit from states steps summary (with_steps j r g states summary cs) cs below is cs_are
        (steps-shown g states j r from summary cs cs_are)
        (λ k. no-room j r eq laws limit states steps k (with_steps j r g states summary cs) cs firsts first many)
