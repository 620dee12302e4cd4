-- One step more of the search as a function.
use Rattle.std.proofs.Common.{◌≡◌, ℕ, zero, suc, ◌+◌, ◌-◌, ◌<◌, ◌≤◌, Bool, true, false, cond, List, [], ◌∷◌, ◌++◌, length, drop, sym, refl, ap, subst, ◌∙◌, arith, append_assoc, add-one, add-zero, add-suc}
use Rattle.std.specs.Prelude.{Option, All, Contains}
use Rattle.std.specs.List.{list_any}
use Rattle.std.proofs.lemmas.List.Elements.{All-nil, All-cons, All-head, All-tail, All-append, All-push, Contains-append_left, Contains-push}
use Rattle.summary.specs.Graph.{Graph}
use Rattle.summary.specs.Sums.{Join, Observation}
use Rattle.search_layer.specs.declared.visited.Step.{Step}
use Rattle.search_layer.specs.declared.visited.Candidate.{Candidate}
use Rattle.search_layer.specs.internal.Search.{Found, candidate_of, candidates_of, layer_candidates, with_layer, place, place_all, advanced, next, found_after, as_found}

module _ {C L : Type 0} (g : Graph C L) where
  module _ (F : C → Type 0) (goes : (s : C) (l : L) → F s → Contains (g.enabled s) l → F (g.after s l)) where
    -- what a front of the enabled labels leads to fits
    candidates-fit : (n : ℕ) (state : C) (front labels : List L) → front ++ labels ≡ g.enabled state → F state → All (λ c. F c.state) (candidates_of g n state labels)
    candidates-fit n state front [] e f = All-nil (λ (c : Candidate C L). F c.state)
    candidates-fit n state front (l ∷ ls) e f =
        All-cons (λ (c : Candidate C L). F c.state) (candidate_of g n state l) (candidates_of g n state ls)
        (goes state l f (subst (λ ms. Contains ms l) (append_assoc front (l ∷ []) ls ∙ e) (Contains-append_left (front ++ l ∷ []) ls l (Contains-push front l))))
        (candidates-fit n state (front ++ l ∷ []) ls (append_assoc front (l ∷ []) ls ∙ e) f)

    -- what the states of a layer lead to fits
    pub layer-fits : (n : ℕ) (states : List C) → All F states → All (λ c. F c.state) (layer_candidates g n states)
    layer-fits n [] f = All-nil (λ (c : Candidate C L). F c.state)
    layer-fits n (s ∷ states) f =
        All-append (λ (c : Candidate C L). F c.state) (candidates_of g n s (g.enabled s)) (layer_candidates g (n + 1) states)
        (candidates-fit n s [] (g.enabled s) refl (All-head F s states f)) (layer-fits (n + 1) states (All-tail F s states f))

module _ {C L S : Type 0} (j : Join S) (r : Observation C L S) where
  module _ (eq : C → C → Bool) where
    states-of-cond : (b : Bool) (x y : Found C L S) → (cond b x y).states ≡ cond b x.states y.states
    states-of-cond true x y = refl
    states-of-cond false x y = refl

    pub place-states : (found : Found C L S) (c : Candidate C L)
        → (place j r eq found c).states ≡ cond (list_any (eq c.state) found.states) found.states (found.states ++ c.state ∷ [])
    place-states found c = states-of-cond (list_any (eq c.state) found.states) found _

    kept : (b : Bool) (x y : Found C L S) → length x.states ≤ length y.states → length x.states ≤ length (cond b x y).states
    kept true x y h = omega arith
    kept false x y h = h

    length-push : (xs : List C) (x : C) → length xs ≤ length (xs ++ x ∷ [])
    length-push [] x = omega arith
    length-push (y ∷ ys) x = omega (arith, length-push ys x)

    -- placing loses no state
    pub place-grows : (found : Found C L S) (c : Candidate C L) → length found.states ≤ length (place j r eq found c).states
    place-grows found c = kept (list_any (eq c.state) found.states) found _ (length-push found.states c.state)

    pub place-all-grows : (found : Found C L S) (cs : List (Candidate C L)) → length found.states ≤ length (place_all j r eq found cs).states
    place-all-grows found [] = omega arith
    place-all-grows found (c ∷ cs) = omega (arith, place-grows found c, place-all-grows (place j r eq found c) cs)

    -- the code's states grow
    pub placed-grows : (states states' : List C) (steps steps' : List (Option (Step L))) (k : ℕ) (s s' : S) (cs : List (Candidate C L))
        → as_found states' steps' k s' ≡ place_all j r eq (as_found states steps k s) cs → length states ≤ length states'
    placed-grows states states' steps steps' k s s' cs e =
        subst (λ (x : Found C L S). length states ≤ length x.states) (sym e) (place-all-grows (as_found states steps k s) cs)

    module _ (F : C → Type 0) where
      fits-cond : (b : Bool) (x y : Found C L S) → All F x.states → All F y.states → All F (cond b x y).states
      fits-cond true x y f h = f
      fits-cond false x y f h = h

      place-fits : (found : Found C L S) (c : Candidate C L) → All F found.states → F c.state → All F (place j r eq found c).states
      place-fits found c f h = fits-cond (list_any (eq c.state) found.states) found _ f (All-push F found.states c.state f h)

      pub place-all-fits : (found : Found C L S) (cs : List (Candidate C L)) → All F found.states → All (λ c. F c.state) cs → All F (place_all j r eq found cs).states
      place-all-fits found [] f h = f
      place-all-fits found (c ∷ cs) f h =
          place-all-fits (place j r eq found c) cs (place-fits found c f (All-head (λ (c : Candidate C L). F c.state) c cs h)) (All-tail (λ (c : Candidate C L). F c.state) c cs h)

module _ {C L S : Type 0} (g : Graph C L) (j : Join S) (r : Observation C L S) (eq : C → C → Bool) where
  layer-grows : (found : Found C L S) → length found.states ≤ length (next g j r eq found).states
  layer-grows found = place-all-grows j r eq (advanced g j r eq found) (layer_candidates g found.from (drop found.from found.states))

  grows-by : (n k : ℕ) → length (found_after g j r eq n).states ≤ length (found_after g j r eq (n + k)).states
  unfolding found_after
  grows-by n zero = rw add-zero (omega arith)
  grows-by n (suc k) = rw add-suc (omega (arith, grows-by n k, layer-grows (found_after g j r eq (n + k))))

  -- no layer loses a state
  pub found-grows : (m n : ℕ) → m ≤ n → length (found_after g j r eq m).states ≤ length (found_after g j r eq n).states
  found-grows m n h = subst (λ k. length (found_after g j r eq m).states ≤ length (found_after g j r eq k).states) (omega arith) (grows-by m (n - m))

  -- one layer more
  pub found-more : (n : ℕ) → found_after g j r eq (n + 1) ≡ next g j r eq (found_after g j r eq n)
  unfolding found_after
  found-more n = rw add-one refl

  -- a layer of the code is a layer of the search
  pub layer-done : (n from count : ℕ) (states states' : List C) (steps steps' : List (Option (Step L))) (summary shown summary' : S) (cs : List (Candidate C L))
      → as_found states steps from summary ≡ found_after g j r eq n
      → cs ≡ layer_candidates g from (drop from states) → shown ≡ with_layer j r g summary (drop from states) → count ≡ length states
      → ((k : ℕ) → as_found states' steps' k summary' ≡ place_all j r eq (as_found states steps k shown) cs)
      → as_found states' steps' count summary' ≡ found_after g j r eq (n + 1)
  layer-done n from count states states' steps steps' summary shown summary' cs is cs_are shown_is count-is done =
      done count
      ∙ (λ i. place_all j r eq (as_found states steps (count-is i) (shown_is i)) (cs_are i))
      ∙ ap (next g j r eq) is
      ∙ sym (found-more n)

  -- too many within a layer is too many in the end
  pub layer-too-many : (n m limit from : ℕ) (states : List C) (steps : List (Option (Step L))) (summary shown : S) (cs : List (Candidate C L))
      → n < m → as_found states steps from summary ≡ found_after g j r eq n
      → cs ≡ layer_candidates g from (drop from states) → shown ≡ with_layer j r g summary (drop from states)
      → ((k : ℕ) → limit < length (place_all j r eq (as_found states steps k shown) cs).states)
      → limit < length (found_after g j r eq m).states
  layer-too-many n m limit from states steps summary shown cs h is cs_are shown_is many =
      let reached : place_all j r eq (as_found states steps (length states) shown) cs ≡ found_after g j r eq (n + 1) =
      (λ i. place_all j r eq (as_found states steps (length states) (shown_is i)) (cs_are i)) ∙ ap (next g j r eq) is ∙ sym (found-more n) in
      let here : limit < length (found_after g j r eq (n + 1)).states = subst (λ (x : Found C L S). limit < length x.states) reached (many (length states)) in
      omega (arith, found-grows (n + 1) m (omega arith))
