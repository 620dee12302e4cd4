-- A layer's candidates are steps from states that were found, and show what the layer shows.
use Rattle.std.proofs.Common.{◌≡◌, ℕ, suc, ◌+◌, ◌<◌, ◌≤◌, List, [], ◌∷◌, ◌++◌, length, drop, ap, sym, refl, subst, ◌∙◌, arith, append_assoc}
use Rattle.std.specs.Prelude.{All, Contains, slice_index_or}
use Rattle.std.proofs.lemmas.List.{get_or-drop, length-drop}
use Rattle.std.proofs.lemmas.List.Elements.{All-nil, All-cons, All-append, Contains-append_left, Contains-push}
use Rattle.summary.specs.Graph.{Graph}
use Rattle.summary.specs.Sums.{Join, Observation}
use Rattle.search_layer.specs.declared.visited.Candidate.{Candidate}
use Rattle.search_layer.specs.internal.Search.{candidate_of, candidates_of, layer_candidates, with_labels, with_layer, with_steps, IsStep}

module _ {C L : Type 0} (g : Graph C L) (states : List C) where
  -- these states stand among all from a place on
  abbrev StandAt : ℕ → List C → Type 0
  StandAt n layer = (i : ℕ) → i < length layer → slice_index_or states (n + i) g.first ≡ slice_index_or layer i g.first

  first_at : (n : ℕ) (s : C) (layer : List C) → StandAt n (s ∷ layer) → slice_index_or states n g.first ≡ s
  first_at n s layer at = let here : n ≡ n + 0 = omega arith in ap (λ k. slice_index_or states k g.first) here ∙ at 0 (omega arith)

  others-at : (n : ℕ) (s : C) (layer : List C) → StandAt n (s ∷ layer) → StandAt (n + 1) layer
  others-at n s layer at i lt = let on : (n + 1) + i ≡ n + suc i = omega arith in ap (λ k. slice_index_or states k g.first) on ∙ at (suc i) (omega arith)

  candidates-step : (n : ℕ) (s : C) (front labels : List L) → front ++ labels ≡ g.enabled s → n < length states → slice_index_or states n g.first ≡ s
      → All (IsStep g states) (candidates_of g n s labels)
  candidates-step n s front [] e low is = All-nil (IsStep g states)
  candidates-step n s front (l ∷ ls) e low is =
      let enabled = subst (λ ms. Contains ms l) (append_assoc front (l ∷ []) ls ∙ e) (Contains-append_left (front ++ l ∷ []) ls l (Contains-push front l)) in
      All-cons (IsStep g states) (candidate_of g n s l) (candidates_of g n s ls)
      (low, subst (λ (t : C). Contains (g.enabled t) l) (sym is) enabled)
      (candidates-step n s (front ++ l ∷ []) ls (append_assoc front (l ∷ []) ls ∙ e) low is)

  layer-steps : (n : ℕ) (layer : List C) → n + length layer ≤ length states → StandAt n layer → All (IsStep g states) (layer_candidates g n layer)
  layer-steps n [] low at = All-nil (IsStep g states)
  layer-steps n (s ∷ layer) low at =
      All-append (IsStep g states) (candidates_of g n s (g.enabled s)) (layer_candidates g (n + 1) layer)
      (candidates-step n s [] (g.enabled s) refl (omega arith) (first_at n s layer at))
      (layer-steps (n + 1) layer (omega arith) (others-at n s layer at))

  -- the candidates of the last states are steps
  pub are-steps : (from : ℕ) (cs : List (Candidate C L)) → from ≤ length states → cs ≡ layer_candidates g from (drop from states) → All (IsStep g states) cs
  are-steps from cs low is =
      subst (All (IsStep g states)) (sym is)
      (layer-steps from (drop from states) (omega (arith, length-drop from states)) (λ i lt. sym (get_or-drop from states i g.first)))

  module _ {S : Type 0} (j : Join S) (r : Observation C L S) where
    labels-shown : (n : ℕ) (s : C) (summary : S) (labels : List L) (cs : List (Candidate C L)) → slice_index_or states n g.first ≡ s
        → with_steps j r g states summary (candidates_of g n s labels ++ cs) ≡ with_steps j r g states (with_labels j r s summary labels) cs
    labels-shown n s summary [] cs is = refl
    labels-shown n s summary (l ∷ ls) cs is =
        ap (λ (t : C). with_steps j r g states (j.join summary (r.by t l)) (candidates_of g n s ls ++ cs)) is
        ∙ labels-shown n s (j.join summary (r.by s l)) ls cs is

    layer-shown : (n : ℕ) (layer : List C) (summary : S) → StandAt n layer
        → with_steps j r g states summary (layer_candidates g n layer) ≡ with_layer j r g summary layer
    layer-shown n [] summary at = refl
    layer-shown n (s ∷ layer) summary at =
        labels-shown n s summary (g.enabled s) (layer_candidates g (n + 1) layer) (first_at n s layer at)
        ∙ layer-shown (n + 1) layer (with_labels j r s summary (g.enabled s)) (others-at n s layer at)

    -- the candidates of the last states show what these states' steps show
    pub steps-shown : (from : ℕ) (summary : S) (cs : List (Candidate C L)) → cs ≡ layer_candidates g from (drop from states)
        → with_steps j r g states summary cs ≡ with_layer j r g summary (drop from states)
    steps-shown from summary cs is =
        ap (with_steps j r g states summary) is ∙ layer-shown from (drop from states) summary (λ i lt. sym (get_or-drop from states i g.first))
