-- Where no state is left out.
use Rattle.std.proofs.Common.{◌≡◌, List, [], ◌∷◌, map, refl, ap}
use Rattle.std.specs.Prelude.{Option, Some, All}
use Rattle.std.specs.declared.cmp.Ordering.{Ordering}
use Rattle.std.proofs.lemmas.List.Elements.{All-nil, All-cons}
use Rattle.summary.specs.Graph.{Graph, with_after}
use Rattle.search_layer.specs.Late.{IsSpared}

pub map-itself : {X : Type 0} (xs : List X) → map (λ x. x) xs ≡ xs
map-itself [] = refl
map-itself (x ∷ xs) = ap (λ rest. x ∷ rest) (map-itself xs)

module _ {C L : Type 0} where
  -- these labels with their states, each of which is there
  abbrev pub all_given : List (L × C) → List (L × Option C)
  all_given pairs = map (λ p. (p.0, Some p.1)) pairs

  pub labels-kept : (g : Graph C L) (state : C) (labels : List L) → map (λ p. p.0) (all_given (with_after g state labels)) ≡ labels
  labels-kept g state [] = refl
  labels-kept g state (label ∷ labels) = ap (λ rest. label ∷ rest) (labels-kept g state labels)

  pub none-spared : (g : Graph C L) (cmp : L → L → Ordering) (before : C) (last : L) (state : C) (labels : List L)
      → All (IsSpared g cmp before last state) (all_given (with_after g state labels))
  none-spared g cmp before last state [] = All-nil (IsSpared g cmp before last state)
  none-spared g cmp before last state (label ∷ labels) =
      All-cons (IsSpared g cmp before last state) (label, Some (g.after state label)) (all_given (with_after g state labels)) refl (none-spared g cmp before last state labels)
