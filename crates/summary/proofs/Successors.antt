-- One label more, with the configuration that it leads to.
use Rattle.std.proofs.Common.{◌≡◌, List, [], ◌∷◌, ◌++◌, ap, sym, ◌∙◌}
use Rattle.std.proofs.lemmas.List.{map-append}
use Rattle.summary.specs.Graph.{Graph, with_after}

pub with-after-more : {C L : Type 0} (g : Graph C L) (state : C) (labels : List L) (label : L) (after : C) → after ≡ g.after state label
    → with_after g state labels ++ (label, after) ∷ [] ≡ with_after g state (labels ++ label ∷ [])
with-after-more g state labels label after is =
    ap (λ s. with_after g state labels ++ (label, s) ∷ []) is ∙ sym (map-append (λ l. (l, g.after state l)) labels (label ∷ []))
