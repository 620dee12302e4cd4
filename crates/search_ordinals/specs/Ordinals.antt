-- A graph whose labels say how many enabled labels come before them, and which branch their steps take.
use Rattle.std.specs.Prelude.{ℕ, zero, suc, List, [], ◌∷◌, map, Option, None}
use Rattle.search_ordinals.specs.declared.ordinal.Ordinal.{Ordinal}
use Rattle.summary.specs.Graph.{Graph}

-- for each of these labels the branch that its step takes, and the configuration that it leads to
abbrev pub with_branch : {C L B : Type 0} → (C → L → Option B) → Graph C L → C → List L → List (Option B × C)
with_branch branch g state labels = map (λ label. (branch state label, g.after state label)) labels

-- the ordinals of some labels in their order, where the first one's number is known
abbrev pub ordinals_from : {L B : Type 0} → (L → Option B) → ℕ → List L → List (Ordinal B)
ordinals_from branch n [] = []
ordinals_from branch n (label ∷ labels) = record { nth = n; branch = branch label } ∷ ordinals_from branch (suc n) labels

-- where the label leads to before which so many of these come; without such a label, nowhere else
abbrev pub led_to : {C L : Type 0} → Graph C L → C → List L → ℕ → C
led_to g state [] n = state
led_to g state (label ∷ labels) zero = g.after state label
led_to g state (label ∷ labels) (suc n) = led_to g state labels n

-- what the step of the label shows before which so many of these come; without such a label, nothing
abbrev pub shown_at : {L E : Type 0} → (L → Option E) → List L → ℕ → Option E
shown_at event [] n = None
shown_at event (label ∷ labels) zero = event label
shown_at event (label ∷ labels) (suc n) = shown_at event labels n

-- the graph with ordinals in place of labels
abbrev pub ordinal_graph : {C L B : Type 0} → (C → L → Option B) → Graph C L → Graph C (Ordinal B)
ordinal_graph branch g = record {
  first = g.first;
  enabled = λ state. ordinals_from (branch state) 0 (g.enabled state);
  after = λ state ordinal. led_to g state (g.enabled state) ordinal.nth;
  mark = g.mark;
}
