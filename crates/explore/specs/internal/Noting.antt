-- What is noted of states and of their steps, in order: each thing where it is shown first.
use Rattle.std.specs.Prelude.{◌≡◌, ℕ, ◌+◌, Bool, List, [], ◌∷◌, ◌++◌, Option, None, Some, if◌then◌else◌}
use Rattle.std.specs.List.{list_any}
use Rattle.search_layer.specs.declared.visited.Step.{Step}
use Rattle.explore.specs.declared.sightings.Noted.{Noted}
use Rattle.explore.specs.declared.sightings.Sighting.{Sighting}
use Rattle.explore.specs.internal.Tied.{run_at}
use Rattle.summary.specs.Graph.{Graph}
use Rattle.summary.specs.Run.{Run, Then, labels_of}

module _ {E X : Type 0} (eq : E → E → Bool) where
  -- what is noted, and what is shown here, unless it was shown before
  abbrev pub note : Option E → X → List (Noted E X) → List (Noted E X)
  note None at noted = noted
  note (Some e) at noted = if list_any (λ n. eq n.event e) noted then noted else noted ++ (record { event = e; at = at }) ∷ []

-- what is noted, and what steps show from the state at a place, each given by its label and what it shows
abbrev pub note_shown : {L E : Type 0} → (E → E → Bool) → ℕ → List (L × Option E) → List (Noted E (Step L)) → List (Noted E (Step L))
note_shown eq place [] noted = noted
note_shown eq place (p ∷ ps) noted = note_shown eq place ps (note eq p.1 (record { before = place; label = p.0 }) noted)

module _ {C L E : Type 0} (g : Graph C L) (eq : E → E → Bool) where
  module _ (event : C → L → Option E) where
    -- what is noted, and what the steps of a state show by these labels
    abbrev pub note_labels : ℕ → C → List L → List (Noted E (Step L)) → List (Noted E (Step L))
    note_labels place c [] noted = noted
    note_labels place c (l ∷ ls) noted = note_labels place c ls (note eq (event c l) (record { before = place; label = l }) noted)

    -- what is noted, and what the steps of these states show, the first of which stands at a place
    abbrev pub note_steps : ℕ → List C → List (Noted E (Step L)) → List (Noted E (Step L))
    note_steps place [] noted = noted
    note_steps place (c ∷ cs) noted = note_steps (place + 1) cs (note_labels place c (g.enabled c) noted)

-- what is noted, and what these states show, the first of which stands at a place
abbrev pub note_states : {C E : Type 0} → (E → E → Bool) → (C → Option E) → ℕ → List C → List (Noted E ℕ) → List (Noted E ℕ)
note_states eq stand place [] noted = noted
note_states eq stand place (c ∷ cs) noted = note_states eq stand (place + 1) cs (note eq (stand c) place noted)

-- the sighting has what is noted of a step, and the labels of the run before the step and of the step
abbrev pub IsRunBy : {E L : Type 0} → List (Run L) → Sighting E L → Noted E (Step L) → Type 0
IsRunBy runs s m = (s.event ≡ m.event) × (s.run.items ≡ labels_of (Then (run_at runs m.at.before) m.at.label))

-- the sighting has what is noted of a state, and the labels of the run that ends there
abbrev pub IsRunTo : {E L : Type 0} → List (Run L) → Sighting E L → Noted E ℕ → Type 0
IsRunTo runs s m = (s.event ≡ m.event) × (s.run.items ≡ labels_of (run_at runs m.at))
