-- What code notes of the states that a search found is what runs show.
use Rattle.std.proofs.Common.{◌≡◌, ℕ, ◌<◌, ◌≤◌, Bool, true, List, [], ◌∷◌, ◌++◌, length, map, take, sym, refl, ap, subst, ◌∙◌, length-take, arith}
use Rattle.std.specs.Prelude.{All, Option}
use Rattle.std.specs.List.{AllZip}
use Rattle.std.specs.declared.cmp.Ordering.{Ordering}
use Rattle.std.proofs.lemmas.List.{length-map, map-append}
use Rattle.std.proofs.Math.Seq.{take-append_seam}
use Rattle.explore.proofs.LeastRuns.{all-noted, are-sighted, ends-are-runs, ends-reached, moved, note_all, states-tied, stepped, steps-are-runs, steps-ordered, steps-reached, steps-tied}
use Rattle.explore.proofs.Lists.{each-all}
use Rattle.explore.proofs.Noting.{states-within, steps-within}
use Rattle.explore.proofs.Outcome.{as_many, from-is, last-steps, states_are, visited}
use Rattle.explore.proofs.Visits.{IsLawful, visits}
use Rattle.explore.specs.Sightings.{AreSighted, shown_at_end, shown_by_step}
use Rattle.explore.specs.declared.sightings.Noted.{Noted}
use Rattle.explore.specs.declared.sightings.Sighting.{Sighting}
use Rattle.explore.specs.internal.Noting.{IsRunBy, IsRunTo, note_states, note_steps}
use Rattle.explore.specs.internal.Tied.{AreLastSteps, run_at}
use Rattle.search_layer.specs.declared.visited.Step.{Step}
use Rattle.search_layer.specs.internal.Search.{as_found, found_after}
use Rattle.summary.specs.Graph.{Graph}
use Rattle.summary.specs.Run.{Before, Run, end_of, labels_of, longer}
use Rattle.summary.specs.Sums.{IsSemilattice, Join, Observation}
use Rattle.std.specs.List.{flat_map}

module _ {L E : Type 0} (eq : E → E → Bool) where
  by-moved : {C : Type 0} (g : Graph C L) (event : C → L → Option E) (base : List (Run L)) (ss : List (Sighting E L)) (ms : List (Noted E (Step L))) → AllZip (IsRunBy base) ss ms
      → AllZip (λ s m. (s.event ≡ m.event) × (s.run.items ≡ labels_of m.at)) ss (map (moved eq (stepped g eq event base)) ms)
  by-moved g event base [] [] z = tt
  by-moved g event base [] (m ∷ ms) z = absurd z
  by-moved g event base (s ∷ ss) [] z = absurd z
  by-moved g event base (s ∷ ss) (m ∷ ms) z = (z.0, by-moved g event base ss ms z.1)

  to-moved : (base : List (Run L)) (ss : List (Sighting E L)) (ms : List (Noted E ℕ)) → AllZip (IsRunTo base) ss ms
      → AllZip (λ s m. (s.event ≡ m.event) × (s.run.items ≡ labels_of m.at)) ss (map (moved eq (run_at base)) ms)
  to-moved base [] [] z = tt
  to-moved base [] (m ∷ ms) z = absurd z
  to-moved base (s ∷ ss) [] z = absurd z
  to-moved base (s ∷ ss) (m ∷ ms) z = (z.0, to-moved base ss ms z.1)

module _ {C L S : Type 0} (g : Graph C L) (cmp : L → L → Ordering) (same : C → C → Bool) (F : C → Type 0) (lawful : IsLawful g cmp same F)
    (j : Join S) (r : Observation C L S) (laws : IsSemilattice j) (n : ℕ)
    (states : List C) (steps : List (Option (Step L))) (from : ℕ) (summary : S) (is : as_found states steps from summary ≡ found_after g j r same n) where
  abbrev old : List (Run L)
  old = (visits g same n).old

  abbrev layer : List (Run L)
  layer = (visits g same n).layer

  all-states : states ≡ map (end_of g) (old ++ layer)
  all-states = states_are g cmp same F lawful j r laws n states steps from summary is

  old-states : take from states ≡ map (end_of g) old
  old-states =
      (λ i. take (from-is g cmp same F lawful j r laws n states steps from summary is i) (all-states i))
      ∙ ap (take (length old)) (map-append (end_of g) old layer)
      ∙ ap (λ k. take k (map (end_of g) old ++ map (end_of g) layer)) (sym (length-map old (end_of g)))
      ∙ take-append_seam (map (end_of g) old) (map (end_of g) layer)

  module _ {E : Type 0} (eq : E → E → Bool) (one : (e f : E) → eq e f ≡ true → e ≡ f) (itself : (e : E) → eq e e ≡ true) where
    module _ (event : C → L → Option E) (noted : List (Noted E (Step L))) (noted_are : noted ≡ note_steps g eq event 0 (take from states) []) where
      pub events-within : from ≤ length states → All (λ m. m.at.before < length steps) noted
      events-within low =
          let many = as_many g cmp same F lawful j r laws n states steps from summary is in
          let few = length-take from states in
          subst (All (λ (m : Noted E (Step L)). m.at.before < length steps)) (sym noted_are)
          (each-all (λ (m : Noted E (Step L)). m.at.before < length steps) (note_steps g eq event 0 (take from states) [])
          (steps-within g eq event (length steps) 0 (take from states) [] (omega arith) tt))

      pub events-sighted : (sightings : List (Sighting E L)) → ((runs : List (Run L)) → AreLastSteps runs steps → AllZip (IsRunBy runs) sightings noted)
          → AreSighted g cmp n (shown_by_step g event) sightings
      events-sighted sightings runs =
          let seen = visited g cmp same F lawful j r laws n in
          let base = old ++ layer in
          let xs = flat_map (longer g) old in
          let tied : map (moved eq (stepped g eq event base)) noted ≡ note_all eq (shown_by_step g event) xs [] =
          ap (map (moved eq (stepped g eq event base))) (noted_are ∙ ap (λ cs. note_steps g eq event 0 cs []) old-states) ∙ steps-tied g eq event base [] old layer 0 refl refl [] in
          let ordered = steps-ordered g cmp same F lawful n old layer seen event in
          are-sighted g cmp same F lawful n old layer seen (shown_by_step g event) xs ordered
          (steps-are-runs g cmp same F lawful n old layer seen event) (steps-reached g cmp same F lawful n old layer seen event) eq one itself
          (note_all eq (shown_by_step g event) xs []) (all-noted (Before cmp) eq one itself (shown_by_step g event) xs ordered) sightings
          (subst (AllZip (λ (s : Sighting E L) (m : Noted E (Run L)). (s.event ≡ m.event) × (s.run.items ≡ labels_of m.at)) sightings) tied
          (by-moved eq g event base sightings noted (runs base (last-steps g cmp same F lawful j r laws n states steps from summary is))))

    module _ (stand : C → Option E) (noted : List (Noted E ℕ)) (noted_are : noted ≡ note_states eq stand 0 states []) where
      pub stands-within : All (λ m. m.at < length steps) noted
      stands-within =
          let many = as_many g cmp same F lawful j r laws n states steps from summary is in
          subst (All (λ (m : Noted E ℕ). m.at < length steps)) (sym noted_are)
          (each-all (λ (m : Noted E ℕ). m.at < length steps) (note_states eq stand 0 states [])
          (states-within eq stand (length steps) 0 states [] (omega arith) tt))

      pub stands-sighted : (sightings : List (Sighting E L)) → ((runs : List (Run L)) → AreLastSteps runs steps → AllZip (IsRunTo runs) sightings noted)
          → AreSighted g cmp n (shown_at_end g stand) sightings
      stands-sighted sightings runs =
          let seen = visited g cmp same F lawful j r laws n in
          let base = old ++ layer in
          let tied : map (moved eq (run_at base)) noted ≡ note_all eq (shown_at_end g stand) base [] =
          ap (map (moved eq (run_at base))) (noted_are ∙ ap (λ cs. note_states eq stand 0 cs []) all-states) ∙ states-tied g eq stand base [] base 0 refl refl [] in
          are-sighted g cmp same F lawful n old layer seen (shown_at_end g stand) base seen.ordered
          (ends-are-runs g cmp same F lawful n old layer seen stand) (ends-reached g cmp same F lawful n old layer seen stand) eq one itself
          (note_all eq (shown_at_end g stand) base []) (all-noted (Before cmp) eq one itself (shown_at_end g stand) base seen.ordered) sightings
          (subst (AllZip (λ (s : Sighting E L) (m : Noted E (Run L)). (s.event ≡ m.event) × (s.run.items ≡ labels_of m.at)) sightings) tied
          (to-moved eq base sightings noted (runs base (last-steps g cmp same F lawful j r laws n states steps from summary is))))
