-- Candidates placed one after the other: those with new states come behind what was found.
use Rattle.std.proofs.Common.{◌≡◌, ℕ, Bool, true, false, cond, List, [], ◌∷◌, ◌++◌, map, ap, sym, ◌∙◌, append_assoc, append-nil}
use Rattle.std.specs.Prelude.{Option}
use Rattle.std.specs.List.{list_any}
use Rattle.summary.specs.Sums.{Join, IsSemilattice, Observation, join_all}
use Rattle.search_layer.specs.declared.visited.Step.{Step}
use Rattle.search_layer.specs.declared.visited.Candidate.{Candidate}
use Rattle.search_layer.specs.internal.Search.{Found, state_of, step_of, newly, place_all, with_states, as_found}
use Rattle.search_layer.proofs.StatesShown.{states-shown}

module _ {C L S : Type 0} (j : Join S) (r : Observation C L S) (eq : C → C → Bool) where
  -- what is found with these candidates, all of them new
  abbrev with_all : Found C L S → List (Candidate C L) → Found C L S
  with_all found cs = as_found (found.states ++ map state_of cs) (found.steps ++ map step_of cs) found.from (with_states j r found.summary (map state_of cs))

  abbrev pushed : Found C L S → Candidate C L → Found C L S
  pushed found c = as_found (found.states ++ c.state ∷ []) (found.steps ++ step_of c ∷ []) found.from (j.join found.summary (r.at c.state))

  more : (found : Found C L S) (c : Candidate C L) (cs : List (Candidate C L)) → with_all (pushed found c) cs ≡ with_all found (c ∷ cs)
  more found c cs = λ i. as_found (append_assoc found.states (c.state ∷ []) (map state_of cs) i) (append_assoc found.steps (step_of c ∷ []) (map step_of cs) i) found.from
      (with_states j r (j.join found.summary (r.at c.state)) (map state_of cs))

  by-case : (b : Bool) (found : Found C L S) (c : Candidate C L) (cs : List (Candidate C L))
      → ((f : Found C L S) → place_all j r eq f cs ≡ with_all f (newly eq f.states cs))
      → place_all j r eq (cond b found (pushed found c)) cs ≡ with_all found (cond b (newly eq found.states cs) (c ∷ newly eq (found.states ++ c.state ∷ []) cs))
  by-case true found c cs rest = rest found
  by-case false found c cs rest = rest (pushed found c) ∙ more found c (newly eq (found.states ++ c.state ∷ []) cs)

  -- candidates placed one after the other
  pub all-placed : (found : Found C L S) (cs : List (Candidate C L)) → place_all j r eq found cs ≡ with_all found (newly eq found.states cs)
  all-placed found [] = λ i. as_found (sym (append-nil found.states) i) (sym (append-nil found.steps) i) found.from found.summary
  all-placed found (c ∷ cs) = by-case (list_any (eq c.state) found.states) found c cs (λ f. all-placed f cs)

  -- the code's states, steps and summary after a layer
  pub entered : (states states' : List C) (steps steps' : List (Option (Step L))) (from : ℕ) (s t u : S) (cs : List (Candidate C L)) → IsSemilattice j
      → states' ≡ states ++ map state_of (newly eq states cs) → steps' ≡ steps ++ map step_of (newly eq states cs)
      → t ≡ join_all j (map r.at (map state_of (newly eq states cs))) → u ≡ j.join s t
      → as_found states' steps' from u ≡ place_all j r eq (as_found states steps from s) cs
  entered states states' steps steps' from s t u cs laws states_are steps_are shown is =
      (λ i. as_found (states_are i) (steps_are i) from ((is ∙ ap (j.join s) shown ∙ sym (states-shown j laws r s (map state_of (newly eq states cs)))) i))
      ∙ sym (all-placed (as_found states steps from s) cs)

module _ {C L : Type 0} (eq : C → C → Bool) where
  -- what one candidate adds
  abbrev pub one_newly : List C → Candidate C L → List (Candidate C L)
  one_newly known c = cond (list_any (eq c.state) known) [] (c ∷ [])

  push-case : (b : Bool) (known : List C) (c d : Candidate C L) (cs : List (Candidate C L))
      → ((ks : List C) → newly eq ks (cs ++ d ∷ []) ≡ newly eq ks cs ++ one_newly (ks ++ map state_of (newly eq ks cs)) d)
      → cond b (newly eq known (cs ++ d ∷ [])) (c ∷ newly eq (known ++ c.state ∷ []) (cs ++ d ∷ []))
      ≡ cond b (newly eq known cs) (c ∷ newly eq (known ++ c.state ∷ []) cs)
      ++ one_newly (known ++ map state_of (cond b (newly eq known cs) (c ∷ newly eq (known ++ c.state ∷ []) cs))) d
  push-case true known c d cs rest = rest known
  push-case false known c d cs rest =
      ap (λ ds. c ∷ ds) (rest (known ++ c.state ∷ [])
      ∙ ap (λ ks. newly eq (known ++ c.state ∷ []) cs ++ one_newly ks d) (append_assoc known (c.state ∷ []) (map state_of (newly eq (known ++ c.state ∷ []) cs))))

  -- one candidate more
  pub newly-push : (known : List C) (cs : List (Candidate C L)) (d : Candidate C L)
      → newly eq known (cs ++ d ∷ []) ≡ newly eq known cs ++ one_newly (known ++ map state_of (newly eq known cs)) d
  newly-push known [] d = ap (λ ks. one_newly ks d) (sym (append-nil known))
  newly-push known (c ∷ cs) d = push-case (list_any (eq c.state) known) known c d cs (λ ks. newly-push ks cs d)
