-- The candidates that threads find of parts of a layer, joined in order, are the layer's, of which some that are late have no state.
use Rattle.std.proofs.Common.{◌≡◌, ℕ, suc, ◌+◌, ◌<◌, List, [], ◌∷◌, ◌++◌, length, map, drop, ap, sym, refl, subst, ◌∙◌, arith}
use Rattle.std.specs.Prelude.{Ok, Err, Option, None, Some, Result, IfOk, IfSome, MatchResult, Contains, All, slice_get, slice_index_or}
use Rattle.std.specs.List.{AllZip, range_with_len}
use Rattle.std.proofs.lemmas.List.{get_or-drop}
use Rattle.std.proofs.lemmas.List.Elements.{All-get_or}
use Rattle.std.proofs.lemmas.Option.{get_or_from_slice_get, slice_get_within}
use Rattle.std.specs.declared.alloc.AllocError.{AllocError}
use Rattle.std.specs.declared.cmp.Ordering.{Ordering}
use Rattle.summary.specs.Graph.{Graph, with_after}
use Rattle.search_layer.specs.Late.{IsLate, IsSpared}
use Rattle.search_layer.specs.declared.visited.Candidate.{Candidate}
use Rattle.search_layer.specs.declared.visited.Step.{Step}
use Rattle.explore.specs.declared.expand.Expanded.{Expanded}
use Rattle.explore.specs.declared.expand.Candidates.{Candidates}
use Rattle.search_layer.specs.internal.Search.{candidates_of, layer_candidates}
use Rattle.explore.specs.internal.Expansion.{AreKept, AreThinOf, IsBehind, IsExpanded, IsThinOf, IsUnlessLate, all_given, candidates_in, candidates_with}
use Rattle.explore.specs.internal.Tied.{step_at}
use Rattle.explore.proofs.Lists.{Each, all-each, each-all}

-- what holds of all items holds of one
pub one_of : {A : Type 0} (P : A → Type 0) (xs : List A) (k : ℕ) (x : A) → slice_get xs k ≡ Some x → All P xs → P x
one_of P xs k x at all = subst P (get_or_from_slice_get xs k x x at) (All-get_or P xs k x (slice_get_within xs k x at) all)

module _ {A B : Type 0} (R : A → B → Type 0) where
  zip-append : (vs ws : List A) (xs ys : List B) → AllZip R vs xs → AllZip R ws ys → AllZip R (vs ++ ws) (xs ++ ys)
  zip-append [] ws [] ys z w = w
  zip-append [] ws (x ∷ xs) ys z w = absurd z
  zip-append (v ∷ vs) ws [] ys z w = absurd z
  zip-append (v ∷ vs) ws (x ∷ xs) ys z w = (z.0, zip-append vs ws xs ys z.1 w)

module _ {C L : Type 0} (g : Graph C L) (cmp : L → L → Ordering) (states : List C) (steps : List (Option (Step L))) where
  abbrev Given : ℕ → L × Option C → Type 0
  Given at p = IsUnlessLate g states steps cmp at (g.after (slice_index_or states at g.first) p.0) p.1

  module _ (at : ℕ) (here : C) (is : slice_get states at ≡ Some here) where
    standing : slice_index_or states at g.first ≡ here
    standing = get_or_from_slice_get states at here g.first is

    -- what is given where there is no last step
    pub no-step : (number : ℕ) (pairs : List (L × Option C)) (made : List (L × C)) → number ≡ at → pairs ≡ all_given made → made ≡ with_after g here (g.enabled here)
        → IsExpanded g states steps cmp at number pairs
    no-step number pairs made same given are =
        let whole : pairs ≡ all_given (with_after g here (g.enabled here)) = given ∙ ap all_given are in
        record {
          is_place = same;
          labels = ap (λ (ps : List (L × Option C)). map (λ p. p.0) ps) whole ∙ labels (g.enabled here) ∙ ap g.enabled (sym standing);
          given = subst (All (Given at)) (sym whole) (each-all (Given at) (all_given (with_after g here (g.enabled here))) (each (g.enabled here)));
        }
      where
        labels : (ls : List L) → map (λ p. p.0) (all_given (with_after g here ls)) ≡ ls
        labels [] = refl
        labels (l ∷ ls) = ap (λ ms. l ∷ ms) (labels ls)

        each : (ls : List L) → Each (Given at) (all_given (with_after g here ls))
        each [] = tt
        each (l ∷ ls) = (ap (λ s. g.after s l) (sym standing), each ls)

    module _ (step : Step L) (there : C) (was : slice_get states step.before ≡ Some there) (last : step_at steps at ≡ Some step) where
      standing-before : slice_index_or states step.before g.first ≡ there
      standing-before = get_or_from_slice_get states step.before there g.first was

      -- the last step leads here
      pub leads-here : AreKept g states steps → at < length states → Contains (g.enabled there) step.label × (here ≡ g.after there step.label)
      leads-here kept low =
          let behind : IsBehind g states at step = subst (λ o. IfSome o (IsBehind g states at)) last (kept.behind at (let e = kept.as_many in omega arith)) in
          (subst (λ s. Contains (g.enabled s) step.label) standing-before behind.enabled, sym standing ∙ behind.leads ∙ ap (λ s. g.after s step.label) standing-before)

      -- what is given behind it
      pub behind-step : (number : ℕ) (pairs : List (L × Option C)) → number ≡ at → map (λ p. p.0) pairs ≡ g.enabled here → All (IsSpared g cmp there step.label here) pairs
          → IsExpanded g states steps cmp at number pairs
      behind-step number pairs same labels spared = record {
        is_place = same;
        labels = labels ∙ ap g.enabled (sym standing);
        given = each-all (Given at) pairs (each pairs (all-each (IsSpared g cmp there step.label here) pairs spared));
      }
        where
          one : (label : L) (o : Option C) → IsSpared g cmp there step.label here (label, o) → Given at (label, o)
          one label (Some after) e = e ∙ ap (λ s. g.after s label) (sym standing)
          one label None late = record {
            step = step;
            last = last;
            late = subst (λ s. IsLate g cmp s step.label (g.after (slice_index_or states at g.first) label)) (sym standing-before)
                (subst (λ s. IsLate g cmp there step.label (g.after s label)) (sym standing) late);
          }

          each : (ps : List (L × Option C)) → Each (IsSpared g cmp there step.label here) ps → Each (Given at) ps
          each [] h = tt
          each (p ∷ ps) h = (one p.0 p.1 h.0, each ps h.1)

  -- what a call for a place may answer
  abbrev pub MayAnswer : ℕ → Result (Expanded (Option C) L) AllocError → Type 0
  MayAnswer at r = IfOk r (λ e. IsExpanded g states steps cmp at e.place e.successors.items)

  -- the candidates of a state, by its successors
  pairs-thin : (k : ℕ) (s : C) (labels : List L) (pairs : List (L × Option C)) → slice_index_or states k g.first ≡ s → map (λ p. p.0) pairs ≡ labels → Each (Given k) pairs
      → AreThinOf g states steps cmp (candidates_of g k s labels) (candidates_with k pairs)
  pairs-thin k s [] [] at is h = tt
  pairs-thin k s [] (p ∷ ps) at is h = absurd (nothing p.0 (map (λ p. p.0) ps) is)
    where
      nothing : (l : L) (ls : List L) → (l ∷ ls) ≡ [] → ⊥
      nothing l ls e = cc
  pairs-thin k s (l ∷ ls) [] at is h = absurd (nothing l ls is)
    where
      nothing : (l : L) (ls : List L) → [] ≡ (l ∷ ls) → ⊥
      nothing l ls e = cc
  pairs-thin k s (l ∷ ls) (p ∷ ps) at is h = (
    record {
      step = let e : p.0 ≡ l = first p.0 l (map (λ p. p.0) ps) ls is in (λ i. Some (record { before = k; label = e i }));
      state = subst (λ (c : C). IsUnlessLate g states steps cmp k (g.after c l) p.1) at
          (subst (λ m. IsUnlessLate g states steps cmp k (g.after (slice_index_or states k g.first) m) p.1) (first p.0 l (map (λ p. p.0) ps) ls is) h.0);
    },
    pairs-thin k s ls ps at (rest p.0 l (map (λ p. p.0) ps) ls is) h.1,
  )
    where
      first : (l m : L) (ls ms : List L) → (l ∷ ls) ≡ (m ∷ ms) → l ≡ m
      first l m ls ms e = cc

      rest : (l m : L) (ls ms : List L) → (l ∷ ls) ≡ (m ∷ ms) → ls ≡ ms
      rest l m ls ms e = cc

  one-expanded : (k : ℕ) (s : C) (e : Expanded (Option C) L) → slice_index_or states k g.first ≡ s → IsExpanded g states steps cmp k e.place e.successors.items
      → AreThinOf g states steps cmp (candidates_of g k s (g.enabled s)) (candidates_with e.place e.successors.items)
  one-expanded k s e is h =
      subst (λ n. AreThinOf g states steps cmp (candidates_of g k s (g.enabled s)) (candidates_with n e.successors.items)) (sym h.is_place)
      (pairs-thin k s (g.enabled s) e.successors.items is (h.labels ∙ ap g.enabled is) (all-each (Given k) e.successors.items h.given))

  rest-expanded : (k : ℕ) (rest : List C) (es : List (Expanded (Option C) L))
      → ((i : ℕ) → i < length rest → slice_index_or states (k + i) g.first ≡ slice_index_or rest i g.first)
      → AllZip MayAnswer (range_with_len k (length rest)) (map Ok es) → AreThinOf g states steps cmp (layer_candidates g k rest) (candidates_in es)
  rest-expanded k [] [] at h = tt
  rest-expanded k [] (e ∷ es) at h = absurd h
  rest-expanded k (s ∷ rest) [] at h = absurd h
  rest-expanded k (s ∷ rest) (e ∷ es) at h =
      let here : k ≡ k + 0 = omega arith in
      let is : slice_index_or states k g.first ≡ s = ap (λ n. slice_index_or states n g.first) here ∙ at 0 (omega arith) in
      zip-append (IsThinOf g states steps cmp) (candidates_of g k s (g.enabled s)) (layer_candidates g (k + 1) rest) (candidates_with e.place e.successors.items) (candidates_in es)
      (one-expanded k s e is h.0)
      (rest-expanded (k + 1) rest es
      (λ i lt. let on : (k + 1) + i ≡ k + suc i = omega arith in ap (λ n. slice_index_or states n g.first) on ∙ at (suc i) (omega arith)) h.1)

  -- all that the calls found is the candidates of the layer that begins at a place
  pub layer-expanded : (from : ℕ) (places : List ℕ) (answers : List (Result (Expanded (Option C) L) AllocError)) (es : List (Expanded (Option C) L)) (found : List (Candidate (Option C) L))
      → places ≡ range_with_len from (length (drop from states)) → AllZip MayAnswer places answers → answers ≡ map Ok es → found ≡ candidates_in es
      → AreThinOf g states steps cmp (layer_candidates g from (drop from states)) found
  layer-expanded from places answers es found are answered ok is =
      subst (AreThinOf g states steps cmp (layer_candidates g from (drop from states))) (sym is)
      (rest-expanded from (drop from states) es (λ i lt. sym (get_or-drop from states i g.first)) (rw (← are, ← ok) answered))

  -- the same, where the answers were collected into one
  pub all-expanded : (from : ℕ) (places : List ℕ) (answers : List (Result (Expanded (Option C) L) AllocError)) (r : Result (Candidates (Option C) L) AllocError) (made : Candidates (Option C) L)
      → places ≡ range_with_len from (length (drop from states)) → AllZip MayAnswer places answers
      → MatchResult r (λ c. (es : List (Expanded (Option C) L)) × (answers ≡ map Ok es) × (c.list.items ≡ candidates_in es)) (λ e. Contains answers (Err e))
      → r ≡ Ok made → AreThinOf g states steps cmp (layer_candidates g from (drop from states)) made.list.items
  all-expanded from places answers r made are answered gives is =
      let ok = subst (λ o. MatchResult o (λ c. (es : List (Expanded (Option C) L)) × (answers ≡ map Ok es) × (c.list.items ≡ candidates_in es)) (λ e. Contains answers (Err e))) is gives in
      layer-expanded from places answers ok.0 made.list.items are answered ok.1 ok.2
