-- A late state is found without the candidate that leads to it: it is the state of a run that was kept, or of a candidate that
-- comes before.
use Rattle.std.proofs.Common.{◌≡◌, ℕ, zero, suc, ◌+◌, ◌-◌, ◌<◌, ◌≤◌, Bool, true, false, List, [], ◌∷◌, ◌++◌, length, get_or, drop, take, sym, refl, ap, subst, ◌∙◌, arith, inl, inr, ⊎_elim, map}
use Rattle.std.specs.Prelude.{◌||◌, ◌⊎◌, Contains, Option, None, Some, IfSome, slice_get}
use Rattle.std.specs.List.{AllZip, list_any}
use Rattle.std.proofs.lemmas.Cmp.{lists_total, tied_itself}
use Rattle.std.proofs.lemmas.List.{length-map, length-append, get_or-append-add}
use Rattle.std.specs.declared.cmp.Ordering.{Ordering}
use Rattle.summary.specs.Graph.{Graph}
use Rattle.summary.specs.Run.{Run, Start, Then, steps_of, labels_of, end_of, IsRun, Before, NoLater}
use Rattle.summary.specs.Sums.{Join, IsSemilattice, Observation}
use Rattle.search_layer.specs.Late.{IsLate}
use Rattle.search_layer.specs.declared.visited.Step.{Step}
use Rattle.search_layer.specs.declared.visited.Candidate.{Candidate}
use Rattle.search_layer.specs.internal.Search.{candidate_of, candidates_of, layer_candidates, step_of, found_after, as_found}
use Rattle.search_layer.specs.internal.Thinned.{AreThinned, IsGiven, IsKnownAt}
use Rattle.explore.specs.internal.Expansion.{AreKept, AreThinOf, IsBehind, IsLateBehind, IsThinOf, IsUnlessLate}
use Rattle.explore.specs.internal.Tied.{AreLastSteps, run_at, step_at, Tells}
use Rattle.explore.proofs.Covering.{AreVisited, split-ordered}
use Rattle.explore.proofs.Lists.{Each, In, Ordered, each-in, each-from-in, each-get, in-left, in-right, in-cases, in-map, from-map, contains_in, ordered-append}
use Rattle.explore.proofs.Outcome.{as_many, from-is, last-steps, layer-is, states_are, visited}
use Rattle.explore.proofs.RunOrder.{before-label, before-trans}
use Rattle.explore.proofs.Visits.{IsLawful, visits}

module _ {A : Type 0} where
  pub any-in : (p : A → Bool) (xs : List A) (x : A) → In x xs → p x ≡ true → list_any p xs ≡ true
  any-in p [] x i h = absurd i
  any-in p (y ∷ ys) x (inl e) h = first_true (p y) (list_any p ys) (ap p e ∙ h)
    where
      first_true : (a b : Bool) → a ≡ true → (a || b) ≡ true
      first_true true b e = refl
      first_true false b e = cc
  any-in p (y ∷ ys) x (inr i) h = rest-true (p y) (list_any p ys) (any-in p ys x i h)
    where
      rest-true : (a b : Bool) → b ≡ true → (a || b) ≡ true
      rest-true true b e = refl
      rest-true false b e = e

  some-same : (x y : A) → Some x ≡ Some y → x ≡ y
  some-same x y h = cc

  in-place : (xs : List A) (k : ℕ) (d : A) → k < length xs → In (get_or xs k d) xs
  in-place [] k d h = absurd (omega arith)
  in-place (x ∷ xs) zero d h = inl refl
  in-place (x ∷ xs) (suc k) d h = inr (in-place xs k d (omega arith))

  in-append : (xs ys : List A) (k : ℕ) (d : A) → length xs ≤ k → get_or (xs ++ ys) k d ≡ get_or ys (k - length xs) d
  in-append xs ys k d h =
      let at : length xs + (k - length xs) ≡ k = omega arith in
      ap (λ i. get_or (xs ++ ys) i d) (sym at) ∙ get_or-append-add xs ys (k - length xs) d

map-get : {A B : Type 0} (f : A → B) (xs : List A) (k : ℕ) (d : A) → get_or (map f xs) k (f d) ≡ f (get_or xs k d)
map-get f [] k d = refl
map-get f (x ∷ xs) zero d = refl
map-get f (x ∷ xs) (suc k) d = map-get f xs k d

-- ---- the candidates of a layer

module _ {C L : Type 0} (g : Graph C L) where
  -- they stand behind states of the layer
  within-layer : (n : ℕ) (layer : List C) (c : Candidate C L) → In c (layer_candidates g n layer) → (n ≤ c.before) × (c.before < n + length layer)
  within-layer n [] c i = absurd i
  within-layer n (s ∷ layer) c i = ⊎_elim
      (λ here. let h = from-map (candidate_of g n s) (g.enabled s) c here in let e : n ≡ c.before = ap (λ (d : Candidate C L). d.before) h.2 in (omega arith, omega arith))
      (λ later. let h = within-layer (n + 1) layer c later in let a = h.0 in let b = h.1 in (omega arith, omega arith))
      (in-cases (candidates_of g n s (g.enabled s)) (layer_candidates g (n + 1) layer) c i)

  abbrev NoEarlier : Candidate C L → Candidate C L → Type 0
  NoEarlier c d = c.before ≤ d.before

  -- in the order of these states
  in-order : (n : ℕ) (layer : List C) → Ordered NoEarlier (layer_candidates g n layer)
  in-order n [] = tt
  in-order n (s ∷ layer) =
      ordered-append NoEarlier (candidates_of g n s (g.enabled s)) (layer_candidates g (n + 1) layer) (same (g.enabled s)) (in-order (n + 1) layer)
      (each-from-in (λ c. Each (NoEarlier c) (layer_candidates g (n + 1) layer)) (candidates_of g n s (g.enabled s)) (λ c i.
      let here = from-map (candidate_of g n s) (g.enabled s) c i in
      let e : n ≡ c.before = ap (λ (d : Candidate C L). d.before) here.2 in
      each-from-in (NoEarlier c) (layer_candidates g (n + 1) layer) (λ d k. let h = within-layer (n + 1) layer d k in let low = h.0 in omega arith)))
    where
      same : (labels : List L) → Ordered NoEarlier (candidates_of g n s labels)
      same [] = tt
      same (l ∷ ls) = (
        each-from-in (NoEarlier (candidate_of g n s l)) (candidates_of g n s ls) (λ d k.
            let there = from-map (candidate_of g n s) ls d k in
            let e : n ≡ d.before = ap (λ (x : Candidate C L). x.before) there.2 in omega arith),
        same ls,
      )

  -- one for each enabled label of the state at each place
  in-layer : (n : ℕ) (layer : List C) (k : ℕ) (l : L) → k < length layer → Contains (g.enabled (get_or layer k g.first)) l
      → (d : Candidate C L) × In d (layer_candidates g n layer) × (d.before ≡ n + k) × (d.state ≡ g.after (get_or layer k g.first) l)
  in-layer n [] k l h e = absurd (omega arith)
  in-layer n (s ∷ layer) zero l h e = (
    candidate_of g n s l,
    in-left (candidates_of g n s (g.enabled s)) (layer_candidates g (n + 1) layer) (candidate_of g n s l) (in-map (candidate_of g n s) (g.enabled s) l (contains_in (g.enabled s) l e)),
    omega arith,
    refl,
  )
  in-layer n (s ∷ layer) (suc k) l h e =
      let d = in-layer (n + 1) layer k l (omega arith) e in
      let place = d.2 in
      (d.0, in-right (candidates_of g n s (g.enabled s)) (layer_candidates g (n + 1) layer) d.0 d.1, omega arith, d.3)

  -- those of an earlier state come before
  in-front : (cs : List (Candidate C L)) (i : ℕ) (c d : Candidate C L) → Ordered NoEarlier cs → slice_get cs i ≡ Some c → In d cs → d.before < c.before → In d (take i cs)
  in-front [] i c d o at k less = absurd k
  in-front (x ∷ cs) zero c d o at (inl e) less =
      let same : x.before ≡ c.before = ap (λ (y : Candidate C L). y.before) (some-same x c at) in
      let other : x.before ≡ d.before = ap (λ (y : Candidate C L). y.before) e in absurd (omega arith)
  in-front (x ∷ cs) zero c d o at (inr k) less =
      let same : x.before ≡ c.before = ap (λ (y : Candidate C L). y.before) (some-same x c at) in
      let later : x.before ≤ d.before = each-in (NoEarlier x) cs o.0 d k in absurd (omega arith)
  in-front (x ∷ cs) (suc i) c d o at (inl e) less = inl e
  in-front (x ∷ cs) (suc i) c d o at (inr k) less = inr (in-front cs i c d o.1 at k less)

  at-in : (cs : List (Candidate C L)) (i : ℕ) (c : Candidate C L) → slice_get cs i ≡ Some c → In c cs
  at-in [] i c at = cc
  at-in (x ∷ cs) zero c at = inl (some-same x c at)
  at-in (x ∷ cs) (suc i) c at = inr (at-in cs i c at)

-- ---- over runs

module _ {C L : Type 0} (g : Graph C L) (cmp : L → L → Ordering) (eq : C → C → Bool) (F : C → Type 0) (lawful : IsLawful g cmp eq F) where
  never-before-itself : (r : Run L) → Before cmp r r → ⊥
  never-before-itself r (inl less) = omega arith
  never-before-itself r (inr h) = let less = h.1 in let same = tied_itself (lists_total lawful.total) (labels_of r) in cc

  -- what comes before a run of an ordered list stands before it
  place-before : (xs : List (Run L)) (m : ℕ) (w : Run L) → Ordered (Before cmp) xs → m < length xs → In w xs → Before cmp w (get_or xs m Start)
      → (k : ℕ) × (k < m) × (get_or xs k Start ≡ w)
  place-before [] m w o low i before = absurd i
  place-before (x ∷ xs) zero w o low (inl e) before = absurd (never-before-itself x (subst (λ y. Before cmp y x) (sym e) before))
  place-before (x ∷ xs) zero w o low (inr i) before = absurd (never-before-itself x (before-trans cmp lawful.total x w x (each-in (Before cmp x) xs o.0 w i) before))
  place-before (x ∷ xs) (suc m) w o low (inl e) before = (0, omega arith, e)
  place-before (x ∷ xs) (suc m) w o low (inr i) before = let k = place-before xs m w o.1 (omega arith) i before in let less = k.1 in (suc k.0, omega arith, k.2)

  -- a state in which a kept run ends, or to which a step leads from a run of the layer that comes before
  pub data IsReached (all layer : List (Run L)) (v : Run L) (state : C) : Type 0 where
    kept : (w : Run L) → In w all → end_of g w ≡ state → IsReached all layer v state
    earlier : (w : Run L) (l : L) → In w layer → Before cmp w v → Contains (g.enabled (end_of g w)) l → g.after (end_of g w) l ≡ state → IsReached all layer v state

  -- a late state is so reached
  pub late-reached : (n : ℕ) (old layer : List (Run L)) → AreVisited g cmp eq F lawful n old layer → (u : Run L) (a : L) (state : C) → In u old
      → IsLate g cmp (end_of g u) a state → IsReached (old ++ layer) layer (Then u a) state
  late-reached n old layer h u a state i late =
      let w = h.followed u i late.first late.enabled in
      let before : Before cmp w.0 (Then u a) = no-later-before w.0 (Then u late.first) (Then u a) w.3 (before-label cmp lawful.total u late.first a late.earlier) in
      let behind : Contains (g.enabled (end_of g w.0)) late.second = subst (λ c. Contains (g.enabled c) late.second) (sym w.2) late.behind in
      let leads : g.after (end_of g w.0) late.second ≡ state = ap (λ c. g.after c late.second) w.2 ∙ late.leads in
      ⊎_elim
      (λ in_old. let x = h.followed w.0 in_old late.second behind in kept x.0 x.1 (x.2 ∙ leads))
      (λ in_layer. earlier w.0 late.second in_layer before behind leads)
      (in-cases old layer w.0 w.1)
    where
      no-later-before : (r s t : Run L) → NoLater cmp r s → Before cmp s t → Before cmp r t
      no-later-before r s t (inl h) k = before-trans cmp lawful.total r s t h k
      no-later-before r s t (inr h) k = subst (λ x. Before cmp x t) (sym h) k

-- ---- over what the search found

module _ {A B : Type 0} (R : A → B → Type 0) where
  zip-at : (xs : List A) (ys : List B) (i : ℕ) (x : A) (y : B) → AllZip R xs ys → slice_get xs i ≡ Some x → slice_get ys i ≡ Some y → R x y
  zip-at [] ys i x y z a b = cc
  zip-at (w ∷ xs) [] i x y z a b = absurd z
  zip-at (w ∷ xs) (v ∷ ys) zero x y z a b = subst (λ t. R t y) (some-same w x a) (subst (R w) (some-same v y b) z.0)
  zip-at (w ∷ xs) (v ∷ ys) (suc i) x y z a b = zip-at xs ys i x y z.1 a b

either-true : (a b : Bool) → (a ≡ true) ⊎ (b ≡ true) → (a || b) ≡ true
either-true true b h = refl
either-true false b (inl e) = cc
either-true false b (inr e) = e

module _ {C L S : Type 0} (g : Graph C L) (cmp : L → L → Ordering) (eq : C → C → Bool) (F : C → Type 0) (lawful : IsLawful g cmp eq F)
    (j : Join S) (r : Observation C L S) (laws : IsSemilattice j) (n : ℕ)
    (states : List C) (steps : List (Option (Step L))) (from : ℕ) (summary : S) (is : as_found states steps from summary ≡ found_after g j r eq n) where
  abbrev old : List (Run L)
  old = (visits g eq n).old

  abbrev layer : List (Run L)
  layer = (visits g eq n).layer

  abbrev all : List (Run L)
  all = old ++ layer

  abbrev cs : List (Candidate C L)
  cs = layer_candidates g from (drop from states)

  runs : AreVisited g cmp eq F lawful n old layer
  runs = visited g cmp eq F lawful j r laws n

  lasts : AreLastSteps all steps
  lasts = last-steps g cmp eq F lawful j r laws n states steps from summary is

  states-are : states ≡ map (end_of g) all
  states-are = states_are g cmp eq F lawful j r laws n states steps from summary is

  state-at : (place : ℕ) → get_or states place g.first ≡ end_of g (run_at all place)
  state-at place = ap (λ xs. get_or xs place g.first) states-are ∙ map-get (end_of g) all place Start

  -- the steps lead to the states
  pub are-kept : AreKept g states steps
  are-kept = record {
    as_many = as_many g cmp eq F lawful j r laws n states steps from summary is;
    back = lasts.back;
    behind = λ place within. told place within (step_at steps place) (lasts.tell place within);
  }
    where
      told : (place : ℕ) → place < length steps → (o : Option (Step L)) → Tells all (run_at all place) o → IfSome o (IsBehind g states place)
      told place within None t = tt
      told place within (Some step) t =
          let run = subst (IsRun g) t (each-get (IsRun g) all place Start runs.runs (let e = lasts.as_many in omega arith)) in
          record {
            enabled = subst (λ c. Contains (g.enabled c) step.label) (sym (state-at step.before)) run.1;
            leads = state-at place ∙ ap (end_of g) t ∙ ap (λ c. g.after c step.label) (sym (state-at step.before));
          }

  -- a late state is known when its candidate's turn comes
  module _ (i : ℕ) (c : Candidate C L) (at : slice_get cs i ≡ Some c) where
    front : from ≡ length old
    front = from-is g cmp eq F lawful j r laws n states steps from summary is

    layer-states : drop from states ≡ map (end_of g) layer
    layer-states = layer-is g cmp eq F lawful j r laws n states steps from summary is

    within : (from ≤ c.before) × (c.before < from + length layer)
    within =
        let h = within-layer g from (drop from states) c (at-in g cs i c at) in
        let low = h.0 in
        let high = h.1 in
        let count : length (drop from states) ≡ length layer = ap length layer-states ∙ length-map layer (end_of g) in
        (low, omega arith)

    run-is : run_at all c.before ≡ get_or layer (c.before - from) Start
    run-is =
        let low = within.0 in
        in-append old layer c.before Start (omega (arith, front)) ∙ ap (λ k. get_or layer (c.before - k) Start) (sym front)

    abbrev is_state : C → Bool
    is_state s = eq c.state s

    abbrev is_its_state : Candidate C L → Bool
    is_its_state d = eq c.state d.state

    kept-known : (w : Run L) → In w all → end_of g w ≡ c.state → list_any is_state states ≡ true
    kept-known w k e =
        any-in is_state states c.state (subst (In c.state) (sym states-are) (subst (λ s. In s (map (end_of g) all)) e (in-map (end_of g) all w k))) (lawful.itself c.state)

    earlier-known : (w : Run L) (l : L) (k : ℕ) → k < c.before - from → get_or layer k Start ≡ w → Contains (g.enabled (end_of g w)) l → g.after (end_of g w) l ≡ c.state
        → list_any is_its_state (take i cs) ≡ true
    earlier-known w l k less there enabled leads =
        let high = within.1 in
        let state : get_or (drop from states) k g.first ≡ end_of g w = ap (λ xs. get_or xs k g.first) layer-states ∙ map-get (end_of g) layer k Start ∙ ap (end_of g) there in
        let low : k < length (drop from states) = omega (arith, ap length layer-states, length-map layer (end_of g)) in
        let d = in-layer g from (drop from states) k l low (subst (λ s. Contains (g.enabled s) l) (sym state) enabled) in
        let place = d.2 in
        any-in is_its_state (take i cs) d.0 (in-front g cs i c d.0 (in-order g from (drop from states)) at d.1 (omega arith))
        (ap (eq c.state) (d.3 ∙ ap (λ s. g.after s l) state ∙ leads) ∙ lawful.itself c.state)

    reached-known : IsReached g cmp eq F lawful all layer (run_at all c.before) c.state → IsKnownAt eq states cs i c.state
    reached-known (kept w k e) = either-true (list_any is_state states) (list_any is_its_state (take i cs)) (inl (kept-known w k e))
    reached-known (earlier w l k before enabled leads) =
        let low = within.0 in
        let high = within.1 in
        let place = place-before g cmp eq F lawful layer (c.before - from) w (split-ordered g cmp eq F lawful (Before cmp) old layer runs.ordered) (omega arith) k (subst (Before cmp w) run-is before) in
        either-true (list_any is_state states) (list_any is_its_state (take i cs)) (inr (earlier-known w l place.0 place.1 place.2 enabled leads))

    pub late-known : IsLateBehind g states steps cmp c.before c.state → IsKnownAt eq states cs i c.state
    late-known h =
        let low = within.0 in
        let high = within.1 in
        let place : c.before < length steps = omega (arith, lasts.as_many, length-append old layer, front) in
        let u = run_at all h.step.before in
        let tells : run_at all c.before ≡ Then u h.step.label = subst (Tells all (run_at all c.before)) h.last (lasts.tell c.before place) in
        let back : h.step.before < c.before = subst (λ o. IfSome o (λ (step : Step L). step.before < c.before)) h.last (lasts.back c.before place) in
        let in_all : In u all = in-place all h.step.before Start (omega (arith, lasts.as_many)) in
        let long : steps_of (run_at all c.before) ≡ n = subst (λ v. steps_of v ≡ n) (sym run-is) (each-get (λ v. steps_of v ≡ n) layer (c.before - from) Start runs.layer_long (omega arith)) in
        let longer : suc (steps_of u) ≡ n = sym (ap steps_of tells) ∙ long in
        let in_old : In u old = ⊎_elim (λ k. k) (λ k. let as_long = each-in (λ v. steps_of v ≡ n) layer runs.layer_long u k in absurd (omega arith)) (in-cases old layer u in_all) in
        reached-known (subst (λ v. IsReached g cmp eq F lawful all layer v c.state) (sym tells)
        (late-reached g cmp eq F lawful n old layer runs u h.step.label c.state in_old (subst (λ s. IsLate g cmp s h.step.label c.state) (state-at h.step.before) h.late)))

  -- candidates of which some that are late have no state
  pub are-thinned : (thinned : List (Candidate (Option C) L)) → AreThinOf g states steps cmp cs thinned → AreThinned eq states cs thinned
  are-thinned thinned h = record {
    steps = same-steps cs thinned h;
    states = λ i c t at is. given i c t at t.state (zip-at (IsThinOf g states steps cmp) cs thinned i c t h at is).state;
  }
    where
      same-steps : (xs : List (Candidate C L)) (ts : List (Candidate (Option C) L)) → AreThinOf g states steps cmp xs ts → map step_of ts ≡ map step_of xs
      same-steps [] [] z = refl
      same-steps [] (t ∷ ts) z = absurd z
      same-steps (x ∷ xs) [] z = absurd z
      same-steps (x ∷ xs) (t ∷ ts) z = let first = z.0.step in let rest = same-steps xs ts z.1 in (λ i. first i ∷ rest i)

      given : (i : ℕ) (c : Candidate C L) (t : Candidate (Option C) L) → slice_get cs i ≡ Some c → (o : Option C) → IsUnlessLate g states steps cmp c.before c.state o → IsGiven eq states cs i c.state o
      given i c t at (Some s) e = e
      given i c t at None late = late-known i c at late
