-- What the code found after n layers says of all runs.
use Rattle.std.proofs.Common.{◌≡◌, ℕ, zero, suc, ◌<◌, ◌≤◌, Bool, List, [], ◌∷◌, ◌++◌, length, get_or, take, drop, sym, refl, ap, subst, ◌∙◌, arith, inl, inr, map}
use Rattle.std.specs.Prelude.{◌≢◌, ◌↔◌, All, Option, None, Some}
use Rattle.std.specs.declared.cmp.Ordering.{Ordering}
use Rattle.std.specs.declared.alloc.Global.{Global}
use Rattle.std.specs.declared.vec.Vec.{Vec}
use Rattle.std.proofs.lemmas.List.{length-map, map-append, take-append-le, take_all}
use Rattle.summary.specs.Graph.{Graph}
use Rattle.summary.specs.Run.{IsRun, Run, Start, steps_of, end_of}
use Rattle.summary.specs.Sums.{Join, IsSemilattice, Observation, sum_of}
use Rattle.summary.specs.Exploration.{Counts, HasMark, IsComplete}
use Rattle.search_layer.specs.declared.visited.Step.{Step}
use Rattle.explore.specs.Best.{IsBestOf}
use Rattle.search_layer.specs.internal.Search.{Found, found_after, as_found}
use Rattle.explore.specs.internal.Stopped.{IsQuiet}
use Rattle.explore.specs.internal.Tied.{run_at, GoBack, AreLastSteps, IsFirstMarked, IsKept}
use Rattle.explore.proofs.Lists.{Each, In, each-in, each-from-in, each-all, each-get, all-each, in-left, in-cases, in-map, from-map}
use Rattle.explore.proofs.Visits.{IsLawful, visits}
use Rattle.explore.proofs.Covering.{AreVisited, are-visited, Covers, cover, covers, covers-more}
use Rattle.explore.proofs.Conclusions.{counts, complete-if, quiet-if, best, none-best}
use Rattle.explore.proofs.RunOrder.{later-short}
use Rattle.explore.proofs.Sums.{IsLeast, sum-is}
use Rattle.explore.proofs.Ties.{IsLeastAbove, Part, IsTiedAfter, tied-after, least-is, drop-front}

-- a list at one of its places
split_at : {A : Type 0} (xs : List A) (k : ℕ) (d : A) → k < length xs → xs ≡ take k xs ++ get_or xs k d ∷ drop (suc k) xs
split_at [] k d h = absurd (omega arith)
split_at (x ∷ xs) zero d h = refl
split_at (x ∷ xs) (suc k) d h = ap (λ ys. x ∷ ys) (split_at xs k d (omega arith))

module _ {C L S : Type 0} (g : Graph C L) (cmp : L → L → Ordering) (eq : C → C → Bool) (F : C → Type 0) (lawful : IsLawful g cmp eq F)
    (j : Join S) (r : Observation C L S) (laws : IsSemilattice j) (n : ℕ) where
  pub visited : AreVisited g cmp eq F lawful n (visits g eq n).old (visits g eq n).layer
  visited = are-visited g cmp eq F lawful n

  covered : Covers g cmp eq F lawful n ((visits g eq n).old ++ (visits g eq n).layer)
  covered = covers g cmp eq F lawful n (visits g eq n).old (visits g eq n).layer visited

  tied : IsTiedAfter j r laws g eq (visits g eq n) (found_after g j r eq n)
  tied = tied-after j r laws g eq n

  -- more found than the limit is more reached than the limit
  pub too_many : (limit : ℕ) → limit < length (found_after g j r eq n).states → (count : ℕ) × Counts g n count × (limit < count)
  too_many limit h = (
    length (map (end_of g) ((visits g eq n).old ++ (visits g eq n).layer)),
    counts g cmp eq F lawful n ((visits g eq n).old ++ (visits g eq n).layer) covered,
    subst (λ xs. limit < length xs) tied.tied.states_are h,
  )

  module _ (states : List C) (steps : List (Option (Step L))) (from : ℕ) (summary : S) (is : as_found states steps from summary ≡ found_after g j r eq n) where
    pub states_are : states ≡ map (end_of g) ((visits g eq n).old ++ (visits g eq n).layer)
    states_are = ap (λ (f : Found C L S). f.states) is ∙ tied.tied.states_are

    pub last-steps : AreLastSteps ((visits g eq n).old ++ (visits g eq n).layer) steps
    last-steps = subst (AreLastSteps ((visits g eq n).old ++ (visits g eq n).layer)) (sym (ap (λ (f : Found C L S). f.steps) is)) tied.tied.steps_are

    pub from-is : from ≡ length (visits g eq n).old
    from-is = ap (λ (f : Found C L S). f.from) is ∙ tied.from_is

    pub layer-is : drop from states ≡ map (end_of g) (visits g eq n).layer
    layer-is = (λ i. drop ((ap (λ (f : Found C L S). f.from) is ∙ tied.from_is) i) (states_are i)) ∙ drop-front j r laws g eq (visits g eq n).old (visits g eq n).layer

    pub go-back : GoBack steps
    go-back = last-steps.back

    pub as_many : length steps ≡ length states
    as_many = last-steps.as_many ∙ sym (ap length states_are ∙ length-map ((visits g eq n).old ++ (visits g eq n).layer) (end_of g))

    pub count-is : Counts g n (length states)
    count-is = subst (λ xs. Counts g n (length xs)) (sym states_are) (counts g cmp eq F lawful n ((visits g eq n).old ++ (visits g eq n).layer) covered)

    quiet-runs : All (λ c. g.enabled c ≡ []) (drop from states) → Each (λ v. g.enabled (end_of g v) ≡ []) (visits g eq n).layer
    quiet-runs q =
        let each = all-each (λ c. g.enabled c ≡ []) (map (end_of g) (visits g eq n).layer) (subst (All (λ c. g.enabled c ≡ [])) layer-is q) in
        each-from-in (λ v. g.enabled (end_of g v) ≡ []) (visits g eq n).layer (λ v i. each-in (λ c. g.enabled c ≡ []) (map (end_of g) (visits g eq n).layer) each (end_of g v) (in-map (end_of g) (visits g eq n).layer v i))

    pub complete-is : All (λ c. g.enabled c ≡ []) (drop from states) ↔ IsComplete g n
    complete-is = (
      λ q. complete-if g cmp eq F lawful n (visits g eq n).old (visits g eq n).layer visited (quiet-runs q),
      λ c.
          let quiet = quiet-if g cmp eq F lawful n (visits g eq n).old (visits g eq n).layer visited c in
          subst (All (λ c. g.enabled c ≡ [])) (sym layer-is)
          (each-all (λ c. g.enabled c ≡ []) (map (end_of g) (visits g eq n).layer) (each-from-in (λ c. g.enabled c ≡ []) (map (end_of g) (visits g eq n).layer) (λ c i.
          let v = from-map (end_of g) (visits g eq n).layer c i in
          subst (λ d. g.enabled d ≡ []) v.2 (each-in (λ w. g.enabled (end_of g w) ≡ []) (visits g eq n).layer quiet v.0 v.1)))),
    )

    -- the states before the last layer are where the runs end that were visited before it
    before-is : take from states ≡ map (end_of g) (visits g eq n).old
    before-is =
        let ends = map (end_of g) (visits g eq n).old in
        let all : states ≡ ends ++ map (end_of g) (visits g eq n).layer = states_are ∙ map-append (end_of g) (visits g eq n).old (visits g eq n).layer in
        let count : from ≡ length ends = from-is ∙ sym (length-map (visits g eq n).old (end_of g)) in
        (λ i. take (count i) (all i)) ∙ take-append-le (length ends) ends (map (end_of g) (visits g eq n).layer) (omega arith) ∙ take_all (length ends) ends (omega arith)

    -- where no state before the last layer has the mark, no shorter run ends with it
    pub no-shorter-marked : (mark : ℕ) → All (λ c. g.mark c ≢ Some mark) (take from states) → (m : ℕ) → m < n → (run : Run L) → HasMark g m mark run → ⊥
    no-shorter-marked mark none m low run o =
        let each = all-each (λ c. g.mark c ≢ Some mark) (map (end_of g) (visits g eq n).old) (subst (All (λ c. g.mark c ≢ Some mark)) before-is none) in
        let w = cover g cmp eq F lawful n ((visits g eq n).old ++ (visits g eq n).layer) covered run o.is_run (let short = o.short in omega arith) in
        let marked : g.mark (end_of g w.0) ≡ Some mark = ap g.mark w.2 ∙ o.marked in
        let less : steps_of w.0 < n = (let no_longer = later-short cmp lawful.total w.0 run w.3 in let short = o.short in omega arith) in
        elim (in-cases (visits g eq n).old (visits g eq n).layer w.0 w.1) [
          | inl a ↦ each-in (λ c. g.mark c ≢ Some mark) (map (end_of g) (visits g eq n).old) each (end_of g w.0) (in-map (end_of g) (visits g eq n).old w.0 a) marked
          | inr b ↦ let long : steps_of w.0 ≡ n = each-in (λ v. steps_of v ≡ n) (visits g eq n).layer visited.layer_long w.0 b in absurd (omega arith)
        ]

    least : IsLeast g j r laws ((visits g eq n).old ++ (visits g eq n).layer) (visits g eq n).old summary
    least = least-is j r laws g ((visits g eq n).old ++ (visits g eq n).layer) (visits g eq n).old summary
        (subst (IsLeastAbove j r laws (Part j r laws g ((visits g eq n).old ++ (visits g eq n).layer) (visits g eq n).old)) (sym (ap (λ (f : Found C L S). f.summary) is)) tied.tied.summary_is)

    old-within : (v : Run L) → In v (visits g eq n).old → In v ((visits g eq n).old ++ (visits g eq n).layer) × (steps_of v < n)
    old-within v i = (in-left (visits g eq n).old (visits g eq n).layer v i, each-in (λ w. steps_of w < n) (visits g eq n).old visited.old_short v i)

    pub summary_is : summary ≡ sum_of g j r n
    summary_is =
        sum-is g j r laws cmp eq F lawful n ((visits g eq n).old ++ (visits g eq n).layer) (visits g eq n).old summary covered least
        (λ v i lt l e. elim (in-cases (visits g eq n).old (visits g eq n).layer v i) [
          | inl a ↦ a
          | inr b ↦ let long : steps_of v ≡ n = each-in (λ w. steps_of w ≡ n) (visits g eq n).layer visited.layer_long v b in absurd (omega arith)
        ])
        old-within

    -- where the last layer is quiet, all that is said of n steps holds of more
    pub every_bound : All (λ c. g.enabled c ≡ []) (drop from states) → (m : ℕ) → n ≤ m → (summary ≡ sum_of g j r m) × Counts g m (length states)
    every_bound q m le =
        let quiet = quiet-runs q in
        let more = covers-more g cmp eq F lawful n m (visits g eq n).old (visits g eq n).layer visited le quiet in (
          sum-is g j r laws cmp eq F lawful m ((visits g eq n).old ++ (visits g eq n).layer) (visits g eq n).old summary more least
              (λ v i lt l e. elim (in-cases (visits g eq n).old (visits g eq n).layer v i) [
                | inl a ↦ a
                | inr b ↦ absurd (subst (In l) (each-in (λ w. g.enabled (end_of g w) ≡ []) (visits g eq n).layer quiet v b) e)
              ])
              (λ v i. let o = old-within v i in (o.0, omega (arith, o.1))),
          subst (λ xs. Counts g m (length xs)) (sym states_are) (counts g cmp eq F lawful m ((visits g eq n).old ++ (visits g eq n).layer) more),
        )

    -- the state at a place is where the run at the place ends
    state-at : (runs : List (Run L)) (k : ℕ) (d : C) → k < length runs → get_or (map (end_of g) runs) k d ≡ end_of g (run_at runs k)
    state-at [] k d h = absurd (omega arith)
    state-at (v ∷ vs) zero d h = refl
    state-at (v ∷ vs) (suc k) d h = state-at vs k d (omega arith)

    unmarked : (mark : ℕ) (runs : List (Run L)) (k : ℕ) → k ≤ length runs → ((i : ℕ) (d : C) → i < k → g.mark (get_or (map (end_of g) runs) i d) ≢ Some mark)
        → Each (λ w. g.mark (end_of g w) ≢ Some mark) (take k runs)
    unmarked mark runs zero h f = tt
    unmarked mark [] (suc k) h f = tt
    unmarked mark (v ∷ vs) (suc k) h f = (f 0 (end_of g v) (omega arith), unmarked mark vs k (omega arith) (λ i d lt. f (suc i) d (omega arith)))

    pub best-is : (mark : ℕ) (o : Option (Vec L Global)) → IsKept g states steps mark o → IsBestOf g cmp n mark o
    best-is mark None k =
        let each = all-each (λ c. g.mark c ≢ Some mark) (map (end_of g) ((visits g eq n).old ++ (visits g eq n).layer)) (subst (All (λ c. g.mark c ≢ Some mark)) states_are k) in
        none-best g cmp eq F lawful n mark ((visits g eq n).old ++ (visits g eq n).layer) covered
        (each-from-in (λ w. g.mark (end_of g w) ≢ Some mark) ((visits g eq n).old ++ (visits g eq n).layer)
        (λ w i. each-in (λ c. g.mark c ≢ Some mark) (map (end_of g) ((visits g eq n).old ++ (visits g eq n).layer)) each (end_of g w) (in-map (end_of g) ((visits g eq n).old ++ (visits g eq n).layer) w i)))
    best-is mark (Some labels) k =
        let runs = (visits g eq n).old ++ (visits g eq n).layer in
        let place = k.0 in
        let first : IsFirstMarked g mark (map (end_of g) runs) place = subst (λ xs. IsFirstMarked g mark xs place) states_are k.1 in
        let within : place < length runs = subst (λ m. place < m) (length-map runs (end_of g)) first.within in
        let split : runs ≡ take place runs ++ run_at runs place ∷ drop (suc place) runs = split_at runs place Start within in (
          run_at runs place,
          best g cmp eq F lawful n mark (take place runs) (run_at runs place) (drop (suc place) runs)
              (subst (Covers g cmp eq F lawful n) split covered)
              (unmarked mark runs place (omega arith) first.first)
              (sym (ap g.mark (state-at runs place g.first within)) ∙ first.marked g.first),
          k.2 runs last-steps,
        )

    -- some run of at most n steps ends in a state with a mark
    pub marked-is : (mark place : ℕ) → place < length states → g.mark (get_or states place g.first) ≡ Some mark → (run : Run L) × HasMark g n mark run
    marked-is mark place low marked =
        let runs = (visits g eq n).old ++ (visits g eq n).layer in
        let within : place < length runs = subst (λ m. place < m) (ap length states_are ∙ length-map runs (end_of g)) low in (
          run_at runs place,
          record {
            is_run = each-get (IsRun g) runs place Start covered.runs within;
            short = each-get (λ v. steps_of v ≤ n) runs place Start covered.short within;
            marked = sym (ap g.mark (ap (λ xs. get_or xs place g.first) states_are ∙ state-at runs place g.first within)) ∙ marked;
          },
        )

  -- where a state of the last layer has a label, longer runs reach more
  pub not-complete : ¬ IsQuiet g (found_after g j r eq n) → ¬ IsComplete g n
  not-complete loud all =
      let found = found_after g j r eq n in
      loud ((complete-is found.states found.steps found.from found.summary refl).1 all)
