-- The search of the code is the search over runs.
use Rattle.std.proofs.Common.{◌≡◌, ℕ, zero, suc, ◌+◌, ◌<◌, Bool, true, false, cond, List, [], ◌∷◌, ◌++◌, length, drop, sym, refl, ap, subst, ◌∙◌, arith, inl, inr, ⊎_elim, append_assoc, append-nil, length-append, map}
use Rattle.std.specs.Prelude.{◌⊎◌, Option, None, Some, IfSome}
use Rattle.std.specs.List.{list_any, flat_map}
use Rattle.std.proofs.lemmas.List.{map-append, drop_at, get_or_append_left, get_or_at, length-map}
use Rattle.std.proofs.lemmas.Bool.{cases_lt}
use Rattle.summary.specs.Graph.{Graph}
use Rattle.summary.specs.Run.{Run, Start, Then, end_of, longer}
use Rattle.summary.specs.Sums.{Join, IsSemilattice, Observation}
use Rattle.search_layer.specs.declared.visited.Step.{Step}
use Rattle.search_layer.specs.declared.visited.Candidate.{Candidate}
use Rattle.search_layer.specs.internal.Search.{Found, candidates_of, layer_candidates, with_labels, with_layer, place, place_all, begin, advanced, found_after}
use Rattle.explore.specs.internal.Tied.{run_at, step_at, GoBack, Tells, AreLastSteps}
use Rattle.explore.proofs.Lists.{In, in-left, in-right, in-cases, in-map, from-map}
use Rattle.explore.proofs.Conclusions.{Below, below-trans, below-left, below-right, below-both}
use Rattle.explore.proofs.Sums.{IsLeast}
use Rattle.explore.proofs.Visits.{Visits, fresh, visits}

module _ {L : Type 0} where
  first-step : AreLastSteps {L = L} (Start ∷ []) (None ∷ [])
  first-step = record { as_many = refl; back = back; tell = tell }
    where
      back : GoBack {L = L} (None ∷ [])
      back zero h = tt
      back (suc k) h = absurd (omega arith)

      tell : (k : ℕ) → k < 1 → Tells {L = L} (Start ∷ []) (run_at (Start ∷ []) k) (step_at (None ∷ []) k)
      tell zero h = refl
      tell (suc k) h = absurd (omega arith)

  -- what a step tells stays with more runs behind
  tells-more : (runs more : List (Run L)) (run : Run L) (step : Option (Step L)) → IfSome step (λ s. s.before < length runs) → Tells runs run step → Tells (runs ++ more) run step
  tells-more runs more run None h t = t
  tells-more runs more run (Some s) h t = t ∙ ap (λ r. Then r s.label) (sym (get_or_append_left runs more Start s.before h))

  -- one run more
  last-step-more : (runs : List (Run L)) (steps : List (Option (Step L))) (before : ℕ) (label : L) → before < length runs → AreLastSteps runs steps
      → AreLastSteps (runs ++ Then (run_at runs before) label ∷ []) (steps ++ Some (record { before = before; label = label }) ∷ [])
  last-step-more runs steps before label lt h = record {
    as_many = simp length-append (ap (λ n. n + 1) h.as_many);
    back = λ k k_lt. ⊎_elim
        (λ old. subst (λ o. IfSome o (λ s. s.before < k)) (sym (get_or_append_left steps _ None k old)) (h.back k old))
        (λ new. subst (λ o. IfSome o (λ s. s.before < k)) (sym (get_or_at steps _ [] None k (sym new))) (let e = h.as_many in omega arith))
        (either k k_lt);
    tell = λ k k_lt. ⊎_elim
        (λ old.
        let in_runs : k < length runs = let e = h.as_many in omega arith in
        subst (Tells more (run_at more k)) (sym (get_or_append_left steps _ None k old))
        (subst (λ r. Tells more r (step_at steps k)) (sym (get_or_append_left runs _ Start k in_runs))
        (tells-more runs _ (run_at runs k) (step_at steps k) (earlier k old in_runs (step_at steps k) (h.back k old)) (h.tell k old))))
        (λ new.
        let at_end : length runs ≡ k = sym h.as_many ∙ sym new in
        subst (Tells more (run_at more k)) (sym (get_or_at steps _ [] None k (sym new)))
        (get_or_at runs (Then (run_at runs before) label) [] Start k at_end ∙ ap (λ r. Then r label) (sym (get_or_append_left runs _ Start before lt))))
        (either k k_lt);
  }
    where
      more : List (Run L)
      more = runs ++ Then (run_at runs before) label ∷ []

      either : (k : ℕ) → k < length (steps ++ Some (record { before = before; label = label }) ∷ []) → (k < length steps) ⊎ (k ≡ length steps)
      either k h = split (simp length-append at h)
        where
          split : k < length steps + 1 → (k < length steps) ⊎ (k ≡ length steps)
          split lt = ⊎_elim (λ a. inl a) (λ b. inr (omega arith)) (cases_lt k (length steps))

      earlier : (k : ℕ) → k < length steps → k < length runs → (o : Option (Step L)) → IfSome o (λ s. s.before < k) → IfSome o (λ s. s.before < length runs)
      earlier k a b None h = tt
      earlier k a b (Some s) h = omega arith

-- the least summary that is above some parts
module _ {C L S : Type 0} (j : Join S) (r : Observation C L S) (laws : IsSemilattice j) where
  pub record IsLeastAbove (P : S → Type 0) (summary : S) : Type 0 where
    pub above : (p : S) → P p → Below j laws p summary
    pub least : (u : S) → ((p : S) → P p → Below j laws p u) → Below j laws summary u

  same-parts : (P Q : S → Type 0) (s : S) → ((p : S) → P p → Q p) → ((p : S) → Q p → P p) → IsLeastAbove P s → IsLeastAbove Q s
  same-parts P Q s f b h = record { above = λ p q. h.above p (b p q); least = λ u k. h.least u (λ p q. k p (f p q)) }

  one_more : (P : S → Type 0) (s p : S) → IsLeastAbove P s → IsLeastAbove (λ q. P q ⊎ (p ≡ q)) (j.join s p)
  one_more P s p h = record {
    above = λ q. elim [
      | inl k ↦ below-trans j laws q s (j.join s p) (h.above q k) (below-left j laws s p)
      | inr e ↦ subst (λ x. Below j laws x (j.join s p)) e (below-right j laws s p)
    ];
    least = λ u k. below-both j laws s p u (h.least u (λ q a. k q (inl a))) (k p (inr refl));
  }

  abbrev ByLabel : C → List L → S → Type 0
  ByLabel c labels q = (l : L) × In l labels × (r.by c l ≡ q)

  labels-least : (c : C) (labels : List L) (P : S → Type 0) (s : S) → IsLeastAbove P s → IsLeastAbove (λ q. P q ⊎ ByLabel c labels q) (with_labels j r c s labels)
  labels-least c [] P s h = same-parts P (λ q. P q ⊎ ByLabel c [] q) s (λ q k. inl k) (λ q. elim [ inl k ↦ k | inr b ↦ absurd b.1 ]) h
  labels-least c (l ∷ ls) P s h =
      same-parts (λ q. (P q ⊎ (r.by c l ≡ q)) ⊎ ByLabel c ls q) (λ q. P q ⊎ ByLabel c (l ∷ ls) q) (with_labels j r c (j.join s (r.by c l)) ls)
      (λ q. elim [ inl k ↦ elim k [ inl a ↦ inl a | inr e ↦ inr (l, inl refl, e) ] | inr b ↦ inr (b.0, inr b.1, b.2) ])
      (λ q. elim [ inl a ↦ inl (inl a) | inr b ↦ here q b.0 b.1 b.2 ])
      (labels-least c ls (λ q. P q ⊎ (r.by c l ≡ q)) (j.join s (r.by c l)) (one_more P s (r.by c l) h))
    where
      here : (q : S) (m : L) → In m (l ∷ ls) → r.by c m ≡ q → (P q ⊎ (r.by c l ≡ q)) ⊎ ByLabel c ls q
      here q m (inl e) k = inl (inr (ap (r.by c) e ∙ k))
      here q m (inr i) k = inr (m, i, k)

  module _ (g : Graph C L) where
    abbrev ByLayer : List C → S → Type 0
    ByLayer states q = (c : C) × In c states × ByLabel c (g.enabled c) q

    layer-least : (states : List C) (P : S → Type 0) (s : S) → IsLeastAbove P s → IsLeastAbove (λ q. P q ⊎ ByLayer states q) (with_layer j r g s states)
    layer-least [] P s h = same-parts P (λ q. P q ⊎ ByLayer [] q) s (λ q k. inl k) (λ q. elim [ inl k ↦ k | inr b ↦ absurd b.1 ]) h
    layer-least (c ∷ cs) P s h =
        same-parts (λ q. (P q ⊎ ByLabel c (g.enabled c) q) ⊎ ByLayer cs q) (λ q. P q ⊎ ByLayer (c ∷ cs) q) (with_layer j r g (with_labels j r c s (g.enabled c)) cs)
        (λ q. elim [ inl k ↦ elim k [ inl a ↦ inl a | inr e ↦ inr (c, inl refl, e) ] | inr b ↦ inr (b.0, inr b.1, b.2) ])
        (λ q. elim [ inl a ↦ inl (inl a) | inr b ↦ here q b.0 b.1 b.2 ])
        (layer-least cs (λ q. P q ⊎ ByLabel c (g.enabled c) q) (with_labels j r c s (g.enabled c)) (labels-least c (g.enabled c) P s h))
      where
        here : (q : S) (d : C) → In d (c ∷ cs) → ByLabel d (g.enabled d) q → (P q ⊎ ByLabel c (g.enabled c) q) ⊎ ByLayer cs q
        here q d (inl e) k = inl (inr (subst (λ x. ByLabel x (g.enabled x) q) (sym e) k))
        here q d (inr i) k = inr (d, i, k)

    -- the parts of a summary of runs: what all show at their ends, and some by their steps
    abbrev pub Part : List (Run L) → List (Run L) → S → Type 0
    Part all steps q = ((v : Run L) × In v all × (r.at (end_of g v) ≡ q)) ⊎ ((v : Run L) × In v steps × ByLabel (end_of g v) (g.enabled (end_of g v)) q)

    pub least-is : (all steps : List (Run L)) (s : S) → IsLeastAbove (Part all steps) s → IsLeast g j r laws all steps s
    least-is all steps s h = record {
      ends = λ v i. h.above (r.at (end_of g v)) (inl (v, i, refl));
      taken = λ v i l k. h.above (r.by (end_of g v) l) (inr (v, i, (l, k, refl)));
      least = λ u e t. h.least u (λ q. elim [
        | inl a ↦ subst (λ x. Below j laws x u) a.2 (e a.0 a.1)
        | inr b ↦ subst (λ x. Below j laws x u) b.2.2 (t b.0 b.1 b.2.0 b.2.1)
      ]);
    }

    module _ (eq : C → C → Bool) where
      -- what the code found stands for these runs
      pub record IsTied (all steps : List (Run L)) (found : Found C L S) : Type 0 where
        pub states_are : found.states ≡ map (end_of g) all
        pub steps_are : AreLastSteps all found.steps
        pub summary_is : IsLeastAbove (Part all steps) found.summary

      -- a candidate stands for a run
      pub record Stands (base : List (Run L)) (c : Candidate C L) (x : Run L) : Type 0 where
        pub ends : c.state ≡ end_of g x
        pub within : c.before < length base
        pub is : x ≡ Then (run_at base c.before) c.label

      abbrev pub Aligned : List (Run L) → List (Candidate C L) → List (Run L) → Type 0
      Aligned base [] [] = Unit {0}
      Aligned base [] (x ∷ xs) = ⊥
      Aligned base (c ∷ cs) [] = ⊥
      Aligned base (c ∷ cs) (x ∷ xs) = Stands base c x × Aligned base cs xs

      aligned-append : (base : List (Run L)) (cs ds : List (Candidate C L)) (xs ys : List (Run L)) → Aligned base cs xs → Aligned base ds ys → Aligned base (cs ++ ds) (xs ++ ys)
      aligned-append base [] ds [] ys a b = b
      aligned-append base [] ds (x ∷ xs) ys a b = absurd a
      aligned-append base (c ∷ cs) ds [] ys a b = absurd a
      aligned-append base (c ∷ cs) ds (x ∷ xs) ys a b = (a.0, aligned-append base cs ds xs ys a.1 b)

      stands-more : (base more : List (Run L)) (c : Candidate C L) (x : Run L) → Stands base c x → Stands (base ++ more) c x
      stands-more base more c x h = record {
        ends = h.ends;
        within = simp length-append (let e = h.within in omega arith);
        is = h.is ∙ ap (λ v. Then v c.label) (sym (get_or_append_left base more Start c.before h.within));
      }

      aligned-more : (base more : List (Run L)) (cs : List (Candidate C L)) (xs : List (Run L)) → Aligned base cs xs → Aligned (base ++ more) cs xs
      aligned-more base more [] [] a = tt
      aligned-more base more [] (x ∷ xs) a = absurd a
      aligned-more base more (c ∷ cs) [] a = absurd a
      aligned-more base more (c ∷ cs) (x ∷ xs) a = (stands-more base more c x a.0, aligned-more base more cs xs a.1)

      -- one candidate that is new
      tied-more : (all steps : List (Run L)) (found : Found C L S) (c : Candidate C L) (x : Run L) → IsTied all steps found → Stands all c x
          → IsTied (all ++ x ∷ []) steps (record {
            states = found.states ++ c.state ∷ [];
            steps = found.steps ++ Some (record { before = c.before; label = c.label }) ∷ [];
            from = found.from;
            summary = j.join found.summary (r.at c.state);
          })
      tied-more all steps found c x h s = record {
        states_are = (λ i. h.states_are i ++ s.ends i ∷ []) ∙ sym (map-append (end_of g) all (x ∷ []));
        steps_are = subst (λ y. AreLastSteps (all ++ y ∷ []) (found.steps ++ Some (record { before = c.before; label = c.label }) ∷ [])) (sym s.is)
            (last-step-more all found.steps c.before c.label s.within h.steps_are);
        summary_is = same-parts (λ q. Part all steps q ⊎ (r.at c.state ≡ q)) (Part (all ++ x ∷ []) steps) (j.join found.summary (r.at c.state))
            (λ q. elim [
              | inl p ↦ elim p [ inl a ↦ inl (a.0, in-left all (x ∷ []) a.0 a.1, a.2) | inr b ↦ inr b ]
              | inr e ↦ inl (x, in-right all (x ∷ []) x (inl refl), ap r.at (sym s.ends) ∙ e)
            ])
            (λ q. elim [ inl a ↦ back q a.0 (in-cases all (x ∷ []) a.0 a.1) a.2 | inr b ↦ inl (inr b) ])
            (one_more (Part all steps) found.summary (r.at c.state) h.summary_is);
      }
        where
          back : (q : S) (v : Run L) → In v all ⊎ In v (x ∷ []) → r.at (end_of g v) ≡ q → Part all steps q ⊎ (r.at c.state ≡ q)
          back q v (inl i) e = inl (inl (v, i, e))
          back q v (inr (inl is)) e = inr (ap r.at (s.ends ∙ ap (end_of g) is) ∙ e)
          back q v (inr (inr i)) e = absurd i

      -- a layer's candidates
      tied-all : (all steps : List (Run L)) (found : Found C L S) (cs : List (Candidate C L)) (xs : List (Run L)) → IsTied all steps found → Aligned all cs xs
          → IsTied (all ++ fresh g eq all xs) steps (place_all j r eq found cs)
      tied-all all steps found [] [] h a = subst (λ vs. IsTied vs steps found) (sym (append-nil all)) h
      tied-all all steps found [] (x ∷ xs) h a = absurd a
      tied-all all steps found (c ∷ cs) [] h a = absurd a
      tied-all all steps found (c ∷ cs) (x ∷ xs) h a =
          step (list_any (eq (end_of g x)) (map (end_of g) all)) (list_any (eq c.state) found.states) (λ i. list_any (eq (a.0.ends i)) (h.states_are i))
          (tied-all all steps found cs xs h a.1)
          (tied-all (all ++ x ∷ []) steps new cs xs (tied-more all steps found c x h a.0) (aligned-more all (x ∷ []) cs xs a.1))
        where
          new : Found C L S
          new = record {
            states = found.states ++ c.state ∷ [];
            steps = found.steps ++ Some (record { before = c.before; label = c.label }) ∷ [];
            from = found.from;
            summary = j.join found.summary (r.at c.state);
          }

          step : (b b' : Bool) → b' ≡ b → IsTied (all ++ fresh g eq all xs) steps (place_all j r eq found cs)
              → IsTied ((all ++ x ∷ []) ++ fresh g eq (all ++ x ∷ []) xs) steps (place_all j r eq new cs)
              → IsTied (all ++ cond b (fresh g eq all xs) (x ∷ fresh g eq (all ++ x ∷ []) xs)) steps (place_all j r eq (cond b' found new) cs)
          step true true e old more = old
          step true false e old more = cc
          step false true e old more = cc
          step false false e old more = subst (λ vs. IsTied vs steps (place_all j r eq new cs)) (append_assoc all (x ∷ []) (fresh g eq (all ++ x ∷ []) xs)) more

      -- the candidates of one run
      aligned-labels : (front : List (Run L)) (v : Run L) (back : List (Run L)) (n : ℕ) → length front ≡ n → (labels : List L)
          → Aligned (front ++ v ∷ back) (candidates_of g n (end_of g v) labels) (map (λ l. Then v l) labels)
      aligned-labels front v back n e [] = tt
      aligned-labels front v back n e (l ∷ ls) = (
        record {
          ends = refl;
          within = simp length-append (omega arith);
          is = ap (λ w. Then w l) (sym (get_or_at front v back Start n e));
        },
        aligned-labels front v back n e ls,
      )

      -- the candidates of a layer
      aligned-layer : (base front layer : List (Run L)) (n : ℕ) → base ≡ front ++ layer → length front ≡ n
          → Aligned base (layer_candidates g n (map (end_of g) layer)) (flat_map (longer g) layer)
      aligned-layer base front [] n is e = tt
      aligned-layer base front (v ∷ vs) n is e =
          let more : length (front ++ v ∷ []) ≡ n + 1 = simp length-append (omega arith) in
          aligned-append base (candidates_of g n (end_of g v) (g.enabled (end_of g v))) (layer_candidates g (n + 1) (map (end_of g) vs)) (longer g v) (flat_map (longer g) vs)
          (subst (λ b. Aligned b (candidates_of g n (end_of g v) (g.enabled (end_of g v))) (longer g v)) (sym is) (aligned-labels front v vs n e (g.enabled (end_of g v))))
          (aligned-layer base (front ++ v ∷ []) vs (n + 1) (is ∙ sym (append_assoc front (v ∷ []) vs)) more)

      pub drop-front : (old layer : List (Run L)) → drop (length old) (map (end_of g) (old ++ layer)) ≡ map (end_of g) layer
      drop-front old layer = ap (drop (length old)) (map-append (end_of g) old layer) ∙ drop_at (map (end_of g) old) (map (end_of g) layer) (length old) (length-map old (end_of g))

      -- the layer's steps are taken
      tied-advanced : (old layer : List (Run L)) (found : Found C L S) → found.from ≡ length old → IsTied (old ++ layer) old found
          → IsTied (old ++ layer) (old ++ layer) (advanced g j r eq found)
      tied-advanced old layer found from h =
          let rest : drop found.from found.states ≡ map (end_of g) layer = (λ i. drop (from i) (h.states_are i)) ∙ drop-front old layer in
          record {
            states_are = h.states_are;
            steps_are = h.steps_are;
            summary_is = subst (λ states. IsLeastAbove (Part (old ++ layer) (old ++ layer)) (with_layer j r g found.summary states)) (sym rest)
                (same-parts (λ q. Part (old ++ layer) old q ⊎ ByLayer (map (end_of g) layer) q) (Part (old ++ layer) (old ++ layer)) (with_layer j r g found.summary (map (end_of g) layer))
                (λ q. elim [
                  | inl p ↦ elim p [ inl a ↦ inl a | inr b ↦ inr (b.0, in-left old layer b.0 b.1, b.2) ]
                  | inr b ↦ let v = from-map (end_of g) layer b.0 b.1 in inr (v.0, in-right old layer v.0 v.1, subst (λ c. ByLabel c (g.enabled c) q) (sym v.2) b.2)
                ])
                (λ q. elim [ inl a ↦ inl (inl a) | inr b ↦ back q b.0 (in-cases old layer b.0 b.1) b.2 ])
                (layer-least (map (end_of g) layer) (Part (old ++ layer) old) found.summary h.summary_is));
          }
        where
          back : (q : S) (v : Run L) → In v old ⊎ In v layer → ByLabel (end_of g v) (g.enabled (end_of g v)) q → Part (old ++ layer) old q ⊎ ByLayer (map (end_of g) layer) q
          back q v (inl i) b = inl (inr (v, i, b))
          back q v (inr i) b = inr (end_of g v, in-map (end_of g) layer v i, b)

      from-stays : (found : Found C L S) (cs : List (Candidate C L)) → (place_all j r eq found cs).from ≡ found.from
      from-stays found [] = refl
      from-stays found (c ∷ cs) = from-stays (place j r eq found c) cs ∙ chosen (list_any (eq c.state) found.states)
        where
          chosen : (b : Bool) → (cond b found (record {
            states = found.states ++ c.state ∷ [];
            steps = found.steps ++ Some (record { before = c.before; label = c.label }) ∷ [];
            from = found.from;
            summary = j.join found.summary (r.at c.state);
          })).from ≡ found.from
          chosen true = refl
          chosen false = refl

      tied-first : IsTied (Start ∷ []) [] (begin g j r eq)
      tied-first = record {
        states_are = refl;
        steps_are = first-step;
        summary_is = record {
          above = λ q. elim [ inl a ↦ only q a.0 a.1 a.2 | inr b ↦ absurd b.1 ];
          least = λ u k. k (r.at g.first) (inl (Start, inl refl, refl));
        };
      }
        where
          only : (q : S) (v : Run L) → In v (Start ∷ []) → r.at (end_of g v) ≡ q → Below j laws q (r.at g.first)
          only q v (inl is) e = subst (λ x. Below j laws x (r.at g.first)) (ap (λ w. r.at (end_of g w)) is ∙ e) (laws.repeats (r.at g.first))
          only q v (inr i) e = absurd i

      -- after n layers the code has found what the runs visited in n layers stand for
      pub record IsTiedAfter (v : Visits L) (found : Found C L S) : Type 0 where
        pub tied : IsTied (v.old ++ v.layer) v.old found
        pub from_is : found.from ≡ length v.old

      pub tied-after : (n : ℕ) → IsTiedAfter (visits g eq n) (found_after g j r eq n)
      unfolding visits found_after
      tied-after zero = record { tied = tied-first; from_is = refl }
      tied-after (suc n) =
          let v = visits g eq n in
          let found = found_after g j r eq n in
          let before = tied-after n in
          let all = v.old ++ v.layer in
          let rest : drop found.from found.states ≡ map (end_of g) v.layer = (λ i. drop (before.from_is i) (before.tied.states_are i)) ∙ drop-front v.old v.layer in
          let aligned : Aligned all (layer_candidates g found.from (drop found.from found.states)) (flat_map (longer g) v.layer) =
          subst (λ states. Aligned all (layer_candidates g found.from states) (flat_map (longer g) v.layer)) (sym rest)
          (aligned-layer all v.old v.layer found.from refl (sym before.from_is)) in
          record {
            tied = tied-all all all (advanced g j r eq found) (layer_candidates g found.from (drop found.from found.states)) (flat_map (longer g) v.layer)
                (tied-advanced v.old v.layer found before.from_is before.tied) aligned;
            from_is = from-stays (advanced g j r eq found) (layer_candidates g found.from (drop found.from found.states)) ∙ (ap length before.tied.states_are ∙ length-map all (end_of g));
          }
