-- Candidates of which some have no state: what is first among them is first among all, and their steps show the same.
use Rattle.std.proofs.Common.{◌≡◌, ℕ, zero, suc, ◌<◌, Bool, true, false, List, [], ◌∷◌, length, get_or, map, take, sym, refl, ap, subst, ◌∙◌, ◌⊎◌, inl, inr, true≢false, arith}
use Rattle.std.specs.Prelude.{◌||◌, slice_get, slice_index_or, Option, None, Some, is_some, All, Contains, option_map}
use Rattle.std.specs.Option.{option_eq}
use Rattle.std.specs.Cmp.{IsEquivalence}
use Rattle.std.specs.List.{list_any}
use Rattle.std.proofs.lemmas.List.{length-map, length-take}
use Rattle.std.proofs.lemmas.Map.Keys.{any_passes_from_place}
use Rattle.std.proofs.lemmas.Map.Steps.{list_any_congr}
use Rattle.std.proofs.lemmas.Option.{get_or_from_slice_get, same_Some, slice_get-get_or, slice_get-map, slice_get_cases, slice_get_within}
use Rattle.shared.specs.Totals.{Stands}
use Rattle.summary.specs.Graph.{Graph}
use Rattle.summary.specs.Sums.{Join, Observation}
use Rattle.search_layer.specs.declared.visited.Candidate.{Candidate}
use Rattle.search_layer.specs.declared.visited.Step.{Step}
use Rattle.search_layer.specs.internal.Search.{step_of, with_steps, IsStep}
use Rattle.search_layer.specs.internal.Thinned.{AreThinned, IsGiven, IsKnownAt}
use Rattle.search_layer.specs.internal.Work.{or_none, AreFirst}
use Rattle.search_layer.proofs.AllWorked.{any-at, false-unless, get-take}

abbrev last_step : {D L : Type 0} → Candidate D L → Step L
last_step c = record { before = c.before; label = c.label }

one-true : (a b : Bool) → (a || b) ≡ true → (a ≡ true) ⊎ (b ≡ true)
one-true true b e = inl refl
one-true false b e = inr e

-- what steps show depends on nothing but the steps
module _ {C L S : Type 0} (j : Join S) (r : Observation C L S) (g : Graph C L) (states : List C) where
  with_listed : S → List (Option (Step L)) → S
  with_listed s [] = s
  with_listed s (None ∷ steps) = with_listed s steps
  with_listed s (Some step ∷ steps) = with_listed (j.join s (r.by (slice_index_or states step.before g.first) step.label)) steps

  listed : {D : Type 0} (s : S) (cs : List (Candidate D L)) → with_steps j r g states s cs ≡ with_listed s (map step_of cs)
  unfolding with_listed
  listed s [] = refl
  listed s (c ∷ cs) = listed (j.join s (r.by (slice_index_or states c.before g.first) c.label)) cs

  pub same-steps : {D E : Type 0} (s : S) (xs : List (Candidate D L)) (ys : List (Candidate E L)) → map step_of xs ≡ map step_of ys
      → with_steps j r g states s xs ≡ with_steps j r g states s ys
  same-steps s xs ys e = listed s xs ∙ ap (with_listed s) e ∙ sym (listed s ys)

module _ {C : Type 0} (eq : C → C → Bool) where
  any-some : (s : C) (known : List C) → list_any (option_eq eq (Some s)) (map Some known) ≡ list_any (eq s) known
  any-some s [] = refl
  any-some s (x ∷ known) = ap (λ b. eq s x || b) (any-some s known)

  -- a state that is there is compared with the states alone
  pub any-or_none : (o : Option C) (s : C) (known : List C) → o ≡ Some s → list_any (option_eq eq o) (or_none known) ≡ list_any (eq s) known
  any-or_none o s known e = ap (λ p. list_any (option_eq eq p) (or_none known)) e ∙ any-some s known

  -- a missing one counts as known
  pub none-known : (o : Option C) (known : List C) → o ≡ None → list_any (option_eq eq o) (or_none known) ≡ true
  none-known o known e = ap (λ p. list_any (option_eq eq p) (or_none known)) e

  new-state : (o : Option C) (known : List C) → list_any (option_eq eq o) (or_none known) ≡ false → (s : C) × (o ≡ Some s) × (list_any (eq s) known ≡ false)
  new-state None known new = absurd (cc)
  new-state (Some s) known new = (s, refl, sym (any-some s known) ∙ new)

  equal-state : (s : C) (o : Option C) → option_eq eq (Some s) o ≡ true → (t : C) × (o ≡ Some t) × (eq s t ≡ true)
  equal-state s None e = absurd (cc)
  equal-state s (Some t) e = (t, refl, e)

module _ {C L : Type 0} (eq : C → C → Bool) (known : List C) (all : List (Candidate C L)) where
  given-or-known : (i : ℕ) (x : C) (o : Option C) → IsGiven eq known all i x o → (o ≡ Some x) ⊎ IsKnownAt eq known all i x
  given-or-known i x (Some s) given = inl (ap Some given)
  given-or-known i x None given = inr given

  given-is : (i : ℕ) (x y : C) (o : Option C) → o ≡ Some y → IsGiven eq known all i x o → y ≡ x
  given-is i x y o e given = subst (λ p. IsGiven eq known all i x p) e given

  -- the state is new at the position
  abbrev IsNewAt : ℕ → Candidate C L → Type 0
  IsNewAt i c = (list_any (eq c.state) known ≡ false) × (list_any (λ (d : Candidate C L). eq c.state d.state) (take i all) ≡ false)

  not-known : (i : ℕ) (x : C) → IsKnownAt eq known all i x → list_any (eq x) known ≡ false → list_any (λ (d : Candidate C L). eq x d.state) (take i all) ≡ false → ⊥
  not-known i x old fresh unseen = true≢false (sym old ∙ (λ k. fresh k || unseen k))

  module _ (thinned : List (Candidate (Option C) L)) (h : AreThinned eq known all thinned) where
    pub same-length : length thinned ≡ length all
    same-length = sym (length-map thinned step_of) ∙ ap length h.steps ∙ length-map all step_of

    same-step : (i : ℕ) (t : Candidate (Option C) L) (c : Candidate C L) → slice_get thinned i ≡ Some t → slice_get all i ≡ Some c → step_of t ≡ step_of c
    same-step i t c t_at c_at =
        same_Some (step_of t) (step_of c)
        (ap (option_map step_of) (sym t_at) ∙ sym (slice_get-map step_of thinned i) ∙ ap (λ steps. slice_get steps i) h.steps ∙ slice_get-map step_of all i ∙ ap (option_map step_of) c_at)

    -- the candidate that a thinned one stands for
    pub all-at : (i : ℕ) (t : Candidate (Option C) L) → slice_get thinned i ≡ Some t
        → (c : Candidate C L) × (slice_get all i ≡ Some c) × (step_of t ≡ step_of c) × ((t.state ≡ Some c.state) ⊎ IsKnownAt eq known all i c.state)
    all-at i t t_at = elim ((slice_get_cases all i).1) [
      | inl some ↦ let c = some.0 in (c, some.2, same-step i t c t_at some.2, given-or-known i c.state t.state (h.states i c t some.2 t_at))
      | inr past ↦ absurd (let low = slice_get_within thinned i t t_at in let len = same-length in let le = past.0 in omega arith)
    ]

    thinned-at : (i : ℕ) (c : Candidate C L) → slice_get all i ≡ Some c
        → (t : Candidate (Option C) L) × (slice_get thinned i ≡ Some t) × ((t.state ≡ Some c.state) ⊎ IsKnownAt eq known all i c.state)
    thinned-at i c c_at = elim ((slice_get_cases thinned i).1) [
      | inl some ↦ let t = some.0 in (t, some.2, given-or-known i c.state t.state (h.states i c t c_at some.2))
      | inr past ↦ absurd (let low = slice_get_within all i c c_at in let len = same-length in let le = past.0 in omega arith)
    ]

    -- they are steps where all are
    pub steps-thinned : (g : Graph C L) (states : List C) → All (IsStep g states) all → All (IsStep g states) thinned
    steps-thinned g states steps i d low =
        let t = get_or thinned i d in
        let at = all-at i t (slice_get-get_or thinned i d low) in
        let c = at.0 in
        let here : IsStep g states c = subst (λ (x : Candidate C L). IsStep g states x) (get_or_from_slice_get all i c c at.1) (steps i c (slice_get_within all i c at.1)) in
        subst (λ (s : Step L). (s.before < length states) × Contains (g.enabled (slice_index_or states s.before g.first)) s.label)
        (sym (same_Some (last_step t) (last_step c) at.2)) here

    -- the steps of the thinned candidates show what those of all show
    pub thinned-shown : {S : Type 0} (j : Join S) (r : Observation C L S) (g : Graph C L) (states : List C) (s : S)
        → with_steps j r g states s thinned ≡ with_steps j r g states s all
    thinned-shown j r g states s = same-steps j r g states s thinned all h.steps

    module _ (firsts : List ℕ) (first : AreFirst eq known all firsts) where
      -- at one of the first positions stands a candidate with its state
      at-first : (i : ℕ) (t : Candidate (Option C) L) → slice_get thinned i ≡ Some t → Stands i firsts
          → (c : Candidate C L) × (slice_get all i ≡ Some c) × (step_of t ≡ step_of c) × (t.state ≡ Some c.state)
      at-first i t t_at has =
          let at = all-at i t t_at in
          let m = (first.members i).0 has in
          let new = subst (IsNewAt i) (same_Some m.0 at.0 (sym m.1 ∙ at.1)) (m.2, m.3) in
          (at.0, at.1, at.2, elim at.3 [ inl given ↦ given | inr old ↦ absurd (not-known i at.0.state old new.0 new.1) ])

      pub has-state : (i : ℕ) (t : Candidate (Option C) L) → slice_get thinned i ≡ Some t → Stands i firsts → is_some t.state ≡ true
      has-state i t t_at has = ap is_some (at-first i t t_at has).3

      -- the candidate with its state is the one among all
      pub the-same : (i : ℕ) (t : Candidate (Option C) L) (r : Candidate C L) → slice_get thinned i ≡ Some t
          → t ≡ record { before = r.before; label = r.label; state = Some r.state } → Stands i firsts → slice_get all i ≡ Some r
      the-same i t r t_at is has =
          let at = at-first i t t_at has in
          let c = at.0 in
          let step = same_Some (last_step r) (last_step c) (sym (ap step_of is) ∙ at.2) in
          let state = same_Some r.state c.state (sym (ap (λ (x : Candidate (Option C) L). x.state) is) ∙ at.3) in
          let same : r ≡ c = (λ k. record { before = (step k).before; label = (step k).label; state = state k }) in
          at.1 ∙ ap Some (sym same)

    module _ (laws : IsEquivalence eq) (s : C) (i : ℕ) (fresh : list_any (eq s) known ≡ false) (unseen : list_any (λ (d : Candidate (Option C) L). option_eq eq (Some s) d.state) (take i thinned) ≡ false) where
      -- no earlier candidate among all has an equal state: the first of those would have a state
      none-earlier : (n k : ℕ) (d : Candidate C L) → k < n → k < i → slice_get all k ≡ Some d → eq s d.state ≡ true → ⊥
      none-earlier zero k d low early d_at same = absurd (omega arith)
      none-earlier (suc n) k d low early d_at same =
          let at = thinned-at k d d_at in
          let t = at.0 in
          elim at.2 [
            | inl given ↦ absurd (
                let alike : option_eq eq (Some s) t.state ≡ true = ap (option_eq eq (Some s)) given ∙ same in
                true≢false (sym (any_passes_from_place (λ (x : Candidate (Option C) L). option_eq eq (Some s) x.state) (take i thinned) k t (get-take i k thinned early ∙ at.1) alike) ∙ unseen))
            | inr old ↦ elim (one-true (list_any (eq d.state) known) (list_any (λ (e : Candidate C L). eq d.state e.state) (take k all)) old) [
              | inl found ↦ absurd (true≢false (sym found ∙ sym (list_any_congr laws s d.state known same) ∙ fresh))
              | inr found ↦ (
                  let a = any-at (λ (e : Candidate C L). eq d.state e.state) (take k all) found in
                  let e = a.1 in
                  let less : a.0 < k = (let w = slice_get_within (take k all) a.0 e a.2 in let l = length-take k all in omega arith) in
                  none-earlier n a.0 e (omega arith) (omega arith) (sym (get-take k a.0 all less) ∙ a.2) (laws.congr s d.state e.state same ∙ a.3))
            ]
          ]

      unseen-among-all : list_any (λ (d : Candidate C L). eq s d.state) (take i all) ≡ false
      unseen-among-all = false-unless (list_any (λ (d : Candidate C L). eq s d.state) (take i all)) (λ found.
          let a = any-at (λ (d : Candidate C L). eq s d.state) (take i all) found in
          let low : a.0 < i = (let w = slice_get_within (take i all) a.0 a.1 a.2 in let l = length-take i all in omega arith) in
          none-earlier (suc a.0) a.0 a.1 (omega arith) low (sym (get-take i a.0 all low) ∙ a.2) a.3)

    -- what is unseen among all is unseen among the thinned ones
    unseen-thinned : (s : C) (i : ℕ) → list_any (λ (d : Candidate C L). eq s d.state) (take i all) ≡ false → list_any (λ (d : Candidate (Option C) L). option_eq eq (Some s) d.state) (take i thinned) ≡ false
    unseen-thinned s i unseen = false-unless (list_any (λ (d : Candidate (Option C) L). option_eq eq (Some s) d.state) (take i thinned)) (λ found.
        let a = any-at (λ (d : Candidate (Option C) L). option_eq eq (Some s) d.state) (take i thinned) found in
        let t = a.1 in
        let low : a.0 < i = (let w = slice_get_within (take i thinned) a.0 t a.2 in let l = length-take i thinned in omega arith) in
        let t_at : slice_get thinned a.0 ≡ Some t = sym (get-take i a.0 thinned low) ∙ a.2 in
        let at = all-at a.0 t t_at in
        let c = at.0 in
        let x = equal-state eq s t.state a.3 in
        let given : x.0 ≡ c.state = given-is a.0 c.state x.0 t.state x.1 (h.states a.0 c t at.1 t_at) in
        let alike : eq s c.state ≡ true = ap (eq s) (sym given) ∙ x.2 in
        let seen = any_passes_from_place (λ (d : Candidate C L). eq s d.state) (take i all) a.0 c (get-take i a.0 all low ∙ at.1) alike in
        absurd (true≢false (sym seen ∙ unseen)))

    -- the first of the thinned candidates are the first of all
    pub first-of-all : IsEquivalence eq → (firsts : List ℕ) → AreFirst (option_eq eq) (or_none known) thinned firsts → AreFirst eq known all firsts
    first-of-all laws firsts first = record {
      ascending = first.ascending;
      members = λ i. (
        λ has.
            let m = (first.members i).0 has in
            let t = m.0 in
            let new = new-state eq t.state known m.2 in
            let at = all-at i t m.1 in
            let c = at.0 in
            let same : new.0 ≡ c.state = given-is i c.state new.0 t.state new.1 (h.states i c t at.1 m.1) in
            let fresh : list_any (eq c.state) known ≡ false = ap (λ x. list_any (eq x) known) (sym same) ∙ new.2 in
            let unseen : list_any (λ (d : Candidate (Option C) L). option_eq eq (Some c.state) d.state) (take i thinned) ≡ false =
            ap (λ o. list_any (λ (d : Candidate (Option C) L). option_eq eq o d.state) (take i thinned)) (ap Some (sym same) ∙ sym new.1) ∙ m.3 in
            (c, at.1, fresh, unseen-among-all laws c.state i fresh unseen),
        λ new.
            let c = new.0 in
            let at = thinned-at i c new.1 in
            let t = at.0 in
            elim at.2 [
              | inl given ↦ (first.members i).1 (
                t,
                at.1,
                any-or_none eq t.state c.state known given ∙ new.2,
                ap (λ o. list_any (λ (d : Candidate (Option C) L). option_eq eq o d.state) (take i thinned)) given ∙ unseen-thinned c.state i new.3,
              )
              | inr old ↦ absurd (not-known i c.state old new.2 new.3)
            ],
      );
    }
