-- The values that shards keep.
use Rattle.std.proofs.Common.{◌≡◌, ◌≢◌, ℕ, zero, suc, ◌<◌, Bool, true, false, ◌||◌, cond, List, [], ◌∷◌, ◌++◌, All, filter, map, length, get_or, Result, Ok, IfOk, set, nat_eq, refl, sym, ap, subst, ◌∙◌, append-nil, append_assoc, length-append, length-set, eqb-true, eq-eqb, arith}
use Rattle.std.proofs.Math.Nat.{mod-lt}
use Rattle.std.proofs.lemmas.Bool.{eqb-false, ne_eqb}
use Rattle.std.proofs.lemmas.Grind.{flat_map-append}
use Rattle.std.proofs.lemmas.List.{length-map, get_or-set_same, get_or-set_other}
use Rattle.std.proofs.lemmas.List.Elements.{All-weaker, All-push, All-nil, filter-append}
use Rattle.std.proofs.lemmas.Map.Keys.{IsDistinct-push}
use Rattle.std.specs.Cmp.{IsEquivalence}
use Rattle.std.specs.List.{list_any, IsDistinct}
use Rattle.search_shards.specs.Sharded.{shard_of}
use Rattle.search_shards.specs.internal.Places.{Position, one_at, value_at, values_in, IsHeld, IsSharded}
use Rattle.search_shards.proofs.Values.{one_at-append, one_at-end, values_in-same}

module _ {T : Type 0} where
  -- a value is looked for among those of its class alone
  module _ (eq : T → T → Bool) (h : T → ℕ) (q : T) (alike : (x : T) → eq q x ≡ true → h x ≡ h q) where
    pub list_any-filter : (xs : List T) → list_any (eq q) (filter (λ x. nat_eq (h x) (h q)) xs) ≡ list_any (eq q) xs
    list_any-filter [] = refl
    list_any-filter (x ∷ xs) = by (list_any-filter xs) (nat_eq (h x) (h q)) refl
      where
        differs : (b : Bool) → eq q x ≡ b → nat_eq (h x) (h q) ≡ false → eq q x ≡ false
        differs true e off = let on = eq-eqb (h x) (h q) (alike x e) in cc
        differs false e off = e

        by : list_any (eq q) (filter (λ x. nat_eq (h x) (h q)) xs) ≡ list_any (eq q) xs → (b : Bool) → nat_eq (h x) (h q) ≡ b → list_any (eq q) (cond (nat_eq (h x) (h q)) (x ∷ filter (λ x. nat_eq (h x) (h q)) xs) (filter (λ x. nat_eq (h x) (h q)) xs)) ≡ (eq q x || list_any (eq q) xs)
        by rest true e = ap (λ (b : Bool). list_any (eq q) (cond b (x ∷ filter (λ x. nat_eq (h x) (h q)) xs) (filter (λ x. nat_eq (h x) (h q)) xs))) e ∙ ap (λ (b : Bool). eq q x || b) rest
        by rest false e = ap (λ (b : Bool). list_any (eq q) (cond b (x ∷ filter (λ x. nat_eq (h x) (h q)) xs) (filter (λ x. nat_eq (h x) (h q)) xs))) e ∙ rest
            ∙ ap (λ (b : Bool). b || list_any (eq q) xs) (sym (differs (eq q x) refl e))

  pub IsDistinct-nil : (eq : T → T → Bool) → IsDistinct eq []
  unfolding IsDistinct
  IsDistinct-nil eq = tt

module _ {T : Type 0} (eq : T → T → Bool) (input : T → List (List ℕ)) where
  -- shards with no values
  pub IsSharded-new : (shards : List (List T)) → 0 < length shards → ((s : ℕ) → get_or shards s [] ≡ []) → IsSharded eq input shards []
  IsSharded-new shards some none = record {
    some = some;
    each = λ s low. none s;
    held = All-nil (IsHeld shards);
    distinct = IsDistinct-nil eq;
  }

  module _ (shards : List (List T)) (places : List Position) (kept : IsSharded eq input shards places) where
    -- a value's shard has an equal one where there is one at all
    pub list_any-shard : ((x y : T) → eq x y ≡ true → input x ≡ input y) → (q : T) (n : ℕ) → n ≡ shard_of input (length shards) q
        → list_any (eq q) (get_or shards n []) ≡ list_any (eq q) (values_in shards places)
    list_any-shard respects q n is =
        ap (λ (m : ℕ). list_any (eq q) (get_or shards m [])) is
        ∙ ap (list_any (eq q)) (kept.each (shard_of input (length shards) q) (mod-lt _ kept.some))
        ∙ list_any-filter eq (shard_of input (length shards)) q (λ x e. ap (λ (w : List (List ℕ)). shard_of (λ (z : List (List ℕ)). z) (length shards) w) (sym (respects q x e))) (values_in shards places)

-- a value that is put behind those of a shard
module _ {T : Type 0} (shards : List (List T)) (n : ℕ) (x : T) (low : n < length shards) where
  abbrev pub grown : List (List T)
  grown = set shards n (get_or shards n [] ++ x ∷ [])

  abbrev pub new_place : Position
  new_place = (n, length (get_or shards n []))

  grown-at : get_or grown n [] ≡ get_or shards n [] ++ x ∷ []
  grown-at = get_or-set_same shards n (get_or shards n [] ++ x ∷ []) [] low

  grown-off : (s : ℕ) → s ≢ n → get_or grown s [] ≡ get_or shards s []
  grown-off s off = get_or-set_other shards n s (get_or shards n [] ++ x ∷ []) [] off

  value_at-grown : (p : Position) → IsHeld shards p → value_at grown p ≡ value_at shards p
  value_at-grown p held = by (nat_eq p.0 n) refl
    where
      by : (b : Bool) → nat_eq p.0 n ≡ b → value_at grown p ≡ value_at shards p
      by true e = let here = eqb-true p.0 n e in
          ap (λ (s : ℕ). one_at (get_or grown s []) p.1) here ∙ ap (λ (xs : List T). one_at xs p.1) grown-at
          ∙ one_at-append (get_or shards n []) (x ∷ []) p.1 (subst (λ (s : ℕ). p.1 < length (get_or shards s [])) here held)
          ∙ ap (λ (s : ℕ). one_at (get_or shards s []) p.1) (sym here)
      by false e = ap (λ (xs : List T). one_at xs p.1) (grown-off p.0 (eqb-false p.0 n e))

  held-grown : (p : Position) → IsHeld shards p → IsHeld grown p
  held-grown p held = by (nat_eq p.0 n) refl
    where
      by : (b : Bool) → nat_eq p.0 n ≡ b → IsHeld grown p
      by true e = let here = eqb-true p.0 n e in
          subst (λ (s : ℕ). p.1 < length (get_or grown s [])) (sym here)
          (subst (λ (xs : List T). p.1 < length xs) (sym grown-at)
          (let old = subst (λ (s : ℕ). p.1 < length (get_or shards s [])) here held in let both = length-append (get_or shards n []) (x ∷ []) in omega arith))
      by false e = subst (λ (xs : List T). p.1 < length xs) (sym (grown-off p.0 (eqb-false p.0 n e))) held

  new-held : IsHeld grown new_place
  new-held = subst (λ (xs : List T). length (get_or shards n []) < length xs) (sym grown-at) (let both = length-append (get_or shards n []) (x ∷ []) in omega arith)

  -- it comes behind the others
  pub values_in-push : (places : List Position) → All (IsHeld shards) places → values_in grown (places ++ new_place ∷ []) ≡ values_in shards places ++ x ∷ []
  values_in-push places held =
      flat_map-append (value_at grown) places (new_place ∷ [])
      ∙ ap (λ (xs : List T). xs ++ (value_at grown new_place ++ [])) (values_in-same shards grown places held value_at-grown)
      ∙ ap (λ (xs : List T). values_in shards places ++ (xs ++ [])) (ap (λ (xs : List T). one_at xs (length (get_or shards n []))) grown-at ∙ one_at-end (get_or shards n []) x)

  module _ (eq : T → T → Bool) (input : T → List (List ℕ)) (laws : IsEquivalence eq) (places : List Position) (kept : IsSharded eq input shards places)
      (own : n ≡ shard_of input (length shards) x) (fresh : list_any (eq x) (values_in shards places) ≡ false) where
    keeps-at : get_or shards n [] ++ x ∷ [] ≡ filter (λ y. nat_eq (shard_of input (length shards) y) n) (values_in shards places ++ x ∷ [])
    keeps-at =
        let p : T → Bool = λ y. nat_eq (shard_of input (length shards) y) n in
        ap (λ (xs : List T). xs ++ x ∷ []) (kept.each n low)
        ∙ ap (λ (b : Bool). filter p (values_in shards places) ++ cond b (x ∷ []) []) (sym (eq-eqb (shard_of input (length shards) x) n (sym own)))
        ∙ sym (filter-append p (values_in shards places) (x ∷ []))

    keeps-off : (s : ℕ) → s ≢ n → s < length shards → get_or shards s [] ≡ filter (λ y. nat_eq (shard_of input (length shards) y) s) (values_in shards places ++ x ∷ [])
    keeps-off s off in' =
        let p : T → Bool = λ y. nat_eq (shard_of input (length shards) y) s in
        kept.each s in'
        ∙ sym (append-nil (filter p (values_in shards places)))
        ∙ ap (λ (b : Bool). filter p (values_in shards places) ++ cond b (x ∷ []) []) (sym (ne_eqb (shard_of input (length shards) x) s (λ e. off (sym e ∙ sym own))))
        ∙ sym (filter-append p (values_in shards places) (x ∷ []))

    keeps : (s : ℕ) → s < length shards → get_or grown s [] ≡ filter (λ y. nat_eq (shard_of input (length shards) y) s) (values_in shards places ++ x ∷ [])
    keeps s in' = by (nat_eq s n) refl
      where
        by : (b : Bool) → nat_eq s n ≡ b → get_or grown s [] ≡ filter (λ y. nat_eq (shard_of input (length shards) y) s) (values_in shards places ++ x ∷ [])
        by true e = subst (λ (m : ℕ). get_or grown m [] ≡ filter (λ y. nat_eq (shard_of input (length shards) y) m) (values_in shards places ++ x ∷ [])) (sym (eqb-true s n e)) (grown-at ∙ keeps-at)
        by false e = let off = eqb-false s n e in grown-off s off ∙ keeps-off s off in'

    pub IsSharded-push : IsSharded eq input grown (places ++ new_place ∷ [])
    IsSharded-push =
        let long : length grown ≡ length shards = length-set shards n (get_or shards n [] ++ x ∷ []) in
        let values = values_in-push places kept.held in record {
          some = let some = kept.some in omega arith;
          each = λ s in'.
              subst (λ (m : ℕ). get_or grown s [] ≡ filter (λ y. nat_eq (shard_of input m y) s) (values_in grown (places ++ new_place ∷ []))) (sym long)
              (subst (λ (xs : List T). get_or grown s [] ≡ filter (λ y. nat_eq (shard_of input (length shards) y) s) xs) (sym values) (keeps s (omega arith)));
          held = All-push (IsHeld grown) places new_place (All-weaker (IsHeld shards) (IsHeld grown) held-grown places kept.held) new-held;
          distinct = subst (IsDistinct eq) (sym values) (IsDistinct-push laws (values_in shards places) x kept.distinct fresh);
        }

-- a loop that moves shards into a list, one by one
module _ {T : Type 0} where
  pub all-moved : (all moved rest none : List T) → all ≡ moved ++ rest → length rest ≡ 0 → none ≡ [] → moved ++ none ≡ all
  all-moved all moved [] none split empty e = ap (λ (xs : List T). moved ++ xs) e ∙ sym split
  all-moved all moved (x ∷ rest) none split empty e = absurd (omega arith)

  pub one-moved : (all moved next items rest : List T) (x : T) → all ≡ moved ++ items → items ≡ x ∷ rest → next ≡ moved ++ x ∷ [] → all ≡ next ++ rest
  one-moved all moved next items rest x split e more =
      split ∙ ap (λ (xs : List T). moved ++ xs) e ∙ sym (append_assoc moved (x ∷ []) rest) ∙ ap (λ (xs : List T). xs ++ rest) (sym more)

  -- none but lists with no values
  pub none-more : (lists : List (List T)) (one : List T) → ((s : ℕ) → get_or lists s [] ≡ []) → one ≡ [] → (s : ℕ) → get_or (lists ++ one ∷ []) s [] ≡ []
  none-more [] one none e zero = e
  none-more [] one none e (suc s) = refl
  none-more (x ∷ xs) one none e zero = none 0
  none-more (x ∷ xs) one none e (suc s) = none-more xs one (λ k. none (suc k)) e s

  -- answers that are all shards: each is as what it stands for
  pub same-from-answers : {E : Type 0} (before after : List T) (answers : List (Result T E)) → answers ≡ map Ok after → length answers ≡ length before
      → ((i : ℕ) (d : Result T E) → i < length before → (x : T) × ((e : T) → get_or before i e ≡ x) × IfOk (get_or answers i d) (λ y. y ≡ x)) → after ≡ before
  same-from-answers [] [] answers all long each = refl
  same-from-answers {E} [] (y ∷ ys) answers all long each = let short = ap length all in let m = length-map {B = Result T E} ys Ok in absurd (omega arith)
  same-from-answers (x ∷ xs) [] answers all long each = let short = ap length all in absurd (omega arith)
  same-from-answers {E} (x ∷ xs) (y ∷ ys) answers all long each =
      let first = each 0 (Ok y) (omega arith) in
      let same : y ≡ first.0 = subst (λ (as' : List (Result T E)). IfOk (get_or as' 0 (Ok y)) (λ z. z ≡ first.0)) all first.2 in
      let is : x ≡ first.0 = first.1 x in
      let m = length-map {B = Result T E} ys Ok in
      let short = ap length all in
      λ j. (same ∙ sym is) j ∷ same-from-answers xs ys (map Ok ys) refl (omega arith)
      (λ i d low. subst (λ (as' : List (Result T E)). (z : T) × ((e : T) → get_or xs i e ≡ z) × IfOk (get_or as' (suc i) d) (λ w. w ≡ z)) all (each (suc i) d (omega arith))) j
