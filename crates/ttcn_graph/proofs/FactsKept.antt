-- What is known at lists stays so where lists are added.
use Rattle.std.proofs.Common.{◌≡◌, refl, sym, ap, ◌∙◌, ℕ, zero, suc, ◌+◌, ◌≤◌, true≢false, List, [], ◌∷◌, ◌++◌, map, length, get_or, slice_get, take, Option, Some, None, is_some, arith}
use Rattle.std.proofs.Math.Seq.{take-append_seam, take-length}
use Rattle.std.proofs.lemmas.List.{append-nil, length-append}
use Rattle.graph_numbers.specs.Lists.{IsPut}
use Rattle.ttcn_graph.proofs.ListsKept.{length-map, map-append}

-- what was added alone
get-last : {A : Type 0} (xs : List (List A)) (x : List A) → get_or (xs ++ x ∷ []) (length xs) [] ≡ x
get-last [] x = refl
get-last (y ∷ xs) x = get-last xs x

module _ {A F B : Type 0} (said : F → B) (known : List A → B) where
  as-long : (facts : List F) (lists : List (List A)) → map said facts ≡ map known lists → length facts ≡ length lists
  as-long facts lists h = sym (length-map said facts) ∙ ap length h ∙ length-map known lists

  module _ (old new : List (List A)) (at rest : ℕ) (i : A) (put : IsPut old new at i rest) (facts : List F) (x : F)
      (kept : map said facts ≡ map known old) (is : said x ≡ known (i ∷ get_or old rest [])) where
    by : (more : List (List A)) → new ≡ old ++ more → map said (take (length new) (facts ++ x ∷ [])) ≡ map known new
    by [] extended =
        let same = extended ∙ append-nil old in
        let count = ap length same ∙ sym (as-long facts old kept) in
        ap (λ n. map said (take n (facts ++ x ∷ []))) count ∙ ap (map said) (take-append_seam facts (x ∷ [])) ∙ kept ∙ ap (map known) (sym same)
    by (l ∷ []) extended =
        let long = as-long facts old kept in
        let both = length-append old (l ∷ []) in
        let count = ap length extended in
        let here : length old ≡ at = put.alone (length old) (omega arith) (omega (arith, both, count)) in
        let first : l ≡ i ∷ get_or old rest [] = sym (get-last old l) ∙ ap (λ n. get_or n (length old) []) (sym extended) ∙ ap (λ p. get_or new p []) here ∙ put.stands in
        let whole = length-append facts (x ∷ []) in
        let all : length new ≡ length (facts ++ x ∷ []) = omega (arith, long, both, count, whole) in
        ap (λ n. map said (take n (facts ++ x ∷ []))) all ∙ ap (map said) (take-length (facts ++ x ∷ [])) ∙ map-append said facts (x ∷ [])
        ∙ (λ k. kept k ++ is k ∷ []) ∙ ap (λ y. map known old ++ known y ∷ []) (sym first) ∙ sym (map-append known old (l ∷ [])) ∙ ap (map known) (sym extended)
    by (l ∷ m ∷ ls) extended =
        let both = length-append old (l ∷ m ∷ ls) in
        let count = ap length extended in
        let one = put.alone (length old) (omega arith) (omega (arith, both, count)) in
        let other = put.alone (length old + 1) (omega arith) (omega (arith, both, count)) in
        absurd (omega (arith, one, other))

    -- behind one list more, or none
    pub known-put : map said (take (length new) (facts ++ x ∷ [])) ≡ map known new
    known-put = by put.extended.0 put.extended.1

  -- ---- at a position

  head-is : {X : Type 0} {a b : X} {xs ys : List X} → a ∷ xs ≡ b ∷ ys → a ≡ b
  head-is {a = a} h = ap (λ l. elim l as (λ _. _) [ [] ↦ a | x ∷ xs ↦ x ]) h

  tail-is : {X : Type 0} {a b : X} {xs ys : List X} → a ∷ xs ≡ b ∷ ys → xs ≡ ys
  tail-is {xs = xs} h = ap (λ l. elim l as (λ _. List _) [ [] ↦ xs | x ∷ rest ↦ rest ]) h

  some-is : {X : Type 0} {a b : X} → ◌≡◌ {A = Option X} (Some a) (Some b) → a ≡ b
  some-is {a = a} h = ap (λ o. elim o as (λ _. _) [ None ↦ a | Some x ↦ x ]) h

  pub known-at : (facts : List F) (lists : List (List A)) (at : ℕ) (x : F) → map said facts ≡ map known lists → Some x ≡ slice_get facts at
      → said x ≡ known (get_or lists at [])
  known-at [] lists at x kept is = absurd (true≢false (ap is_some is))
  known-at (y ∷ facts) [] at x kept is = let e = ap length kept in absurd (omega (arith, e))
  known-at (y ∷ facts) (l ∷ lists) zero x kept is = ap said (some-is is) ∙ head-is kept
  known-at (y ∷ facts) (l ∷ lists) (suc at) x kept is = known-at facts lists at x (tail-is kept) is

  missing : (facts : List F) (at : ℕ) → None ≡ slice_get facts at → length facts ≤ at
  missing [] at is = omega arith
  missing (y ∷ facts) zero is = absurd (true≢false (sym (ap is_some is)))
  missing (y ∷ facts) (suc at) is = let e = missing facts at is in omega (arith, e)
