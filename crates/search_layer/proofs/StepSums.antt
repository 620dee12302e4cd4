-- What the steps of candidates show, joined in parts and in any order.
use Rattle.std.proofs.Common.{◌≡◌, ℕ, zero, suc, ◌+◌, ◌-◌, ◌<◌, ◌≤◌, List, [], ◌∷◌, ◌++◌, length, get_or, take, drop, ap, sym, refl, ◌∙◌, inl, inr, append-nil, arith}
use Rattle.std.specs.Prelude.{All, Contains, slice_get, Some}
use Rattle.std.proofs.lemmas.List.{take_more, get_or-drop, length-drop}
use Rattle.std.proofs.lemmas.Option.{slice_get_cases}
use Rattle.std.proofs.lemmas.Grind.{flat_map-append}
use Rattle.std.specs.Fork.{slice_chunk}
use Rattle.search_layer.specs.internal.Work.{in_pieces}
use Rattle.std.proofs.lemmas.List.Elements.{All-head, All-tail}
use Rattle.summary.specs.Graph.{Graph}
use Rattle.summary.specs.Sums.{Join, IsSemilattice, Observation}
use Rattle.search_layer.specs.declared.visited.Candidate.{Candidate}
use Rattle.search_layer.specs.internal.Search.{with_steps}
use Rattle.std.specs.Prelude.{slice_index_or}

module _ {C D L S : Type 0} (j : Join S) (r : Observation C L S) (g : Graph C L) (states : List C) where
  pub steps-append : (s : S) (xs ys : List (Candidate D L)) → with_steps j r g states s (xs ++ ys) ≡ with_steps j r g states (with_steps j r g states s xs) ys
  steps-append s [] ys = refl
  steps-append s (x ∷ xs) ys = steps-append (j.join s (r.by (slice_index_or states x.before g.first) x.label)) xs ys

  -- one candidate more of those from a position on
  pub step-more : (s t u : S) (cs : List (Candidate D L)) (from at : ℕ) → from ≤ at → at < length cs → t ≡ with_steps j r g states s (take (at - from) (drop from cs))
      → ((c : Candidate D L) → slice_get cs at ≡ Some c → u ≡ with_steps j r g states t (c ∷ [])) → u ≡ with_steps j r g states s (take (at + 1 - from) (drop from cs))
  step-more s t u cs from at le low so_far one = elim ((slice_get_cases cs at).1) [
    | inl some ↦ (
        let c = some.0 in
        let n : at + 1 - from ≡ (at - from) + 1 = omega arith in
        let place : from + (at - from) ≡ at = omega arith in
        let is : get_or (drop from cs) (at - from) c ≡ c = get_or-drop from cs (at - from) c ∙ ap (λ k. get_or cs k c) place ∙ some.3 in
        let more : take (at + 1 - from) (drop from cs) ≡ take (at - from) (drop from cs) ++ c ∷ [] =
        ap (λ k. take k (drop from cs)) n ∙ take_more (drop from cs) (at - from) c (let l = length-drop from cs in omega arith) ∙ ap (λ (d : Candidate D L). take (at - from) (drop from cs) ++ d ∷ []) is in
        one c some.2
        ∙ ap (λ v. with_steps j r g states v (c ∷ [])) so_far
        ∙ sym (steps-append s (take (at - from) (drop from cs)) (c ∷ []))
        ∙ ap (with_steps j r g states s) (sym more))
    | inr none ↦ absurd (let k = none.0 in omega arith)
  ]

  -- one piece more
  pub piece-more : (size : ℕ) (cs : List (Candidate D L)) (pieces : List ℕ) (piece : ℕ) (s t : S) → s ≡ with_steps j r g states j.none (in_pieces size cs pieces) → t ≡ with_steps j r g states s (slice_chunk cs size piece)
      → t ≡ with_steps j r g states j.none (in_pieces size cs (pieces ++ piece ∷ []))
  piece-more size cs pieces piece s t so_far one =
      one
      ∙ ap (λ v. with_steps j r g states v (slice_chunk cs size piece)) so_far
      ∙ sym (steps-append j.none (in_pieces size cs pieces) (slice_chunk cs size piece))
      ∙ ap (with_steps j r g states j.none) (ap (λ ds. in_pieces size cs pieces ++ ds) (sym (append-nil (slice_chunk cs size piece))) ∙ sym (flat_map-append (slice_chunk cs size) pieces (piece ∷ [])))

module _ {C D L S : Type 0} (j : Join S) (r : Observation C L S) (g : Graph C L) (states : List C) (laws : IsSemilattice j) where
  abbrev shown_by : Candidate D L → S
  shown_by c = r.by (slice_index_or states c.before g.first) c.label

  abbrev shown_by_all : List (Candidate D L) → S
  shown_by_all cs = with_steps j r g states j.none cs

  -- what candidates show is joined to what was there
  pub steps-join : (s : S) (cs : List (Candidate D L)) → with_steps j r g states s cs ≡ j.join s (shown_by_all cs)
  steps-join s [] = sym (laws.commutes s j.none ∙ laws.unit s)
  steps-join s (c ∷ cs) =
      steps-join (j.join s (shown_by c)) cs
      ∙ laws.associates s (shown_by c) (shown_by_all cs)
      ∙ ap (j.join s) (sym (steps-join (shown_by c) cs) ∙ ap (λ t. with_steps j r g states t cs) (sym (laws.unit (shown_by c))))

  one_more : (c : Candidate D L) (cs : List (Candidate D L)) → shown_by_all (c ∷ cs) ≡ j.join (shown_by c) (shown_by_all cs)
  one_more c cs = ap (λ t. with_steps j r g states t cs) (laws.unit (shown_by c)) ∙ steps-join (shown_by c) cs

  -- a candidate of the list adds nothing
  absorbs : (cs : List (Candidate D L)) (k : ℕ) (c : Candidate D L) → k < length cs → get_or cs k c ≡ c → j.join (shown_by_all cs) (shown_by c) ≡ shown_by_all cs
  absorbs [] k c low is = absurd (omega arith)
  absorbs (d ∷ ds) zero c low is =
      ap (λ x. j.join x (shown_by c)) (one_more d ds)
      ∙ ap (j.join (j.join (shown_by d) (shown_by_all ds))) (ap shown_by (sym is))
      ∙ laws.commutes (j.join (shown_by d) (shown_by_all ds)) (shown_by d)
      ∙ sym (laws.associates (shown_by d) (shown_by d) (shown_by_all ds))
      ∙ ap (λ x. j.join x (shown_by_all ds)) (laws.repeats (shown_by d))
      ∙ sym (one_more d ds)
  absorbs (d ∷ ds) (suc k) c low is =
      ap (λ x. j.join x (shown_by c)) (one_more d ds)
      ∙ laws.associates (shown_by d) (shown_by_all ds) (shown_by c)
      ∙ ap (j.join (shown_by d)) (absorbs ds k c (omega arith) is)
      ∙ sym (one_more d ds)

  absorbs-all : (ds cs : List (Candidate D L)) → All (Contains ds) cs → j.join (shown_by_all ds) (shown_by_all cs) ≡ shown_by_all ds
  absorbs-all ds [] h = laws.commutes (shown_by_all ds) j.none ∙ laws.unit (shown_by_all ds)
  absorbs-all ds (c ∷ cs) h =
      let here = All-head (Contains ds) c cs h in
      ap (j.join (shown_by_all ds)) (one_more c cs)
      ∙ sym (laws.associates (shown_by_all ds) (shown_by c) (shown_by_all cs))
      ∙ ap (λ x. j.join x (shown_by_all cs)) (absorbs ds here.0 c here.1 here.2)
      ∙ absorbs-all ds cs (All-tail (Contains ds) c cs h)

  -- lists of the same candidates show the same, in any order and any number of times
  pub same-shown : (xs ys : List (Candidate D L)) → All (Contains ys) xs → All (Contains xs) ys → shown_by_all xs ≡ shown_by_all ys
  same-shown xs ys h k = sym (absorbs-all xs ys k) ∙ laws.commutes (shown_by_all xs) (shown_by_all ys) ∙ absorbs-all ys xs h
