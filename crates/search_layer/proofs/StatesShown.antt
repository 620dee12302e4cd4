-- What states show, joined one after the other or in parts.
use Rattle.std.proofs.Common.{◌≡◌, ℕ, suc, ◌+◌, ◌-◌, ◌*◌, ◌<◌, ◌≤◌, List, [], ◌∷◌, ◌++◌, length, get_or, take, drop, map, ap, sym, subst, ◌∙◌, arith}
use Rattle.std.proofs.lemmas.List.{take_all, take_more, take-take, drop-drop, drop-take, take-append-drop, map-append, get_or-drop, length-drop, get_or-map, length-map}
use mathlib.Core.Logic.{dite}
use native.Mathlib.Decide.{dec_le}
use Rattle.std.specs.Prelude.{min, Ok, Result, IfOk}
use Rattle.std.specs.declared.alloc.AllocError.{AllocError}
use Rattle.std.proofs.Math.Nat.{min-eq_left, min-eq_right}
use Rattle.summary.specs.Sums.{Join, IsSemilattice, Observation, join_all}
use Rattle.search_layer.specs.internal.Search.{with_states}
use Rattle.std.specs.Fork.{slice_chunk}

module _ {S : Type 0} (j : Join S) (laws : IsSemilattice j) where
  joined : (xs ys : List S) → join_all j (xs ++ ys) ≡ j.join (join_all j xs) (join_all j ys)
  joined [] ys = sym (laws.unit (join_all j ys))
  joined (x ∷ xs) ys = ap (j.join x) (joined xs ys) ∙ sym (laws.associates x (join_all j xs) (join_all j ys))

  alone : (x : S) → join_all j (x ∷ []) ≡ x
  alone x = laws.commutes x j.none ∙ laws.unit x

  -- one more
  pub join-one-more : (s t u : S) (xs : List S) (x : S) → s ≡ join_all j xs → t ≡ x → u ≡ j.join s t → u ≡ join_all j (xs ++ x ∷ [])
  join-one-more s t u xs x so_far one is = is ∙ (λ i. j.join (so_far i) ((one ∙ sym (alone x)) i)) ∙ sym (joined xs (x ∷ []))

  module _ {C L : Type 0} (r : Observation C L S) where
    -- what states show is joined to what was there
    pub states-shown : (s : S) (states : List C) → with_states j r s states ≡ j.join s (join_all j (map r.at states))
    states-shown s [] = sym (laws.commutes s j.none ∙ laws.unit s)
    states-shown s (c ∷ cs) = states-shown (j.join s (r.at c)) cs ∙ laws.associates s (r.at c) (join_all j (map r.at cs))

    -- one state more of those from a place on
    pub state-more : (s t u : S) (states : List C) (from at : ℕ) (state : C) → from ≤ at → at < length states → ((d : C) → get_or states at d ≡ state)
        → s ≡ join_all j (map r.at (take (at - from) (drop from states))) → t ≡ r.at state → u ≡ j.join s t
        → u ≡ join_all j (map r.at (take (at + 1 - from) (drop from states)))
    state-more s t u states from at state le low stands so_far one is =
        let n : at + 1 - from ≡ (at - from) + 1 = omega arith in
        let place : from + (at - from) ≡ at = omega arith in
        let here : get_or (drop from states) (at - from) state ≡ state = get_or-drop from states (at - from) state ∙ ap (λ k. get_or states k state) place ∙ stands state in
        let split : take (at + 1 - from) (drop from states) ≡ take (at - from) (drop from states) ++ state ∷ [] =
        ap (λ k. take k (drop from states)) n ∙ take_more (drop from states) (at - from) state (let l = length-drop from states in omega arith) ∙ ap (λ (d : C). take (at - from) (drop from states) ++ d ∷ []) here in
        join-one-more s t u (map r.at (take (at - from) (drop from states))) (r.at state) so_far one is
        ∙ ap (join_all j) (sym (map-append r.at (take (at - from) (drop from states)) (state ∷ [])) ∙ ap (map r.at) (sym split))

    take-two : (n m : ℕ) (xs : List C) → take (n + m) xs ≡ take n xs ++ take m (drop n xs)
    take-two n m xs = sym (take-append-drop n (take (n + m) xs)) ∙ (λ i. take-take n (n + m) xs (omega arith) i ++ drop-take n m xs i)

    -- what parts of the states show
    parts-shown : (size : ℕ) (states : List C) (parts : List S) → ((p : ℕ) (d : S) → p < length parts → get_or parts p d ≡ join_all j (map r.at (slice_chunk states size p)))
        → join_all j parts ≡ join_all j (map r.at (take (length parts * size) states))
    parts-shown size states [] each = let none : 0 ≡ 0 * size = omega arith in ap (λ n. join_all j (map r.at (take n states))) none
    parts-shown size states (y ∷ ys) each =
        let none : 0 * size ≡ 0 = omega arith in
        let first : y ≡ join_all j (map r.at (take size states)) = each 0 y (omega arith) ∙ ap (λ n. join_all j (map r.at (take size (drop n states)))) none in
        let rest : join_all j ys ≡ join_all j (map r.at (take (length ys * size) (drop size states))) =
        parts-shown size (drop size states) ys (λ p d low. each (suc p) d (omega arith) ∙ ap (λ cs. join_all j (map r.at (take size cs))) (let e : suc p * size ≡ size + p * size = omega arith in ap (λ n. drop n states) e ∙ sym (drop-drop (p * size) size states))) in
        let n : suc (length ys) * size ≡ size + length ys * size = omega arith in
        (λ i. j.join (first i) (rest i))
        ∙ sym (joined (map r.at (take size states)) (map r.at (take (length ys * size) (drop size states))))
        ∙ ap (join_all j) (sym (map-append r.at (take size states) (take (length ys * size) (drop size states)))
        ∙ ap (map r.at) (sym (take-two size (length ys * size) states) ∙ ap (λ k. take k states) (sym n)))

    pub all-parts-shown : (size : ℕ) (states : List C) (parts : List S) → length states ≤ length parts * size
        → ((p : ℕ) (d : S) → p < length parts → get_or parts p d ≡ join_all j (map r.at (slice_chunk states size p)))
        → join_all j parts ≡ join_all j (map r.at states)
    all-parts-shown size states parts enough each =
        parts-shown size states parts each ∙ ap (λ cs. join_all j (map r.at cs)) (take_all (length parts * size) states enough)

-- a part, by the places between which its states stand
pub part-between : {C : Type 0} (xs : List C) (from size part start end : ℕ) → start ≡ from + part * size → start ≤ length xs → end ≡ start + min size (length xs - start)
    → take (end - start) (drop start xs) ≡ slice_chunk (drop from xs) size part
part-between xs from size part start end begins low ends =
    let count : end - start ≡ min size (length xs - start) = omega arith in
    let left : length (drop start xs) ≡ length xs - start = length-drop start xs in
    let most : take (min size (length xs - start)) (drop start xs) ≡ take size (drop start xs) = dite (dec_le size (length xs - start))
    (λ le. ap (λ n. take n (drop start xs)) (min-eq_left le))
    (λ more. let fits : length xs - start ≤ size = omega arith in
    ap (λ n. take n (drop start xs)) (min-eq_right fits) ∙ take_all (length xs - start) (drop start xs) (omega arith) ∙ sym (take_all size (drop start xs) (omega arith))) in
    ap (λ n. take n (drop start xs)) count ∙ most ∙ ap (λ n. take size (drop n xs)) begins ∙ ap (take size) (sym (drop-drop (part * size) from xs))

-- the parts that were shown are as many as answers
pub as_many : {S : Type 0} (parts : List (Result S AllocError)) (shown : List S) → parts ≡ map Ok shown → length shown ≡ length parts
as_many parts shown are = sym (ap length are ∙ length-map shown Ok)

-- what holds of each answer
pub ok-parts : {S : Type 0} (f : ℕ → S) (parts : List (Result S AllocError)) (shown : List S) → parts ≡ map Ok shown
    → ((p : ℕ) (d : Result S AllocError) → p < length parts → IfOk (get_or parts p d) (λ s. s ≡ f p)) → (p : ℕ) (d : S) → p < length shown → get_or shown p d ≡ f p
ok-parts f parts shown are each p d low =
    subst (λ r. IfOk r (λ s. s ≡ f p)) (ap (λ rs. get_or rs p (Ok d)) are ∙ get_or-map Ok shown p d (Ok d) low)
    (each p (Ok d) (let n = as_many parts shown are in omega arith))
