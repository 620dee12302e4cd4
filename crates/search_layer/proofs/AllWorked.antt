-- Once each piece was drawn, the positions that stay are those of the first new candidates, and the summaries show the steps of all candidates.
use Rattle.std.proofs.Common.{◌≡◌, ◌≢◌, ℕ, zero, suc, ◌+◌, ◌-◌, ◌*◌, ◌/◌, ◌%◌, ◌<◌, Bool, true, false, cond, ne_eqb, List, [], ◌∷◌, length, get_or, take, drop, sym, refl, ap, subst, ◌∙◌, arith}
use Rattle.std.specs.Prelude.{◌||◌, min, slice_get, Some, All, Contains}
use Rattle.std.specs.Cmp.{IsEquivalence}
use Rattle.std.specs.List.{list_any}
use Rattle.std.specs.Fork.{slice_chunk}
use Rattle.std.proofs.lemmas.List.{get_or-drop, get_or-take, length-take, length-drop}
use Rattle.std.proofs.lemmas.List.Elements.{All-nil, All-append, All-take, All-drop, All-contains_itself, Contains-get_or, Contains-append_left, Contains-append_right}
use Rattle.std.proofs.Math.Nat.{add-mul}
use Rattle.std.proofs.lemmas.Grind.{div_ceil_times}
use Rattle.std.proofs.lemmas.Nat.{mul-le, div_below}
use Rattle.std.proofs.lemmas.Map.Keys.{any_passes_from_place}
use Rattle.std.proofs.lemmas.Map.Steps.{list_any_congr}
use Rattle.std.proofs.lemmas.Option.{slice_get_within}
use mathlib.Core.Logic.{dite}
use native.Mathlib.Decide.{ℕ_discrete}
use Rattle.summary.specs.Graph.{Graph}
use Rattle.summary.specs.Sums.{Join, IsSemilattice, Observation}
use Rattle.shared.specs.Classes.{IsFirsts}
use Rattle.shared.specs.Totals.{times, Stands}
use Rattle.search_layer.specs.declared.visited.Candidate.{Candidate}
use Rattle.search_layer.specs.internal.Search.{with_steps}
use Rattle.search_layer.specs.internal.Work.{in_pieces, have_same_state, IsNew, HasPlaced, AreFirst}
use Rattle.search_layer.proofs.Drawing.{times-cons}
use Rattle.search_layer.proofs.Placing.{in-piece}
use Rattle.search_layer.proofs.StepSums.{same-shown}

pub get-take : {X : Type 0} (n k : ℕ) (xs : List X) → k < n → slice_get (take n xs) k ≡ slice_get xs k
get-take zero k xs low = absurd (omega arith)
get-take (suc n) k [] low = refl
get-take (suc n) zero (x ∷ xs) low = refl
get-take (suc n) (suc k) (x ∷ xs) low = get-take n k xs (omega arith)

pub any-at : {X : Type 0} (test : X → Bool) (xs : List X) → list_any test xs ≡ true → (k : ℕ) × (d : X) × (slice_get xs k ≡ Some d) × (test d ≡ true)
any-at test [] e = absurd (cc)
any-at {X} test (x ∷ xs) e = go (test x) refl (any-at test xs) e
  where
    go : (b : Bool) → test x ≡ b → (list_any test xs ≡ true → (k : ℕ) × (d : X) × (slice_get xs k ≡ Some d) × (test d ≡ true)) → (b || list_any test xs) ≡ true
        → (k : ℕ) × (d : X) × (slice_get (x ∷ xs) k ≡ Some d) × (test d ≡ true)
    go true is rest h = (0, x, refl, is)
    go false is rest h = let r = rest h in (suc r.0, r.1, r.2, r.3)

pub stands-behind : (d k : ℕ) (ds : List ℕ) → d ≢ k → Stands k (d ∷ ds) → Stands k ds
stands-behind d k ds other has =
    let e : times k (d ∷ ds) ≡ 0 + times k ds = times-cons k d ds ∙ ap (λ b. cond b 1 0 + times k ds) (ne_eqb d k other) in omega arith

pub false-unless : (b : Bool) → (b ≡ true → ⊥) → b ≡ false
false-unless true h = absurd (h refl)
false-unless false h = refl

module _ {C L : Type 0} (eq : C → C → Bool) (laws : IsEquivalence eq) (known : List C) (cs : List (Candidate C L)) (size pieces : ℕ) (drawn : List ℕ)
    (some : 0 < size) (each : (k : ℕ) → k < pieces → Stands k drawn) (within : (i : ℕ) → i < length cs → i / size < pieces) where
  pub are-first : (placed firsts : List ℕ) → HasPlaced eq known cs size drawn placed → IsFirsts (have_same_state eq) cs placed firsts → AreFirst eq known cs firsts
  are-first placed firsts h f = record {
    ascending = f.ascending;
    members = λ i. (
      λ has.
          let m = (f.members i).0 has in
          let new = ((h.members i).0 m.0).1 in
          let c = new.0 in (
            c,
            new.1,
            new.2,
            false-unless (list_any (λ (d : Candidate C L). eq c.state d.state) (take i cs)) (λ found.
                let a = any-at (λ (d : Candidate C L). eq c.state d.state) (take i cs) found in
                let d = a.1 in
                let low : a.0 < i = (let w = slice_get_within (take i cs) a.0 d a.2 in let l = length-take i cs in omega arith) in
                let at : slice_get cs a.0 ≡ Some d = sym (get-take i a.0 cs low) ∙ a.2 in
                let fresh : list_any (eq d.state) known ≡ false = sym (list_any_congr laws c.state d.state known a.3) ∙ new.2 in
                m.1 a.0 (placed-if a.0 (d, at, fresh)) low (λ x y p q.
                let u : x ≡ d = (cc) in let v : y ≡ c = (cc (new.1)) in
                (λ k. eq (u k).state (v k).state) ∙ laws.symm d.state c.state ∙ a.3)),
          ),
      λ new.
          let c = new.0 in
          (f.members i).1 (
            placed-if i (c, new.1, new.2),
            λ k has low same.
                let old = ((h.members k).0 has).1 in
                let d = old.0 in
                let e : eq c.state d.state ≡ true = laws.symm c.state d.state ∙ same d c old.1 new.1 in
                let found = any_passes_from_place (λ (x : Candidate C L). eq c.state x.state) (take i cs) k d (get-take i k cs low ∙ old.1) e in
                let clash : true ≡ false = sym found ∙ new.3 in absurd (cc),
          ),
    );
  }
    where
      placed-if : (i : ℕ) → IsNew eq known cs i → Stands i placed
      placed-if i new = (h.members i).1 (each (i / size) (within i (slice_get_within cs i new.0 new.1)), new)

  in-drawn : (ds : List ℕ) (k : ℕ) (c : Candidate C L) → Stands k ds → Contains (slice_chunk cs size k) c → Contains (in_pieces size cs ds) c
  in-drawn [] k c has there = absurd (omega arith)
  in-drawn (d ∷ ds) k c has there = dite (ℕ_discrete d k)
      (λ here. Contains-append_left (slice_chunk cs size d) (in_pieces size cs ds) c (subst (λ n. Contains (slice_chunk cs size n) c) (sym here) there))
      (λ other. Contains-append_right (slice_chunk cs size d) (in_pieces size cs ds) c (in-drawn ds k c (stands-behind d k ds other has) there))

  parts-within : (ds : List ℕ) → All (Contains cs) (in_pieces size cs ds)
  parts-within [] = All-nil (Contains cs)
  parts-within (d ∷ ds) = All-append (Contains cs) (slice_chunk cs size d) (in_pieces size cs ds)
      (All-take (Contains cs) size (drop (d * size) cs) (All-drop (Contains cs) (d * size) cs (All-contains_itself cs))) (parts-within ds)

  all-drawn : All (Contains (in_pieces size cs drawn)) cs
  all-drawn i c low =
      let k = i / size in
      let at = in-piece i size k some refl in
      let off = i - k * size in
      let place : k * size + off ≡ i = (let a = at.0 in omega arith) in
      let near : off < size = (let a = at.0 in let b = at.1 in omega arith) in
      let is : get_or (slice_chunk cs size k) off c ≡ get_or cs i c =
      get_or-take size (drop (k * size) cs) off c near ∙ get_or-drop (k * size) cs off c ∙ ap (λ n. get_or cs n c) place in
      let inside : off < length (slice_chunk cs size k) = (let t = length-take size (drop (k * size) cs) in let d = length-drop (k * size) cs in omega arith) in
      in-drawn drawn k (get_or cs i c) (each k (within i low)) (subst (Contains (slice_chunk cs size k)) is (Contains-get_or (slice_chunk cs size k) off c inside))

  pub all-shown : {B S : Type 0} (j : Join S) (r : Observation B L S) (g : Graph B L) (states : List B) (semilattice : IsSemilattice j)
      → with_steps j r g states j.none (in_pieces size cs drawn) ≡ with_steps j r g states j.none cs
  all-shown j r g states semilattice = same-shown j r g states semilattice (in_pieces size cs drawn) cs (parts-within drawn) all-drawn

-- pieces as many as it takes
pub piece-begins : (n size pieces : ℕ) → 0 < size → pieces ≡ n / size + min 1 (n % size) → (piece : ℕ) → piece < pieces → piece * size < n
piece-begins n size pieces some are piece low =
    let b = div_ceil_times n size some in
    let m : pieces * size ≡ (n / size + min 1 (n % size)) * size = ap (λ k. k * size) are in
    let s = add-mul piece 1 size in
    let l = mul-le (piece + 1) size pieces size (omega arith) (omega arith) in
    let top = b.1 in omega arith

pub piece-within : (n size pieces : ℕ) → 0 < size → pieces ≡ n / size + min 1 (n % size) → (i : ℕ) → i < n → i / size < pieces
piece-within n size pieces some are i low =
    let b = div_ceil_times n size some in
    let m : pieces * size ≡ (n / size + min 1 (n % size)) * size = ap (λ k. k * size) are in
    div_below i size pieces some (let bottom = b.0 in omega arith)
