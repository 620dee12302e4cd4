-- The order of runs by ordinals is their order by labels.
use Rattle.std.proofs.Common.{◌≡◌, ℕ, zero, suc, ◌<◌, List, [], ◌∷◌, ◌++◌, length, get_or, Option, refl, sym, ap, subst, ◌∙◌, arith, inl, inr, length-append}
use Rattle.std.specs.Prelude.{AllPairs}
use Rattle.std.specs.Cmp.{IsTotalOrder, ranked}
use Rattle.std.specs.Cmp.Lexicographic.{slice_cmp}
use Rattle.std.specs.Ordering.{is_eq, is_lt, nat_cmp, ordering_then}
use Rattle.std.specs.declared.cmp.Ordering.{Ordering}
use Rattle.std.specs.declared.cmp.Ordering.TheVariants.{Less, Equal, Greater}
use Rattle.std.proofs.Common.{true≢false}
use Rattle.std.proofs.lemmas.Cmp.{lists_total, tied_itself}
use Rattle.search_ordinals.proofs.Runs.{is-run, one-run, nth-one, same-steps}
use Rattle.search_ordinals.specs.OrdinalLaws.{nth_below}
use Rattle.search_ordinals.specs.OrdinalOrder.{ordinal_cmp}
use Rattle.search_ordinals.specs.Told.{IsNth, IsTold}
use Rattle.search_ordinals.specs.declared.ordinal.Ordinal.{Ordinal}
use Rattle.summary.specs.Graph.{Graph}
use Rattle.summary.specs.Run.{Before, IsRun, NoLater, Run, Start, Then, end_of, labels_of, steps_of}

-- ---- orderings

not-less : Equal ≡ Less → ⊥
not-less e = true≢false (sym (ap is_lt e))

greater-not-less : Greater ≡ Less → ⊥
greater-not-less e = true≢false (sym (ap is_lt e))

less-not-equal : Less ≡ Equal → ⊥
less-not-equal e = true≢false (sym (ap is_eq e))

greater-not-equal : Greater ≡ Equal → ⊥
greater-not-equal e = true≢false (sym (ap is_eq e))

first-less : (o : Ordering) → ordering_then o Equal ≡ Less → o ≡ Less
first-less Less e = refl
first-less Equal e = e
first-less Greater e = e

first-equal : (o p : Ordering) → ordering_then o p ≡ Equal → (o ≡ Equal) × (p ≡ Equal)
first-equal Less p e = absurd (less-not-equal e)
first-equal Equal p e = (refl, e)
first-equal Greater p e = absurd (greater-not-equal e)

regroup : (o p q : Ordering) → ordering_then o (ordering_then p q) ≡ ordering_then (ordering_then o p) q
regroup Less p q = refl
regroup Equal p q = refl
regroup Greater p q = refl

-- ---- numbers

number-less : (m n : ℕ) → nat_cmp m n ≡ Less → m < n
number-less m n e = ranked m n Less (sym e)

number-equal : (m n : ℕ) → nat_cmp m n ≡ Equal → m ≡ n
number-equal m n e = ranked m n Equal (sym e)

-- ---- lists, from their last items

module _ {A : Type 0} (cmp : A → A → Ordering) where
  pub by-last : (xs ys : List A) (x y : A) → length xs ≡ length ys → slice_cmp cmp (xs ++ x ∷ []) (ys ++ y ∷ []) ≡ ordering_then (slice_cmp cmp xs ys) (ordering_then (cmp x y) Equal)
  by-last [] [] x y same = refl
  by-last [] (b ∷ ys) x y same = absurd (omega (arith, same))
  by-last (a ∷ xs) [] x y same = absurd (omega (arith, same))
  by-last (a ∷ xs) (b ∷ ys) x y same =
      ap (ordering_then (cmp a b)) (by-last xs ys x y (omega (arith, same)))
      ∙ regroup (cmp a b) (slice_cmp cmp xs ys) (ordering_then (cmp x y) Equal)

pub as-long : {L : Type 0} (run : Run L) → length (labels_of run) ≡ steps_of run
as-long Start = refl
as-long (Then run label) = simp length-append (omega (arith, as-long run))

-- ---- an item that comes later in a list is greater

module _ {A : Type 0} where
  nth-get : (xs : List A) (n : ℕ) (x d : A) → IsNth xs n x → get_or xs n d ≡ x
  nth-get [] n x d h = absurd h
  nth-get (y ∷ ys) zero x d h = h
  nth-get (y ∷ ys) (suc n) x d h = nth-get ys n x d h

  pub later-greater : (R : A → A → Type 0) (xs : List A) (m n : ℕ) (x y : A) → AllPairs R xs → IsNth xs m x → IsNth xs n y → m < n → R x y
  later-greater R xs m n x y up h k less =
      subst (λ (z : A). R z y) (nth-get xs m x x h) (subst (λ (z : A). R (get_or xs m x) z) (nth-get xs n y x k) (up m n x less (nth_below xs n y k)))

-- ---- runs

module _ {C L B : Type 0} (branch : C → L → Option B) (g : Graph C L) (cmp : L → L → Ordering) (total : IsTotalOrder cmp)
    (ascends : (run : Run L) → IsRun g run → AllPairs (λ l m. cmp l m ≡ Less) (g.enabled (end_of g run))) where
  abbrev told-cmp : Ordinal B → Ordinal B → Ordering
  told-cmp = ordinal_cmp

  told-long : (told other : Run (Ordinal B)) → steps_of told ≡ steps_of other → length (labels_of told) ≡ length (labels_of other)
  told-long told other same = as-long told ∙ same ∙ sym (as-long other)

  -- ordinals that tie tell one run
  pub tied-runs : (r s : Run L) (o p : Run (Ordinal B)) → IsTold branch g r o → IsTold branch g s p → steps_of o ≡ steps_of p
      → slice_cmp told-cmp (labels_of o) (labels_of p) ≡ Equal → r ≡ s
  tied-runs Start Start o p is also same tie = refl
  tied-runs Start (Then s m) Start Start is also same tie = absurd also
  tied-runs Start (Then s m) Start (Then p b) is also same tie = absurd (omega (arith, same))
  tied-runs Start (Then s m) (Then o a) p is also same tie = absurd is
  tied-runs (Then r l) Start Start p is also same tie = absurd is
  tied-runs (Then r l) Start (Then o a) Start is also same tie = absurd (omega (arith, same))
  tied-runs (Then r l) Start (Then o a) (Then p b) is also same tie = absurd also
  tied-runs (Then r l) (Then s m) Start p is also same tie = absurd is
  tied-runs (Then r l) (Then s m) (Then o a) Start is also same tie = absurd also
  tied-runs (Then r l) (Then s m) (Then o a) (Then p b) is also same tie =
      let short : steps_of o ≡ steps_of p = omega (arith, same) in
      let ties = first-equal (slice_cmp told-cmp (labels_of o) (labels_of p)) (ordering_then (told-cmp a b) Equal)
      (sym (by-last told-cmp (labels_of o) (labels_of p) a b (told-long o p short)) ∙ tie) in
      let before = tied-runs r s o p is.0 also.0 short ties.0 in
      let number : b.nth ≡ a.nth = sym (number-equal a.nth b.nth (first-equal (told-cmp a b) Equal ties.1).0) in
      let there : IsNth (g.enabled (end_of g r)) a.nth m =
      subst (λ (n : ℕ). IsNth (g.enabled (end_of g r)) n m) number (subst (λ (t : Run L). IsNth (g.enabled (end_of g t)) b.nth m) (sym before) also.1) in
      λ i. Then (before i) (nth-one (g.enabled (end_of g r)) a.nth l m is.1 there i)

  -- of ordinals the lesser tell the lesser run
  pub lesser-runs : (r s : Run L) (o p : Run (Ordinal B)) → IsTold branch g r o → IsTold branch g s p → steps_of o ≡ steps_of p
      → slice_cmp told-cmp (labels_of o) (labels_of p) ≡ Less → slice_cmp cmp (labels_of r) (labels_of s) ≡ Less
  lesser-runs Start s Start Start is also same less = absurd (not-less less)
  lesser-runs Start s Start (Then p b) is also same less = absurd (omega (arith, same))
  lesser-runs Start s (Then o a) p is also same less = absurd is
  lesser-runs (Then r l) Start Start p is also same less = absurd is
  lesser-runs (Then r l) Start (Then o a) Start is also same less = absurd (omega (arith, same))
  lesser-runs (Then r l) Start (Then o a) (Then p b) is also same less = absurd also
  lesser-runs (Then r l) (Then s m) Start p is also same less = absurd is
  lesser-runs (Then r l) (Then s m) (Then o a) Start is also same less = absurd also
  lesser-runs (Then r l) (Then s m) (Then o a) (Then p b) is also same less =
      let short : steps_of o ≡ steps_of p = omega (arith, same) in
      let long : length (labels_of r) ≡ length (labels_of s) =
      as-long r ∙ sym (same-steps branch g r o is.0) ∙ short ∙ same-steps branch g s p also.0 ∙ sym (as-long s) in
      by-last cmp (labels_of r) (labels_of s) l m long
      ∙ by-front (slice_cmp told-cmp (labels_of o) (labels_of p)) (λ front. lesser-runs r s o p is.0 also.0 short front) (λ front. tied-runs r s o p is.0 also.0 short front) refl
      (sym (by-last told-cmp (labels_of o) (labels_of p) a b (told-long o p short)) ∙ less)
    where
      last-less : r ≡ s → told-cmp a b ≡ Less → cmp l m ≡ Less
      last-less before e =
          later-greater (λ x y. cmp x y ≡ Less) (g.enabled (end_of g r)) a.nth b.nth l m (ascends r (is-run branch g r o is.0)) is.1
          (subst (λ (t : Run L). IsNth (g.enabled (end_of g t)) b.nth m) (sym before) also.1) (number-less a.nth b.nth e)

      by-front : (q : Ordering) → (q ≡ Less → slice_cmp cmp (labels_of r) (labels_of s) ≡ Less) → (q ≡ Equal → r ≡ s) → q ≡ q → ordering_then q (ordering_then (told-cmp a b) Equal) ≡ Less
          → ordering_then (slice_cmp cmp (labels_of r) (labels_of s)) (ordering_then (cmp l m) Equal) ≡ Less
      by-front Less front tie _ e = ap (λ q. ordering_then q (ordering_then (cmp l m) Equal)) (front refl)
      by-front Equal front tie _ e =
          let before = tie refl in
          let same-labels : slice_cmp cmp (labels_of r) (labels_of s) ≡ Equal =
          ap (λ (t : Run L). slice_cmp cmp (labels_of r) (labels_of t)) (sym before) ∙ tied_itself (lists_total total) (labels_of r) in
          (λ i. ordering_then (same-labels i) (ordering_then (last-less before (first-less (told-cmp a b) e) i) Equal))
      by-front Greater front tie _ e = absurd (greater-not-less e)

  -- a run of ordinals that comes before tells a run that comes before
  pub comes-before : (r s : Run L) (o p : Run (Ordinal B)) → IsTold branch g r o → IsTold branch g s p → Before told-cmp o p → Before cmp r s
  comes-before r s o p is also (inl shorter) = inl (omega (arith, same-steps branch g r o is, same-steps branch g s p also, shorter))
  comes-before r s o p is also (inr first) =
      inr (sym (same-steps branch g r o is) ∙ first.0 ∙ same-steps branch g s p also, lesser-runs r s o p is also first.0 first.1)

  -- a run of ordinals that comes no later tells a run that comes no later
  pub no-later : (r s : Run L) (o p : Run (Ordinal B)) → IsTold branch g r o → IsTold branch g s p → NoLater told-cmp o p → NoLater cmp r s
  no-later r s o p is also (inl first) = inl (comes-before r s o p is also first)
  no-later r s o p is also (inr same) = inr (one-run branch g r s p (subst (λ (t : Run (Ordinal B)). IsTold branch g r t) same is) also)
