-- The order of runs.
use Rattle.std.proofs.Common.{◌≡◌, suc, ◌≤◌, List, [], ◌∷◌, ◌++◌, length, sym, refl, ap, subst, ◌∙◌, arith, inl, inr, length-append}
use Rattle.std.specs.Cmp.{IsTotalOrder}
use Rattle.std.specs.Cmp.Lexicographic.{slice_cmp}
use Rattle.std.specs.Ordering.{ordering_then}
use Rattle.std.specs.declared.cmp.Ordering.{Ordering}
use Rattle.std.specs.declared.cmp.Ordering.TheVariants.{Less, Equal, Greater}
use Rattle.std.proofs.lemmas.Cmp.{lists_total, tied_itself}
use Rattle.summary.specs.Run.{Run, Start, Then, steps_of, labels_of, Before, NoLater}

pub steps-are-labels : {L : Type 0} (r : Run L) → length (labels_of r) ≡ steps_of r
steps-are-labels Start = refl
steps-are-labels (Then r l) = simp length-append (omega (arith, steps-are-labels r))

module _ {L : Type 0} (cmp : L → L → Ordering) where
  then-less : (a : Ordering) (o p : Ordering) → ordering_then a o ≡ Less → (o ≡ Less → p ≡ Less) → ordering_then a p ≡ Less
  then-less Less o p e f = refl
  then-less Equal o p e f = f e
  then-less Greater o p e f = e

  -- lists that differ at equal length differ the same way with more behind them
  less-longer : (xs ys : List L) (a b : List L) → length xs ≡ length ys → slice_cmp cmp xs ys ≡ Less → slice_cmp cmp (xs ++ a) (ys ++ b) ≡ Less
  less-longer [] [] a b e h = cc
  less-longer [] (y ∷ ys) a b e h = cc
  less-longer (x ∷ xs) [] a b e h = cc
  less-longer (x ∷ xs) (y ∷ ys) a b e h =
      then-less (cmp x y) (slice_cmp cmp xs ys) _ h (less-longer xs ys a b (omega arith))

  module _ (total : IsTotalOrder cmp) where
    -- a list with the lesser last item comes before
    less-last : (xs : List L) (a b : L) → cmp a b ≡ Less → slice_cmp cmp (xs ++ a ∷ []) (xs ++ b ∷ []) ≡ Less
    less-last [] a b h = ap (λ o. ordering_then o Equal) h
    less-last (x ∷ xs) a b h = ap (λ o. ordering_then o (slice_cmp cmp (xs ++ a ∷ []) (xs ++ b ∷ []))) (tied_itself total x) ∙ less-last xs a b h

    pub before-trans : (r s t : Run L) → Before cmp r s → Before cmp s t → Before cmp r t
    before-trans r s t (inl h) (inl k) = inl (omega arith)
    before-trans r s t (inl h) (inr k) = let e = k.0 in inl (omega arith)
    before-trans r s t (inr h) (inl k) = let e = h.0 in inl (omega arith)
    before-trans r s t (inr h) (inr k) = inr (h.0 ∙ k.0, (lists_total total).trans (labels_of r) (labels_of s) (labels_of t) h.1 k.1)

    pub later-trans : (r s t : Run L) → NoLater cmp r s → NoLater cmp s t → NoLater cmp r t
    later-trans r s t (inl h) (inl k) = inl (before-trans r s t h k)
    later-trans r s t (inl h) (inr k) = inl (subst (Before cmp r) k h)
    later-trans r s t (inr h) k = subst (λ x. NoLater cmp x t) (sym h) k

    -- a step by the same label keeps the order
    pub later-then : (r s : Run L) (l : L) → NoLater cmp r s → NoLater cmp (Then r l) (Then s l)
    later-then r s l (inl (inl h)) = inl (inl (omega arith))
    later-then r s l (inl (inr h)) =
        inl (inr (ap suc h.0, less-longer (labels_of r) (labels_of s) (l ∷ []) (l ∷ []) (steps-are-labels r ∙ h.0 ∙ sym (steps-are-labels s)) h.1))
    later-then r s l (inr h) = inr (ap (λ x. Then x l) h)

    -- as long, and before at once
    pub before-then : (r s : Run L) (l m : L) → steps_of r ≡ steps_of s → Before cmp r s → Before cmp (Then r l) (Then s m)
    before-then r s l m e (inl h) = inl (omega arith)
    before-then r s l m e (inr h) =
        inr (ap suc h.0, less-longer (labels_of r) (labels_of s) (l ∷ []) (m ∷ []) (steps-are-labels r ∙ h.0 ∙ sym (steps-are-labels s)) h.1)

    pub before-label : (r : Run L) (l m : L) → cmp l m ≡ Less → Before cmp (Then r l) (Then r m)
    before-label r l m h = inr (refl, less-last (labels_of r) l m h)

    pub later-short : (r s : Run L) → NoLater cmp r s → steps_of r ≤ steps_of s
    later-short r s (inl (inl h)) = omega arith
    later-short r s (inl (inr h)) = let e = h.0 in omega arith
    later-short r s (inr h) = let e = ap steps_of h in omega arith
