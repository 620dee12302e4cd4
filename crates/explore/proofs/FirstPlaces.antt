-- The first state with each mark, as one state more is seen.
use Rattle.std.proofs.Common.{◌≡◌, ◌≢◌, ℕ, ◌<◌, true, false, List, [], ◌∷◌, ◌++◌, length, sym, ap, ◌∙◌, subst, arith, inl, inr, get_or, set, length-append, length-set}
use Rattle.std.specs.Prelude.{Option, None, Some, is_some}
use Rattle.std.proofs.Math.Seq.{get_or-append_seam}
use Rattle.std.proofs.lemmas.Bool.Decides.{eqb_tells}
use Rattle.std.proofs.lemmas.List.{get_or_append_left, get_or-set_same, get_or-set_other}
use Rattle.std.proofs.lemmas.List.Elements.{All-get_or, All-push}
use Rattle.summary.specs.Graph.{Graph}
use Rattle.explore.specs.internal.Tied.{IsFirstMarked, IsPlaceOf, AreFirstMarked}

module _ {C L : Type 0} (g : Graph C L) where
  grown : (xs : List C) (x : C) (mark place : ℕ) → IsFirstMarked g mark xs place → IsFirstMarked g mark (xs ++ x ∷ []) place
  grown xs x mark place f = record {
    within = omega (arith, length-append xs (x ∷ []), f.within);
    marked = λ d. ap g.mark (get_or_append_left xs (x ∷ []) d place f.within) ∙ f.marked d;
    first = λ k d less e. f.first k d less (sym (ap g.mark (get_or_append_left xs (x ∷ []) d k (omega (arith, less, f.within)))) ∙ e);
  }

  -- a state with another mark or none
  passed : (xs : List C) (x : C) (mark : ℕ) (o : Option ℕ) → g.mark x ≢ Some mark → IsPlaceOf g xs mark o → IsPlaceOf g (xs ++ x ∷ []) mark o
  passed xs x mark None other h = All-push (λ state. g.mark state ≢ Some mark) xs x h other
  passed xs x mark (Some place) other h = grown xs x mark place h

  -- a state whose mark has a place
  known : (xs : List C) (x : C) (mark : ℕ) (o : Option ℕ) → is_some o ≡ true → IsPlaceOf g xs mark o → IsPlaceOf g (xs ++ x ∷ []) mark o
  known xs x mark None is h = cc
  known xs x mark (Some place) is h = grown xs x mark place h

  -- a state whose mark has no place before
  now-first : (xs : List C) (x : C) (mark : ℕ) (o : Option ℕ) (place : ℕ) → length xs ≡ place → is_some o ≡ false → g.mark x ≡ Some mark → IsPlaceOf g xs mark o → IsPlaceOf g (xs ++ x ∷ []) mark (Some place)
  now-first xs x mark None place count is marked none = record {
    within = omega (arith, length-append xs (x ∷ []), count);
    marked = λ d. rw (← count) (ap g.mark (get_or-append_seam xs x [] d) ∙ marked);
    first = λ k d less e.
        let within : k < length xs = omega (arith, less, count) in
        All-get_or (λ state. g.mark state ≢ Some mark) xs k d within none (sym (ap g.mark (get_or_append_left xs (x ∷ []) d k within)) ∙ e);
  }
  now-first xs x mark (Some earlier) place count is marked none = cc

  pub unmarked-more : (xs : List C) (x : C) (places : List (Option ℕ)) → ((mark : ℕ) → g.mark x ≢ Some mark)
      → AreFirstMarked g xs places → AreFirstMarked g (xs ++ x ∷ []) places
  unmarked-more xs x places unmarked a = record {
    eight = a.eight;
    each = λ mark below. passed xs x mark (get_or places mark None) (unmarked mark) (a.each mark below);
  }

  pub known-more : (xs : List C) (x : C) (places : List (Option ℕ)) (seen : ℕ) → g.mark x ≡ Some seen → is_some (get_or places seen None) ≡ true
      → AreFirstMarked g xs places → AreFirstMarked g (xs ++ x ∷ []) places
  known-more xs x places seen marked has a = record {
    eight = a.eight;
    each = λ mark below. elim (eqb_tells mark seen) [
      | inl same ↦ known xs x mark (get_or places mark None) (ap (λ m. is_some (get_or places m None)) same.1 ∙ has) (a.each mark below)
      | inr other ↦ passed xs x mark (get_or places mark None) (λ e. other.1 (cc (marked, e))) (a.each mark below)
    ];
  }

  pub first-more : (xs : List C) (x : C) (places : List (Option ℕ)) (seen place : ℕ) → length xs ≡ place → g.mark x ≡ Some seen → is_some (get_or places seen None) ≡ false
      → AreFirstMarked g xs places → AreFirstMarked g (xs ++ x ∷ []) (set places seen (Some place))
  first-more xs x places seen place count marked hasnt a = record {
    eight = length-set places seen (Some place) ∙ a.eight;
    each = λ mark below. elim (eqb_tells mark seen) [
      | inl same ↦
          subst (IsPlaceOf g (xs ++ x ∷ []) mark) (sym (ap (λ m. get_or (set places seen (Some place)) m None) same.1 ∙ get_or-set_same places seen (Some place) None (omega (arith, below, same.1, a.eight))))
          (now-first xs x mark (get_or places mark None) place count (ap (λ m. is_some (get_or places m None)) same.1 ∙ hasnt) (marked ∙ ap Some (sym same.1)) (a.each mark below))
      | inr other ↦
          subst (IsPlaceOf g (xs ++ x ∷ []) mark) (sym (get_or-set_other places seen mark (Some place) None other.1))
          (passed xs x mark (get_or places mark None) (λ e. other.1 (cc (marked, e))) (a.each mark below))
    ];
  }
