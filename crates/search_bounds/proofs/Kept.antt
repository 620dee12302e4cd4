-- When a label may be taken.
use Rattle.std.proofs.Common.{◌≡◌, ℕ, zero, suc, ◌-◌, ◌<◌, Bool, true, false, ◌&&◌, not, List, Option, Some, None, option_map, refl, sym, ap, subst, ◌∙◌, arith, if◌then◌else◌, true≢false}
use Rattle.std.specs.Prelude.{Contains, IsTrue}
use Rattle.std.proofs.lemmas.Bool.{and_from, and_parts, false_from_ne_true, not-true, not_from_false}
use Rattle.std.proofs.lemmas.List.Folds.{Any-from_list_any, list_any-from_Any}
use Rattle.search_bounds.proofs.Filters.{kept, passed}
use Rattle.search_bounds.specs.Bounded.{allowed, any_statement, is_one_left, left_after, may_expire, may_take}
use Rattle.search_bounds.specs.BoundedLaws.{was_enabled}
use Rattle.search_bounds.specs.KeptRuns.{IsAtMost, NoStatement, is_expiry, is_statement}
use Rattle.search_bounds.specs.declared.kind.Kind.{Kind}
use Rattle.search_bounds.specs.declared.kind.Kind.TheVariants.{Expiry, Other, Statement}

-- ---- kinds

statement-is : (kind : Kind) → is_statement kind ≡ true → kind ≡ Statement
statement-is Statement h = refl
statement-is Expiry h = absurd (true≢false (sym h))
statement-is Other h = absurd (true≢false (sym h))

is-statement : (kind : Kind) → kind ≡ Statement → is_statement kind ≡ true
is-statement kind e = ap is_statement e

expiry-is : (kind : Kind) → is_expiry kind ≡ true → kind ≡ Expiry
expiry-is Statement h = absurd (true≢false (sym h))
expiry-is Expiry h = refl
expiry-is Other h = absurd (true≢false (sym h))

take-at-expiry : (expire : Bool) (kind : Kind) → may_take expire kind ≡ true → kind ≡ Expiry → expire ≡ true
take-at-expiry expire kind may e = subst (λ (k : Kind). may_take expire k ≡ true) e may

taken : (expire : Bool) (kind : Kind) → (kind ≡ Expiry → expire ≡ true) → may_take expire kind ≡ true
taken expire Statement may = refl
taken expire Expiry may = may refl
taken expire Other may = refl

-- ---- numbers of expiries

pub left-step : (kind : Kind) (most : Option ℕ) (n : ℕ) → left_after kind (option_map (λ k. k - n) most) ≡ option_map (λ k. k - (if is_expiry kind then suc n else n)) most
left-step Statement most n = refl
left-step Expiry None n = refl
left-step Expiry (Some k) n = ap Some (let step : (k - n) - 1 ≡ k - suc n = omega arith in step)
left-step Other most n = refl

pub left-first : (most : Option ℕ) → most ≡ option_map (λ k. k - 0) most
left-first None = refl
left-first (Some k) = ap Some (let step : k ≡ k - 0 = omega arith in step)

one-left : (left : ℕ) → is_one_left (Some left) ≡ true → 0 < left
one-left zero h = absurd (true≢false (sym h))
one-left (suc left) h = omega arith

is-one-left : (left : ℕ) → 0 < left → is_one_left (Some left) ≡ true
is-one-left zero h = absurd (let no : ⊥ = omega arith in no)
is-one-left (suc left) h = refl

more-fits : (most : Option ℕ) (n : ℕ) → is_one_left (option_map (λ k. k - n) most) ≡ true → IsAtMost most (suc n)
more-fits None n h = tt
more-fits (Some k) n h = let left : 0 < k - n = one-left (k - n) h in omega arith

fits-more : (most : Option ℕ) (n : ℕ) → IsAtMost most (suc n) → is_one_left (option_map (λ k. k - n) most) ≡ true
fits-more None n h = refl
fits-more (Some k) n h = is-one-left (k - n) (omega (arith, h))

pub few-first : (most : Option ℕ) → IsAtMost most 0
few-first None = tt
few-first (Some k) = omega arith

pub few-behind : (kind : Kind) (most : Option ℕ) (n : ℕ) → IsAtMost most n → (kind ≡ Expiry → IsAtMost most (suc n)) → IsAtMost most (if is_expiry kind then suc n else n)
few-behind Statement most n before here = before
few-behind Expiry most n before here = here refl
few-behind Other most n before here = before

fewer : (most : Option ℕ) (n : ℕ) → IsAtMost most (suc n) → IsAtMost most n
fewer None n h = tt
fewer (Some k) n h = omega (arith, h)

pub few-before : (kind : Kind) (most : Option ℕ) (n : ℕ) → IsAtMost most (if is_expiry kind then suc n else n) → IsAtMost most n
few-before Statement most n h = h
few-before Expiry most n h = fewer most n h
few-before Other most n h = h

pub few-here : (kind : Kind) (most : Option ℕ) (n : ℕ) → IsAtMost most (if is_expiry kind then suc n else n) → kind ≡ Expiry → IsAtMost most (suc n)
few-here kind most n h e = subst (λ (k : Kind). IsAtMost most (if is_expiry k then suc n else n)) e h

-- ---- statements

module _ {L : Type 0} (kind_of : L → Kind) (labels : List L) where
  none-found : any_statement kind_of labels ≡ false → NoStatement kind_of labels
  none-found none label found e =
      true≢false (sym (list_any-from_Any (λ l. is_statement (kind_of l)) labels (found.0, label, found.1, found.2, is-statement (kind_of label) e)) ∙ none)

  found-none : NoStatement kind_of labels → any_statement kind_of labels ≡ false
  found-none none = false_from_ne_true (any_statement kind_of labels) (λ some.
      let at = Any-from_list_any (λ l. is_statement (kind_of l)) labels some in
      none at.1 (at.0, at.2, at.3) (statement-is (kind_of at.1) at.4))

  -- ---- patience

  waited : (patient : Bool) → not (patient && any_statement kind_of labels) ≡ true → IsTrue patient → NoStatement kind_of labels
  waited patient h is = none-found (subst (λ (p : Bool). (p && any_statement kind_of labels) ≡ false) is (not-true (patient && any_statement kind_of labels) h))

  waits : (patient : Bool) → (IsTrue patient → NoStatement kind_of labels) → not (patient && any_statement kind_of labels) ≡ true
  waits true none = not_from_false (any_statement kind_of labels) (found-none (none refl))
  waits false none = refl

  -- ---- labels that may be taken

  module _ (patient : Bool) (most : Option ℕ) (n : ℕ) (label : L) where
    abbrev here : Option ℕ
    here = option_map (λ k. k - n) most

    abbrev expire : Bool
    expire = may_expire patient here (any_statement kind_of labels)

    abbrev test : L → Bool
    test l = may_take expire (kind_of l)

    pub enabled-before : Contains (allowed patient kind_of here labels) label → Contains labels label
    enabled-before found = was_enabled test labels label found

    expires : Contains (allowed patient kind_of here labels) label → kind_of label ≡ Expiry → expire ≡ true
    expires found e = take-at-expiry expire (kind_of label) (passed test labels label found) e

    pub few-enough : Contains (allowed patient kind_of here labels) label → kind_of label ≡ Expiry → IsAtMost most (suc n)
    few-enough found e = more-fits most n (and_parts (is_one_left here) (not (patient && any_statement kind_of labels)) (expires found e)).0

    pub none-waits : Contains (allowed patient kind_of here labels) label → IsTrue patient → kind_of label ≡ Expiry → NoStatement kind_of labels
    none-waits found is e = waited patient (and_parts (is_one_left here) (not (patient && any_statement kind_of labels)) (expires found e)).1 is

    pub may-be-taken : Contains labels label → (kind_of label ≡ Expiry → IsAtMost most (suc n)) → (IsTrue patient → kind_of label ≡ Expiry → NoStatement kind_of labels)
        → Contains (allowed patient kind_of here labels) label
    may-be-taken found few none = kept test labels label found (taken expire (kind_of label) (λ e.
        and_from (is_one_left here) (not (patient && any_statement kind_of labels)) (fits-more most n (few e)) (waits patient (λ is. none is e))))
