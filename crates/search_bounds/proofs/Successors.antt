-- Labels that may be taken, each with the state that it leads to.
use Rattle.std.proofs.Common.{◌≡◌, ℕ, Bool, true, false, cond, ◌||◌, List, [], ◌∷◌, ◌++◌, map, Option, refl, sym, ap, ◌∙◌, if◌then◌else◌}
use Rattle.std.specs.List.{filter, list_any}
use Rattle.std.proofs.lemmas.List.{map-append}
use Rattle.std.proofs.lemmas.List.Elements.{filter-append}
use Rattle.search_bounds.specs.Bounded.{allowed, any_statement, bounded, left_after, may_expire, may_take}
use Rattle.search_bounds.specs.KeptRuns.{is_statement}
use Rattle.search_bounds.specs.declared.bound.Bound.{Bound}
use Rattle.search_bounds.specs.declared.kind.Kind.{Kind}
use Rattle.search_bounds.specs.declared.state.Bounded.{Bounded}
use Rattle.summary.specs.Graph.{Graph, with_after}

pub map-itself : {A : Type 0} (xs : List A) → map (λ x. x) xs ≡ xs
map-itself [] = refl
map-itself (x ∷ xs) = ap (λ ys. x ∷ ys) (map-itself xs)

-- one more item, if it is wanted
pub filter-more : {A : Type 0} (test : A → Bool) (xs : List A) (x : A) (wanted : Bool) → wanted ≡ test x → filter test xs ++ (if wanted then x ∷ [] else []) ≡ filter test (xs ++ x ∷ [])
filter-more test xs x wanted is = ap (λ b. filter test xs ++ cond b (x ∷ []) []) is ∙ sym (filter-append test xs (x ∷ []))

map-one : {A B : Type 0} (f : A → B) (x : A) (b : Bool) → cond b (f x ∷ []) [] ≡ map f (cond b (x ∷ []) [])
map-one f x true = refl
map-one f x false = refl

pub map-filter-more : {A B : Type 0} (f : A → B) (test : A → Bool) (xs : List A) (x : A) (y : B) (wanted : Bool) → y ≡ f x → wanted ≡ test x
    → map f (filter test xs) ++ (if wanted then y ∷ [] else []) ≡ map f (filter test (xs ++ x ∷ []))
map-filter-more f test xs x y wanted same is =
    ap (λ z. map f (filter test xs) ++ cond wanted (z ∷ []) []) same
    ∙ ap (λ zs. map f (filter test xs) ++ zs) (map-one f x wanted)
    ∙ sym (map-append f (filter test xs) (cond wanted (x ∷ []) []))
    ∙ ap (map f) (filter-more test xs x wanted is)

-- a label and the state that it leads to, where it is known how many timers may still expire before it
abbrev pub pair-of : {C L : Type 0} → (L → Kind) → Option ℕ → L × C → L × Bounded C
pair-of kind_of left pair = (pair.0, record { state = pair.1; left = left_after (kind_of pair.0) left })

-- a label and the state that it leads to within a bound
abbrev lead-within : {C L : Type 0} → Bound → (L → Kind) → Graph C L → Bounded C → L → L × Bounded C
lead-within bound kind_of g b label = (label, (bounded bound kind_of g).after b label)

module _ {C L : Type 0} (kind_of : L → Kind) (g : Graph C L) (state : C) (left : Option ℕ) (expire : Bool) where
  abbrev lead : L → L × Bounded C
  lead label = (label, record { state = g.after state label; left = left_after (kind_of label) left })

  one-more : (label : L) (b : Bool) (pairs : List (L × C)) (labels : List L) → map (pair-of kind_of left) pairs ≡ map lead labels
      → map (pair-of kind_of left) (cond b ((label, g.after state label) ∷ pairs) pairs) ≡ map lead (cond b (label ∷ labels) labels)
  one-more label true pairs labels same = ap (λ rest. lead label ∷ rest) same
  one-more label false pairs labels same = same

  pub same-successors : (labels : List L) → map (pair-of kind_of left) (filter (λ pair. may_take expire (kind_of pair.0)) (with_after g state labels)) ≡ map lead (filter (λ label. may_take expire (kind_of label)) labels)
  same-successors [] = refl
  same-successors (label ∷ labels) = one-more label (may_take expire (kind_of label)) (filter (λ pair. may_take expire (kind_of pair.0)) (with_after g state labels)) (filter (λ l. may_take expire (kind_of l)) labels) (same-successors labels)

-- what is found of labels is found of them with the states that they lead to
pub any-after : {C L : Type 0} (g : Graph C L) (state : C) (test : L → Bool) (labels : List L) → list_any (λ pair. test pair.0) (with_after g state labels) ≡ list_any test labels
any-after g state test [] = refl
any-after g state test (label ∷ labels) = ap (λ b. test label || b) (any-after g state test labels)

-- ---- what is answered

module _ {C L : Type 0} (bound : Bound) (kind_of : L → Kind) (g : Graph C L) (b : Bounded C) (statement expire : Bool) (may : expire ≡ may_expire bound.patient b.left statement) where
  abbrev here : List L
  here = g.enabled b.state

  -- what is kept of the enabled labels
  pub labels-within : (labels kept : List L) → labels ≡ here → statement ≡ any_statement kind_of labels → kept ≡ filter (λ label. may_take expire (kind_of label)) labels
      → kept ≡ (bounded bound kind_of g).enabled b
  labels-within labels kept all seen is =
      is
      ∙ ap (λ e. filter (λ label. may_take e (kind_of label)) labels) (may ∙ ap (may_expire bound.patient b.left) seen)
      ∙ ap (allowed bound.patient kind_of b.left) all

  -- the same, with the states that they lead to
  pub pairs-within : (pairs : List (L × C)) (kept : List (L × Bounded C)) → pairs ≡ with_after g b.state here → statement ≡ list_any (λ pair. is_statement (kind_of pair.0)) pairs
      → kept ≡ map (pair-of kind_of b.left) (filter (λ pair. may_take expire (kind_of pair.0)) pairs) → kept ≡ with_after (bounded bound kind_of g) b ((bounded bound kind_of g).enabled b)
  pairs-within pairs kept all seen is =
      let some : statement ≡ any_statement kind_of here = seen ∙ ap (list_any (λ pair. is_statement (kind_of pair.0))) all ∙ any-after g b.state (λ label. is_statement (kind_of label)) here in
      is
      ∙ ap (λ found. map (pair-of kind_of b.left) (filter (λ pair. may_take expire (kind_of pair.0)) found)) all
      ∙ same-successors kind_of g b.state b.left expire here
      ∙ ap (λ e. map (lead-within bound kind_of g b) (filter (λ label. may_take e (kind_of label)) here)) (may ∙ ap (may_expire bound.patient b.left) some)
