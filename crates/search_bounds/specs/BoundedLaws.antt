-- What holds of a bounded system because it holds of the system without a bound.
use Rattle.std.specs.Prelude.{◌≡◌, ℕ, Bool, true, ◌&&◌, List, Option, None, Some, AllPairs, Contains, nat_eq}
use Rattle.std.proofs.Common.{ap, refl, sym, true≢false}
use Rattle.std.proofs.lemmas.Bool.{and_parts, eqb-true}
use Rattle.std.proofs.lemmas.List.Elements.{All-contains, All-contains_itself, All-filter}
use Rattle.std.proofs.lemmas.List.Kept.{AllPairs-filter}
use Rattle.std.specs.List.{filter}
use Rattle.std.specs.Option.{option_eq}
use Rattle.search_bounds.specs.Bounded.{any_statement, bounded, may_expire, may_take}
use Rattle.search_bounds.specs.declared.bound.Bound.{Bound}
use Rattle.search_bounds.specs.declared.kind.Kind.{Kind}
use Rattle.search_bounds.specs.declared.state.Bounded.{Bounded}
use Rattle.summary.specs.Graph.{Graph}

-- what a filter keeps was there
pub was_enabled : {L : Type 0} (test : L → Bool) (labels : List L) (label : L) → Contains (filter test labels) label → Contains labels label
was_enabled test labels label found = All-contains (Contains labels) (filter test labels) label (All-filter test (Contains labels) labels (All-contains_itself labels)) found

pub left_one : (x y : Option ℕ) → option_eq nat_eq x y ≡ true → x ≡ y
left_one None None h = refl
left_one (Some x) (Some y) h = ap Some (eqb-true x y h)
left_one None (Some y) h = absurd (true≢false (sym h))
left_one (Some x) None h = absurd (true≢false (sym h))

-- where `==` is true of a state and itself alone, so it is with the number of expiries that are left
pub one_bounded : {S : Type 0} (same : S → S → Bool) (s t : Bounded S) → (same s.state t.state ≡ true → s.state ≡ t.state) → (same s.state t.state && option_eq nat_eq s.left t.left) ≡ true → s ≡ t
one_bounded same s t one h = let p = and_parts _ _ h in λ i. record { state = one p.0 i; left = left_one s.left t.left p.1 i }

module _ {C L : Type 0} (bound : Bound) (kind_of : L → Kind) (g : Graph C L) (b : Bounded C) where
  -- whether a label may be taken there
  abbrev test : L → Bool
  test label = may_take (may_expire bound.patient b.left (any_statement kind_of (g.enabled b.state))) (kind_of label)

  -- enabled labels that ascend still do without some of them
  pub ascends_within : (R : L → L → Type 0) → AllPairs R (g.enabled b.state) → AllPairs R ((bounded bound kind_of g).enabled b)
  ascends_within R up = AllPairs-filter R test (g.enabled b.state) up

  -- a label that may be taken is enabled
  pub enabled_within : (label : L) → Contains ((bounded bound kind_of g).enabled b) label → Contains (g.enabled b.state) label
  enabled_within label found = was_enabled test (g.enabled b.state) label found
