-- The order of places in a text, and of components with the places where they stand.
use Rattle.std.specs.Prelude.{Some, refl}
use Rattle.std.specs.Cmp.{IsPartialOrder, IsTotalOrder, nat_cmp_total, on_total, po, then_total}
use Rattle.std.specs.FinSet.{IsAntisymmetric, nat_cmp-IsAntisymmetric}
use Rattle.std.specs.Ordering.{eq_by_cmp, nat_cmp, on, then_cmp}
use Rattle.std.specs.declared.cmp.Ordering.{Ordering}
use Rattle.ttcn_syntax.specs.declared.place.Span.{Span}
use Rattle.summary.specs.Ties.{both_tie}
use Rattle.step_labels.specs.Names.{path_cmp, path_one, path_total}
use Rattle.step_labels.specs.declared.standing.Standing.{Standing}

-- places in the order of a text
abbrev pub place_cmp : Span → Span → Ordering
place_cmp = then_cmp (on (λ p. p.line) nat_cmp) (on (λ p. p.column) nat_cmp)

-- components by their paths, and each by the places where it stands
abbrev pub standing_cmp : Standing → Standing → Ordering
standing_cmp = then_cmp (on (λ s. s.component) path_cmp) (on (λ s. s.place) place_cmp)

-- ---- both are total orders, and tell different ones apart

pub place_total : IsTotalOrder place_cmp
place_total = then_total (on_total (λ p. p.line) nat_cmp_total) (on_total (λ p. p.column) nat_cmp_total)

pub place_partial : IsPartialOrder (eq_by_cmp place_cmp) (λ p q. Some (place_cmp p q))
place_partial = po place_total (λ p q. refl)

pub place_one : IsAntisymmetric place_cmp
place_one p q tie =
    let ties = both_tie (nat_cmp p.line q.line) (nat_cmp p.column q.column) tie in
    λ i. record { line = nat_cmp-IsAntisymmetric p.line q.line ties.0 i; column = nat_cmp-IsAntisymmetric p.column q.column ties.1 i }

pub standing_total : IsTotalOrder standing_cmp
standing_total = then_total (on_total (λ s. s.component) path_total) (on_total (λ s. s.place) place_total)

pub standing_partial : IsPartialOrder (eq_by_cmp standing_cmp) (λ s t. Some (standing_cmp s t))
standing_partial = po standing_total (λ s t. refl)

pub standing_one : IsAntisymmetric standing_cmp
standing_one s t tie =
    let ties = both_tie (path_cmp s.component t.component) (place_cmp s.place t.place) tie in
    λ i. record { component = path_one s.component t.component ties.0 i; place = place_one s.place t.place ties.1 i }
