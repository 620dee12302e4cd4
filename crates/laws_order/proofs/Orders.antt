-- Paths, ends of connections, and connections are ordered totally.
use Rattle.std.proofs.Common.{◌≡◌, refl, sym, ap, ◌∙◌}
use Rattle.std.specs.Cmp.{IsTotalOrder, alike_right}
use Rattle.std.specs.Ordering.{match_ordering, ordering_reverse}
use Rattle.std.specs.declared.cmp.Ordering.{Ordering}
use Rattle.std.specs.declared.cmp.Ordering.TheVariants.{Less, Equal, Greater}
use Rattle.std.proofs.lemmas.Cmp.{nat_list_cmp_total}
use Rattle.semantics.specs.Configurations.{end_cmp, path_cmp}
use Rattle.semantics.specs.Entries.{name_cmp}
use Rattle.semantics.specs.Steps.{connection_cmp}

-- by one part, and then by another
module _ {X A B : Type 0} (R : A → A → Ordering) (S : B → B → Ordering) (first : X → A) (second : X → B) (r : IsTotalOrder R) (s : IsTotalOrder S) where
  abbrev Then : X → X → Ordering
  Then x y = match_ordering (R (first x) (first y)) Less (S (second x) (second y)) Greater

  turned : (o p : Ordering) → match_ordering (ordering_reverse o) Less (ordering_reverse p) Greater ≡ ordering_reverse (match_ordering o Less p Greater)
  turned Less p = refl
  turned Equal p = refl
  turned Greater p = refl

  then-turned : (x y : X) → Then x y ≡ ordering_reverse (Then y x)
  then-turned x y =
      ap (λ o. match_ordering o Less (S (second x) (second y)) Greater) (r.antisymm (first x) (first y))
      ∙ ap (λ p. match_ordering (ordering_reverse (R (first y) (first x))) Less p Greater) (s.antisymm (second x) (second y))
      ∙ turned (R (first y) (first x)) (S (second y) (second x))

  before : (x z : X) → R (first x) (first z) ≡ Less → Then x z ≡ Less
  before x z less = ap (λ o. match_ordering o Less (S (second x) (second z)) Greater) less

  told : (x y z : X) (o p : Ordering) → R (first x) (first y) ≡ o → R (first y) (first z) ≡ p
      → match_ordering o Less (S (second x) (second y)) Greater ≡ Less → match_ordering p Less (S (second y) (second z)) Greater ≡ Less → Then x z ≡ Less
  told x y z Less Less i j e f = before x z (r.trans (first x) (first y) (first z) i j)
  told x y z Less Equal i j e f = before x z (sym (alike_right r (first y) (first z) (first x) j) ∙ i)
  told x y z Equal Less i j e f = before x z (r.congr (first x) (first y) (first z) i ∙ j)
  told x y z Equal Equal i j e f =
      ap (λ o. match_ordering o Less (S (second x) (second z)) Greater) (r.congr (first x) (first y) (first z) i ∙ j) ∙ s.trans (second x) (second y) (second z) e f
  told x y z Greater p i j e f = absurd (let no = e in cc)
  told x y z Less Greater i j e f = absurd (let no = f in cc)
  told x y z Equal Greater i j e f = absurd (let no = f in cc)

  alike : (x y z : X) (o : Ordering) → R (first x) (first y) ≡ o → match_ordering o Less (S (second x) (second y)) Greater ≡ Equal → Then x z ≡ Then y z
  alike x y z Less i e = absurd (let no = e in cc)
  alike x y z Equal i e =
      ap (λ o. match_ordering o Less (S (second x) (second z)) Greater) (r.congr (first x) (first y) (first z) i)
      ∙ ap (λ p. match_ordering (R (first y) (first z)) Less p Greater) (s.congr (second x) (second y) (second z) e)
  alike x y z Greater i e = absurd (let no = e in cc)

  pub then-total : IsTotalOrder Then
  then-total = record {
    antisymm = then-turned;
    trans = λ x y z e f. told x y z (R (first x) (first y)) (R (first y) (first z)) refl refl e f;
    congr = λ x y z e. alike x y z (R (first x) (first y)) refl e;
  }

pub path_total : IsTotalOrder path_cmp
path_total = record {
  antisymm = λ p q. nat_list_cmp_total.antisymm p.numbers q.numbers;
  trans = λ p q s. nat_list_cmp_total.trans p.numbers q.numbers s.numbers;
  congr = λ p q s. nat_list_cmp_total.congr p.numbers q.numbers s.numbers;
}

pub end-total : IsTotalOrder end_cmp
end-total = then-total path_cmp name_cmp (λ e. e.component) (λ e. e.port) path_total nat_list_cmp_total

pub connection-total : IsTotalOrder connection_cmp
connection-total = then-total end_cmp end_cmp (λ k. k.one) (λ k. k.other) end-total end-total
