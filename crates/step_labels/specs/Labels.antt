-- The order of labels (ES 201 873-4).
use Rattle.std.specs.Prelude.{◌≡◌, ℕ, List, [], Option, Some, None, refl}
use Rattle.std.proofs.Common.{subst, ap, ◌∙◌}
use Rattle.std.specs.Cmp.{IsPartialOrder, IsTotalOrder, nat_cmp_total, on_total, po, then_total}
use Rattle.std.specs.Cmp.Lexicographic.{nat_list_cmp_total, options_total}
use Rattle.std.specs.Option.{option_cmp}
use Rattle.std.specs.Ordering.{eq_by_cmp, match_ordering, nat_cmp, on, ordering_then, then_cmp}
use Rattle.std.specs.declared.cmp.Ordering.{Ordering}
use Rattle.std.specs.declared.cmp.Ordering.TheVariants.{Less, Equal, Greater}
use Rattle.step_labels.specs.Names.{name_cmp, path_cmp, path_total}
use Rattle.step_labels.specs.declared.label.Label.{Label}
use Rattle.step_labels.specs.declared.label.Label.TheVariants.{Delivery, Expiry, Statement}
use Rattle.value_types.specs.declared.path.Path.{Path}

-- expiries at one component: by the number of the frame, then by the timer's name
abbrev pub expiry_cmp : ℕ → List ℕ → ℕ → List ℕ → Ordering
expiry_cmp number name other other_name = match_ordering (nat_cmp number other) Less (name_cmp name other_name) Greater

-- labels: by the component, then its statement before its timers, then the frame, then the timer's name; deliveries come last, by the name of the system port
abbrev pub label_cmp : Label → Label → Ordering
label_cmp (Statement p) (Statement q) = path_cmp p q
label_cmp (Statement p) (Expiry q number name) = match_ordering (path_cmp p q) Less Less Greater
label_cmp (Statement p) (Delivery name) = Less
label_cmp (Expiry p number name) (Statement q) = match_ordering (path_cmp p q) Less Greater Greater
label_cmp (Expiry p number name) (Expiry q other other_name) = match_ordering (path_cmp p q) Less (expiry_cmp number name other other_name) Greater
label_cmp (Expiry p number name) (Delivery other) = Less
label_cmp (Delivery name) (Statement q) = Greater
label_cmp (Delivery name) (Expiry q number other) = Greater
label_cmp (Delivery name) (Delivery other) = name_cmp name other

-- ---- a total order

delivery_in : Label → Option (List ℕ)
delivery_in (Statement path) = None
delivery_in (Expiry path frame name) = None
delivery_in (Delivery name) = Some name

path_in : Label → Path
path_in (Statement path) = path
path_in (Expiry path frame name) = path
path_in (Delivery name) = record { numbers = [] }

expiry_in : Label → Option (ℕ × List ℕ)
expiry_in (Statement path) = None
expiry_in (Expiry path frame name) = Some (frame, name)
expiry_in (Delivery name) = None

-- the order of labels by their deliveries alone: a label that is none comes first
abbrev delivery_order : Label → Label → Ordering
delivery_order = on delivery_in (option_cmp name_cmp)

-- the order of labels by the paths of their components alone
abbrev first_cmp : Label → Label → Ordering
first_cmp = on path_in path_cmp

-- the order of expiries: by the number of the frame, then by the name of the timer
abbrev expiry_order : ℕ × List ℕ → ℕ × List ℕ → Ordering
expiry_order = then_cmp (on (λ e. e.0) nat_cmp) (on (λ e. e.1) name_cmp)

-- the order of labels by their expiries alone: a label without one comes first
abbrev second_cmp : Label → Label → Ordering
second_cmp = on expiry_in (option_cmp expiry_order)

matched : (r s : Ordering) → ordering_then r s ≡ match_ordering r Less s Greater
matched Less s = refl
matched Equal s = refl
matched Greater s = refl

-- the order of labels that are no deliveries
abbrev component_order : Label → Label → Ordering
component_order = then_cmp first_cmp second_cmp

last : (r : Ordering) → ordering_then r Equal ≡ r
last Less = refl
last Equal = refl
last Greater = refl

same_order : (k l : Label) → then_cmp delivery_order component_order k l ≡ label_cmp k l
unfolding delivery_in path_in expiry_in
same_order (Statement p) (Statement q) = last (path_cmp p q)
same_order (Statement p) (Expiry q n name) = matched (path_cmp p q) Less
same_order (Statement p) (Delivery name) = refl
same_order (Expiry p m other) (Statement q) = matched (path_cmp p q) Greater
same_order (Expiry p m other) (Expiry q n name) =
    matched (path_cmp p q) (ordering_then (nat_cmp m n) (name_cmp other name))
    ∙ ap (λ o. match_ordering (path_cmp p q) Less o Greater) (matched (nat_cmp m n) (name_cmp other name))
same_order (Expiry p m other) (Delivery name) = refl
same_order (Delivery name) (Statement q) = refl
same_order (Delivery name) (Expiry q n other) = refl
same_order (Delivery name) (Delivery other) = last (name_cmp name other)

pub label_total : IsTotalOrder label_cmp
label_total = subst IsTotalOrder (λ i k l. same_order k l i)
    (then_total (on_total delivery_in (options_total nat_list_cmp_total))
    (then_total (on_total path_in path_total) (on_total expiry_in (options_total (then_total (on_total (λ e. e.0) nat_cmp_total) (on_total (λ e. e.1) nat_list_cmp_total))))))

pub label_partial : IsPartialOrder (eq_by_cmp label_cmp) (λ k l. Some (label_cmp k l))
label_partial = po label_total (λ k l. refl)
