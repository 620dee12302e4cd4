-- Enabled labels with the configurations to which they lead.
use Rattle.std.proofs.Common.{◌≡◌, ℕ, Bool, true, false, List, [], ◌∷◌, ◌++◌, map, Option, Some, None, Result, Ok, Err, IfOk, is_some, option_map, refl, sym, ap, subst, ◌∙◌, if◌then◌else◌}
use Rattle.std.specs.List.{All, AllPairs, Contains, cons_option, find, flat_map}
use Rattle.std.specs.Option.{option_and_then}
use Rattle.std.specs.declared.cmp.Ordering.TheVariants.{Less, Equal}
use Rattle.std.proofs.lemmas.List.Elements.{All-cons, All-head, All-nil, All-tail, All-contains_itself, filter_map-append}
use Rattle.std.proofs.lemmas.Slice.Eq.{bytes_eq-Decides}
use Rattle.semantics.proofs.LabelOrder.{names-alike}
use Rattle.semantics.proofs.Pairs.{All-both, All-more, pairs-head, pairs-tail}
use Rattle.semantics.specs.Configurations as rules
use Rattle.semantics.specs.Configurations.{component_at, is_running_state, path_cmp, path_of, same_path}
use Rattle.semantics.specs.Labels.{deliveries, expiries, labels, labels_of_component, statement_labels}
use Rattle.semantics.specs.Order.{IsOrdered}
use Rattle.semantics.specs.Snapshots.{Test}
use Rattle.semantics.specs.Steps.{Label, Statement, next, settled, statement_step}
use Rattle.laws_order.specs.Order.{StandsInOrder}
use Rattle.std.specs.declared.vec.Vec.{Vec}
use Rattle.config_parts.specs.Legend.{going_by}
use Rattle.config_parts.specs.declared.config.Config.{Config}
use Rattle.config_parts.specs.declared.config.Config.TheVariants as config
use Rattle.config_parts.specs.declared.config.Going.{Going}
use Rattle.ttcn_step.proofs.Enabled.{lead-somewhere, some-map}
use Rattle.ttcn_step.specs.Answers.{IsSuccessor}
use Rattle.ttcn_step.specs.Machines.{Machine, legend, said}
use Rattle.ttcn_step.specs.declared.successor.Successor.{Successor}
use Rattle.ttcn_step.specs.internal.Steps.{candidates, candidates_of, lead, leads}
use Rattle.ttcn_step.specs.internal.Successors.{pairs_by}

-- ---- components are found where they are

-- a component that comes later has another path
later-other : (one other : rules.Component) (b : Bool) → path_cmp (path_of one) (path_of other) ≡ Less → same_path (path_of one) (path_of other) ≡ b → same_path (path_of one) (path_of other) ≡ false
later-other one other true less is =
    absurd (let e : Less ≡ Equal = sym less ∙ ap (λ (n : List ℕ). path_cmp (path_of one) (record { numbers = n })) (sym ((bytes_eq-Decides (path_of one).numbers (path_of other).numbers).0 is)) ∙ names-alike (path_of one).numbers in cc)
later-other one other false less is = is

abbrev Precedes : rules.Component → rules.Component → Type 0
Precedes one other = path_cmp (path_of one) (path_of other) ≡ Less

-- the component with a path, among these
abbrev FindsIn : List rules.Component → rules.Component → Type 0
FindsIn components x = find (λ y. same_path (path_of y) (path_of x)) components ≡ Some x

first-found : (x : rules.Component) (xs : List rules.Component) → FindsIn (x ∷ xs) x
first-found x xs = ap (λ b. if b then Some x else find (λ y. same_path (path_of y) (path_of x)) xs) ((bytes_eq-Decides (path_of x).numbers (path_of x).numbers).1 refl)

later-found : (x : rules.Component) (xs : List rules.Component) (y : rules.Component) → Precedes x y → FindsIn xs y → FindsIn (x ∷ xs) y
later-found x xs y less found =
    ap (λ b. if b then Some x else find (λ z. same_path (path_of z) (path_of y)) xs) (later-other x y (same_path (path_of x) (path_of y)) less refl) ∙ found

all-found : (xs : List rules.Component) → AllPairs Precedes xs → All (FindsIn xs) xs
all-found [] pairs = All-nil (FindsIn [])
all-found (x ∷ xs) pairs =
    All-cons (FindsIn (x ∷ xs)) x xs (first-found x xs)
    (All-both (Precedes x) (FindsIn xs) (FindsIn (x ∷ xs)) (later-found x xs) xs (pairs-head Precedes x xs pairs) (all-found xs (pairs-tail Precedes x xs pairs)))

-- ---- labels that are not enabled lead nowhere

module _ (test : Test) (c : rules.Going) where
  abbrev Leads : List Label → List (Label × rules.Configuration)
  Leads found = leads test (rules.Goes c) found

  leads-append : (one other : List Label) → Leads (one ++ other) ≡ Leads one ++ Leads other
  leads-append one other = filter_map-append (lead test (rules.Goes c)) one other

  none-of : (o : Option (Label × rules.Configuration)) → is_some o ≡ false → cons_option o [] ≡ []
  none-of None e = refl
  none-of (Some a) e = absurd (let no = e in cc)

  -- a statement that has no step leads nowhere
  no-lead : (x : rules.Component) → component_at c (path_of x) ≡ Some x → is_some (statement_step test c x) ≡ false → Leads (Statement (path_of x) ∷ []) ≡ []
  no-lead x found none =
      none-of (lead test (rules.Goes c) (Statement (path_of x)))
      (some-map (λ d. (Statement (path_of x), d)) (next test (rules.Goes c) (Statement (path_of x)))
      ∙ ap (λ o. is_some (option_map settled (option_and_then (statement_step test c) o))) found ∙ some-map settled (statement_step test c x) ∙ none)

  statement-leads : (x : rules.Component) → component_at c (path_of x) ≡ Some x → (b : Bool) → is_some (statement_step test c x) ≡ b
      → Leads (Statement (path_of x) ∷ []) ≡ Leads (if b then Statement (path_of x) ∷ [] else [])
  statement-leads x found true is = refl
  statement-leads x found false is = no-lead x found is

  component-leads-if : (x : rules.Component) → component_at c (path_of x) ≡ Some x → (b : Bool)
      → Leads (if b then Statement (path_of x) ∷ expiries x else []) ≡ Leads (if b then statement_labels test c x ++ expiries x else [])
  component-leads-if x found true =
      leads-append (Statement (path_of x) ∷ []) (expiries x)
      ∙ ap (λ found. found ++ Leads (expiries x)) (statement-leads x found (is_some (statement_step test c x)) refl)
      ∙ sym (leads-append (statement_labels test c x) (expiries x))
  component-leads-if x found false = refl

  component-leads : (x : rules.Component) → component_at c (path_of x) ≡ Some x → Leads (candidates_of x) ≡ Leads (labels_of_component test c x)
  component-leads x found = component-leads-if x found (is_running_state x.state)

  all-lead : (xs : List rules.Component) → All (λ x. component_at c (path_of x) ≡ Some x) xs → Leads (flat_map candidates_of xs) ≡ Leads (flat_map (labels_of_component test c) xs)
  all-lead [] all = refl
  all-lead (x ∷ xs) all =
      leads-append (candidates_of x) (flat_map candidates_of xs)
      ∙ ap (λ found. found ++ Leads (flat_map candidates_of xs)) (component-leads x (All-head (λ y. component_at c (path_of y) ≡ Some y) x xs all))
      ∙ ap (λ found. Leads (labels_of_component test c x) ++ found) (all-lead xs (All-tail (λ y. component_at c (path_of y) ≡ Some y) x xs all))
      ∙ sym (leads-append (labels_of_component test c x) (flat_map (labels_of_component test c) xs))

  -- the candidates lead where the enabled labels lead
  pub candidates-lead : IsOrdered c → Leads (candidates test c) ≡ Leads (labels test (rules.Goes c))
  candidates-lead ordered =
      leads-append (flat_map candidates_of c.components) (deliveries test c)
      ∙ ap (λ found. found ++ Leads (deliveries test c)) (all-lead c.components (all-found c.components ordered.components))
      ∙ sym (leads-append (flat_map (labels_of_component test c) c.components) (deliveries test c))

-- ---- all enabled labels lead somewhere

module _ (test : Test) (c : rules.Configuration) where
  abbrev LeadsSomewhere : Label → Type 0
  LeadsSomewhere label = is_some (next test c label) ≡ true

  -- what a label that leads somewhere leads to
  first-lead : (label : Label) (labels : List Label) (o : Option rules.Configuration) → next test c label ≡ o → is_some o ≡ true
      → (pairs : List (Label × rules.Configuration)) → map (λ p. p.0) pairs ≡ labels → All (λ p. next test c p.0 ≡ Some p.1) pairs
      → (map (λ (p : Label × rules.Configuration). p.0) (cons_option (option_map (λ d. (label, d)) o) pairs) ≡ label ∷ labels) × All (λ p. next test c p.0 ≡ Some p.1) (cons_option (option_map (λ d. (label, d)) o) pairs)
  first-lead label labels None e is pairs same all = absurd (let no = is in cc)
  first-lead label labels (Some d) e is pairs same all =
      (ap (λ xs. label ∷ xs) same, All-cons (λ (p : Label × rules.Configuration). next test c p.0 ≡ Some p.1) (label, d) pairs e all)

  all-lead-there : (labels : List Label) → All LeadsSomewhere labels
      → (map (λ (p : Label × rules.Configuration). p.0) (leads test c labels) ≡ labels) × All (λ p. next test c p.0 ≡ Some p.1) (leads test c labels)
  all-lead-there [] all = (refl, All-nil (λ (p : Label × rules.Configuration). next test c p.0 ≡ Some p.1))
  all-lead-there (label ∷ labels) all =
      let others = all-lead-there labels (All-tail LeadsSomewhere label labels all) in
      first-lead label labels (next test c label) refl (All-head LeadsSomewhere label labels all) (leads test c labels) others.0 others.1

  pub labels-lead-there : StandsInOrder c
      → (map (λ (p : Label × rules.Configuration). p.0) (leads test c (labels test c)) ≡ labels test c) × All (λ p. next test c p.0 ≡ Some p.1) (leads test c (labels test c))
  labels-lead-there ordered =
      all-lead-there (labels test c)
      (All-more (Contains (labels test c)) LeadsSomewhere (λ label is. (lead-somewhere test c ordered label).0 is) (labels test c) (All-contains_itself (labels test c)))

-- ---- in the words of the code

map-map : {A B C : Type 0} (f : A → B) (g : B → C) (xs : List A) → map g (map f xs) ≡ map (λ x. g (f x)) xs
map-map f g [] = refl
map-map f g (x ∷ xs) = ap (λ ys. g (f x) ∷ ys) (map-map f g xs)

-- the labels among successors
pub labels-of-pairs : (machine : Machine) (found : List Successor) (pairs : List (Label × rules.Configuration)) (labels : List Label) → pairs_by machine found ≡ pairs → map (λ p. p.0) pairs ≡ labels → map (λ (s : Successor). s.label) found ≡ labels
labels-of-pairs machine found pairs labels e f =
    sym (map-map (λ (s : Successor). (s.label, said machine s.config)) (λ (p : Label × rules.Configuration). p.0) found) ∙ ap (map (λ (p : Label × rules.Configuration). p.0)) e ∙ f

all-unmapped : {A B : Type 0} (P : B → Type 0) (f : A → B) (xs : List A) → All P (map f xs) → All (λ a. P (f a)) xs
all-unmapped P f [] all = All-nil (λ a. P (f a))
all-unmapped P f (x ∷ xs) all = All-cons (λ a. P (f a)) x xs (All-head P (f x) (map f xs) all) (all-unmapped P f xs (All-tail P (f x) (map f xs) all))

pub leads-of-pairs : (machine : Machine) (config : Config) (found : List Successor) (pairs : List (Label × rules.Configuration)) → pairs_by machine found ≡ pairs
    → All (λ p. next machine.test (said machine config) p.0 ≡ Some p.1) pairs → All (IsSuccessor machine config) found
leads-of-pairs machine config found pairs e all =
    all-unmapped (λ (p : Label × rules.Configuration). next machine.test (said machine config) p.0 ≡ Some p.1) (λ (s : Successor). (s.label, said machine s.config)) found
    (subst (All (λ p. next machine.test (said machine config) p.0 ≡ Some p.1)) (sym e) all)

-- ---- one label more

-- one label more among others
pub leads-more : (test : Test) (c : rules.Configuration) (before : List Label) (label : Label) (found grown : List (Label × rules.Configuration)) → grown ≡ found ++ leads test c (label ∷ [])
    → found ≡ leads test c before → grown ≡ leads test c (before ++ label ∷ [])
leads-more test c before label found grown more holds =
    more ∙ ap (λ xs. xs ++ leads test c (label ∷ [])) holds ∙ sym (filter_map-append (lead test c) before (label ∷ []))

-- ---- all successors

module _ (machine : Machine) (going : Going) (kept : List Label) (ordered : StandsInOrder (said machine (config.Going going))) (same : kept ≡ candidates machine.test (going_by (legend machine) going)) where
  abbrev Found : rules.Configuration
  Found = rules.Goes (going_by (legend machine) going)

  -- those among the candidates are those among the labels
  all-pairs : (found : List Successor) → pairs_by machine found ≡ leads machine.test Found kept → pairs_by machine found ≡ leads machine.test Found (labels machine.test Found)
  all-pairs found pairs = pairs ∙ ap (leads machine.test Found) same ∙ candidates-lead machine.test (going_by (legend machine) going) ordered.ordered

  found-labels : (found : List Successor) → pairs_by machine found ≡ leads machine.test Found kept → map (λ (s : Successor). s.label) found ≡ labels machine.test Found
  found-labels found pairs =
      labels-of-pairs machine found (leads machine.test Found (labels machine.test Found)) (labels machine.test Found) (all-pairs found pairs) (labels-lead-there machine.test Found ordered).0

  found-leads : (found : List Successor) → pairs_by machine found ≡ leads machine.test Found kept → All (IsSuccessor machine (config.Going going)) found
  found-leads found pairs =
      leads-of-pairs machine (config.Going going) found (leads machine.test Found (labels machine.test Found)) (all-pairs found pairs) (labels-lead-there machine.test Found ordered).1

  pub successors-labelled : {G E : Type 0} (all : Config) (result : Result (Vec Successor G) E) → all ≡ config.Going going → IfOk result (λ found. pairs_by machine found.items ≡ leads machine.test Found kept)
      → IfOk result (λ found. map (λ (s : Successor). s.label) found.items ≡ labels machine.test (said machine all))
  successors-labelled all (Ok found) is pairs =
      subst (λ (d : Config). map (λ (s : Successor). s.label) found.items ≡ labels machine.test (said machine d)) (sym is) (found-labels found.items pairs)
  successors-labelled all (Err e) is pairs = tt

  pub successors-lead : {G E : Type 0} (all : Config) (result : Result (Vec Successor G) E) → all ≡ config.Going going → IfOk result (λ found. pairs_by machine found.items ≡ leads machine.test Found kept)
      → IfOk result (λ found. All (IsSuccessor machine all) found.items)
  successors-lead all (Ok found) is pairs = subst (λ (d : Config). All (IsSuccessor machine d) found.items) (sym is) (found-leads found.items pairs)
  successors-lead all (Err e) is pairs = tt

-- a configuration that goes on stands in order where it does by another name
pub in-order : (machine : Machine) (all : Config) (going : Going) → all ≡ config.Going going → StandsInOrder (said machine all) → StandsInOrder (said machine (config.Going going))
in-order machine all going is ordered = subst (λ (d : Config). StandsInOrder (said machine d)) is ordered
