-- Where nothing is made of the elements of a list, and where something is.
use native.Mathlib.Omega.{arith}
use Rattle.std.specs.Prelude.{IfOk, Result}
use Rattle.std.specs.declared.alloc.AllocError.{AllocError}
use Rattle.std.specs.declared.alloc.Global.{Global}
use Rattle.std.specs.declared.vec.Vec.{Vec}
use Rattle.std.proofs.Common.{◌≡◌, ℕ, zero, suc, ◌+◌, ◌<◌, true, false, true≢false, List, [], ◌∷◌, ◌++◌, length, drop, get_or, is_some, refl, sym, subst, suc-ne-zero, ap, ◌∙◌, if◌then◌else◌}
use Rattle.std.specs.Bool.{◌==◌}
use Rattle.std.proofs.lemmas.Bool.{eqb-true}
use Rattle.std.proofs.lemmas.List.{at_drop_more}
use Rattle.semantics.specs.Labels.{expiries, labels, labels_of_component, statement_labels}
use Rattle.semantics.specs.Configurations as rules
use Rattle.semantics.specs.Configurations.{Configuration, Ended, Goes, is_running_state, path_of}
use Rattle.semantics.specs.Places.{blocked, if_none, standings}
use Rattle.semantics.specs.Snapshots.{Test}
use Rattle.semantics.specs.Steps.{Label, Statement, statement_step}
use Rattle.config_parts.specs.Legend.{Legend, component_by}
use Rattle.config_parts.specs.declared.component.Component.{Component}
use Rattle.step_arrivals.proofs.Listed.{grown}
use Rattle.ttcn_step.proofs.Parts.{parts_of}
use Rattle.ttcn_step.specs.Standing.{standing_of}
use Rattle.step_labels.specs.declared.standing.Standing.{Standing}

-- where nothing is made of an element, what is made of those behind it is what is made of it and them
pub passed : {X Y : Type 0} (F : List X → List Y) (xs : List X) (i : ℕ) (x : X) (part all : List Y) → i < length xs → x ≡ get_or xs i x
    → F (x ∷ drop (i + 1) xs) ≡ part ++ F (drop (i + 1) xs) → part ≡ [] → F (drop i xs) ≡ all → F (drop (i + 1) xs) ≡ all
passed F xs i x part all less read made none holds = grown F xs i x [] [] part all less read made (sym none) holds

pub first-none : {Y : Type 0} (part rest : List Y) → part ++ rest ≡ [] → part ≡ []
first-none [] rest none = refl
first-none (y ∷ part) rest none = cc

-- where something is made of an element, something is made of all
pub left-over : {X Y : Type 0} (F : List X → List Y) (xs : List X) (i : ℕ) (x : X) (part all : List Y) → i < length xs → x ≡ get_or xs i x
    → F (x ∷ drop (i + 1) xs) ≡ part ++ F (drop (i + 1) xs) → ¬ (part ≡ []) → F (drop i xs) ≡ all → ¬ (all ≡ [])
left-over F xs i x part all less read made some holds none =
    some (first-none part (F (drop (i + 1) xs)) (sym made ∙ ap (λ y. F (y ∷ drop (i + 1) xs)) read ∙ sym (at_drop_more F xs i x less) ∙ holds ∙ none))

pub second-none : {Y : Type 0} (part rest : List Y) → part ++ rest ≡ [] → rest ≡ []
second-none [] rest none = none
second-none (y ∷ part) rest none = cc

-- where something is made of a component, something is made of all
pub some-part : (legend : Legend) (f : rules.Component → List Label) (xs : List Component) (i : ℕ) (x : Component) → i < length xs → x ≡ get_or xs i x
    → ¬ (f (component_by legend x) ≡ []) → ¬ (parts_of legend f xs ≡ [])
some-part legend f [] i x less read some none = omega (arith, less)
some-part legend f (y ∷ ys) zero x less read some none =
    some (ap (λ z. f (component_by legend z)) read ∙ first-none (f (component_by legend y)) (parts_of legend f ys) none)
some-part legend f (y ∷ ys) (suc i) x less read some none =
    some-part legend f ys i x (omega (arith, less)) read some (second-none (f (component_by legend y)) (parts_of legend f ys) none)

-- a component that runs, and whose statement has a step, has a label
pub has-label : (test : Test) (c : rules.Going) (component : rules.Component) → is_running_state component.state ≡ true → is_some (statement_step test c component) ≡ true
    → ¬ (labels_of_component test c component ≡ [])
has-label test c component runs steps none =
    let labels = ap (λ b. if b then statement_labels test c component ++ expiries component else []) runs
    ∙ ap (λ b. (if b then Statement (path_of component) ∷ [] else []) ++ expiries component) steps in
    let empty = sym labels ∙ none in
    cc

-- where no label is enabled, all that run are blocked, and else none is
pub none-enabled : {A : Type 0} (found : List Label) (standing : List A) → found ≡ [] → if_none found standing ≡ standing
none-enabled [] standing none = refl
none-enabled (label ∷ found) standing none = cc

-- ---- lists that are tested to be empty

empties-list : {X : Type 0} (items : List X) → true ≡ (length items == 0) → items ≡ []
empties-list [] none = refl
empties-list (x ∷ items) none = absurd (suc-ne-zero (length items) (eqb-true (length (x ∷ items)) 0 (sym none)))

fills-list : {X : Type 0} (items : List X) → false ≡ (length items == 0) → ¬ (items ≡ [])
fills-list [] some none = true≢false (sym some)
fills-list (x ∷ items) some none = cc

pub empties : {X : Type 0} (items : List X) (n : ℕ) → n ≡ length items → true ≡ (n == 0) → items ≡ []
empties items n is none = empties-list items (none ∙ ap (λ (m : ℕ). m == 0) is)

pub fills : {X : Type 0} (items : List X) (n : ℕ) → n ≡ length items → false ≡ (n == 0) → ¬ (items ≡ [])
fills items n is some = fills-list items (some ∙ ap (λ (m : ℕ). m == 0) is)

-- ---- blocked components

module _ (test : Test) where
  -- where no label is enabled, those that run are blocked
  standing-blocked : (c : Configuration) → labels test c ≡ [] → standing_of c ≡ blocked test c
  standing-blocked (Ended v) none = refl
  standing-blocked (Goes c) none = sym (none-enabled (labels test (Goes c)) (standings c) none)

  pub blocked-stuck : (c : Configuration) (r : Result (Vec Standing Global) AllocError) → labels test c ≡ []
      → IfOk r (λ found. found.items ≡ standing_of c) → IfOk r (λ found. found.items ≡ blocked test c)
  blocked-stuck c r none is = subst (λ (to : List Standing). IfOk r (λ found. found.items ≡ to)) (standing-blocked c none) is
