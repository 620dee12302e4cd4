-- The branches that steps take.
use Rattle.std.proofs.Common.{◌≡◌, ℕ, Bool, true, List, Option, Some, None, Result, IfOk, sym, ap, subst, ◌∙◌, if◌then◌else◌}
use Rattle.std.specs.Option.{option_and_then}
use Rattle.std.specs.declared.alloc.AllocError.{AllocError}
use Rattle.ttcn_syntax.specs.declared.place.Span.{Span}
use Rattle.semantics.specs.Configurations as rules
use Rattle.semantics.specs.Configurations.{is_running_state}
use Rattle.semantics.specs.Places.{branch_in, branch_of_component, place_in_frames, unless_fault}
use Rattle.semantics.specs.Snapshots.{Test, snapshot_of}
use Rattle.semantics.specs.Statements.{act}
use Rattle.semantics.specs.Steps.{Delivery, Expiry, Label, Statement}
use Rattle.step_snapshot.specs.Tests.{legend_by, test_by}
use Rattle.step_snapshot.specs.declared.test_case.TestCase.{TestCase}
use Rattle.config_parts.specs.Legend.{Legend, component_by, going_by}
use Rattle.config_parts.specs.declared.component.Component.{Component}
use Rattle.config_parts.specs.declared.config.Going.{Going}
use Rattle.ttcn_step.proofs.Found.{Searched, said-found}
use Rattle.value_types.specs.declared.path.Path.{Path}

-- ---- of a component that runs

-- the place of the branch that the statement of a component takes
abbrev Taken : Test → rules.Going → rules.Component → Option Span
Taken test c component = unless_fault (act test (snapshot_of c component) component.own) (place_in_frames test (snapshot_of c component) component.own component.own.calls)

abbrev TakenBy : TestCase → Going → Component → Option Span
TakenBy t going component = Taken (test_by t) (going_by (legend_by t) going) (component_by (legend_by t) component)

taken-for : (t test : TestCase) (g going : Going) (x component : Component) (r : Result (Option Span) AllocError) → t ≡ test → g ≡ going → x ≡ component
    → IfOk r (λ place. place ≡ TakenBy t g x) → IfOk r (λ place. place ≡ TakenBy test going component)
taken-for t test g going x component r same also its is =
    subst (λ (y : Component). IfOk r (λ place. place ≡ TakenBy test going y)) its
    (subst (λ (h : Going). IfOk r (λ place. place ≡ TakenBy test h x)) also
    (subst (λ (u : TestCase). IfOk r (λ place. place ≡ TakenBy u g x)) same is))

if-true : (b : Bool) (r : Result (Option Span) AllocError) (taken : Option Span) → b ≡ true → IfOk r (λ place. place ≡ taken) → IfOk r (λ place. place ≡ (if b then taken else None))
if-true b r taken is found = subst (λ (x : Bool). IfOk r (λ place. place ≡ (if x then taken else None))) (sym is) found

pub branch-taken : (t test : TestCase) (g going : Going) (x component : Component) (r : Result (Option Span) AllocError) → t ≡ test → g ≡ going → x ≡ component
    → is_running_state (component_by (legend_by test) component).state ≡ true → IfOk r (λ place. place ≡ TakenBy t g x)
    → IfOk r (λ place. place ≡ branch_of_component (test_by test) (going_by (legend_by test) going) (component_by (legend_by test) component))
branch-taken t test g going x component r same also its runs is =
    if-true (is_running_state (component_by (legend_by test) component).state) r (TakenBy test going component) runs (taken-for t test g going x component r same also its is)

-- ---- of a label

module _ (legend : Legend) (test : Test) (going : Going) (label : Label) where
  abbrev Branch : Label → Option Span
  Branch k = branch_in test (going_by legend going) k

  pub expiry-takes-none : (path : Path) (number : ℕ) (name : List ℕ) → label ≡ Expiry path number name → None ≡ Branch label
  expiry-takes-none path number name is = sym (ap Branch is)

  pub delivery-takes-none : (name : List ℕ) → label ≡ Delivery name → None ≡ Branch label
  delivery-takes-none name is = sym (ap Branch is)

  pub missing-takes-none : (path : Path) → label ≡ Statement path → Searched path.numbers going.components ≡ None → None ≡ Branch label
  missing-takes-none path is none = sym (ap Branch is ∙ ap (option_and_then (branch_of_component test (going_by legend going))) (said-found legend test going path None none))

  pub found-takes : (path : Path) (x : Component) (r : Result (Option Span) AllocError) → label ≡ Statement path → Searched path.numbers going.components ≡ Some x
      → IfOk r (λ place. place ≡ branch_of_component test (going_by legend going) (component_by legend x)) → IfOk r (λ place. place ≡ Branch label)
  found-takes path x r is found taken =
      subst (λ (to : Option Span). IfOk r (λ place. place ≡ to))
      (sym (ap Branch is ∙ ap (option_and_then (branch_of_component test (going_by legend going))) (said-found legend test going path (Some x) found))) taken
