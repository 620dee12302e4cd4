-- Components by their paths.
use Rattle.std.proofs.Common.{◌≡◌, ℕ, Bor, List, Option, Some, None, option_map, bytes_eq, sym, ap, ◌∙◌}
use Rattle.std.specs.List.{find}
use Rattle.std.specs.Option.{option_and_then}
use Rattle.laws_steps.proofs.Found.{some-of, found-each}
use Rattle.semantics.specs.Configurations.{component_at}
use Rattle.semantics.specs.Snapshots.{Test}
use Rattle.semantics.specs.Steps.{Statement, statement_step, step_in}
use Rattle.config_parts.proofs.Applied.{find-by}
use Rattle.config_parts.specs.Legend.{Legend, component_by, going_by}
use Rattle.config_parts.specs.Views.{AreAllWithin, Extent, IsWithin}
use Rattle.config_parts.specs.declared.component.Component.{Component}
use Rattle.config_parts.specs.declared.config.Going.{Going}
use Rattle.value_types.specs.declared.path.Path.{Path}

-- the components of a path
abbrev pub Searched : List ℕ → List Component → Option Component
Searched numbers components = find (λ component. bytes_eq component.itself.path.numbers numbers) components

-- what the search for a component answers
pub searched : (numbers : List ℕ) (all components : List Component) (result found : Option (Bor Component)) → option_map (λ x. x.now) result ≡ Searched numbers all → all ≡ components → result ≡ found
    → Searched numbers components ≡ option_map (λ x. x.now) found
searched numbers all components result found e same is = ap (Searched numbers) (sym same) ∙ sym e ∙ ap (option_map (λ x. x.now)) is

pub found-within : (size : Extent) (numbers : List ℕ) (components : List Component) (x : Component) → AreAllWithin size components → Searched numbers components ≡ Some x → IsWithin size x.own
found-within size numbers components x all e =
    some-of (λ (c : Component). IsWithin size c.own) (Searched numbers components) x e
    (found-each (λ (c : Component). IsWithin size c.own) (λ (c : Component). bytes_eq c.itself.path.numbers numbers) components all)

-- what is found among components of the code is found among those of the rules
module _ (legend : Legend) (test : Test) (going : Going) (path : Path) where
  pub said-found : (o : Option Component) → Searched path.numbers going.components ≡ o → component_at (going_by legend going) path ≡ option_map (component_by legend) o
  said-found o e = find-by legend path going.components ∙ ap (option_map (component_by legend)) e

  -- where no component has the path, its statement has no step
  pub missing-step : Searched path.numbers going.components ≡ None → step_in test (going_by legend going) (Statement path) ≡ None
  missing-step none = ap (option_and_then (statement_step test (going_by legend going))) (said-found None none)

  -- the step of a statement is that of the component that is found
  pub found-step : (x : Component) → Searched path.numbers going.components ≡ Some x → step_in test (going_by legend going) (Statement path) ≡ statement_step test (going_by legend going) (component_by legend x)
  found-step x e = ap (option_and_then (statement_step test (going_by legend going))) (said-found (Some x) e)
