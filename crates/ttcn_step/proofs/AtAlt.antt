-- Whether a component stands at an `alt`.
use Rattle.std.proofs.Common.{◌≡◌, ℕ, Bool, false, List, Some, None, sym, ap, ◌∙◌}
use Rattle.laws_fine.specs.Fine.{is_found, is_of_alt, stands_at_alt}
use Rattle.semantics.specs.Snapshots.{Test}
use Rattle.semantics.specs.Steps.{Delivery, Expiry, Label, Statement}
use Rattle.config_parts.specs.Legend.{Legend, component_by, going_by}
use Rattle.config_parts.specs.declared.component.Component.{Component}
use Rattle.config_parts.specs.declared.config.Going.{Going}
use Rattle.ttcn_step.proofs.Found.{Searched, said-found}
use Rattle.value_types.specs.declared.path.Path.{Path}

-- ---- the last frame

-- ---- components

-- ---- labels

module _ (l : Legend) (test : Test) (going : Going) (label : Label) where
  abbrev IsOf : Label → Bool
  IsOf k = is_of_alt test (going_by l going) k

  pub expiry-not : (path : Path) (number : ℕ) (name : List ℕ) → label ≡ Expiry path number name → false ≡ IsOf label
  expiry-not path number name is = sym (ap IsOf is)

  pub delivery-not : (name : List ℕ) → label ≡ Delivery name → false ≡ IsOf label
  delivery-not name is = sym (ap IsOf is)

  pub missing-not : (path : Path) → label ≡ Statement path → Searched path.numbers going.components ≡ None → false ≡ IsOf label
  missing-not path is none = sym (ap IsOf is ∙ ap (is_found (stands_at_alt test)) (said-found l test going path None none))

  pub found-of : (path : Path) (x : Component) (b : Bool) → label ≡ Statement path → Searched path.numbers going.components ≡ Some x → b ≡ stands_at_alt test (component_by l x) → b ≡ IsOf label
  found-of path x b is found stands = stands ∙ sym (ap IsOf is ∙ ap (is_found (stands_at_alt test)) (said-found l test going path (Some x) found))
