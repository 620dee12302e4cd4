-- What is known of each component of a configuration that fits.
use Rattle.std.proofs.Common.{◌≡◌, ℕ, ◌<◌, List, map, length, get_or, sym, ap, subst, ◌∙◌}
use Rattle.std.specs.List.{All}
use Rattle.std.proofs.lemmas.List.{get_or-map, length-map}
use Rattle.semantics.specs.Configurations as rules
use Rattle.semantics.specs.Statements.{most}
use Rattle.config_parts.specs.Legend.{Legend, component_by, frame_by}
use Rattle.config_parts.specs.Views.{AreAllWithin, Extent, IsWithin}
use Rattle.config_parts.specs.declared.component.Component.{Component}
use Rattle.ttcn_step.specs.FrameLimit.{KeepsFrameLimit}

less-than : (m n k : ℕ) → m ≡ n → m < k → n < k
less-than m n k e less = subst (λ x. x < k) e less

-- one of the components has no more frames than the limit
pub kept-at : (legend : Legend) (items components : List Component) (i : ℕ) (x : Component) → items ≡ components → i < length items → x ≡ get_or items i x
    → All (λ component. KeepsFrameLimit component.own) (map (component_by legend) components) → length x.own.calls < most
kept-at legend items components i x same less read all =
    let within : i < length components = subst (λ (xs : List Component). i < length xs) same less in
    let there : get_or (map (component_by legend) components) i (component_by legend x) ≡ component_by legend x
    = get_or-map (component_by legend) components i x (component_by legend x) within ∙ ap (component_by legend) (ap (λ (xs : List Component). get_or xs i x) (sym same) ∙ sym read) in
    less-than (length (map (frame_by legend) x.own.calls)) (length x.own.calls) most (length-map x.own.calls (frame_by legend))
    (subst (λ (y : rules.Component). KeepsFrameLimit y.own) there
    (all i (component_by legend x) (subst (λ n. i < n) (sym (length-map components (component_by legend))) within)))

-- what remains in it has positions, and each of its slots a name
pub within-at : (size : Extent) (items components : List Component) (i : ℕ) (x : Component) → items ≡ components → i < length items → x ≡ get_or items i x → AreAllWithin size components → IsWithin size x.own
within-at size items components i x same less read all =
    subst (λ (y : Component). IsWithin size y.own) (ap (λ (xs : List Component). get_or xs i x) (sym same) ∙ sym read)
    (all i x (subst (λ (xs : List Component). i < length xs) same less))
