-- No mapping goes where none is of the component.
use Rattle.std.proofs.Common.{◌≡◌, ℕ, Bool, true, false, ◌||◌, not, true≢false, List, [], ◌∷◌, refl, ap, if◌then◌else◌}
use Rattle.std.specs.List.{list_any}
use Rattle.config_parts.specs.internal.Mappings.{is_of, without_component, without_ports}
use Rattle.config_parts.specs.declared.connection.End.{End}
use Rattle.config_parts.specs.declared.connection.Links.{Links}
use Rattle.value_types.specs.declared.path.Path.{Path}

stay-first : (b c : Bool) (m : ℕ × End) (ms left : List (ℕ × End)) → (b || c) ≡ false → (c ≡ false → ms ≡ left) → m ∷ ms ≡ (if not b then m ∷ left else left)
stay-first true c m ms left none below = absurd (true≢false none)
stay-first false c m ms left none below = ap (λ xs. m ∷ xs) (below none)

ports-stay : (path : Path) (ms : List (ℕ × End)) → list_any (is_of path) ms ≡ false → ms ≡ without_ports path ms
ports-stay path [] none = refl
ports-stay path (m ∷ ms) none = stay-first (is_of path m) (list_any (is_of path) ms) m ms (without_ports path ms) none (ports-stay path ms)

pub links-stay : (path : Path) (links : Links) → list_any (is_of path) links.mappings ≡ false → links ≡ without_component path links
links-stay path links none = λ i. record { connections = links.connections; mappings = ports-stay path links.mappings none i; delivered = links.delivered }
