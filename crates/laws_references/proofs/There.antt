-- Which components are found by their paths, and stay so behind changes.
use Rattle.std.proofs.Common.{◌≡◌, Bool, true, false, List, [], ◌∷◌, map, Option, Some, None, IsSomeAnd, is_some, option_map, refl, sym, ap, subst, ◌∙◌, if◌then◌else◌}
use Rattle.std.specs.List.{All, find}
use Rattle.std.proofs.lemmas.List.Elements.{All-head, All-tail}
use Rattle.laws_steps.proofs.Finding as finding
use Rattle.laws_steps.proofs.Finding.{found-path, insert-found, path-is, path-same}
use Rattle.laws_references.specs.Acts.{IsPathOf}
use Rattle.laws_references.specs.There.{IsThere}
use Rattle.laws_order.proofs.Changes.{none-found}
use Rattle.semantics.specs.Configurations.{Component, Going, component_at, is_terminated_state, path_of, same_path}
use Rattle.semantics.specs.Steps.{insert, is_before, touch, unless_terminated, with_new}
use Rattle.value_types.specs.declared.path.Path.{Path}
use Rattle.value_types.specs.declared.value.ComponentId.{ComponentId}

-- ---- finding

-- a component that is found is found at its own path
pub found-itself : (c : Going) (p : Path) (x : Component) → component_at c p ≡ Some x → component_at c (path_of x) ≡ Some x
found-itself c p x e = ap (component_at c) (found-path c p x e) ∙ e

-- ---- what is there

-- each that is there stays there
abbrev pub StayThere : Going → Going → Type 0
StayThere c d = (id : ComponentId) → IsThere c id → IsThere d id

pub there-by : (c : Going) (id : ComponentId) (o : Option Component) → component_at c id.path ≡ o → IsSomeAnd o (λ x. x.itself ≡ id) → IsThere c id
there-by c id o e is = subst (λ found. IsSomeAnd found (λ (x : Component). x.itself ≡ id)) (sym e) is

pub there-is : (c : Going) (id : ComponentId) → IsThere c id → (x : Component) × (component_at c id.path ≡ Some x) × (x.itself ≡ id)
there-is c id is = some-is-there (component_at c id.path) is
  where
    some-is-there : (o : Option Component) → IsSomeAnd o (λ x. x.itself ≡ id) → (x : Component) × (o ≡ Some x) × (x.itself ≡ id)
    some-is-there None none = absurd none
    some-is-there (Some x) same = (x, refl, same)

pub found-there : (c : Going) (p : Path) (x : Component) → component_at c p ≡ Some x → IsThere c x.itself
found-there c p x e = there-by c x.itself (Some x) (found-itself c p x e) refl

some-there : (id : ComponentId) (o : Option Component) → IsSomeAnd o (λ x. x.itself ≡ id) → is_some o ≡ true
some-there id None is = absurd is
some-there id (Some x) is = refl

pub there-found : (c : Going) (id : ComponentId) → IsThere c id → is_some (component_at c id.path) ≡ true
there-found c id is = some-there id (component_at c id.path) is

pub there-path : (c : Going) (p : Path) → IsPathOf (IsThere c) p → is_some (component_at c p) ≡ true
there-path c p is = subst (λ p. is_some (component_at c p) ≡ true) is.2 (there-found c is.0 is.1)

-- ---- changes

-- what is found behind a change that keeps paths is what was found, changed
pub found-map : (g : Component → Component) → ((x : Component) → (g x).itself ≡ x.itself) → (p : Path) (xs : List Component)
    → find (λ x. same_path (path_of x) p) (map g xs) ≡ option_map g (find (λ x. same_path (path_of x) p) xs)
found-map g same p xs = finding.found-map g (λ x. ap (λ (id : ComponentId). id.path) (same x)) p xs

some-mapped : (g : Component → Component) → ((x : Component) → (g x).itself ≡ x.itself) → (id : ComponentId) (o : Option Component) → IsSomeAnd o (λ x. x.itself ≡ id) → IsSomeAnd (option_map g o) (λ x. x.itself ≡ id)
some-mapped g same id None is = is
some-mapped g same id (Some x) is = same x ∙ is

abbrev pub changed : (Component → Component) → Going → Going
changed g c = record { components = map g c.components; connections = c.connections; mappings = c.mappings; delivered = c.delivered; forgotten = c.forgotten }

pub stay-changed : (c : Going) (g : Component → Component) → ((x : Component) → (g x).itself ≡ x.itself) → StayThere c (changed g c)
stay-changed c g same id is = there-by (changed g c) id (option_map g (component_at c id.path)) (found-map g same id.path c.components) (some-mapped g same id (component_at c id.path) is)

unless-same : (b : Bool) (change : Component → Component) (x : Component) → (change x).itself ≡ x.itself → (if b then x else change x).itself ≡ x.itself
unless-same true change x e = refl
unless-same false change x e = e

if-same : (b : Bool) (change : Component → Component) (x : Component) → (change x).itself ≡ x.itself → (if b then change x else x).itself ≡ x.itself
if-same true change x e = e
if-same false change x e = refl

-- a change of the component at a path
abbrev pub touching : Path → (Component → Component) → Component → Component
touching p change x = if same_path (path_of x) p then unless_terminated change x else x

pub touching-same : (p : Path) (change : Component → Component) → ((x : Component) → (change x).itself ≡ x.itself) → (x : Component) → (touching p change x).itself ≡ x.itself
touching-same p change same x = if-same (same_path (path_of x) p) (unless_terminated change) x (unless-same (is_terminated_state x.state) change x (same x))

pub stay-touched : (c : Going) (p : Path) (change : Component → Component) → ((x : Component) → (change x).itself ≡ x.itself) → StayThere c (touch c p change)
stay-touched c p change same = stay-changed c (touching p change) (touching-same p change same)

-- ---- new components

new-first : (new x : Component) (xs : List Component) (b : Bool) → same_path (path_of x) (path_of new) ≡ false
    → find (λ y. same_path (path_of y) (path_of new)) (insert new xs) ≡ Some new
    → find (λ y. same_path (path_of y) (path_of new)) (if b then new ∷ x ∷ xs else x ∷ insert new xs) ≡ Some new
new-first new x xs true other e = ap (λ b. if b then Some new else find (λ y. same_path (path_of y) (path_of new)) (x ∷ xs)) (path-same (path_of new))
new-first new x xs false other e = ap (λ b. if b then Some x else find (λ y. same_path (path_of y) (path_of new)) (insert new xs)) other ∙ e

-- the new one is found at its path, where no other has it
new-found : (new : Component) (xs : List Component) → All (λ x. same_path (path_of x) (path_of new) ≡ false) xs → find (λ y. same_path (path_of y) (path_of new)) (insert new xs) ≡ Some new
new-found new [] all = ap (λ b. if b then Some new else None) (path-same (path_of new))
new-found new (x ∷ xs) all =
    new-first new x xs (is_before new x) (All-head (λ x. same_path (path_of x) (path_of new) ≡ false) x xs all)
    (new-found new xs (All-tail (λ x. same_path (path_of x) (path_of new) ≡ false) x xs all))

other-path : (c : Going) (new : Component) (id : ComponentId) (b : Bool) → same_path (path_of new) id.path ≡ b → component_at c (path_of new) ≡ None → IsThere c id → same_path (path_of new) id.path ≡ false
other-path c new id false is none there = is
other-path c new id true is none there =
    absurd (let e : true ≡ false = sym (there-found c id there) ∙ ap (λ q. is_some (component_at c q)) (sym (path-is (path_of new) id.path is)) ∙ ap is_some none in cc)

module _ (new : Component) (c : Going) (none : component_at c (path_of new) ≡ None) where
  inserted : (with_new new c).components ≡ insert new c.components
  inserted = ap (λ o. if is_some o then c.components else insert new c.components) none

  pub stay-beside : StayThere c (with_new new c)
  stay-beside id is =
      there-by (with_new new c) id (component_at c id.path)
      (ap (find (λ y. same_path (path_of y) id.path)) inserted ∙ insert-found id.path new (other-path c new id (same_path (path_of new) id.path) refl none is) c.components) is

  pub new-there : IsThere (with_new new c) new.itself
  new-there =
      there-by (with_new new c) new.itself (Some new)
      (ap (find (λ y. same_path (path_of y) (path_of new))) inserted ∙ new-found new c.components (none-found (λ y. same_path (path_of y) (path_of new)) c.components (ap is_some none))) refl
