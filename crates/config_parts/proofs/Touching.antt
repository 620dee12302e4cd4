-- What is changed at the first component with a path is changed at all of them, where paths ascend.
use Rattle.std.proofs.Common.{◌≡◌, Bool, true, false, List, [], ◌∷◌, map, refl, sym, ap, subst, ◌∙◌, if◌then◌else◌}
use Rattle.std.specs.List.{All, AllPairs}
use Rattle.std.specs.declared.cmp.Ordering.TheVariants.{Less, Equal}
use Rattle.std.proofs.lemmas.List.Elements.{All-head, All-tail}
use Rattle.std.proofs.lemmas.Slice.Eq.{bytes_eq-Decides}
use Rattle.semantics.proofs.LabelOrder.{names-alike}
use Rattle.semantics.proofs.Pairs.{All-more, pairs-head, pairs-tail}
use Rattle.semantics.specs.Configurations as rules
use Rattle.semantics.specs.Configurations.{path_cmp, path_of, same_path}
use Rattle.config_parts.specs.Legend.{Legend, component_by}
use Rattle.config_parts.specs.internal.Changes.{change_first, is_of, is_terminated, touch, unless_terminated}
use Rattle.config_parts.specs.declared.component.Component.{Component}
use Rattle.value_types.specs.declared.path.Path.{Path}

abbrev pub paths : List Component → List Path
paths components = map (λ component. component.itself.path) components

-- paths ascend
abbrev pub Ascend : List Component → Type 0
Ascend components = AllPairs (λ p q. path_cmp p q ≡ Less) (paths components)

pub path-is : (p q : Path) → same_path p q ≡ true → p ≡ q
path-is p q e = ap (λ n. record { numbers = n }) ((bytes_eq-Decides p.numbers q.numbers).0 e)

not-before-itself : (p : Path) → path_cmp p p ≡ Less → ⊥
not-before-itself p less = let found : Equal ≡ Less = sym (names-alike p.numbers) ∙ less in cc

pub other-than : (b : Bool) (p q r : Path) → same_path p r ≡ true → path_cmp p q ≡ Less → same_path q r ≡ b → b ≡ false
other-than false p q r first less is = refl
other-than true p q r first less is =
    absurd (not-before-itself p (subst (λ x. path_cmp p x ≡ Less) (path-is q r is ∙ sym (path-is p r first)) less))

-- what is done at the components with a path
abbrev pub at-path : Path → (rules.Component → rules.Component) → rules.Component → rules.Component
at-path path change component = if same_path (path_of component) path then change component else component

none-at : (legend : Legend) (p : Path) (change : rules.Component → rules.Component) (cs : List Component) → All (λ q. same_path q p ≡ false) (paths cs)
    → map (at-path p change) (map (component_by legend) cs) ≡ map (component_by legend) cs
none-at legend p change [] all = refl
none-at legend p change (c ∷ cs) all =
    ap (λ b. (if b then change (component_by legend c) else component_by legend c) ∷ map (at-path p change) (map (component_by legend) cs))
    (All-head (λ q. same_path q p ≡ false) c.itself.path (paths cs) all)
    ∙ ap (λ xs. component_by legend c ∷ xs) (none-at legend p change cs (All-tail (λ q. same_path q p ≡ false) c.itself.path (paths cs) all))

first-at : (legend : Legend) (p : Path) (f : Component → Component) (g : rules.Component → rules.Component) → ((x : Component) → component_by legend (f x) ≡ g (component_by legend x))
    → (b : Bool) (c : Component) (cs : List Component) → same_path c.itself.path p ≡ b → All (λ q. path_cmp c.itself.path q ≡ Less) (paths cs)
    → map (component_by legend) (change_first (is_of p) f cs) ≡ map (at-path p g) (map (component_by legend) cs)
    → map (component_by legend) (if b then f c ∷ cs else c ∷ change_first (is_of p) f cs) ≡ (if b then g (component_by legend c) else component_by legend c) ∷ map (at-path p g) (map (component_by legend) cs)
first-at legend p f g alike true c cs is before rest =
    ap (λ x. x ∷ map (component_by legend) cs) (alike c)
    ∙ ap (λ xs. g (component_by legend c) ∷ xs)
    (sym (none-at legend p g cs (All-more (λ q. path_cmp c.itself.path q ≡ Less) (λ q. same_path q p ≡ false)
    (λ q less. other-than (same_path q p) c.itself.path q p is less refl) (paths cs) before)))
first-at legend p f g alike false c cs is before rest = ap (λ xs. component_by legend c ∷ xs) rest

pub changes-by : (legend : Legend) (p : Path) (f : Component → Component) (g : rules.Component → rules.Component) → ((x : Component) → component_by legend (f x) ≡ g (component_by legend x))
    → (cs : List Component) → Ascend cs → map (component_by legend) (change_first (is_of p) f cs) ≡ map (at-path p g) (map (component_by legend) cs)
changes-by legend p f g alike [] ascend = refl
changes-by legend p f g alike (c ∷ cs) ascend =
    first-at legend p f g alike (same_path c.itself.path p) c cs refl
    (pairs-head (λ p q. path_cmp p q ≡ Less) c.itself.path (paths cs) ascend)
    (changes-by legend p f g alike cs (pairs-tail (λ p q. path_cmp p q ≡ Less) c.itself.path (paths cs) ascend))

-- ---- paths stay

kept-one : (f : Component → Component) → ((x : Component) → (f x).itself ≡ x.itself) → (p : Path) (b : Bool) (c : Component) (cs : List Component)
    → paths (change_first (is_of p) f cs) ≡ paths cs → paths (if b then f c ∷ cs else c ∷ change_first (is_of p) f cs) ≡ c.itself.path ∷ paths cs
kept-one f keeps p true c cs e = ap (λ i. i.path ∷ paths cs) (keeps c)
kept-one f keeps p false c cs e = ap (λ ps. c.itself.path ∷ ps) e

paths-kept : (f : Component → Component) → ((x : Component) → (f x).itself ≡ x.itself) → (p : Path) (cs : List Component) → paths (change_first (is_of p) f cs) ≡ paths cs
paths-kept f keeps p [] = refl
paths-kept f keeps p (c ∷ cs) = kept-one f keeps p (is_of p c) c cs (paths-kept f keeps p cs)

keeps-unless : (f : Component → Component) → ((x : Component) → (f x).itself ≡ x.itself) → (b : Bool) (x : Component) → (if b then x else f x).itself ≡ x.itself
keeps-unless f keeps true x = refl
keeps-unless f keeps false x = keeps x

pub ascends-still : (f : Component → Component) → ((x : Component) → (f x).itself ≡ x.itself) → (p : Path) (cs : List Component) → Ascend cs → Ascend (touch cs p f)
ascends-still f keeps p cs ascend =
    subst (λ ps. AllPairs (λ a b. path_cmp a b ≡ Less) ps) (sym (paths-kept (unless_terminated f) (λ x. keeps-unless f keeps (is_terminated x.state) x) p cs)) ascend
