-- An element that is written back is changed.
use Rattle.std.proofs.Common.{◌≡◌, ℕ, zero, suc, Bool, true, false, List, [], ◌∷◌, Option, None, Some, slice_set, refl, sym, ap, ◌∙◌, if◌then◌else◌}
use lib.ListN.{get_or}
use Rattle.std.specs.Option.{option_map}
use Rattle.config_parts.specs.internal.Changes.{changed_at, is_of, is_terminated, live_place, touch, unless_terminated}
use Rattle.config_parts.specs.declared.component.Component.{Component}
use Rattle.value_types.specs.declared.path.Path.{Path}

pub overwritten : {A : Type 0} (xs : List A) (at : ℕ) (x : A) (change : A → A) → x ≡ get_or xs at x → slice_set xs at (change x) ≡ changed_at xs at change
overwritten [] at x change is = refl
overwritten (y ∷ ys) zero x change is = ap (λ z. change z ∷ ys) is
overwritten (y ∷ ys) (suc at) x change is = ap (λ zs. y ∷ zs) (overwritten ys at x change is)

-- ---- the first of a kind

live-first : (b d : Bool) (c : Component) (cs rest : List Component) (f : Component → Component) (o : Option ℕ) (at : ℕ)
    → is_terminated c.state ≡ d
    → (if b then (if d then None else Some 0) else option_map suc o) ≡ Some at
    → ((n : ℕ) → o ≡ Some n → changed_at cs n f ≡ rest)
    → changed_at (c ∷ cs) at f ≡ (if b then unless_terminated f c ∷ cs else c ∷ rest)
live-first true true c cs rest f o at is e below = absurd (let found = e in cc)
live-first true false c cs rest f o zero is e below = ap (λ t. (if t then c else f c) ∷ cs) (sym is)
live-first true false c cs rest f o (suc n) is e below = absurd (let found = e in cc)
live-first false d c cs rest f None at is e below = absurd (let found = e in cc)
live-first false d c cs rest f (Some n) zero is e below = absurd (let found = e in cc)
live-first false d c cs rest f (Some n) (suc m) is e below = ap (λ xs. c ∷ xs) (below m (let found = e in cc))

pub live-changed : (cs : List Component) (path : Path) (at : ℕ) (f : Component → Component) → live_place cs path ≡ Some at → changed_at cs at f ≡ touch cs path f
live-changed [] path at f e = absurd (let found = e in cc)
live-changed (c ∷ cs) path at f e =
    live-first (is_of path c) (is_terminated c.state) c cs (touch cs path f) f (live_place cs path) at refl e (λ n found. live-changed cs path n f found)

none-first : (b d : Bool) (c : Component) (cs rest : List Component) (f : Component → Component) (o : Option ℕ)
    → is_terminated c.state ≡ d
    → (if b then (if d then None else Some 0) else option_map suc o) ≡ None
    → (o ≡ None → cs ≡ rest)
    → c ∷ cs ≡ (if b then unless_terminated f c ∷ cs else c ∷ rest)
none-first true true c cs rest f o is e below = ap (λ t. (if t then c else f c) ∷ cs) (sym is)
none-first true false c cs rest f o is e below = absurd (let found = e in cc)
none-first false d c cs rest f None is e below = ap (λ xs. c ∷ xs) (below refl)
none-first false d c cs rest f (Some n) is e below = absurd (let found = e in cc)

-- nothing is changed where no component with the path is live
pub unwritten : (cs : List Component) (path : Path) (f : Component → Component) → live_place cs path ≡ None → cs ≡ touch cs path f
unwritten [] path f e = refl
unwritten (c ∷ cs) path f e = none-first (is_of path c) (is_terminated c.state) c cs (touch cs path f) f (live_place cs path) refl e (λ none. unwritten cs path f none)

-- what is written back at the place changes the component with the path
pub written : (cs : List Component) (path : Path) (at : ℕ) (x : Component) (f : Component → Component) → live_place cs path ≡ Some at → x ≡ get_or cs at x → slice_set cs at (f x) ≡ touch cs path f
written cs path at x f e is = overwritten cs at x f is ∙ live-changed cs path at f e
