-- What is inserted at the place of the first that comes behind stands in order.
use Rattle.std.proofs.Common.{◌≡◌, ℕ, zero, suc, Bool, true, false, List, [], ◌∷◌, ◌++◌, Option, Some, None, refl, ap, if◌then◌else◌}
use Rattle.std.specs.List as lists
use Rattle.std.specs.Option.{option_map}
use Rattle.config_parts.specs.internal.Changes.{place}
use Rattle.config_parts.specs.internal.Done.{insert, is_before}
use Rattle.config_parts.specs.declared.component.Component.{Component}

inserted-first : (b : Bool) (new c : Component) (cs : List Component) (o : Option ℕ) (at : ℕ)
    → (if b then Some 0 else option_map suc o) ≡ Some at
    → ((n : ℕ) → o ≡ Some n → lists.insert cs n new ≡ insert new cs)
    → lists.insert (c ∷ cs) at new ≡ (if b then new ∷ c ∷ cs else c ∷ insert new cs)
inserted-first true new c cs o zero e below = refl
inserted-first true new c cs o (suc n) e below = absurd (let found = e in cc)
inserted-first false new c cs None at e below = absurd (let found = e in cc)
inserted-first false new c cs (Some n) zero e below = absurd (let found = e in cc)
inserted-first false new c cs (Some n) (suc m) e below = ap (λ xs. c ∷ xs) (below m (let found = e in cc))

pub inserted : (new : Component) (cs : List Component) (at : ℕ) → place (is_before new) cs ≡ Some at → lists.insert cs at new ≡ insert new cs
inserted new [] at e = absurd (let found = e in cc)
inserted new (c ∷ cs) at e = inserted-first (is_before new c) new c cs (place (is_before new) cs) at e (λ n found. inserted new cs n found)

pushed-first : (b : Bool) (new c : Component) (cs : List Component) (o : Option ℕ)
    → (if b then Some 0 else option_map suc o) ≡ None → (o ≡ None → cs ++ new ∷ [] ≡ insert new cs)
    → c ∷ cs ++ new ∷ [] ≡ (if b then new ∷ c ∷ cs else c ∷ insert new cs)
pushed-first true new c cs o e below = absurd (let found = e in cc)
pushed-first false new c cs None e below = ap (λ xs. c ∷ xs) (below refl)
pushed-first false new c cs (Some n) e below = absurd (let found = e in cc)

pub pushed : (new : Component) (cs : List Component) → place (is_before new) cs ≡ None → cs ++ new ∷ [] ≡ insert new cs
pushed new [] e = refl
pushed new (c ∷ cs) e = pushed-first (is_before new c) new c cs (place (is_before new) cs) e (pushed new cs)
