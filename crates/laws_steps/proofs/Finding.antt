-- Finding components by their paths, and what is found behind a change and beside a new component.
use Rattle.std.proofs.Common.{◌≡◌, Bool, true, false, List, [], ◌∷◌, map, Option, Some, None, option_map, refl, ap, subst, ◌∙◌, if◌then◌else◌}
use Rattle.std.specs.List.{find}
use Rattle.std.proofs.lemmas.Slice.Eq.{bytes_eq-Decides}
use Rattle.semantics.specs.Steps.{insert, is_before}
use Rattle.semantics.specs.Configurations.{Component, Created, Going, Running, State, Terminated, component_at, is_running_state, is_terminated_state, path_of, same_path}
use Rattle.value_types.specs.declared.path.Path.{Path}

pub some-is : {A : Type 0} (a b : A) → Some a ≡ Some b → a ≡ b
some-is a b e = let found = e in cc

pub none-if : {A : Type 0} (b : Bool) (o : Option A) → o ≡ None → (if b then o else None) ≡ None
none-if true o is = is
none-if false o is = refl

-- ---- what is found passes the test

pass-first : {A : Type 0} (p : A → Bool) (x a : A) (b : Bool) (others : Option A) → (others ≡ Some a → p a ≡ true) → p x ≡ b → (if b then Some x else others) ≡ Some a → p a ≡ true
pass-first p x a true others rest is e = subst (λ y. p y ≡ true) (some-is x a e) is
pass-first p x a false others rest is e = rest e

pub find-passes : {A : Type 0} (p : A → Bool) (xs : List A) (a : A) → find p xs ≡ Some a → p a ≡ true
find-passes p [] a e = absurd (let found = e in cc)
find-passes p (x ∷ xs) a e = pass-first p x a (p x) (find p xs) (find-passes p xs a) refl e

-- ---- paths

pub path-is : (p q : Path) → same_path p q ≡ true → p ≡ q
path-is p q e = ap (λ n. record { numbers = n }) ((bytes_eq-Decides p.numbers q.numbers).0 e)

pub path-same : (p : Path) → same_path p p ≡ true
path-same p = (bytes_eq-Decides p.numbers p.numbers).1 refl

pub found-path : (c : Going) (p : Path) (x : Component) → component_at c p ≡ Some x → path_of x ≡ p
found-path c p x e = path-is (path_of x) p (find-passes (λ y. same_path (path_of y) p) c.components x e)

-- ---- what is found behind a change that keeps paths is what was found, changed

pub found-first : (g : Component → Component) (b : Bool) (x : Component) (r o : Option Component) → r ≡ option_map g o → (if b then Some (g x) else r) ≡ option_map g (if b then Some x else o)
found-first g true x r o e = refl
found-first g false x r o e = e

pub found-map : (g : Component → Component) → ((x : Component) → path_of (g x) ≡ path_of x) → (p : Path) (xs : List Component)
    → find (λ x. same_path (path_of x) p) (map g xs) ≡ option_map g (find (λ x. same_path (path_of x) p) xs)
found-map g paths p [] = refl
found-map g paths p (x ∷ xs) =
    ap (λ q. if same_path q p then Some (g x) else find (λ y. same_path (path_of y) p) (map g xs)) (paths x)
    ∙ found-first g (same_path (path_of x) p) x (find (λ y. same_path (path_of y) p) (map g xs)) (find (λ y. same_path (path_of y) p) xs) (found-map g paths p xs)

-- ---- a new component

insert-found-first : (p : Path) (new x : Component) (xs : List Component) (b : Bool) → same_path (path_of new) p ≡ false
    → find (λ y. same_path (path_of y) p) (insert new xs) ≡ find (λ y. same_path (path_of y) p) xs
    → find (λ y. same_path (path_of y) p) (if b then new ∷ x ∷ xs else x ∷ insert new xs) ≡ find (λ y. same_path (path_of y) p) (x ∷ xs)
insert-found-first p new x xs true other e = ap (λ b. if b then Some new else find (λ y. same_path (path_of y) p) (x ∷ xs)) other
insert-found-first p new x xs false other e = ap (λ o. if same_path (path_of x) p then Some x else o) e

pub insert-found : (p : Path) (new : Component) → same_path (path_of new) p ≡ false → (xs : List Component)
    → find (λ y. same_path (path_of y) p) (insert new xs) ≡ find (λ y. same_path (path_of y) p) xs
insert-found p new other [] = ap (λ b. if b then Some new else None) other
insert-found p new other (x ∷ xs) = insert-found-first p new x xs (is_before new x) other (insert-found p new other xs)

-- ---- components that run

pub alive : (x : Component) → is_running_state x.state ≡ true → is_terminated_state x.state ≡ false
alive x runs = told x.state runs
  where
    told : (s : State) → is_running_state s ≡ true → is_terminated_state s ≡ false
    told Created e = refl
    told Running e = refl
    told Terminated e = absurd (let no = e in cc)
