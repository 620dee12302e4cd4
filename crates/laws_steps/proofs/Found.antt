-- What holds of each component holds of the one that is found, and where a new one is put among them.
use Rattle.std.proofs.Common.{◌≡◌, zero, suc, slice_get, ℕ, Bool, true, false, List, [], ◌∷◌, Option, Some, IfSome, subst, if◌then◌else◌}
use Rattle.std.specs.List.{All, find}
use Rattle.std.proofs.lemmas.List.Elements.{All-cons, All-head, All-nil, All-tail}
use Rattle.semantics.specs.Configurations.{Component, Going}
use Rattle.semantics.specs.Steps.{insert, is_before}

pub some-of : {A : Type 0} (P : A → Type 0) (o : Option A) (a : A) → o ≡ Some a → IfSome o P → P a
some-of P o a e is = subst (λ x. IfSome x P) e is

found-first : {A : Type 0} (P : A → Type 0) (x : A) (b : Bool) (o : Option A) → P x → IfSome o P → IfSome (if b then Some x else o) P
found-first P x true o is others = is
found-first P x false o is others = others

pub found-each : {A : Type 0} (P : A → Type 0) (p : A → Bool) (xs : List A) → All P xs → IfSome (find p xs) P
found-each P p [] all = tt
found-each P p (x ∷ xs) all = found-first P x (p x) (find p xs) (All-head P x xs all) (found-each P p xs (All-tail P x xs all))

pub insert-each : (P : Component → Type 0) (new : Component) → P new → (xs : List Component) → All P xs → All P (insert new xs)
insert-each P new is [] all = All-cons P new [] is (All-nil P)
insert-each P new is (x ∷ xs) all = insert-each-first (is_before new x) (insert-each P new is xs (All-tail P x xs all))
  where
    insert-each-first : (b : Bool) → All P (insert new xs) → All P (if b then new ∷ x ∷ xs else x ∷ insert new xs)
    insert-each-first true others = All-cons P new (x ∷ xs) is all
    insert-each-first false others = All-cons P x (insert new xs) (All-head P x xs all) others

-- a new component comes in, unless its path is taken
pub new-each : (P : Component → Type 0) (new : Component) (c : Going) (b : Bool) → P new → All P c.components → All P (if b then c.components else insert new c.components)
new-each P new c true is all = all
new-each P new c false is all = insert-each P new is c.components all

-- what holds of each holds of one of them
pub get-each : {A : Type 0} (P : A → Type 0) (xs : List A) (k : ℕ) → All P xs → IfSome (slice_get xs k) P
get-each P [] k all = tt
get-each P (x ∷ xs) zero all = All-head P x xs all
get-each P (x ∷ xs) (suc k) all = get-each P xs k (All-tail P x xs all)
