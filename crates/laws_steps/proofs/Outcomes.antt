-- What is known of an outcome is known of what is made of it.
use Rattle.std.proofs.Common.{◌≡◌, List, [], ◌∷◌, Option, Some, None, IfSome, subst}
use Rattle.std.specs.List.{All}
use Rattle.std.proofs.lemmas.List.Elements.{All-cons, All-nil}
use Rattle.value_types.specs.Outcomes.{Fails, IfYields, Outcome, Yields, or_unmet, outcome_and_then, outcome_map}

pub map-yields : {A B : Type 0} (P : A → Type 0) (Q : B → Type 0) (f : A → B) (o : Outcome A) → ((a : A) → P a → Q (f a)) → IfYields o P → IfYields (outcome_map f o) Q
map-yields P Q f (Yields a) more is = more a is
map-yields P Q f (Fails why) more is = tt

pub then-yields : {A B : Type 0} (P : A → Type 0) (Q : B → Type 0) (f : A → Outcome B) (o : Outcome A) → ((a : A) → P a → IfYields (f a) Q) → IfYields o P → IfYields (outcome_and_then f o) Q
then-yields P Q f (Yields a) more is = more a is
then-yields P Q f (Fails why) more is = tt

-- nothing is known of the first
pub any-yields : {A : Type 0} (o : Outcome A) → IfYields o (λ a. Unit {0})
any-yields (Yields a) = tt
any-yields (Fails why) = tt

pub unmet-yields : {A : Type 0} (P : A → Type 0) (o : Option A) → IfSome o P → IfYields (or_unmet o) P
unmet-yields P None is = tt
unmet-yields P (Some a) is = is

-- the value of an outcome that is known
pub yields-is : {A : Type 0} (P : A → Type 0) (o : Outcome A) (a : A) → o ≡ Yields a → IfYields o P → P a
yields-is P o a e is = subst (λ x. IfYields x P) e is

-- nothing is known of each in a list
every-any : {A : Type 0} (xs : List A) → All (λ a. Unit {0}) xs
every-any [] = All-nil (λ a. Unit {0})
every-any (x ∷ xs) = All-cons (λ a. Unit {0}) x xs tt (every-any xs)

pub any-each : {A : Type 0} (o : Outcome (List A)) → IfYields o (All (λ a. Unit {0}))
any-each (Yields xs) = every-any xs
any-each (Fails why) = tt
