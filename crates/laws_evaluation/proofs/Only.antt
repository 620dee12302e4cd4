-- Outcomes that are values of which something holds, or dynamic errors.
use Rattle.std.proofs.Common.{◌≡◌, sym, subst}
use Rattle.value_types.specs.Outcomes.{DynamicError, Fails, IfYields, IsMet, Outcome, Unmet, Yields, outcome_and_then, outcome_map}
use Rattle.laws_evaluation.specs.Uses.{GivesAlways, GivesOnly}

pub only-of : {A : Type 0} (P : A → Type 0) (o : Outcome A) → IsMet o → IfYields o P → GivesOnly o P
only-of P (Yields a) met of = of
only-of P (Fails DynamicError) met of = tt
only-of P (Fails Unmet) met of = met

pub only-then : {A B : Type 0} (Q : A → Type 0) (P : B → Type 0) (f : A → Outcome B) (o : Outcome A) → GivesOnly o Q → ((a : A) → Q a → GivesOnly (f a) P) → GivesOnly (outcome_and_then f o) P
only-then Q P f (Yields a) of all = all a of
only-then Q P f (Fails DynamicError) of all = tt
only-then Q P f (Fails Unmet) of all = of

pub only-more : {A : Type 0} (Q P : A → Type 0) (o : Outcome A) → GivesOnly o Q → ((a : A) → Q a → P a) → GivesOnly o P
only-more Q P (Yields a) of all = all a of
only-more Q P (Fails DynamicError) of all = tt
only-more Q P (Fails Unmet) of all = of

-- what is always given is such a value
pub only-always : {A : Type 0} (P : A → Type 0) (o : Outcome A) → GivesAlways o P → GivesOnly o P
only-always P (Yields a) of = of
only-always P (Fails why) of = absurd of

pub always-found : {A B : Type 0} (P : B → Type 0) (f : A → Outcome B) (o : Outcome A) (a : A) → o ≡ Yields a → GivesAlways (f a) P → GivesAlways (outcome_and_then f o) P
always-found P f o a is of = subst (λ found. GivesAlways (outcome_and_then f found) P) (sym is) of

pub always-mapped : {A B : Type 0} (Q : A → Type 0) (P : B → Type 0) (f : A → B) (o : Outcome A) → GivesAlways o Q → ((a : A) → Q a → P (f a)) → GivesAlways (outcome_map f o) P
always-mapped Q P f (Yields a) of all = all a of
always-mapped Q P f (Fails why) of all = of

pub always-more : {A : Type 0} (Q P : A → Type 0) (o : Outcome A) → GivesAlways o Q → ((a : A) → Q a → P a) → GivesAlways o P
always-more Q P (Yields a) of all = all a of
always-more Q P (Fails why) of all = of
