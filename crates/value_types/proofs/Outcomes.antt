-- What outcomes become of their parts, and what a call gives where a part of it gave a fault.
use Rattle.std.proofs.Common.{◌≡◌, Option, Some, None, Err, refl, ap}
use Rattle.std.specs.Option.{option_and_then, option_map}
use Rattle.value_types.specs.Outcomes.{Failure, Fails, Gives, Outcome, Yields, or_error, or_unmet, outcome_and_then, outcome_map, value_in}
use Rattle.value_types.specs.declared.fault.Fault.{Fault}
use Rattle.value_types.specs.declared.fault.Fault.TheVariants.{Dynamic, Memory}

-- ---- the value, if there is one

pub value-in-or-error : {A : Type 0} (o : Option A) → value_in (or_error o) ≡ o
value-in-or-error None = refl
value-in-or-error (Some a) = refl

pub value-in-or-unmet : {A : Type 0} (o : Option A) → value_in (or_unmet o) ≡ o
value-in-or-unmet None = refl
value-in-or-unmet (Some a) = refl

pub value-in-map : {A B : Type 0} (f : A → B) (o : Outcome A) → value_in (outcome_map f o) ≡ option_map f (value_in o)
value-in-map f (Yields a) = refl
value-in-map f (Fails why) = refl

pub value-in-and-then : {A B : Type 0} (f : A → Outcome B) (o : Outcome A) → value_in (outcome_and_then f o) ≡ option_and_then (λ a. value_in (f a)) (value_in o)
value-in-and-then f (Yields a) = refl
value-in-and-then f (Fails why) = refl

pub ruleset outcome_forms = (value-in-or-error, value-in-or-unmet, value-in-map, value-in-and-then)

-- what has a value is that
pub yields-from : {A : Type 0} (o : Outcome A) (a : A) → value_in o ≡ Some a → o ≡ Yields a
yields-from (Yields b) a is = let same : b ≡ a = cc in ap Yields same
yields-from (Fails why) a is = absurd (let e = is in cc)

-- ---- faults

-- a fault of a part is one of the whole, where the whole fails as the part does
pub passes-on : {A B : Type 0} (part : Outcome A) (whole : Outcome B) (fault : Fault) → ((why : Failure) → part ≡ Fails why → whole ≡ Fails why)
    → Gives part (Err fault) → Gives whole (Err fault)
passes-on (Yields a) whole Dynamic so given = absurd (let e = given in cc)
passes-on (Fails why) whole Dynamic so given = ap value_in (so why refl)
passes-on part whole Memory so given = tt
