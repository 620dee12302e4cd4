-- What is defined where a value may be missing, and what a call gives then.
use Rattle.std.specs.Prelude.{◌≡◌, List, [], ◌∷◌, Option, Some, None, Result, Ok, Err}
use Rattle.value_types.specs.declared.fault.Fault.{Fault}
use Rattle.value_types.specs.declared.fault.Fault.TheVariants.{Dynamic, Memory}

-- why there is no value
pub data Failure : Type 0 where
  -- an error of the run, with which the test case ends
  DynamicError : Failure
  -- what no checked module meets
  Unmet : Failure

-- a value, or why there is none
pub data Outcome (A : Type 0) : Type 0 where
  Yields : A → Outcome A
  Fails : Failure → Outcome A

-- no value, because of a dynamic error
abbrev pub dynamic_error : {A : Type 0} → Outcome A
dynamic_error = Fails DynamicError

-- no value, where no checked module comes
abbrev pub unmet : {A : Type 0} → Outcome A
unmet = Fails Unmet

-- ---- from what may be missing

-- a dynamic error where it is missing
abbrev pub or_error : {A : Type 0} → Option A → Outcome A
or_error None = dynamic_error
or_error (Some a) = Yields a

-- no checked module meets that it is missing
abbrev pub or_unmet : {A : Type 0} → Option A → Outcome A
or_unmet None = unmet
or_unmet (Some a) = Yields a

-- the value, if there is one
abbrev pub value_in : {A : Type 0} → Outcome A → Option A
value_in (Yields a) = Some a
value_in (Fails why) = None

-- ---- one after another

-- what is made of a value
abbrev pub outcome_map : {A B : Type 0} → (A → B) → Outcome A → Outcome B
outcome_map f (Yields a) = Yields (f a)
outcome_map f (Fails why) = Fails why

-- what a value gives
abbrev pub outcome_and_then : {A B : Type 0} → (A → Outcome B) → Outcome A → Outcome B
outcome_and_then f (Yields a) = f a
outcome_and_then f (Fails why) = Fails why

-- the values, where each is there: the first that is not says why
abbrev pub each : {A : Type 0} → List (Outcome A) → Outcome (List A)
each [] = Yields []
each (Fails why ∷ outcomes) = Fails why
each (Yields a ∷ outcomes) = outcome_map (λ others. a ∷ others) (each outcomes)

-- ---- what is known of an outcome

-- something holds of the value of an outcome, where there is one
abbrev pub IfYields : {A : Type 0} → Outcome A → (A → Type 0) → Type 0
IfYields (Yields a) P = P a
IfYields (Fails why) P = Unit {0}

-- an outcome is a value or a dynamic error, which a checked module may meet
abbrev pub IsMet : {A : Type 0} → Outcome A → Type 0
IsMet (Yields a) = Unit {0}
IsMet (Fails DynamicError) = Unit {0}
IsMet (Fails Unmet) = ⊥

-- ---- calls

-- a call gives the value, or the dynamic error where there is none for whatever reason, unless memory was refused
abbrev pub Gives : {A : Type 0} → Outcome A → Result A Fault → Type 0
Gives outcome (Ok value) = outcome ≡ Yields value
Gives outcome (Err Dynamic) = value_in outcome ≡ None
Gives outcome (Err Memory) = Unit {0}

-- a call gives what stands for the value, or the dynamic error where there is none for whatever reason, unless memory was refused
abbrev pub GivesBy : {A B : Type 0} → (B → A) → Outcome A → Result B Fault → Type 0
GivesBy f outcome (Ok value) = outcome ≡ Yields (f value)
GivesBy f outcome (Err Dynamic) = value_in outcome ≡ None
GivesBy f outcome (Err Memory) = Unit {0}

-- a call that asks for no memory is refused none
abbrev pub Answers : {B : Type 0} → Result B Fault → Type 0
Answers (Ok value) = Unit {0}
Answers (Err Dynamic) = Unit {0}
Answers (Err Memory) = ⊥
