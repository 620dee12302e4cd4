-- What is evaluated where a component stands.
use Rattle.std.proofs.Common.{◌≡◌, subst, Result}
use Rattle.value_types.specs.Outcomes.{Gives, Outcome}
use Rattle.value_types.specs.Readings.{Reading}
use Rattle.value_types.specs.declared.fault.Fault.{Fault}

-- what a call gives by one reading it gives by the same reading
pub gives-read : {A : Type 0} (f : Reading → Outcome A) (r s : Reading) (result : Result A Fault) → r ≡ s → Gives (f r) result → Gives (f s) result
gives-read f r s result same gives = subst (λ x. Gives (f x) result) same gives
