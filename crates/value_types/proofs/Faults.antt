-- Faults that are handed on.
use Rattle.std.proofs.Common.{◌≡◌, Result, Ok, Err, sym, ap, subst, ◌∙◌}
use Rattle.std.specs.Result.{IsErrAnd}
use Rattle.value_types.proofs.Outcomes.{passes-on}
use Rattle.value_types.specs.Outcomes.{Failure, Fails, Gives, GivesBy, Outcome, value_in}
use Rattle.value_types.specs.declared.fault.Fault.{Fault}
use Rattle.value_types.specs.declared.fault.Fault.TheVariants.{Dynamic, Memory}

-- what fails as a part does gives the part's fault
pub handed-on : {A B : Type 0} (part : Outcome A) (whole : Outcome B) (fault : Fault) (r : Result B Fault)
    → IsErrAnd r (λ e. e ≡ fault) → Gives {A = A} part (Err fault) → ((why : Failure) → part ≡ Fails why → whole ≡ Fails why) → Gives whole r
handed-on part whole fault (Ok b) is gives fails = absurd is
handed-on part whole fault (Err Dynamic) is gives fails = passes-on part whole Dynamic fails (subst (λ e. Gives part (Err e)) (sym is) gives)
handed-on part whole fault (Err Memory) is gives fails = tt

pub handed-on-by : {A B C : Type 0} (f : C → B) (part : Outcome A) (whole : Outcome B) (fault : Fault) (r : Result C Fault)
    → IsErrAnd r (λ e. e ≡ fault) → Gives {A = A} part (Err fault) → ((why : Failure) → part ≡ Fails why → whole ≡ Fails why) → GivesBy f whole r
handed-on-by f part whole fault (Ok c) is gives fails = absurd is
handed-on-by f part whole fault (Err Dynamic) is gives fails = passes-on part whole Dynamic fails (subst (λ e. Gives part (Err e)) (sym is) gives)
handed-on-by f part whole fault (Err Memory) is gives fails = tt

-- what a call gives by what it stands for
pub given-by : {A C : Type 0} (f : C → A) (part : Outcome A) (fault : Fault) → GivesBy f part (Err fault) → Gives part (Err fault)
given-by f part Dynamic gives = gives
given-by f part Memory gives = tt

pub gives-same : {A : Type 0} (o p : Outcome A) (r : Result A Fault) → o ≡ p → Gives p r → Gives o r
gives-same o p (Ok a) same gives = same ∙ gives
gives-same o p (Err Dynamic) same gives = ap value_in same ∙ gives
gives-same o p (Err Memory) same gives = tt
