-- What a call says of a trial, part by part.
use Rattle.std.proofs.Common.{◌≡◌, Bool, true, false, Option, Some, None, Result, Ok, Err, refl, sym, ap, subst}
use Rattle.semantics.specs.Events as events
use Rattle.semantics.specs.Events.{Passed, Trial, happened_if, or_next, tried}
use Rattle.semantics.specs.Sites.{Site}
use Rattle.step_choice.specs.declared.taken.Deed.{Deed}
use Rattle.step_choice.specs.internal.Judged.{Tries, deed_if}
use Rattle.step_snapshot.specs.declared.snapshot.Snapshot.{Snapshot}
use Rattle.value_types.specs.Outcomes.{Fails, Gives, Outcome, Yields}
use Rattle.value_types.specs.declared.fault.Fault.{Fault}
use Rattle.value_types.specs.declared.fault.Fault.TheVariants.{Dynamic, Memory}

-- the same trial
pub same-trial : (s : Snapshot) (site : Site) (one other : Trial) (result : Result (Option Deed) Fault) → other ≡ one → Tries s site one result → Tries s site other result
same-trial s site one other result same said = subst (λ t. Tries s site t result) (sym same) said

-- a fault of what is tried first
pub failing : {A : Type 0} (s : Snapshot) (site : Site) (try : A → Trial) (outcome : Outcome A) (fault : Fault) → Gives outcome (Err fault) → Tries s site (tried try outcome) (Err fault)
failing s site try (Yields a) Dynamic given = absurd (let e = given in cc)
failing s site try (Fails why) Dynamic given = (why, refl)
failing s site try outcome Memory given = tt

-- what is tried of a value
pub trying : {A : Type 0} (s : Snapshot) (site : Site) (try : A → Trial) (outcome : Outcome A) (a : A) (result : Result (Option Deed) Fault) → Gives outcome (Ok a) → Tries s site (try a) result → Tries s site (tried try outcome) result
trying s site try outcome a result given said = subst (λ o. Tries s site (tried try o) result) (sym given) said

-- ---- one trial after another

pub decided : (s : Snapshot) (site : Site) (one next : Trial) (deed : Deed) → Tries s site one (Ok (Some deed)) → Tries s site (or_next one next) (Ok (Some deed))
decided s site one next deed (effect, (is, same)) = (effect, (ap (λ t. or_next t next) is, same))

pub faulty : (s : Snapshot) (site : Site) (one next : Trial) (fault : Fault) → Tries s site one (Err fault) → Tries s site (or_next one next) (Err fault)
faulty s site one next Dynamic (why, is) = (why, ap (λ t. or_next t next) is)
faulty s site one next Memory said = tt

pub next-tried : (one next : Trial) → one ≡ Passed → or_next one next ≡ next
next-tried one next passed = ap (λ t. or_next t next) passed

-- ---- what is true or not

pub happens : (s : Snapshot) (site : Site) (b : Bool) (r : Option Deed) → r ≡ deed_if b → Tries s site (happened_if b) (Ok r)
happens s site true r is = let P : Option Deed → Type 0 = λ o. Tries s site (happened_if true) (Ok o) in subst P (sym is) (events.Plain, (refl, refl))
happens s site false r is = let P : Option Deed → Type 0 = λ o. Tries s site (happened_if false) (Ok o) in subst P (sym is) refl
