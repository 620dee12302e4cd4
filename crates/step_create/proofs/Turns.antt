-- Declarations one behind the other.
use Rattle.std.proofs.Common.{◌≡◌, ℕ, suc, ◌+◌, ◌<◌, ◌≤◌, List, ◌∷◌, length, get_or, drop, Result, Err, sym, ap, ◌∙◌, arith}
use Rattle.std.proofs.Math.Seq.{drop-cons}
use Rattle.std.proofs.lemmas.List.{drop_all}
use Rattle.std.specs.Result.{IsErrAnd}
use Rattle.semantics.specs.Configurations.{Frame}
use Rattle.semantics.specs.Creating.{declared_in_turn}
use Rattle.value_types.proofs.Faults.{given-by, handed-on-by}
use Rattle.value_types.specs.Outcomes.{Failure, Fails, GivesBy, Outcome, Yields, outcome_and_then}
use Rattle.value_types.specs.declared.fault.Fault.{Fault}

-- the first so many give this frame
abbrev pub HaveTurned : {A : Type 0} → (Frame → A → Outcome Frame) → List A → Frame → ℕ → Frame → Type 0
HaveTurned declared xs first n now = declared_in_turn declared xs first ≡ declared_in_turn declared (drop n xs) now

-- what the next one gives is given by those that are left
next-turned : {A : Type 0} (declared : Frame → A → Outcome Frame) (xs : List A) (now : Frame) (n : ℕ) (x : A) → n < length xs → x ≡ get_or xs n x
    → declared_in_turn declared (drop n xs) now ≡ outcome_and_then (declared_in_turn declared (drop (suc n) xs)) (declared now x)
next-turned declared xs now n x within is =
    ap (λ ys. declared_in_turn declared ys now) (drop-cons xs n x within ∙ ap (λ y. y ∷ drop (suc n) xs) (sym is))

pub one-turned : {A : Type 0} (declared : Frame → A → Outcome Frame) (xs : List A) (first now next : Frame) (n : ℕ) (x : A) → n < length xs → x ≡ get_or xs n x
    → HaveTurned declared xs first n now → declared now x ≡ Yields next → HaveTurned declared xs first (n + 1) next
one-turned declared xs first now next n x within is turned gives =
    turned ∙ next-turned declared xs now n x within is ∙ ap (outcome_and_then (declared_in_turn declared (drop (suc n) xs))) gives
    ∙ ap (λ m. declared_in_turn declared (drop m xs) next) (let same : suc n ≡ n + 1 = omega arith in same)

pub all-turned : {A : Type 0} (declared : Frame → A → Outcome Frame) (xs : List A) (first now : Frame) (n : ℕ) → length xs ≤ n
    → HaveTurned declared xs first n now → declared_in_turn declared xs first ≡ Yields now
all-turned declared xs first now n end turned = turned ∙ ap (λ ys. declared_in_turn declared ys now) (drop_all n xs end)

-- what fails at one of them fails
pub fault-turned : {A C : Type 0} (f : C → Frame) (declared : Frame → A → Outcome Frame) (xs : List A) (first now : Frame) (n : ℕ) (x : A) (fault : Fault) (r : Result C Fault)
    → n < length xs → x ≡ get_or xs n x → HaveTurned declared xs first n now → IsErrAnd r (λ e. e ≡ fault) → GivesBy f (declared now x) (Err fault)
    → GivesBy f (declared_in_turn declared xs first) r
fault-turned f declared xs first now n x fault r within is turned same gives =
    handed-on-by f (declared now x) (declared_in_turn declared xs first) fault r same (given-by f (declared now x) fault gives)
    (λ (why : Failure) (fails : declared now x ≡ Fails why).
    turned ∙ next-turned declared xs now n x within is ∙ ap (outcome_and_then (declared_in_turn declared (drop (suc n) xs))) fails)
