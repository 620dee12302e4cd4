-- Outcomes of which it may be demanded that they are met.
use Rattle.std.proofs.Common.{◌≡◌, Bool, true, false, List, [], ◌∷◌, Some, if◌then◌else◌, refl}
use Rattle.ttcn_syntax.specs.declared.tree.expression.Expr.{Expr}
use Rattle.laws_checker.proofs.Nothing.{kept, nothing-first, nothing-rest}
use Rattle.laws_checker.specs.Laws.{IsWhole}
use Rattle.check_rules.specs.Expressions.{Judgement, expression}
use Rattle.check_rules.specs.Values.{check_expression}
use Rattle.check_scope.specs.Names.{Scope}
use Rattle.check_scope.specs.Typings.{goes_to, unless}
use Rattle.check_scope.specs.declared.rule.Rule.{Rule}
use Rattle.check_scope.specs.declared.rule.Rule.TheVariants as rule
use Rattle.check_scope.specs.declared.types.DataType.{DataType}
use Rattle.check_scope.specs.declared.types.Typing.{Typing}
use Rattle.check_scope.specs.declared.types.Typing.TheVariants as typing
use Rattle.laws_evaluation.proofs.MetExpressions.{expressions_met}
use Rattle.laws_evaluation.proofs.TypedLiterals.{wanted_goes}
use Rattle.laws_evaluation.specs.Types.{FitsIn, HasAll, ParametersKnown, is_valued, value_goes}
use Rattle.value_types.specs.Evaluation.{value_of}
use Rattle.value_types.specs.Outcomes.{DynamicError, Fails, IfYields, IsMet, Outcome, Unmet, Yields, each, outcome_and_then, outcome_map, unmet}
use Rattle.value_types.specs.Readings.{Reading}

-- something may be unmet, unless the contrary is demanded
abbrev pub MayBeUnmet : Bool → Type 0
MayBeUnmet true = ⊥
MayBeUnmet false = Unit {0}

-- the value is such, where there is one; if it is demanded, there is one or a dynamic error
abbrev pub Meets : {A : Type 0} → Bool → Outcome A → (A → Type 0) → Type 0
Meets strict (Yields a) P = P a
Meets strict (Fails DynamicError) P = Unit {0}
Meets strict (Fails Unmet) P = MayBeUnmet strict

-- where it is demanded, the reading has all
abbrev pub AllIf : Bool → Scope → Reading → Type 0
AllIf true scope reading = HasAll scope reading
AllIf false scope reading = Unit {0}

-- and the parameters of templates have their types
abbrev pub TemplatesIf : Bool → Scope → Reading → Type 0
TemplatesIf true scope reading = HasAll scope reading × ParametersKnown scope.definitions
TemplatesIf false scope reading = Unit {0}

pub all-if : (strict : Bool) (scope : Scope) (reading : Reading) → TemplatesIf strict scope reading → AllIf strict scope reading
all-if true scope reading has = has.0
all-if false scope reading has = tt

pub yields-of : {A : Type 0} (P : A → Type 0) (o : Outcome A) → Meets false o P → IfYields o P
yields-of P (Yields a) of = of
yields-of P (Fails why) of = tt

pub met-of : {A : Type 0} (P : A → Type 0) (o : Outcome A) → Meets true o P → IsMet o
met-of P (Yields a) of = tt
met-of P (Fails DynamicError) of = tt
met-of P (Fails Unmet) of = of

pub meets-both : {A : Type 0} (strict : Bool) (P : A → Type 0) (o : Outcome A) → IfYields o P → (strict ≡ true → IsMet o) → Meets strict o P
meets-both strict P (Yields a) of met = of
meets-both strict P (Fails DynamicError) of met = tt
meets-both true P (Fails Unmet) of met = met refl
meets-both false P (Fails Unmet) of met = tt

pub meets-mapped : {A B : Type 0} (strict : Bool) (Q : A → Type 0) (P : B → Type 0) (f : A → B) (o : Outcome A) → Meets strict o Q → ((a : A) → Q a → P (f a)) → Meets strict (outcome_map f o) P
meets-mapped strict Q P f (Yields a) of all = all a of
meets-mapped strict Q P f (Fails DynamicError) of all = tt
meets-mapped strict Q P f (Fails Unmet) of all = of

pub meets-then : {A B : Type 0} (strict : Bool) (Q : A → Type 0) (P : B → Type 0) (f : A → Outcome B) (o : Outcome A) → Meets strict o Q → ((a : A) → Q a → Meets strict (f a) P) → Meets strict (outcome_and_then f o) P
meets-then strict Q P f (Yields a) of all = all a of
meets-then strict Q P f (Fails DynamicError) of all = tt
meets-then strict Q P f (Fails Unmet) of all = of

pub meets-more : {A : Type 0} (strict : Bool) (Q P : A → Type 0) (o : Outcome A) → Meets strict o Q → ((a : A) → Q a → P a) → Meets strict o P
meets-more strict Q P (Yields a) of all = all a of
meets-more strict Q P (Fails DynamicError) of all = tt
meets-more strict Q P (Fails Unmet) of all = of

pub meets-chosen : {A : Type 0} (strict : Bool) (P : A → Type 0) (b : Bool) (o : Outcome A) → b ≡ true → Meets strict o P → Meets strict (if b then o else unmet) P
meets-chosen strict P true o is of = of
meets-chosen strict P false o is of = absurd (let e = is in cc)

-- the first outcome, and those behind it
pub meets-each : {A : Type 0} (strict : Bool) (Q : A → Type 0) (R P : List A → Type 0) (o : Outcome A) (others : List (Outcome A)) → Meets strict o Q → Meets strict (each others) R
    → ((a : A) (rest : List A) → Q a → R rest → P (a ∷ rest)) → Meets strict (each (o ∷ others)) P
meets-each strict Q R P (Fails DynamicError) others first rest all = tt
meets-each strict Q R P (Fails Unmet) others first rest all = first
meets-each strict Q R P (Yields a) others first rest all = meets-mapped strict R P (λ others. a ∷ others) (each others) rest (λ found r. all a found first r)

goes-valued : (t : DataType) (found : Typing) → goes_to t found ≡ true → is_valued found ≡ true
goes-valued t (typing.Known u) goes = refl
goes-valued t typing.Null goes = refl
goes-valued t typing.AnyComponent goes = refl
goes-valued t typing.Unknown goes = refl
goes-valued t typing.NoValue goes = absurd (let e = goes in cc)

-- an expression where a value of a type is wanted
pub wanted-meets : (scope : Scope) (reading : Reading) → IsWhole scope → FitsIn scope reading → (strict : Bool) → AllIf strict scope reading → (t : DataType) (o : Bool) (e : Expr) → check_expression scope (Some t) e ≡ []
    → Meets strict (value_of e reading) (λ v. value_goes v scope.definitions (record { data_type = Some t; optional = o }) ≡ true)
wanted-meets scope reading whole fit strict all t o e nothing =
    meets-both strict (λ v. value_goes v scope.definitions (record { data_type = Some t; optional = o }) ≡ true) (value_of e reading) (wanted_goes scope reading whole fit t o e nothing) (λ is. is-met strict is all)
  where
    is-met : (demanded : Bool) → demanded ≡ true → AllIf demanded scope reading → IsMet (value_of e reading)
    is-met true is has =
        let judged : Judgement = expression e scope false in
        let wanted : List Rule = unless (goes_to t judged.typing) rule.ValueType in
        expressions_met e scope reading whole fit has false (nothing-first judged.broken wanted nothing)
        (goes-valued t judged.typing (kept (goes_to t judged.typing) rule.ValueType (nothing-rest judged.broken wanted nothing)))
    is-met false is has = absurd (let e = is in cc)
