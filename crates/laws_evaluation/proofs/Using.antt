-- Conditions and component references that break no rule.
use Rattle.std.proofs.Common.{◌≡◌, ◌≢◌, ℕ, Bool, true, false, List, [], Some, refl, sym, ap, subst, ◌∙◌}
use Rattle.ttcn_syntax.specs.declared.tree.definition.Definition.{Definition}
use Rattle.ttcn_syntax.specs.declared.tree.expression.ComponentRef.{ComponentRef}
use Rattle.ttcn_syntax.specs.declared.tree.expression.ComponentRef.TheVariants as component
use Rattle.ttcn_syntax.specs.declared.tree.expression.Expr.{Expr}
use Rattle.ttcn_syntax.specs.declared.tree.expression.Reference.{Reference}
use Rattle.check_rules.specs.Expressions.{Judgement, check_component, check_reference, check_wanted_component, expression}
use Rattle.check_scope.specs.Names.{Scope}
use Rattle.check_scope.specs.Typings.{refers_to_component, same_type, target_of, unless}
use Rattle.check_scope.specs.declared.rule.Rule.{Rule}
use Rattle.check_scope.specs.declared.rule.Rule.TheVariants as rule
use Rattle.check_scope.specs.declared.types.DataType.TheVariants as type
use Rattle.check_scope.specs.declared.types.Typing.{Typing}
use Rattle.check_scope.specs.declared.types.Typing.TheVariants as typing
use Rattle.check_rules.specs.Statements.{check_boolean, check_condition, check_deactivate, refers_to_default}
use Rattle.laws_checker.proofs.Nothing.{kept, nothing-first, nothing-rest}
use Rattle.laws_checker.proofs.Typed.{component-typed, expression_typed as expression_known, reference-typed}
use Rattle.laws_checker.specs.Laws.{IsWhole}
use Rattle.laws_evaluation.proofs.MetExpressions.{boolean-there, component-met, expressions_met, met-then, met-there}
use Rattle.laws_evaluation.proofs.Only.{only-more, only-of, only-then}
use Rattle.laws_evaluation.proofs.TypedLiterals.{same-type}
use Rattle.laws_evaluation.proofs.TypedValues.{component-goes, expression_typed, goes-out, goes-rolled, level_goes}
use Rattle.laws_evaluation.specs.Types.{FitsIn, HasAll, IsOfTyping, is_of, is_valued, value_goes}
use Rattle.laws_evaluation.specs.Uses.{GivesOnly, IsReference}
use Rattle.value_types.specs.Evaluation.{condition_of, value_of}
use Rattle.value_types.specs.Outcomes.{IfYields, IsMet, or_unmet}
use Rattle.value_types.specs.Readings.{Reading, component_at, component_referred, referred}
use Rattle.value_types.specs.Values as values
use Rattle.value_types.specs.Values.{boolean}
use Rattle.value_types.specs.declared.value.ComponentId.{ComponentId}
use Rattle.value_types.specs.declared.value.Value.{Value, out-Value}
use Rattle.value_types.specs.declared.value.Value.TheOpen.{Value-F}
use Rattle.value_types.specs.declared.value.Value.TheVariants as value

-- ---- conditions

typed-boolean : (t : Typing) → t ≢ typing.Unknown → check_boolean t ≡ [] → t ≡ typing.Known type.Boolean
typed-boolean (typing.Known t) known nothing = ap typing.Known (sym (same-type type.Boolean t (kept (same_type type.Boolean t) rule.Condition nothing)))
typed-boolean typing.Null known nothing = absurd (let e = nothing in cc)
typed-boolean typing.AnyComponent known nothing = absurd (let e = nothing in cc)
typed-boolean typing.NoValue known nothing = absurd (let e = nothing in cc)
typed-boolean typing.Unknown known nothing = absurd (known refl)

pub conditions_met : (e : Expr) (scope : Scope) (reading : Reading) → IsWhole scope → FitsIn scope reading → HasAll scope reading → check_condition scope e ≡ [] → IsMet (condition_of e reading)
conditions_met e scope reading whole fit all nothing =
    let judged : Judgement = expression e scope false in
    let fine : judged.broken ≡ [] = nothing-first judged.broken (check_boolean judged.typing) nothing in
    let is : judged.typing ≡ typing.Known type.Boolean =
    typed-boolean judged.typing (expression_known e scope false whole fine) (nothing-rest judged.broken (check_boolean judged.typing) nothing) in
    met-then (λ v. is_of scope.definitions type.Boolean v ≡ true) (λ v. or_unmet (boolean v)) (value_of e reading)
    (expressions_met e scope reading whole fit all false fine (ap is_valued is))
    (subst (λ t. IfYields (value_of e reading) (IsOfTyping scope.definitions t)) is (expression_typed e scope false reading fit))
    (λ v of. met-there (boolean v) (boolean-there scope.definitions v of))

-- ---- components

referring-valued : (t : Typing) → refers_to_component t ≡ true → is_valued t ≡ true
referring-valued (typing.Known t) is = refl
referring-valued typing.Null is = refl
referring-valued typing.AnyComponent is = refl
referring-valued typing.Unknown is = refl
referring-valued typing.NoValue is = absurd (let e = is in cc)

module _ (definitions : List Definition) where
  refers : (t : Typing) (v : Value) → t ≢ typing.Unknown → refers_to_component t ≡ true → IsOfTyping definitions t v → IsReference definitions t v
  refers (typing.Known (type.Component at)) v known is of = record { component_type = at; is_component = of; is_typed = of }
  refers typing.AnyComponent v known is of = record { component_type = of.0; is_component = of.1; is_typed = of }
  refers (typing.Known (type.Record at)) v known is of = absurd (let e = is in cc)
  refers (typing.Known (type.Enumerated at)) v known is of = absurd (let e = is in cc)
  refers (typing.Known type.Integer) v known is of = absurd (let e = is in cc)
  refers (typing.Known type.Boolean) v known is of = absurd (let e = is in cc)
  refers (typing.Known type.Default) v known is of = absurd (let e = is in cc)
  refers typing.Null v known is of = absurd (let e = is in cc)
  refers typing.NoValue v known is of = absurd (let e = is in cc)
  refers typing.Unknown v known is of = absurd (known refl)

  -- the component that a reference is to
  abbrev OfType : ℕ → ComponentId → Type 0
  OfType at c = is_of definitions (type.Component at) (value.Component c) ≡ true

  level-referred : (x : Value-F Value) (at : ℕ) → level_goes definitions x (target_of (Some (type.Component at))) ≡ true → GivesOnly (values.component_in x) (OfType at)
  level-referred (Value-F.Component c) at goes =
      ap (λ v. value_goes v definitions (target_of (Some (type.Component at)))) (sym (value.rolls-Component c))
      ∙ goes-rolled definitions (Value-F.Component c) (target_of (Some (type.Component at))) ∙ goes
  level-referred Value-F.Null at goes = tt
  level-referred (Value-F.Integer n) at goes = absurd (let e = goes in cc)
  level-referred (Value-F.Boolean b) at goes = absurd (let e = goes in cc)
  level-referred (Value-F.Enumerated bt n) at goes = absurd (let e = goes in cc)
  level-referred (Value-F.Record bt fields) at goes = absurd (let e = goes in cc)
  level-referred (Value-F.Default n) at goes = absurd (let e = goes in cc)
  level-referred Value-F.Omit at goes = absurd (let e = goes in cc)

  referred-of : (v : Value) (at : ℕ) → is_of definitions (type.Component at) v ≡ true → GivesOnly (values.component v) (OfType at)
  referred-of v at is = level-referred (out-Value v) at (sym (goes-out definitions v (target_of (Some (type.Component at)))) ∙ is)

  -- is of the typing of the reference
  referred-typed : (t : Typing) (v : Value) → t ≢ typing.Unknown → refers_to_component t ≡ true → IsOfTyping definitions t v
      → GivesOnly (values.component v) (λ c. IsOfTyping definitions t (value.Component c))
  referred-typed (typing.Known (type.Component at)) v known is of = referred-of v at of
  referred-typed typing.AnyComponent v known is of =
      only-more (OfType of.0) (λ c. IsOfTyping definitions typing.AnyComponent (value.Component c)) (values.component v) (referred-of v of.0 of.1) (λ c goes. (of.0, goes))
  referred-typed (typing.Known (type.Record at)) v known is of = absurd (let e = is in cc)
  referred-typed (typing.Known (type.Enumerated at)) v known is of = absurd (let e = is in cc)
  referred-typed (typing.Known type.Integer) v known is of = absurd (let e = is in cc)
  referred-typed (typing.Known type.Boolean) v known is of = absurd (let e = is in cc)
  referred-typed (typing.Known type.Default) v known is of = absurd (let e = is in cc)
  referred-typed typing.Null v known is of = absurd (let e = is in cc)
  referred-typed typing.NoValue v known is of = absurd (let e = is in cc)
  referred-typed typing.Unknown v known is of = absurd (known refl)

module _ (c : ComponentRef) (scope : Scope) (reading : Reading) (whole : IsWhole scope) (fit : FitsIn scope reading) (all : HasAll scope reading) (free : Bool)
    (nothing : (check_component scope c free).broken ≡ []) (refer : refers_to_component (check_component scope c free).typing ≡ true) where
  abbrev found : Typing
  found = (check_component scope c free).typing

  given : GivesOnly (component_at reading c) (IsOfTyping scope.definitions found)
  given =
      only-of (IsOfTyping scope.definitions found) (component_at reading c) (component-met scope reading whole fit all c free nothing (referring-valued found refer))
      (component-goes scope reading fit c free)

  pub component_given : GivesOnly (component_at reading c) (IsReference scope.definitions found)
  component_given =
      only-more (IsOfTyping scope.definitions found) (IsReference scope.definitions found) (component_at reading c) given
      (λ v of. refers scope.definitions found v (component-typed scope whole c free nothing) refer of)

  pub component_found : GivesOnly (component_referred reading c) (λ id. IsOfTyping scope.definitions found (value.Component id))
  component_found =
      only-then (IsOfTyping scope.definitions found) (λ id. IsOfTyping scope.definitions found (value.Component id)) values.component (component_at reading c) given
      (λ v of. referred-typed scope.definitions found v (component-typed scope whole c free nothing) refer of)

-- where a component is wanted
module _ (c : ComponentRef) (scope : Scope) (reading : Reading) (whole : IsWhole scope) (fit : FitsIn scope reading) (all : HasAll scope reading)
    (nothing : (check_wanted_component scope c).broken ≡ []) where
  abbrev judged : Judgement
  judged = check_component scope c true

  fine : judged.broken ≡ []
  fine = nothing-first judged.broken (unless (refers_to_component judged.typing) rule.UnknownName) nothing

  refer : refers_to_component judged.typing ≡ true
  refer = kept (refers_to_component judged.typing) rule.UnknownName (nothing-rest judged.broken (unless (refers_to_component judged.typing) rule.UnknownName) nothing)

  pub wanted_given : GivesOnly (component_at reading c) (IsReference scope.definitions (check_wanted_component scope c).typing)
  wanted_given = component_given c scope reading whole fit all true fine refer

  pub wanted_found : GivesOnly (component_referred reading c) (λ id. IsOfTyping scope.definitions (check_wanted_component scope c).typing (value.Component id))
  wanted_found = component_found c scope reading whole fit all true fine refer

-- ---- references

pub reference_given : (reference : Reference) (scope : Scope) (reading : Reading) → IsWhole scope → FitsIn scope reading → HasAll scope reading → (check_reference scope reference).broken ≡ []
    → is_valued (check_reference scope reference).typing ≡ true → GivesOnly (referred reading reference) (IsOfTyping scope.definitions (check_reference scope reference).typing)
reference_given reference scope reading whole fit all nothing valued =
    only-of (IsOfTyping scope.definitions (check_reference scope reference).typing) (referred reading reference)
    (component-met scope reading whole fit all (component.Named reference) false nothing valued) (component-goes scope reading fit (component.Named reference) false)

default-typed : (t : Typing) → t ≢ typing.Unknown → refers_to_default t ≡ true → t ≡ typing.Known type.Default
default-typed (typing.Known type.Default) known is = refl
default-typed typing.Unknown known is = absurd (known refl)
default-typed _ known is = absurd (let e = is in cc)

pub default_given : (reference : Reference) (scope : Scope) (reading : Reading) → IsWhole scope → FitsIn scope reading → HasAll scope reading → check_deactivate scope (Some reference) ≡ []
    → GivesOnly (referred reading reference) (λ v. is_of scope.definitions type.Default v ≡ true)
default_given reference scope reading whole fit all nothing =
    let judged : Judgement = check_reference scope reference in
    let rest : List Rule = unless (refers_to_default judged.typing) rule.UnknownName in
    let fine : judged.broken ≡ [] = nothing-first judged.broken rest nothing in
    let is : judged.typing ≡ typing.Known type.Default =
    default-typed judged.typing (reference-typed scope whole reference fine) (kept (refers_to_default judged.typing) rule.UnknownName (nothing-rest judged.broken rest nothing)) in
    subst (λ t. GivesOnly (referred reading reference) (IsOfTyping scope.definitions t)) is (reference_given reference scope reading whole fit all fine (ap is_valued is))
