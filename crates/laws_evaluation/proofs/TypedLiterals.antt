-- The value of what stands where a value of a type is wanted is of this type.
use Rattle.std.proofs.Common.{◌≡◌, ◌≢◌, ℕ, Bool, true, false, ◌||◌, List, [], ◌∷◌, map, Option, Some, None, if◌then◌else◌, refl, sym, ap, subst, ◌∙◌}
use Rattle.std.proofs.lemmas.Bool.{eqb-true}
use Rattle.ttcn_syntax.specs.declared.operator.Operator.{Operator}
use Rattle.ttcn_syntax.specs.declared.tree.definition.Definition.{Definition}
use Rattle.ttcn_syntax.specs.declared.tree.definition.Field.{Field}
use Rattle.ttcn_syntax.specs.declared.tree.expression.ComponentRef.{ComponentRef}
use Rattle.ttcn_syntax.specs.declared.tree.expression.ComponentRef.TheVariants as component
use Rattle.ttcn_syntax.specs.declared.tree.expression.Expr.{Expr}
use Rattle.ttcn_syntax.specs.declared.tree.expression.Expr.TheFolds.{fold-roll-Expr, ind-Expr, map-Expr}
use Rattle.ttcn_syntax.specs.declared.tree.expression.Expr.TheOpen.{Expr-F}
use Rattle.ttcn_syntax.specs.declared.tree.expression.Link.{Link}
use Rattle.laws_checker.proofs.Nothing.{kept, nothing-first, nothing-rest}
use Rattle.laws_checker.proofs.Typed.{expression_typed as expression_known}
use Rattle.check_rules.specs.Expressions as said
use Rattle.check_rules.specs.Expressions.{Judgement, Judge, check_component, check_field, check_meaning, check_self, join_links, expression, names_timer, within}
use Rattle.laws_checker.specs.Laws.{IsWhole}
use Rattle.check_scope.specs.Names.{Scope, constants_type, field_named, fields_at, kind_at, module_names, resolved}
use Rattle.check_scope.specs.Typings.{goes_to, same_type, typed, unless}
use Rattle.check_scope.specs.Typings as typings
use Rattle.check_rules.specs.Values.{check_expression}
use Rattle.check_scope.specs.declared.names.Meaning.{Meaning}
use Rattle.check_scope.specs.declared.names.Meaning.TheVariants as meaning
use Rattle.check_scope.specs.declared.rule.Rule.{Rule}
use Rattle.check_scope.specs.declared.rule.Rule.TheVariants as rule
use Rattle.check_scope.specs.declared.types.DataType.{DataType}
use Rattle.check_scope.specs.declared.types.DataType.TheVariants as type
use Rattle.check_scope.specs.declared.types.Typing.{Typing}
use Rattle.check_scope.specs.declared.types.Typing.TheVariants as typing
use Rattle.laws_evaluation.proofs.TypedValues.{expression_typed, goes-rolled, if-more, weaker-goes}
use Rattle.value_types.specs.Evaluation.{value_of}
use Rattle.value_types.specs.Outcomes.{IfYields}
use Rattle.value_types.specs.Readings.{Reading}
use Rattle.laws_evaluation.specs.Types.{FitsIn, IsOfTyping, is_of, value_goes}
use Rattle.value_types.specs.declared.value.Value.{Value}
use Rattle.value_types.specs.declared.value.Value.TheOpen.{Value-F}
use Rattle.value_types.specs.declared.value.Value.TheVariants as value

-- ---- a component of no known type stands free alone

abbrev pub is_any : Typing → Bool
is_any typing.AnyComponent = true
is_any _ = false

-- where it breaks no rule, its typing is not that of components of all types
abbrev NotAny : Judgement → Type 0
NotAny judged = judged.broken ≡ [] → is_any judged.typing ≡ false

typed-not : (of : Option DataType) → is_any (typed of) ≡ false
typed-not (Some t) = refl
typed-not None = refl

meaning-not : (definitions : List Definition) (m : Option Meaning) → is_any (check_meaning definitions m).typing ≡ false
meaning-not definitions (Some (meaning.Variable of)) = typed-not of
meaning-not definitions (Some (meaning.Constant of)) = typed-not of
meaning-not definitions (Some (meaning.ModuleConstant at item)) = typed-not (constants_type (module_names definitions) (kind_at definitions at))
meaning-not definitions _ = refl

field-not : (definitions : List Definition) (f : Option Field) → is_any (check_field definitions f).typing ≡ false
field-not definitions None = refl
field-not definitions (Some f) = typed-not (resolved (module_names definitions) f.type_name)

within-not : (definitions : List Definition) (t : Typing) (name : List ℕ) → is_any (within definitions t name).typing ≡ false
within-not definitions (typing.Known (type.Record at)) name = field-not definitions (field_named name (fields_at definitions at))
within-not definitions _ name = refl

along-not : (definitions : List Definition) (names : List (List ℕ)) (t : Typing) → is_any t ≡ false → is_any (said.along definitions t names).typing ≡ false
along-not definitions [] t is = is
along-not definitions (name ∷ names) t is = along-not definitions names (within definitions t name).typing (within-not definitions t name)

self-not : (itself : Option ℕ) → NotAny (check_self itself false)
self-not (Some at) nothing = refl
self-not None nothing = absurd (let e = nothing in cc)

component-not : (scope : Scope) (c : ComponentRef) → NotAny (check_component scope c false)
component-not scope component.Itself nothing = self-not scope.itself nothing
component-not scope component.Mtc nothing = absurd (let e = nothing in cc)
component-not scope (component.Named reference) nothing =
    along-not scope.definitions reference.fields (check_meaning scope.definitions (scope.names reference.name)).typing (meaning-not scope.definitions (scope.names reference.name))

running-not : (b : Bool) (found : Judgement) → is_any (if b then said.fine (typing.Known type.Boolean) else said.after found.broken (said.runs found.typing)).typing ≡ false
running-not true found = refl
running-not false found = refl

join_links-not : (scope : Scope) (links : List Link) (first : Judge) → NotAny (first scope false) → NotAny (join_links first (map said.link links) scope false)
join_links-not scope [] first is nothing = is nothing
join_links-not scope (l ∷ links) first is nothing =
    join_links-not scope links (said.join_link (said.link l).0 first (said.link l).1) (λ n. refl) nothing

abbrev NeverAny : Judge → Type 0
NeverAny judgement = (scope : Scope) → NotAny (judgement scope false)

abbrev HeldExpr : Type 0
HeldExpr = (e : Expr) × NeverAny (expression e)

abbrev HeldLink : Type 0
HeldLink = (l : Link) × Unit {0}

abbrev LevelNot : Expr-F Expr Link → Type 0
LevelNot x = NeverAny (said.expression_step (map-Expr Expr Link Judge (Operator × Judge) expression said.link x))

expr-not : (y : Expr-F HeldExpr HeldLink) → LevelNot (map-Expr HeldExpr HeldLink Expr Link (λ e. e.0) (λ l. l.0) y)
expr-not (Expr-F.Int n) = λ scope nothing. refl
expr-not (Expr-F.Bool b) = λ scope nothing. refl
expr-not Expr-F.Null = λ scope nothing. refl
expr-not (Expr-F.Reference reference) = λ scope nothing. component-not scope reference nothing
expr-not (Expr-F.Running reference) = λ scope nothing. running-not (names_timer scope reference) (check_component scope reference true)
expr-not (Expr-F.Ispresent reference) = λ scope nothing. refl
expr-not (Expr-F.Not e) = λ scope nothing. refl
expr-not (Expr-F.Signed s e) = λ scope nothing. refl
expr-not (Expr-F.Chain first links) = λ scope nothing. join_links-not scope (map (λ l. l.0) links) (expression first.0) (first.1 scope) nothing

pub expression-not-any : (e : Expr) → NeverAny (expression e)
expression-not-any = ind-Expr (λ e. NeverAny (expression e)) (λ l. Unit {0}) (λ x y is.
    subst NeverAny (sym (fold-roll-Expr Judge (Operator × Judge) said.expression_step said.link_step x))
    (subst LevelNot is (expr-not y))) (λ x y is. tt)

-- ---- what goes to a type

pub same-type : (t u : DataType) → same_type t u ≡ true → t ≡ u
same-type type.Integer type.Integer is = refl
same-type type.Boolean type.Boolean is = refl
same-type type.Default type.Default is = refl
same-type (type.Record at) (type.Record other) is = ap type.Record (eqb-true at other is)
same-type (type.Enumerated at) (type.Enumerated other) is = ap type.Enumerated (eqb-true at other is)
same-type (type.Component at) (type.Component other) is = ap type.Component (eqb-true at other is)
same-type _ _ is = absurd (let e = is in cc)

null-goes : (definitions : List Definition) (t : DataType) (o : Bool) → goes_to t typing.Null ≡ true → value_goes value.Null definitions (record { data_type = Some t; optional = o }) ≡ true
null-goes definitions t o goes =
    ap (λ v. value_goes v definitions (record { data_type = Some t; optional = o })) (sym value.rolls-Null)
    ∙ goes-rolled definitions Value-F.Null (record { data_type = Some t; optional = o }) ∙ level t goes
  where
    level : (t : DataType) → goes_to t typing.Null ≡ true → (typings.is_component t || typings.is_default t) ≡ true
    level (type.Component at) is = refl
    level type.Default is = refl
    level _ is = absurd (let e = is in cc)

-- a value of a typing that goes to a type goes there
typing-goes : (definitions : List Definition) (t : DataType) (o : Bool) (found : Typing) (v : Value) → goes_to t found ≡ true → found ≢ typing.Unknown → is_any found ≡ false
    → IsOfTyping definitions found v → value_goes v definitions (record { data_type = Some t; optional = o }) ≡ true
typing-goes definitions t o (typing.Known u) v goes known single of =
    weaker-goes definitions v (Some t) o (subst (λ k. is_of definitions k v ≡ true) (sym (same-type t u goes)) of)
typing-goes definitions t o typing.Null v goes known single of =
    subst (λ w. value_goes w definitions (record { data_type = Some t; optional = o }) ≡ true) (sym of) (null-goes definitions t o goes)
typing-goes definitions t o typing.AnyComponent v goes known single of = absurd (let e = single in cc)
typing-goes definitions t o typing.NoValue v goes known single of = absurd (let e = goes in cc)
typing-goes definitions t o typing.Unknown v goes known single of = absurd (known refl)

-- the value of an expression where a value of a type is wanted
pub wanted_goes : (scope : Scope) (reading : Reading) → IsWhole scope → FitsIn scope reading → (t : DataType) (o : Bool) (e : Expr) → check_expression scope (Some t) e ≡ []
    → IfYields (value_of e reading) (λ v. value_goes v scope.definitions (record { data_type = Some t; optional = o }) ≡ true)
wanted_goes scope reading whole fit t o e nothing =
    let judged : Judgement = expression e scope false in
    let wanted : List Rule = unless (goes_to t judged.typing) rule.ValueType in
    let fine : judged.broken ≡ [] = nothing-first judged.broken wanted nothing in
    if-more (IsOfTyping scope.definitions judged.typing) (λ v. value_goes v scope.definitions (record { data_type = Some t; optional = o }) ≡ true) (value_of e reading)
    (expression_typed e scope false reading fit)
    (λ v of. typing-goes scope.definitions t o judged.typing v (kept (goes_to t judged.typing) rule.ValueType (nothing-rest judged.broken wanted nothing))
    (expression_known e scope false whole fine) (expression-not-any e scope fine) of)
