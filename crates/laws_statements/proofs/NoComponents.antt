-- An expression that breaks no rule where `mtc` may not stand is no component of an unknown type.
use Rattle.std.proofs.Common.{◌≡◌, ◌≢◌, ℕ, Bool, true, false, List, [], ◌∷◌, map, Option, Some, None, if◌then◌else◌, sym, subst}
use Rattle.ttcn_syntax.specs.declared.operator.Operator.{Operator}
use Rattle.ttcn_syntax.specs.declared.tree.definition.Definition.{Definition}
use Rattle.ttcn_syntax.specs.declared.tree.definition.Field.{Field}
use Rattle.ttcn_syntax.specs.declared.tree.expression.ComponentRef.{ComponentRef}
use Rattle.ttcn_syntax.specs.declared.tree.expression.ComponentRef.TheVariants as component
use Rattle.ttcn_syntax.specs.declared.tree.expression.Expr.{Expr}
use Rattle.ttcn_syntax.specs.declared.tree.expression.Expr.TheFolds.{fold-roll-Expr, ind-Expr, map-Expr}
use Rattle.ttcn_syntax.specs.declared.tree.expression.Expr.TheOpen.{Expr-F}
use Rattle.ttcn_syntax.specs.declared.tree.expression.Link.{Link}
use Rattle.ttcn_syntax.specs.declared.tree.expression.Reference.{Reference}
use Rattle.check_rules.specs.Expressions.{Judge, Judgement, after, along, check_component, check_field, check_meaning, check_reference, check_running, check_self, expression, expression_step, fine, join_link, join_links, link, link_step, names_timer, runs, within}
use Rattle.check_scope.specs.Names.{Scope, constants_type, field_named, fields_at, kind_at, module_names, resolved}
use Rattle.check_scope.specs.Typings.{typed}
use Rattle.check_scope.specs.declared.names.Meaning.{Meaning}
use Rattle.check_scope.specs.declared.names.Meaning.TheVariants as meaning
use Rattle.check_scope.specs.declared.types.DataType.{DataType}
use Rattle.check_scope.specs.declared.types.DataType.TheVariants as type
use Rattle.check_scope.specs.declared.types.Typing.{Typing}
use Rattle.check_scope.specs.declared.types.Typing.TheVariants as typing

abbrev pub IsToldApart : Typing → Type 0
IsToldApart t = t ≢ typing.AnyComponent

pub typed-apart : (of : Option DataType) → IsToldApart (typed of)
typed-apart (Some t) is = cc
typed-apart None is = cc

known-apart : (t : DataType) → IsToldApart (typing.Known t)
known-apart t is = cc

-- ---- references

meaning-apart : (definitions : List Definition) (m : Option Meaning) → IsToldApart (check_meaning definitions m).typing
meaning-apart definitions (Some (meaning.Variable of)) = typed-apart of
meaning-apart definitions (Some (meaning.Constant of)) = typed-apart of
meaning-apart definitions (Some (meaning.ModuleConstant at item)) = typed-apart (constants_type (module_names definitions) (kind_at definitions at))
meaning-apart definitions (Some (meaning.Enumerator at)) = known-apart (type.Enumerated at)
meaning-apart definitions (Some (meaning.Port at)) = λ is. cc
meaning-apart definitions (Some meaning.Timer) = λ is. cc
meaning-apart definitions (Some (meaning.Record at)) = λ is. cc
meaning-apart definitions (Some (meaning.Enumerated at)) = λ is. cc
meaning-apart definitions (Some (meaning.PortType at)) = λ is. cc
meaning-apart definitions (Some (meaning.Component at)) = λ is. cc
meaning-apart definitions (Some (meaning.Template at)) = λ is. cc
meaning-apart definitions (Some (meaning.Function at)) = λ is. cc
meaning-apart definitions (Some (meaning.Altstep at)) = λ is. cc
meaning-apart definitions (Some (meaning.Testcase at)) = λ is. cc
meaning-apart definitions None = λ is. cc

field-apart : (definitions : List Definition) (field : Option Field) → IsToldApart (check_field definitions field).typing
field-apart definitions (Some field) = typed-apart (resolved (module_names definitions) field.type_name)
field-apart definitions None = λ is. cc

within-apart : (definitions : List Definition) (t : Typing) (name : List ℕ) → IsToldApart (within definitions t name).typing
within-apart definitions (typing.Known (type.Record at)) name = field-apart definitions (field_named name (fields_at definitions at))
within-apart definitions (typing.Known type.Integer) name = λ is. cc
within-apart definitions (typing.Known type.Boolean) name = λ is. cc
within-apart definitions (typing.Known type.Default) name = λ is. cc
within-apart definitions (typing.Known (type.Enumerated at)) name = λ is. cc
within-apart definitions (typing.Known (type.Component at)) name = λ is. cc
within-apart definitions typing.Null name = λ is. cc
within-apart definitions typing.AnyComponent name = λ is. cc
within-apart definitions typing.NoValue name = λ is. cc
within-apart definitions typing.Unknown name = λ is. cc

along-apart : (definitions : List Definition) (names : List (List ℕ)) (t : Typing) → IsToldApart t → IsToldApart (along definitions t names).typing
along-apart definitions [] t apart = apart
along-apart definitions (name ∷ names) t apart = along-apart definitions names (within definitions t name).typing (within-apart definitions t name)

reference-apart : (scope : Scope) (reference : Reference) → IsToldApart (check_reference scope reference).typing
reference-apart scope reference =
    along-apart scope.definitions reference.fields (check_meaning scope.definitions (scope.names reference.name)).typing (meaning-apart scope.definitions (scope.names reference.name))

-- where nothing is broken
abbrev IsApart : Judgement → Type 0
IsApart judged = judged.broken ≡ [] → IsToldApart judged.typing

self-apart : (itself : Option ℕ) → IsApart (check_self itself false)
self-apart (Some at) nothing = known-apart (type.Component at)
self-apart None nothing = absurd (let e = nothing in cc)

component-apart : (scope : Scope) (c : ComponentRef) → IsApart (check_component scope c false)
component-apart scope component.Itself nothing = self-apart scope.itself nothing
component-apart scope component.Mtc nothing = absurd (let e = nothing in cc)
component-apart scope (component.Named reference) nothing = reference-apart scope reference

running-apart : (scope : Scope) (c : ComponentRef) → IsApart (check_running scope c)
running-apart scope c = told (names_timer scope c)
  where
    told : (b : Bool) → IsApart (if b then fine (typing.Known type.Boolean) else after (check_component scope c true).broken (runs (check_component scope c true).typing))
    told true nothing = known-apart type.Boolean
    told false nothing = known-apart type.Boolean

-- ---- expressions

abbrev Apart : Judge → Type 0
Apart judgement = (scope : Scope) → IsApart (judgement scope false)

abbrev HeldExpr : Type 0
HeldExpr = (e : Expr) × Apart (expression e)

abbrev HeldLink : Type 0
HeldLink = (l : Link) × Unit {0}

link-apart : (op : Operator) (left right : Judge) → Apart (join_link op left right)
link-apart op left right scope nothing is = cc

links-apart : (first : Judge) (links : List (Operator × Judge)) → Apart first → Apart (join_links first links)
links-apart first [] apart = apart
links-apart first (l ∷ links) apart = links-apart (join_link l.0 first l.1) links (link-apart l.0 first l.1)

held-apart : (y : Expr-F HeldExpr HeldLink)
    → Apart (expression_step (map-Expr Expr Link Judge (Operator × Judge) expression link (map-Expr HeldExpr HeldLink Expr Link (λ e. e.0) (λ l. l.0) y)))
held-apart (Expr-F.Int n) = λ scope nothing. known-apart type.Integer
held-apart (Expr-F.Bool b) = λ scope nothing. known-apart type.Boolean
held-apart Expr-F.Null = λ scope nothing is. cc
held-apart (Expr-F.Reference reference) = λ scope. component-apart scope reference
held-apart (Expr-F.Running reference) = λ scope. running-apart scope reference
held-apart (Expr-F.Ispresent reference) = λ scope nothing. known-apart type.Boolean
held-apart (Expr-F.Not e) = λ scope nothing. known-apart type.Boolean
held-apart (Expr-F.Signed sign e) = λ scope nothing. known-apart type.Integer
held-apart (Expr-F.Chain first links) = links-apart (expression first.0) (map link (map (λ l. l.0) links)) first.1

pub expression-apart : (e : Expr) → Apart (expression e)
expression-apart = ind-Expr (λ e. Apart (expression e)) (λ l. Unit {0}) (λ x y is.
    subst Apart (sym (fold-roll-Expr Judge (Operator × Judge) expression_step link_step x))
    (subst (λ z. Apart (expression_step (map-Expr Expr Link Judge (Operator × Judge) expression link z))) is (held-apart y))) (λ x y is. tt)
