-- An expression that breaks no rule has its type.
use Rattle.std.proofs.Common.{◌≡◌, ◌≢◌, ℕ, Bool, true, false, List, [], ◌∷◌, ◌++◌, map, bytes_eq, Option, Some, None, is_some, IfSome, if◌then◌else◌, refl, sym, ap, subst, ◌∙◌}
use Rattle.std.proofs.lemmas.List.Elements.{All-head, All-tail}
use Rattle.std.specs.List.{All, find}
use Rattle.ttcn_syntax.specs.declared.operator.Operator.{Operator}
use Rattle.ttcn_syntax.specs.declared.tree.definition.Field.{Field}
use Rattle.ttcn_syntax.specs.declared.tree.expression.ComponentRef.{ComponentRef}
use Rattle.ttcn_syntax.specs.declared.tree.expression.ComponentRef.TheVariants as component
use Rattle.ttcn_syntax.specs.declared.operator.Sign.{Sign}
use Rattle.ttcn_syntax.specs.declared.tree.expression.Expr.{Expr}
use Rattle.ttcn_syntax.specs.declared.tree.expression.Expr.TheVariants as expr
use Rattle.ttcn_syntax.specs.declared.tree.expression.Expr.TheFolds.{fold-roll-Expr, ind-Expr, map-Expr}
use Rattle.ttcn_syntax.specs.declared.tree.expression.Expr.TheOpen.{Expr-F}
use Rattle.ttcn_syntax.specs.declared.tree.expression.Link.{Link, out-Link}
use Rattle.ttcn_syntax.specs.declared.tree.expression.Reference.{Reference}
use Rattle.check_rules.proofs.Judgements.{expression-Chain, expression-Ispresent, expression-Not, expression-Running, expression-Signed, link-out}
use Rattle.laws_checker.proofs.Nothing.{nothing-first, nothing-rest}
use Rattle.check_rules.specs.Expressions.{Judgement, Judge, after, along, any_component, check_component, check_field, check_meaning, check_reference, check_running, check_self, join_links, demand, expression, expression_step, fine, join_link, link, link_step, names_field, names_timer, runs, within, wrong}
use Rattle.laws_checker.specs.Laws.{HasFieldType, IsKnown, IsTyped, IsWhole}
use Rattle.check_scope.specs.Names.{Scope, constants_type, fields_at, kind_at, module_names, resolved}
use Rattle.check_scope.specs.Typings.{is_of, refers_to_component, result_of, typed}
use Rattle.check_scope.specs.declared.names.Meaning.{Meaning}
use Rattle.check_scope.specs.declared.names.Meaning.TheVariants as meaning
use Rattle.check_scope.specs.declared.rule.Rule.{Rule}
use Rattle.check_scope.specs.declared.rule.Rule.TheVariants as rule
use Rattle.check_scope.specs.declared.types.DataType.{DataType}
use Rattle.check_scope.specs.declared.types.DataType.TheVariants as type
use Rattle.check_scope.specs.declared.types.Typing.{Typing}
use Rattle.check_scope.specs.declared.types.Typing.TheVariants as typing

-- ---- parts of judgements

known-typed : (of : Option DataType) → is_some of ≡ true → typed of ≢ typing.Unknown
known-typed (Some t) known is = cc
known-typed None known is = cc

wrong-typed : (r : Rule) → IsTyped (wrong r)
wrong-typed r nothing = absurd (let e = nothing in cc)

-- what is no unknown typing is typed
known-fine : (t : DataType) → IsTyped (fine (typing.Known t))
known-fine t nothing is = cc

typed-fine : (of : Option DataType) → is_some of ≡ true → IsTyped (fine (typed of))
typed-fine of known nothing = known-typed of known

null-fine : IsTyped (fine typing.Null)
null-fine nothing is = cc

valueless-fine : IsTyped (fine typing.NoValue)
valueless-fine nothing is = cc

any-fine : (free : Bool) → IsTyped (any_component free)
any-fine free nothing is = cc

-- an operation has its type, whatever is broken in it
operation-typed : (before : List Rule) (b : Bool) (r : Rule) (t : DataType) → IsTyped (after before (demand b r t))
operation-typed before b r t nothing is = cc

-- ---- references

module _ (scope : Scope) (whole : IsWhole scope) where
  meaning-typed : (m : Option Meaning) → IfSome m (IsKnown scope.definitions) → IsTyped (check_meaning scope.definitions m)
  meaning-typed (Some (meaning.Variable of)) known = typed-fine of known
  meaning-typed (Some (meaning.Constant of)) known = typed-fine of known
  meaning-typed (Some (meaning.ModuleConstant at item)) known =
      typed-fine (constants_type (module_names scope.definitions) (kind_at scope.definitions at)) known
  meaning-typed (Some (meaning.Enumerator at)) known = known-fine (type.Enumerated at)
  meaning-typed (Some (meaning.Port at)) known = valueless-fine
  meaning-typed (Some meaning.Timer) known = valueless-fine
  meaning-typed (Some (meaning.Record at)) known = wrong-typed rule.UnknownName
  meaning-typed (Some (meaning.Enumerated at)) known = wrong-typed rule.UnknownName
  meaning-typed (Some (meaning.PortType at)) known = wrong-typed rule.UnknownName
  meaning-typed (Some (meaning.Component at)) known = wrong-typed rule.UnknownName
  meaning-typed (Some (meaning.Template at)) known = wrong-typed rule.UnknownName
  meaning-typed (Some (meaning.Function at)) known = wrong-typed rule.UnknownName
  meaning-typed (Some (meaning.Altstep at)) known = wrong-typed rule.UnknownName
  meaning-typed (Some (meaning.Testcase at)) known = wrong-typed rule.UnknownName
  meaning-typed None known = wrong-typed rule.UnknownName

  name-typed : (name : List ℕ) → IsTyped (check_meaning scope.definitions (scope.names name))
  name-typed name = meaning-typed (scope.names name) (whole.names name)

  first-typed : (b : Bool) (field : Field) (others : Option Field) → HasFieldType scope.definitions field → IsTyped (check_field scope.definitions others)
      → IsTyped (check_field scope.definitions (if b then Some field else others))
  first-typed true field others known rest = typed-fine (resolved (module_names scope.definitions) field.type_name) known
  first-typed false field others known rest = rest

  found-typed : (test : Field → Bool) (fields : List Field) → All (HasFieldType scope.definitions) fields → IsTyped (check_field scope.definitions (find test fields))
  found-typed test [] each = wrong-typed rule.Fields
  found-typed test (field ∷ fields) each =
      first-typed (test field) field (find test fields) (All-head (HasFieldType scope.definitions) field fields each)
      (found-typed test fields (All-tail (HasFieldType scope.definitions) field fields each))

  within-typed : (t : Typing) (name : List ℕ) → t ≢ typing.Unknown → IsTyped (within scope.definitions t name)
  within-typed (typing.Known (type.Record at)) name known = found-typed (λ field. bytes_eq field.name name) (fields_at scope.definitions at) (whole.fields at)
  within-typed (typing.Known type.Integer) name known = wrong-typed rule.Fields
  within-typed (typing.Known type.Boolean) name known = wrong-typed rule.Fields
  within-typed (typing.Known type.Default) name known = wrong-typed rule.Fields
  within-typed (typing.Known (type.Enumerated at)) name known = wrong-typed rule.Fields
  within-typed (typing.Known (type.Component at)) name known = wrong-typed rule.Fields
  within-typed typing.Null name known = wrong-typed rule.Fields
  within-typed typing.AnyComponent name known = wrong-typed rule.Fields
  within-typed typing.NoValue name known = wrong-typed rule.Fields
  within-typed typing.Unknown name known = absurd (known refl)

  along-typed : (names : List (List ℕ)) (t : Typing) → t ≢ typing.Unknown → IsTyped (along scope.definitions t names)
  along-typed [] t known nothing = known
  along-typed (name ∷ names) t known nothing =
      along-typed names (within scope.definitions t name).typing
      (within-typed t name known (nothing-first (within scope.definitions t name).broken (along scope.definitions (within scope.definitions t name).typing names).broken nothing))
      (nothing-rest (within scope.definitions t name).broken (along scope.definitions (within scope.definitions t name).typing names).broken nothing)

  pub reference-typed : (reference : Reference) → IsTyped (check_reference scope reference)
  reference-typed reference nothing =
      along-typed reference.fields (check_meaning scope.definitions (scope.names reference.name)).typing
      (name-typed reference.name (nothing-first (check_meaning scope.definitions (scope.names reference.name)).broken
      (along scope.definitions (check_meaning scope.definitions (scope.names reference.name)).typing reference.fields).broken nothing))
      (nothing-rest (check_meaning scope.definitions (scope.names reference.name)).broken
      (along scope.definitions (check_meaning scope.definitions (scope.names reference.name)).typing reference.fields).broken nothing)

  self-typed : (itself : Option ℕ) (free : Bool) → IsTyped (check_self itself free)
  self-typed (Some at) free = known-fine (type.Component at)
  self-typed None free = any-fine free

  pub component-typed : (c : ComponentRef) (free : Bool) → IsTyped (check_component scope c free)
  component-typed component.Itself free = self-typed scope.itself free
  component-typed component.Mtc free = any-fine free
  component-typed (component.Named reference) free = reference-typed reference

  running-typed : (c : ComponentRef) → IsTyped (check_running scope c)
  running-typed c = go (names_timer scope c)
    where
      go : (b : Bool) → IsTyped (if b then fine (typing.Known type.Boolean) else after (check_component scope c true).broken (runs (check_component scope c true).typing))
      go true = known-fine type.Boolean
      go false = operation-typed (check_component scope c true).broken (refers_to_component (check_component scope c true).typing) rule.UnknownName type.Boolean

-- ---- expressions

-- a judgement that gives a type in every whole scope
abbrev Gives : Judge → Type 0
Gives judgement = (scope : Scope) (free : Bool) → IsWhole scope → IsTyped (judgement scope free)

join_link-gives : (op : Operator) (left right : Judge) → Gives (join_link op left right)
join_link-gives op left right scope free whole nothing is = cc

abbrev HeldExpr : Type 0
HeldExpr = (e : Expr) × Gives (expression e)

abbrev HeldLink : Type 0
HeldLink = (l : Link) × Unit {0}

join_links-gives : (first : Judge) (links : List (Operator × Judge)) → Gives first → Gives (join_links first links)
join_links-gives first [] gives = gives
join_links-gives first (l ∷ links) gives = join_links-gives (join_link l.0 first l.1) links (join_link-gives l.0 first l.1)

expr-held : (y : Expr-F HeldExpr HeldLink)
    → Gives (expression_step (map-Expr Expr Link Judge (Operator × Judge) expression link (map-Expr HeldExpr HeldLink Expr Link (λ e. e.0) (λ l. l.0) y)))
expr-held (Expr-F.Int n) = λ scope free whole. known-fine type.Integer
expr-held (Expr-F.Bool b) = λ scope free whole. known-fine type.Boolean
expr-held Expr-F.Null = λ scope free whole. null-fine
expr-held (Expr-F.Reference reference) = λ scope free whole. component-typed scope whole reference free
expr-held (Expr-F.Running reference) = λ scope free whole. running-typed scope whole reference
expr-held (Expr-F.Ispresent reference) = λ scope free whole. operation-typed (check_reference scope reference).broken (names_field reference.fields) rule.Fields type.Boolean
expr-held (Expr-F.Not e) = λ scope free whole.
    operation-typed (expression e.0 scope false).broken (is_of type.Boolean (expression e.0 scope false).typing) rule.OperandType type.Boolean
expr-held (Expr-F.Signed sign e) = λ scope free whole.
    operation-typed (expression e.0 scope false).broken (is_of type.Integer (expression e.0 scope false).typing) rule.OperandType type.Integer
expr-held (Expr-F.Chain first links) = join_links-gives (expression first.0) (map link (map (λ l. l.0) links)) first.1

-- an expression that breaks no rule has its type
pub expression_typed : (e : Expr) → Gives (expression e)
expression_typed = ind-Expr (λ e. Gives (expression e)) (λ l. Unit {0}) (λ x y is.
    subst Gives (sym (fold-roll-Expr Judge (Operator × Judge) expression_step link_step x))
    (subst (λ z. Gives (expression_step (map-Expr Expr Link Judge (Operator × Judge) expression link z))) is (expr-held y))) (λ x y is. tt)

-- ---- operations

-- the type of an operation, whatever is broken in it
pub negation_typed : (e : Expr) (scope : Scope) (free : Bool) → (expression (expr.Not e) scope free).typing ≡ typing.Known type.Boolean
negation_typed e scope free = ap (λ (j : Judgement). j.typing) (expression-Not scope free e)

pub signed_typed : (sign : Sign) (e : Expr) (scope : Scope) (free : Bool) → (expression (expr.Signed sign e) scope free).typing ≡ typing.Known type.Integer
signed_typed sign e scope free = ap (λ (j : Judgement). j.typing) (expression-Signed scope free sign e)

pub presence_typed : (reference : Reference) (scope : Scope) (free : Bool) → (expression (expr.Ispresent reference) scope free).typing ≡ typing.Known type.Boolean
presence_typed reference scope free = ap (λ (j : Judgement). j.typing) (expression-Ispresent scope free reference)

pub running_typed : (c : ComponentRef) (scope : Scope) (free : Bool) → (expression (expr.Running c) scope free).typing ≡ typing.Known type.Boolean
running_typed c scope free = ap (λ (j : Judgement). j.typing) (expression-Running scope free c) ∙ go (names_timer scope c)
  where
    go : (b : Bool) → (if b then fine (typing.Known type.Boolean) else after (check_component scope c true).broken (runs (check_component scope c true).typing)).typing ≡ typing.Known type.Boolean
    go true = refl
    go false = refl

chain-last : (first : Judge) (links : List Link) (last : Link) (scope : Scope) (free : Bool)
    → (join_links first (map link (links ++ last ∷ [])) scope free).typing ≡ typing.Known (result_of (link last).0)
chain-last first [] last scope free = refl
chain-last first (l ∷ links) last scope free = chain-last (join_link (link l).0 first (link l).1) links last scope free

pub chain_typed : (first : Expr) (links : List Link) (last : Link) (scope : Scope) (free : Bool)
    → (expression (expr.Chain first (links ++ last ∷ [])) scope free).typing ≡ typing.Known (result_of (out-Link last).operator)
chain_typed first links last scope free =
    ap (λ (j : Judge). (j scope free).typing) (expression-Chain first (links ++ last ∷ []))
    ∙ chain-last (expression first) links last scope free
    ∙ ap (λ (l : Operator × Judge). typing.Known (result_of l.0)) (link-out last)
