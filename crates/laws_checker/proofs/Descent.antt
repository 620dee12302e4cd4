-- What breaks no rule has parts that break none.
use Rattle.std.proofs.Common.{◌≡◌, ◌≢◌, ℕ, true, false, List, [], ◌∷◌, Option, Some, None, is_some, IfSome, refl, sym, ap, subst}
use Rattle.ttcn_syntax.specs.declared.tree.expression.Expr.{Expr}
use Rattle.ttcn_syntax.specs.declared.tree.expression.Reference.{Reference}
use Rattle.ttcn_syntax.specs.declared.tree.statement.Action.{Action}
use Rattle.ttcn_syntax.specs.declared.tree.statement.Action.TheFolds.{fold-roll-Action, ind-Action, map-Action}
use Rattle.ttcn_syntax.specs.declared.tree.statement.Action.TheOpen.{Action-F}
use Rattle.ttcn_syntax.specs.declared.tree.statement.Alternative.{Alternative}
use Rattle.ttcn_syntax.specs.declared.tree.statement.Branch.{Branch}
use Rattle.ttcn_syntax.specs.declared.tree.statement.Conditional.{Conditional}
use Rattle.ttcn_syntax.specs.declared.tree.statement.Statement.{Statement, out-Statement}
use Rattle.ttcn_syntax.specs.declared.tree.value.Value.{Value}
use Rattle.laws_checker.proofs.Fitting.{arguments-fit, same-number}
use Rattle.laws_checker.proofs.Nothing.{kept, nothing-first, nothing-rest}
use Rattle.check_rules.proofs.StatementForms.{statement-out}
use Rattle.laws_checker.proofs.Typed.{expression_typed}
use Rattle.laws_checker.proofs.Whole.{constants-whole, timers-whole, variables-whole}
use Rattle.check_rules.specs.Calls.{check_arguments, parameters_of}
use Rattle.check_rules.specs.Expressions.{along, check_meaning, check_reference, expression}
use Rattle.laws_checker.specs.Laws.{AreArguments, IsKnown, IsWhole}
use Rattle.check_scope.specs.Names.{Scope, kind_at}
use Rattle.check_rules.specs.Statements.{Check, Place, StatementRules, action, action_step, alternative, alternative_step, branch, branch_step, conditional, conditional_step, statement, statement_step, statements, with_scope}
use Rattle.check_rules.specs.Templates.{check_named_template, type_of_template}
use Rattle.check_scope.specs.Typings.{fits, goes_to, same_type, typed, unless}
use Rattle.check_rules.specs.Values.{check_expression}
use Rattle.check_scope.specs.declared.names.Meaning.{Meaning}
use Rattle.check_scope.specs.declared.names.Meaning.TheVariants as meaning
use Rattle.check_scope.specs.declared.rule.Rule.{Rule}
use Rattle.check_scope.specs.declared.rule.Rule.TheVariants as rule
use Rattle.check_scope.specs.declared.types.DataType.{DataType}
use Rattle.check_scope.specs.declared.types.DataType.TheVariants as type
use Rattle.check_scope.specs.declared.types.Target.{Target}
use Rattle.check_scope.specs.declared.types.Typing.TheVariants as typing

-- ---- names

meaning-resolves : (scope : Scope) (m : Option Meaning) → (check_meaning scope.definitions m).broken ≡ [] → is_some m ≡ true
meaning-resolves scope (Some m) nothing = refl
meaning-resolves scope None nothing = absurd (let e = nothing in cc)

pub name_resolves : (scope : Scope) (reference : Reference) → (check_reference scope reference).broken ≡ [] → is_some (scope.names reference.name) ≡ true
name_resolves scope reference nothing =
    meaning-resolves scope (scope.names reference.name)
    (nothing-first (check_meaning scope.definitions (scope.names reference.name)).broken
    (along scope.definitions (check_meaning scope.definitions (scope.names reference.name)).typing reference.fields).broken nothing)

-- ---- values

-- an expression where a value of a type is wanted has a typing that goes there
pub expression_fits : (scope : Scope) (t : DataType) (e : Expr) → check_expression scope (Some t) e ≡ [] → goes_to t (expression e scope false).typing ≡ true
expression_fits scope t e nothing =
    kept (goes_to t (expression e scope false).typing) rule.ValueType
    (nothing-rest (expression e scope false).broken (unless (goes_to t (expression e scope false).typing) rule.ValueType) nothing)

pub wanted_expression_typed : (scope : Scope) → IsWhole scope → (t : DataType) (e : Expr) → check_expression scope (Some t) e ≡ [] → (expression e scope false).typing ≢ typing.Unknown
wanted_expression_typed scope whole t e nothing =
    expression_typed e scope false whole
    (nothing-first (expression e scope false).broken (unless (goes_to t (expression e scope false).typing) rule.ValueType) nothing)

-- ---- templates

same-type : (t u : DataType) → same_type t u ≡ true → t ≡ u
same-type type.Integer type.Integer is = refl
same-type type.Integer type.Boolean is = absurd (let e = is in cc)
same-type type.Integer type.Default is = absurd (let e = is in cc)
same-type type.Integer (type.Record other) is = absurd (let e = is in cc)
same-type type.Integer (type.Enumerated other) is = absurd (let e = is in cc)
same-type type.Integer (type.Component other) is = absurd (let e = is in cc)
same-type type.Boolean type.Integer is = absurd (let e = is in cc)
same-type type.Boolean type.Boolean is = refl
same-type type.Boolean type.Default is = absurd (let e = is in cc)
same-type type.Boolean (type.Record other) is = absurd (let e = is in cc)
same-type type.Boolean (type.Enumerated other) is = absurd (let e = is in cc)
same-type type.Boolean (type.Component other) is = absurd (let e = is in cc)
same-type type.Default type.Integer is = absurd (let e = is in cc)
same-type type.Default type.Boolean is = absurd (let e = is in cc)
same-type type.Default type.Default is = refl
same-type type.Default (type.Record other) is = absurd (let e = is in cc)
same-type type.Default (type.Enumerated other) is = absurd (let e = is in cc)
same-type type.Default (type.Component other) is = absurd (let e = is in cc)
same-type (type.Record at) type.Integer is = absurd (let e = is in cc)
same-type (type.Record at) type.Boolean is = absurd (let e = is in cc)
same-type (type.Record at) type.Default is = absurd (let e = is in cc)
same-type (type.Record at) (type.Record other) is = ap type.Record (same-number at other is)
same-type (type.Record at) (type.Enumerated other) is = absurd (let e = is in cc)
same-type (type.Record at) (type.Component other) is = absurd (let e = is in cc)
same-type (type.Enumerated at) type.Integer is = absurd (let e = is in cc)
same-type (type.Enumerated at) type.Boolean is = absurd (let e = is in cc)
same-type (type.Enumerated at) type.Default is = absurd (let e = is in cc)
same-type (type.Enumerated at) (type.Record other) is = absurd (let e = is in cc)
same-type (type.Enumerated at) (type.Enumerated other) is = ap type.Enumerated (same-number at other is)
same-type (type.Enumerated at) (type.Component other) is = absurd (let e = is in cc)
same-type (type.Component at) type.Integer is = absurd (let e = is in cc)
same-type (type.Component at) type.Boolean is = absurd (let e = is in cc)
same-type (type.Component at) type.Default is = absurd (let e = is in cc)
same-type (type.Component at) (type.Record other) is = absurd (let e = is in cc)
same-type (type.Component at) (type.Enumerated other) is = absurd (let e = is in cc)
same-type (type.Component at) (type.Component other) is = ap type.Component (same-number at other is)

type-fits : (of : Option DataType) (t : DataType) → is_some of ≡ true → fits (Some t) (typed of) ≡ true → of ≡ Some t
type-fits (Some u) t known fit = ap Some (sym (same-type t u fit))
type-fits None t known fit = absurd (let e = known in cc)

-- a named template where one of a type is wanted is of this type
pub template_fits : (scope : Scope) → IsWhole scope → (name : List ℕ) (at : ℕ) → scope.names name ≡ Some (meaning.Template at)
    → (target : Target) (t : DataType) (given : List Value) → target.data_type ≡ Some t → check_named_template scope target given (Some at) ≡ [] → type_of_template scope at ≡ Some t
template_fits scope whole name at means target t given wanted nothing =
    let arguments : List Rule = check_arguments scope (parameters_of (kind_at scope.definitions at)) given in
    let known : IfSome (Some (meaning.Template at)) (IsKnown scope.definitions) = subst (λ m. IfSome m (IsKnown scope.definitions)) means (whole.names name) in
    let fit : fits target.data_type (typed (type_of_template scope at)) ≡ true =
    kept (fits target.data_type (typed (type_of_template scope at))) rule.ValueType
    (nothing-rest arguments (unless (fits target.data_type (typed (type_of_template scope at))) rule.ValueType) nothing) in
    type-fits (type_of_template scope at) t known (subst (λ of. fits of (typed (type_of_template scope at)) ≡ true) wanted fit)

-- and has as many arguments as parameters
pub template_arguments_fit : (scope : Scope) (at : ℕ) (target : Target) (given : List Value) → check_named_template scope target given (Some at) ≡ []
    → AreArguments scope (parameters_of (kind_at scope.definitions at)) given
template_arguments_fit scope at target given nothing =
    let arguments : List Rule = check_arguments scope (parameters_of (kind_at scope.definitions at)) given in
    arguments-fit scope (parameters_of (kind_at scope.definitions at)) given
    (nothing-first arguments (unless (fits target.data_type (typed (type_of_template scope at))) rule.ValueType) nothing)

-- ---- statements

-- what is said of a statement that leaves whole scopes whole
abbrev LeavesWhole : StatementRules → Type 0
LeavesWhole said = (place : Place) → IsWhole place.scope → said.broken place ≡ [] → IsWhole (said.scope_behind place.scope)

plain-whole : (x : Action-F Action Alternative Branch Conditional Statement)
    → LeavesWhole (action_step (map-Action Action Alternative Branch Conditional Statement StatementRules Check Check Check StatementRules action alternative branch conditional statement x))
plain-whole (Action-F.Variables vs) place whole nothing = variables-whole place.scope vs nothing whole
plain-whole (Action-F.Constants cs) place whole nothing = constants-whole place.scope cs nothing whole
plain-whole (Action-F.Timers timers) place whole nothing = timers-whole place.scope timers nothing whole
plain-whole (Action-F.Assign assignment) place whole nothing = whole
plain-whole (Action-F.«Action::Call» call) place whole nothing = whole
plain-whole (Action-F.«Action::Event» event) place whole nothing = whole
plain-whole (Action-F.Alt branches) place whole nothing = whole
plain-whole Action-F.Repeat place whole nothing = whole
plain-whole (Action-F.If conditionals last) place whole nothing = whole
plain-whole (Action-F.While condition body) place whole nothing = whole
plain-whole (Action-F.DoWhile body condition) place whole nothing = whole
plain-whole (Action-F.For start condition step body) place whole nothing = whole
plain-whole (Action-F.Return v) place whole nothing = whole
plain-whole Action-F.Stop place whole nothing = whole
plain-whole (Action-F.Log items) place whole nothing = whole
plain-whole (Action-F.Setverdict verdict reasons) place whole nothing = whole
plain-whole (Action-F.Connect one other) place whole nothing = whole
plain-whole (Action-F.Map mapping) place whole nothing = whole
plain-whole (Action-F.Send send) place whole nothing = whole
plain-whole (Action-F.StartComponent reference call) place whole nothing = whole
plain-whole (Action-F.StartTimer timer) place whole nothing = whole
plain-whole (Action-F.StopOf reference) place whole nothing = whole
plain-whole (Action-F.Activate call) place whole nothing = whole
plain-whole (Action-F.Deactivate reference) place whole nothing = whole

action-whole : (a : Action) → LeavesWhole (action a)
action-whole = ind-Action (λ a. LeavesWhole (action a)) (λ a. Unit {0}) (λ b. Unit {0}) (λ c. Unit {0}) (λ s. Unit {0})
    (λ x y is. subst LeavesWhole (sym (fold-roll-Action StatementRules Check Check Check StatementRules action_step alternative_step branch_step conditional_step statement_step x)) (plain-whole x))
    (λ x y is. tt) (λ x y is. tt) (λ x y is. tt) (λ x y is. tt)

-- a statement that breaks no rule leaves a whole scope whole
pub statement_whole : (s : Statement) (place : Place) → IsWhole place.scope → (statement s).broken place ≡ [] → IsWhole ((statement s).scope_behind place.scope)
statement_whole s = subst LeavesWhole (sym (statement-out s)) (action-whole (out-Statement s).action)

-- the first statement of a block, and those behind it
pub first_fine : (s : Statement) (others : List Statement) (place : Place) → statements (s ∷ others) place ≡ [] → (statement s).broken place ≡ []
first_fine s others place nothing = nothing-first ((statement s).broken place) (statements others (with_scope place ((statement s).scope_behind place.scope))) nothing

pub others_fine : (s : Statement) (others : List Statement) (place : Place) → statements (s ∷ others) place ≡ []
    → statements others (with_scope place ((statement s).scope_behind place.scope)) ≡ []
others_fine s others place nothing = nothing-rest ((statement s).broken place) (statements others (with_scope place ((statement s).scope_behind place.scope))) nothing
