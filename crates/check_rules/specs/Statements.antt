-- The rules that statements break (ES 201 873-1, 19 to 24).
use Rattle.std.specs.Prelude.{ℕ, Bool, true, false, not, nat_eq, List, [], ◌∷◌, ◌++◌, map, Option, Some, None, is_some, if◌then◌else◌}
use Rattle.std.specs.List.{flat_map}
use Rattle.ttcn_syntax.specs.declared.tree.definition.DefinitionKind.{DefinitionKind}
use Rattle.ttcn_syntax.specs.declared.tree.definition.DefinitionKind.TheVariants as kind
use Rattle.ttcn_syntax.specs.declared.tree.expression.ComponentRef.{ComponentRef}
use Rattle.ttcn_syntax.specs.declared.tree.expression.Expr.{Expr}
use Rattle.ttcn_syntax.specs.declared.tree.expression.Reference.{Reference}
use Rattle.ttcn_syntax.specs.declared.tree.statement.Action.{Action, fold-Action}
use Rattle.ttcn_syntax.specs.declared.tree.statement.Action.TheOpen.{Action-F, Alternative-F, Branch-F, Conditional-F, Statement-F}
use Rattle.ttcn_syntax.specs.declared.tree.statement.ForStart.{ForStart}
use Rattle.ttcn_syntax.specs.declared.tree.statement.ForStart.TheVariants as for_start
use Rattle.ttcn_syntax.specs.declared.tree.statement.LogItem.{LogItem}
use Rattle.ttcn_syntax.specs.declared.tree.statement.LogItem.TheVariants as log_item
use Rattle.ttcn_syntax.specs.declared.tree.statement.Statement.{Statement, fold-Statement}
use Rattle.ttcn_syntax.specs.declared.tree.statement.Alternative.{Alternative, fold-Alternative}
use Rattle.ttcn_syntax.specs.declared.tree.statement.Assignment.{Assignment}
use Rattle.ttcn_syntax.specs.declared.tree.statement.Branch.{Branch, fold-Branch}
use Rattle.ttcn_syntax.specs.declared.tree.statement.Conditional.{Conditional, fold-Conditional}
use Rattle.ttcn_syntax.specs.declared.tree.statement.Event.{Event}
use Rattle.ttcn_syntax.specs.declared.tree.statement.Mapping.{Mapping}
use Rattle.ttcn_syntax.specs.declared.tree.statement.Verdict.{Verdict}
use Rattle.ttcn_syntax.specs.declared.tree.statement.Verdict.TheVariants as verdict
use Rattle.ttcn_syntax.specs.declared.tree.value.Call.{Call}
use Rattle.ttcn_syntax.specs.declared.tree.value.Value.{Value}
use Rattle.check_rules.specs.Calls.{check_activation, check_arguments, check_call, behaviour_meant, component_named, is_altstep, lone_arguments, parameters_of, runs_on_of, stands_alone}
use Rattle.check_rules.specs.Expressions.{check_component, check_reference, check_wanted_component, expression, names_timer}
use Rattle.check_rules.specs.Messages.{check_event, check_send, check_timer}
use Rattle.check_scope.specs.Names.{Scope, kind_at}
use Rattle.check_rules.specs.Targets.{check_assignment, check_constants, check_timers, check_variables, behind_constants, behind_timers, behind_variables}
use Rattle.check_scope.specs.Typings.{is_default, refers_to_component, same_type, target_of, unless}
use Rattle.check_rules.specs.Values.{value}
use Rattle.check_rules.specs.declared.returns.Returns.{Returns}
use Rattle.check_rules.specs.declared.returns.Returns.TheVariants as returns
use Rattle.check_scope.specs.declared.rule.Rule.{Rule}
use Rattle.check_scope.specs.declared.rule.Rule.TheVariants as rule
use Rattle.check_scope.specs.declared.types.DataType.TheVariants as type
use Rattle.check_scope.specs.declared.types.Typing.{Typing}
use Rattle.check_scope.specs.declared.types.Typing.TheVariants as typing

-- ---- where a statement stands

-- where a statement stands: its scope, what may be returned, and whether it is inside the block of a branch
pub record Place : Type 0 where
  pub scope : Scope
  pub returns : Returns
  pub in_branch : Bool

-- a place with another scope
abbrev pub with_scope : Place → Scope → Place
with_scope place scope = record { scope = scope; returns = place.returns; in_branch = place.in_branch }

-- a place in the block of a branch
abbrev pub inside_branch : Place → Place
inside_branch place = record { scope = place.scope; returns = place.returns; in_branch = true }

-- the rules that something breaks at a place
abbrev pub Check : Type 0
Check = Place → List Rule

-- what is said of a statement: the rules that it breaks, and the scope behind it, which has what it declares
pub record StatementRules : Type 0 where
  pub broken : Check
  pub scope_behind : Scope → Scope

-- what is said of a statement that declares nothing
abbrev pub without_declaration : Check → StatementRules
without_declaration broken = record { broken = broken; scope_behind = λ scope. scope }

-- ---- blocks and conditions

-- statements one behind the other: what one declares is visible in those behind it
abbrev pub check_block : List StatementRules → Check
check_block [] place = []
check_block (statement ∷ statements) place =
    statement.broken place ++ check_block statements (with_scope place (statement.scope_behind place.scope))

-- the rules that a block breaks, where one stands
abbrev pub check_block_if_any : Option (List StatementRules) → Check
check_block_if_any None place = []
check_block_if_any (Some block) place = check_block block place

-- the rules that a condition breaks by its typing: it is boolean, and not judged where that is unknown
abbrev pub check_boolean : Typing → List Rule
check_boolean (typing.Known t) = unless (same_type type.Boolean t) rule.Condition
check_boolean typing.Null = rule.ValueType ∷ []
check_boolean typing.AnyComponent = rule.Condition ∷ []
check_boolean typing.NoValue = rule.Condition ∷ []
check_boolean typing.Unknown = []

-- the rules that a condition breaks: those of its expression, which is boolean
abbrev pub check_condition : Scope → Expr → List Rule
check_condition scope e = (expression e scope false).broken ++ check_boolean (expression e scope false).typing

-- the rules that the guard of a branch breaks, if it has one
abbrev pub check_guard : Scope → Option Expr → List Rule
check_guard scope None = []
check_guard scope (Some e) = check_condition scope e

-- ---- parts of statements

-- the rules that the initial part of a `for` breaks: a declaration of variables, or an assignment
abbrev pub check_for_start : Scope → ForStart → List Rule
check_for_start scope (for_start.Variables vs) = check_variables scope vs
check_for_start scope (for_start.Assign assignment) = check_assignment scope assignment

-- the scope behind the initial part of a `for`, which has the variables that it declares
abbrev pub behind_for_start : Scope → ForStart → Scope
behind_for_start scope (for_start.Variables vs) = behind_variables scope vs
behind_for_start scope (for_start.Assign assignment) = scope

-- the rules that a `for` breaks in front of its block
abbrev pub check_for_head : Scope → ForStart → Expr → Assignment → List Rule
check_for_head scope start condition step =
    check_for_start scope start ++ check_condition (behind_for_start scope start) condition ++ check_assignment (behind_for_start scope start) step

-- the rules that a branch with an event breaks in front of its block: those of its guard and of the event
abbrev pub check_guarded_event : Scope → Option Expr → Event → List Rule
check_guarded_event scope guard event = check_guard scope guard ++ check_event scope event

-- the rules that a branch that calls an altstep breaks in front of its block: those of its guard and of the call
abbrev pub check_guarded_call : Scope → Option Expr → Call → List Rule
check_guarded_call scope guard call = check_guard scope guard ++ check_call scope is_altstep call

-- the rules that an item of a `log` breaks: `mtc` may stand there
abbrev pub check_log_item : Scope → LogItem → List Rule
check_log_item scope log_item.Text = []
check_log_item scope (log_item.Expr e) = (expression e scope true).broken

-- the rules that the items of a `log` break, or the reasons of a verdict
abbrev pub check_log : Scope → List LogItem → List Rule
check_log scope items = flat_map (check_log_item scope) items

-- a verdict is `error`
abbrev pub is_error : Verdict → Bool
is_error verdict.Error = true
is_error _ = false

-- the rules that a `setverdict` breaks: its verdict is not `error`, and its reasons are as what is logged
abbrev pub check_setverdict : Scope → Verdict → List LogItem → List Rule
check_setverdict scope verdict reasons = unless (not (is_error verdict)) rule.VerdictError ++ check_log scope reasons

-- the rules that a `return` breaks: it stands in a function, with a value exactly if that has a result
abbrev pub check_return : Scope → Returns → Option Value → List Rule
check_return scope returns.Nowhere None = rule.ReturnPlace ∷ []
check_return scope returns.Nowhere (Some v) = rule.ReturnPlace ∷ value v scope (target_of None)
check_return scope returns.WithoutValue None = []
check_return scope returns.WithoutValue (Some v) = rule.ReturnPlace ∷ value v scope (target_of None)
check_return scope (returns.WithValue of) None = rule.ReturnPlace ∷ []
check_return scope (returns.WithValue of) (Some v) = value v scope (target_of of)

-- what a `deactivate` names is a default, or its type is unknown
abbrev pub refers_to_default : Typing → Bool
refers_to_default (typing.Known t) = is_default t
refers_to_default typing.Unknown = true
refers_to_default _ = false

-- the rules that a `deactivate` breaks: what it names, if anything, is a default
abbrev pub check_deactivate : Scope → Option Reference → List Rule
check_deactivate scope None = []
check_deactivate scope (Some reference) =
    (check_reference scope reference).broken ++ unless (refers_to_default (check_reference scope reference).typing) rule.UnknownName

-- the rules that a `stop` of something breaks: it is a timer or a component
abbrev pub check_stop : Scope → ComponentRef → List Rule
check_stop scope reference = if names_timer scope reference then [] else (check_wanted_component scope reference).broken

-- the rules that the ends of a connection break: both are of components; the names of their ports are not judged
abbrev pub check_ends : Scope → ComponentRef → ComponentRef → List Rule
check_ends scope one other = (check_wanted_component scope one).broken ++ (check_wanted_component scope other).broken

-- the rules that a `map` or an `unmap` breaks: its port is of a component; the names of the ports are not judged
abbrev pub check_mapping : Scope → Mapping → List Rule
check_mapping scope mapping = (check_wanted_component scope mapping.port.component).broken

-- ---- starts of components

-- a function runs on the started component's type: not judged where one of them is unknown
abbrev pub runs_there : Typing → Option ℕ → Bool
runs_there (typing.Known (type.Component at)) (Some behaviour) = nat_eq at behaviour
runs_there _ _ = true

-- a function that is started says on what it runs
abbrev pub says_component : Option DefinitionKind → Bool
says_component (Some (kind.Function f)) = is_some f.runs_on
says_component _ = true

-- a definition is that of a function
abbrev pub is_function : Option DefinitionKind → Bool
is_function (Some (kind.Function f)) = true
is_function _ = false

-- the rules of the behaviour that a component starts with: a function that runs on this component's type
abbrev pub check_started : Scope → Typing → Call → Option ℕ → List Rule
check_started scope started call None = rule.UnknownName ∷ lone_arguments scope call.arguments
check_started scope started call (Some at) =
    check_arguments scope (parameters_of (kind_at scope.definitions at)) call.arguments ++
    unless (says_component (kind_at scope.definitions at)) rule.RunsOn ++
    unless (runs_there started (component_named scope.definitions (runs_on_of (kind_at scope.definitions at)))) rule.RunsOn ++
    unless (is_function (kind_at scope.definitions at)) rule.CallKind

-- the rules that a `start` of a component breaks: those of the component, and of the call that it starts
abbrev pub check_start : Scope → ComponentRef → Call → List Rule
check_start scope reference call =
    (check_component scope reference false).broken ++
    unless (refers_to_component (check_component scope reference false).typing) rule.UnknownName ++
    check_started scope (check_component scope reference false).typing call (behaviour_meant (scope.names call.name))

-- ---- statements

-- the rules that a statement breaks which has no block and declares nothing: declarations and blocks are judged below
abbrev pub leaf_rules : {A B C D E : Type 0} → Action-F A B C D E → Check
leaf_rules (Action-F.Assign assignment) place = check_assignment place.scope assignment
leaf_rules (Action-F.«Action::Call» call) place = check_call place.scope stands_alone call
leaf_rules (Action-F.«Action::Event» event) place = check_event place.scope event
leaf_rules Action-F.Repeat place = unless place.in_branch rule.RepeatPlace
leaf_rules (Action-F.Return v) place = check_return place.scope place.returns v
leaf_rules Action-F.Stop place = []
leaf_rules (Action-F.Log items) place = check_log place.scope items
leaf_rules (Action-F.Setverdict verdict reasons) place = check_setverdict place.scope verdict reasons
leaf_rules (Action-F.Connect one other) place = check_ends place.scope one.component other.component
leaf_rules (Action-F.Map mapping) place = check_mapping place.scope mapping
leaf_rules (Action-F.Send send) place = check_send place.scope send
leaf_rules (Action-F.StartComponent reference call) place = check_start place.scope reference call
leaf_rules (Action-F.StartTimer timer) place = check_timer place.scope timer
leaf_rules (Action-F.StopOf reference) place = check_stop place.scope reference
leaf_rules (Action-F.Activate call) place = check_activation place.scope call
leaf_rules (Action-F.Deactivate reference) place = check_deactivate place.scope reference
leaf_rules (Action-F.Variables vs) place = []
leaf_rules (Action-F.Constants cs) place = []
leaf_rules (Action-F.Timers timers) place = []
leaf_rules (Action-F.Alt branches) place = []
leaf_rules (Action-F.If conditionals last) place = []
leaf_rules (Action-F.While condition block) place = []
leaf_rules (Action-F.DoWhile block condition) place = []
leaf_rules (Action-F.For start condition step block) place = []

-- what is said of a statement without blocks
abbrev pub leaf : {A B C D E : Type 0} → Action-F A B C D E → StatementRules
leaf (Action-F.Variables vs) = record { broken = λ place. check_variables place.scope vs; scope_behind = λ scope. behind_variables scope vs }
leaf (Action-F.Constants cs) = record { broken = λ place. check_constants place.scope cs; scope_behind = λ scope. behind_constants scope cs }
leaf (Action-F.Timers timers) = record { broken = λ place. check_timers place.scope timers; scope_behind = λ scope. behind_timers scope timers }
leaf action = without_declaration (leaf_rules action)

-- what is said of one level of an action, given what is said of its blocks and branches
abbrev pub action_step : Action-F StatementRules Check Check Check StatementRules → StatementRules
action_step (Action-F.Alt branches) = without_declaration (λ place. flat_map (λ branch. branch place) branches)
action_step (Action-F.If conditionals last) = without_declaration (λ place. flat_map (λ conditional. conditional place) conditionals ++ check_block_if_any last place)
action_step (Action-F.While condition block) = without_declaration (λ place. check_condition place.scope condition ++ check_block block place)
action_step (Action-F.DoWhile block condition) = without_declaration (λ place. check_block block place ++ check_condition place.scope condition)
action_step (Action-F.For start condition step block) = without_declaration (λ place.
    check_for_head place.scope start condition step ++ check_block block (with_scope place (behind_for_start place.scope start)))
action_step action = leaf action

-- what is said of a statement: that of its action, which is given
abbrev pub statement_step : Statement-F StatementRules Check Check Check StatementRules → StatementRules
statement_step s = s.action

-- the rules of a condition with its block, given what is said of the statements in the block
abbrev pub conditional_step : Conditional-F StatementRules Check Check Check StatementRules → Check
conditional_step c place = check_condition place.scope c.condition ++ check_block c.block place

-- the rules of what stands in a branch, given what is said of the statements in its block
abbrev pub alternative_step : Alternative-F StatementRules Check Check Check StatementRules → Check
alternative_step (Alternative-F.«Alternative::Event» guard event block) place =
    check_guarded_event place.scope guard event ++ check_block_if_any block (inside_branch place)
alternative_step (Alternative-F.«Alternative::Call» guard call block) place =
    check_guarded_call place.scope guard call ++ check_block_if_any block (inside_branch place)
alternative_step (Alternative-F.Else block) place = check_block block (inside_branch place)

-- the rules of a branch: those of what stands in it, which are given
abbrev pub branch_step : Branch-F StatementRules Check Check Check StatementRules → Check
branch_step b = b.alternative

-- what is said of what a statement does
abbrev pub action : Action → StatementRules
action = fold-Action StatementRules Check Check Check StatementRules action_step alternative_step branch_step conditional_step statement_step

-- the rules that what stands in a branch breaks
abbrev pub alternative : Alternative → Check
alternative = fold-Alternative StatementRules Check Check Check StatementRules action_step alternative_step branch_step conditional_step statement_step

-- what is said of a statement
abbrev pub statement : Statement → StatementRules
statement = fold-Statement StatementRules Check Check Check StatementRules action_step alternative_step branch_step conditional_step statement_step

-- the rules that a branch breaks
abbrev pub branch : Branch → Check
branch = fold-Branch StatementRules Check Check Check StatementRules action_step alternative_step branch_step conditional_step statement_step

-- the rules that a condition with its block breaks
abbrev pub conditional : Conditional → Check
conditional = fold-Conditional StatementRules Check Check Check StatementRules action_step alternative_step branch_step conditional_step statement_step

-- the rules that statements one behind the other break
abbrev pub statements : List Statement → Check
statements body = check_block (map statement body)
