-- What stands within a statement or branch, where it breaks no rule.
use Rattle.std.specs.Prelude.{◌≡◌, false, IsTrue, List, [], Option, Some, None}
use Rattle.std.specs.List.{All}
use Rattle.ttcn_syntax.specs.declared.tree.expression.Expr.{Expr}
use Rattle.ttcn_syntax.specs.declared.tree.statement.Action.{Action}
use Rattle.ttcn_syntax.specs.declared.tree.statement.Action.TheOpen.{Action-F, Alternative-F}
use Rattle.ttcn_syntax.specs.declared.tree.statement.Alternative.{Alternative, out-Alternative}
use Rattle.ttcn_syntax.specs.declared.tree.statement.Branch.{Branch, out-Branch}
use Rattle.ttcn_syntax.specs.declared.tree.statement.Conditional.{Conditional, out-Conditional}
use Rattle.ttcn_syntax.specs.declared.tree.statement.Statement.{Statement}
use Rattle.check_rules.specs.Calls.{check_activation, check_call, is_altstep, stands_alone}
use Rattle.check_rules.specs.Expressions.{expression}
use Rattle.check_rules.specs.Targets.{check_assignment, check_constants, check_timers, check_variables}
use Rattle.check_scope.specs.Names.{Scope}
use Rattle.check_scope.specs.declared.types.DataType.TheVariants as type
use Rattle.check_scope.specs.declared.types.Typing.TheVariants as typing
use Rattle.check_rules.specs.Messages.{check_event, check_send, check_timer}
use Rattle.check_rules.specs.Statements.{Place, check_deactivate, check_ends, check_for_start, check_log, check_mapping, check_return, check_setverdict, check_start, check_stop, behind_for_start, inside_branch, statements, with_scope}

-- a condition: it breaks no rule, and is boolean
pub record IsCondition (scope : Scope) (e : Expr) : Type 0 where
  pub fine : (expression e scope false).broken ≡ []
  pub boolean : (expression e scope false).typing ≡ typing.Known type.Boolean

-- a guard, where there is one
abbrev pub IsGuard : Scope → Option Expr → Type 0
IsGuard scope None = Unit {0}
IsGuard scope (Some e) = IsCondition scope e

-- a block that breaks no rule
abbrev pub IsFine : Place → List Statement → Type 0
IsFine place block = statements block place ≡ []

-- a block, where there is one
abbrev pub IsFineIfAny : Place → Option (List Statement) → Type 0
IsFineIfAny place None = Unit {0}
IsFineIfAny place (Some block) = IsFine place block

-- a condition with the block that it guards
pub record IsFineConditional (place : Place) (c : Conditional) : Type 0 where
  pub condition : IsCondition place.scope (out-Conditional c).condition
  pub block : IsFine place (out-Conditional c).block

-- what a branch waits for, and the block behind it
abbrev pub HasFineAlternative : Place → Alternative-F Action Alternative Branch Conditional Statement → Type 0
HasFineAlternative place (Alternative-F.«Alternative::Event» guard event block) =
    IsGuard place.scope guard × (check_event place.scope event ≡ []) × IsFineIfAny (inside_branch place) block
HasFineAlternative place (Alternative-F.«Alternative::Call» guard call block) =
    IsGuard place.scope guard × (check_call place.scope is_altstep call ≡ []) × IsFineIfAny (inside_branch place) block
HasFineAlternative place (Alternative-F.Else block) = IsFine (inside_branch place) block

-- a branch
abbrev pub IsFineBranch : Place → Branch → Type 0
IsFineBranch place b = HasFineAlternative place (out-Alternative (out-Branch b).alternative)

-- the parts of a statement, in the scopes in which they stand
abbrev pub HasFineParts : Place → Action-F Action Alternative Branch Conditional Statement → Type 0
HasFineParts place (Action-F.Variables vs) = check_variables place.scope vs ≡ []
HasFineParts place (Action-F.Constants cs) = check_constants place.scope cs ≡ []
HasFineParts place (Action-F.Timers timers) = check_timers place.scope timers ≡ []
HasFineParts place (Action-F.Alt branches) = All (IsFineBranch place) branches
HasFineParts place (Action-F.If conditionals last) = All (IsFineConditional place) conditionals × IsFineIfAny place last
HasFineParts place (Action-F.While condition block) = IsCondition place.scope condition × IsFine place block
HasFineParts place (Action-F.DoWhile block condition) = IsFine place block × IsCondition place.scope condition
HasFineParts place (Action-F.For start condition step block) =
    (check_for_start place.scope start ≡ []) ×
    IsCondition (behind_for_start place.scope start) condition ×
    (check_assignment (behind_for_start place.scope start) step ≡ []) ×
    IsFine (with_scope place (behind_for_start place.scope start)) block
HasFineParts place (Action-F.Assign assignment) = check_assignment place.scope assignment ≡ []
HasFineParts place (Action-F.«Action::Call» call) = check_call place.scope stands_alone call ≡ []
HasFineParts place (Action-F.«Action::Event» event) = check_event place.scope event ≡ []
HasFineParts place Action-F.Repeat = IsTrue place.in_branch
HasFineParts place (Action-F.Return v) = check_return place.scope place.returns v ≡ []
HasFineParts place Action-F.Stop = Unit {0}
HasFineParts place (Action-F.Log items) = check_log place.scope items ≡ []
HasFineParts place (Action-F.Setverdict verdict reasons) = check_setverdict place.scope verdict reasons ≡ []
HasFineParts place (Action-F.Connect one other) = check_ends place.scope one.component other.component ≡ []
HasFineParts place (Action-F.Map mapping) = check_mapping place.scope mapping ≡ []
HasFineParts place (Action-F.Send send) = check_send place.scope send ≡ []
HasFineParts place (Action-F.StartComponent reference call) = check_start place.scope reference call ≡ []
HasFineParts place (Action-F.StartTimer timer) = check_timer place.scope timer ≡ []
HasFineParts place (Action-F.StopOf reference) = check_stop place.scope reference ≡ []
HasFineParts place (Action-F.Activate call) = check_activation place.scope call ≡ []
HasFineParts place (Action-F.Deactivate reference) = check_deactivate place.scope reference ≡ []
