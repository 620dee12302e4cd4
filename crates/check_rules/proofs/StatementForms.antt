-- What is said of statements and branches, form by form.
use Rattle.std.proofs.Common.{◌≡◌, ℕ, List, [], ◌∷◌, ◌++◌, map, Option, Some, None, refl, sym, ap, ◌∙◌}
use Rattle.std.specs.List.{flat_map}
use Rattle.ttcn_syntax.specs.declared.tree.expression.ComponentRef.{ComponentRef}
use Rattle.ttcn_syntax.specs.declared.tree.expression.Expr.{Expr}
use Rattle.ttcn_syntax.specs.declared.tree.expression.Reference.{Reference}
use Rattle.ttcn_syntax.specs.declared.tree.statement.Action.{Action}
use Rattle.ttcn_syntax.specs.declared.tree.statement.Action.TheFolds.{fold-roll-Action, fold-roll-Alternative}
use Rattle.ttcn_syntax.specs.declared.tree.statement.Action.TheOpen.{Action-F, Alternative-F}
use Rattle.ttcn_syntax.specs.declared.tree.statement.Action.TheVariants as form
use Rattle.ttcn_syntax.specs.declared.tree.statement.Alternative.{Alternative}
use Rattle.ttcn_syntax.specs.declared.tree.statement.Alternative.TheVariants as alternative_form
use Rattle.ttcn_syntax.specs.declared.tree.statement.Assignment.{Assignment}
use Rattle.ttcn_syntax.specs.declared.tree.statement.Branch.{Branch, fold_out-Branch, out-Branch}
use Rattle.ttcn_syntax.specs.declared.tree.statement.Conditional.{Conditional, fold_out-Conditional, out-Conditional}
use Rattle.ttcn_syntax.specs.declared.tree.statement.Constants.{Constants}
use Rattle.ttcn_syntax.specs.declared.tree.statement.Event.{Event}
use Rattle.ttcn_syntax.specs.declared.tree.statement.ForStart.{ForStart}
use Rattle.ttcn_syntax.specs.declared.tree.statement.LogItem.{LogItem}
use Rattle.ttcn_syntax.specs.declared.tree.statement.Mapping.{Mapping}
use Rattle.ttcn_syntax.specs.declared.tree.statement.PortRef.{PortRef}
use Rattle.ttcn_syntax.specs.declared.tree.statement.Send.{Send}
use Rattle.ttcn_syntax.specs.declared.tree.statement.Statement.{Statement, fold_out-Statement, out-Statement}
use Rattle.ttcn_syntax.specs.declared.tree.statement.Timer.{Timer}
use Rattle.ttcn_syntax.specs.declared.tree.statement.Variables.{Variables}
use Rattle.ttcn_syntax.specs.declared.tree.statement.Verdict.{Verdict}
use Rattle.ttcn_syntax.specs.declared.tree.value.Call.{Call}
use Rattle.ttcn_syntax.specs.declared.tree.value.Value.{Value}
use Rattle.check_scope.proofs.Leasts.{both-assoc, both-nothing, least_append}
use Rattle.check_scope.specs.internal.Checking.{both, least}
use Rattle.check_rules.specs.Statements.{Check, Place, StatementRules, action, action_step, alternative, alternative_step, check_condition, check_for_head, check_guarded_call, check_guarded_event, behind_for_start, branch, branch_step, conditional, conditional_step, inside_branch, leaf, statement, statement_step, statements, with_scope}

-- ---- statements without blocks

pub of-variables : (vs : Variables) → action (form.Variables vs) ≡ leaf {A = Action} {B = Alternative} {C = Branch} {D = Conditional} {E = Statement} (Action-F.Variables vs)
of-variables vs = ap action (sym (form.rolls-Variables vs)) ∙ fold-roll-Action StatementRules Check Check Check StatementRules action_step alternative_step branch_step conditional_step statement_step (Action-F.Variables vs)

pub of-constants : (cs : Constants) → action (form.Constants cs) ≡ leaf {A = Action} {B = Alternative} {C = Branch} {D = Conditional} {E = Statement} (Action-F.Constants cs)
of-constants cs = ap action (sym (form.rolls-Constants cs)) ∙ fold-roll-Action StatementRules Check Check Check StatementRules action_step alternative_step branch_step conditional_step statement_step (Action-F.Constants cs)

pub of-timers : (timers : List Timer) → action (form.Timers timers) ≡ leaf {A = Action} {B = Alternative} {C = Branch} {D = Conditional} {E = Statement} (Action-F.Timers timers)
of-timers timers = ap action (sym (form.rolls-Timers timers)) ∙ fold-roll-Action StatementRules Check Check Check StatementRules action_step alternative_step branch_step conditional_step statement_step (Action-F.Timers timers)

pub of-assign : (assignment : Assignment) → action (form.Assign assignment) ≡ leaf {A = Action} {B = Alternative} {C = Branch} {D = Conditional} {E = Statement} (Action-F.Assign assignment)
of-assign assignment = ap action (sym (form.rolls-Assign assignment)) ∙ fold-roll-Action StatementRules Check Check Check StatementRules action_step alternative_step branch_step conditional_step statement_step (Action-F.Assign assignment)

pub of-call : (call : Call) → action (form.Call call) ≡ leaf {A = Action} {B = Alternative} {C = Branch} {D = Conditional} {E = Statement} (Action-F.«Action::Call» call)
of-call call = ap action (sym (form.rolls-Call call)) ∙ fold-roll-Action StatementRules Check Check Check StatementRules action_step alternative_step branch_step conditional_step statement_step (Action-F.«Action::Call» call)

pub of-event : (event : Event) → action (form.Event event) ≡ leaf {A = Action} {B = Alternative} {C = Branch} {D = Conditional} {E = Statement} (Action-F.«Action::Event» event)
of-event event = ap action (sym (form.rolls-Event event)) ∙ fold-roll-Action StatementRules Check Check Check StatementRules action_step alternative_step branch_step conditional_step statement_step (Action-F.«Action::Event» event)

pub of-repeat : action form.Repeat ≡ leaf {A = Action} {B = Alternative} {C = Branch} {D = Conditional} {E = Statement} Action-F.Repeat
of-repeat = ap action (sym form.rolls-Repeat) ∙ fold-roll-Action StatementRules Check Check Check StatementRules action_step alternative_step branch_step conditional_step statement_step Action-F.Repeat

pub of-return : (v : Option Value) → action (form.Return v) ≡ leaf {A = Action} {B = Alternative} {C = Branch} {D = Conditional} {E = Statement} (Action-F.Return v)
of-return v = ap action (sym (form.rolls-Return v)) ∙ fold-roll-Action StatementRules Check Check Check StatementRules action_step alternative_step branch_step conditional_step statement_step (Action-F.Return v)

pub of-stop : action form.Stop ≡ leaf {A = Action} {B = Alternative} {C = Branch} {D = Conditional} {E = Statement} Action-F.Stop
of-stop = ap action (sym form.rolls-Stop) ∙ fold-roll-Action StatementRules Check Check Check StatementRules action_step alternative_step branch_step conditional_step statement_step Action-F.Stop

pub of-log : (items : List LogItem) → action (form.Log items) ≡ leaf {A = Action} {B = Alternative} {C = Branch} {D = Conditional} {E = Statement} (Action-F.Log items)
of-log items = ap action (sym (form.rolls-Log items)) ∙ fold-roll-Action StatementRules Check Check Check StatementRules action_step alternative_step branch_step conditional_step statement_step (Action-F.Log items)

pub of-setverdict : (verdict : Verdict) (reasons : List LogItem) → action (form.Setverdict verdict reasons) ≡ leaf {A = Action} {B = Alternative} {C = Branch} {D = Conditional} {E = Statement} (Action-F.Setverdict verdict reasons)
of-setverdict verdict reasons = ap action (sym (form.rolls-Setverdict verdict reasons)) ∙ fold-roll-Action StatementRules Check Check Check StatementRules action_step alternative_step branch_step conditional_step statement_step (Action-F.Setverdict verdict reasons)

pub of-connect : (one : PortRef) (other : PortRef) → action (form.Connect one other) ≡ leaf {A = Action} {B = Alternative} {C = Branch} {D = Conditional} {E = Statement} (Action-F.Connect one other)
of-connect one other = ap action (sym (form.rolls-Connect one other)) ∙ fold-roll-Action StatementRules Check Check Check StatementRules action_step alternative_step branch_step conditional_step statement_step (Action-F.Connect one other)

pub of-map : (mapping : Mapping) → action (form.Map mapping) ≡ leaf {A = Action} {B = Alternative} {C = Branch} {D = Conditional} {E = Statement} (Action-F.Map mapping)
of-map mapping = ap action (sym (form.rolls-Map mapping)) ∙ fold-roll-Action StatementRules Check Check Check StatementRules action_step alternative_step branch_step conditional_step statement_step (Action-F.Map mapping)

pub of-send : (send : Send) → action (form.Send send) ≡ leaf {A = Action} {B = Alternative} {C = Branch} {D = Conditional} {E = Statement} (Action-F.Send send)
of-send send = ap action (sym (form.rolls-Send send)) ∙ fold-roll-Action StatementRules Check Check Check StatementRules action_step alternative_step branch_step conditional_step statement_step (Action-F.Send send)

pub of-start-component : (reference : ComponentRef) (call : Call) → action (form.StartComponent reference call) ≡ leaf {A = Action} {B = Alternative} {C = Branch} {D = Conditional} {E = Statement} (Action-F.StartComponent reference call)
of-start-component reference call = ap action (sym (form.rolls-StartComponent reference call)) ∙ fold-roll-Action StatementRules Check Check Check StatementRules action_step alternative_step branch_step conditional_step statement_step (Action-F.StartComponent reference call)

pub of-start-timer : (timer : List ℕ) → action (form.StartTimer timer) ≡ leaf {A = Action} {B = Alternative} {C = Branch} {D = Conditional} {E = Statement} (Action-F.StartTimer timer)
of-start-timer timer = ap action (sym (form.rolls-StartTimer timer)) ∙ fold-roll-Action StatementRules Check Check Check StatementRules action_step alternative_step branch_step conditional_step statement_step (Action-F.StartTimer timer)

pub of-stop-of : (reference : ComponentRef) → action (form.StopOf reference) ≡ leaf {A = Action} {B = Alternative} {C = Branch} {D = Conditional} {E = Statement} (Action-F.StopOf reference)
of-stop-of reference = ap action (sym (form.rolls-StopOf reference)) ∙ fold-roll-Action StatementRules Check Check Check StatementRules action_step alternative_step branch_step conditional_step statement_step (Action-F.StopOf reference)

pub of-activate : (call : Call) → action (form.Activate call) ≡ leaf {A = Action} {B = Alternative} {C = Branch} {D = Conditional} {E = Statement} (Action-F.Activate call)
of-activate call = ap action (sym (form.rolls-Activate call)) ∙ fold-roll-Action StatementRules Check Check Check StatementRules action_step alternative_step branch_step conditional_step statement_step (Action-F.Activate call)

pub of-deactivate : (reference : Option Reference) → action (form.Deactivate reference) ≡ leaf {A = Action} {B = Alternative} {C = Branch} {D = Conditional} {E = Statement} (Action-F.Deactivate reference)
of-deactivate reference = ap action (sym (form.rolls-Deactivate reference)) ∙ fold-roll-Action StatementRules Check Check Check StatementRules action_step alternative_step branch_step conditional_step statement_step (Action-F.Deactivate reference)

-- ---- statements with blocks

-- what is said at a place, of several
at-each : {A : Type 0} (said : A → Check) (place : Place) (items : List A) → flat_map (λ broken. broken place) (map said items) ≡ flat_map (λ item. said item place) items
at-each said place [] = refl
at-each said place (item ∷ items) = ap (λ broken. said item place ++ broken) (at-each said place items)

module _ (place : Place) where
  pub of-alt : (branches : List Branch) → least ((action (form.Alt branches)).broken place) ≡ least (flat_map (λ b. branch b place) branches)
  of-alt branches =
      ap (λ (s : StatementRules). least (s.broken place)) (ap action (sym (form.rolls-Alt branches)) ∙ fold-roll-Action StatementRules Check Check Check StatementRules action_step alternative_step branch_step conditional_step statement_step (Action-F.Alt branches))
      ∙ ap least (at-each branch place branches)

  pub of-if : (conditionals : List Conditional) → least ((action (form.If conditionals None)).broken place)
      ≡ least (flat_map (λ c. conditional c place) conditionals)
  of-if conditionals =
      ap (λ (s : StatementRules). least (s.broken place)) (ap action (sym (form.rolls-If conditionals None)) ∙ fold-roll-Action StatementRules Check Check Check StatementRules action_step alternative_step branch_step conditional_step statement_step (Action-F.If conditionals None))
      ∙ least_append (flat_map (λ c. c place) (map conditional conditionals)) []
      ∙ both-nothing (least (flat_map (λ c. c place) (map conditional conditionals)))
      ∙ ap least (at-each conditional place conditionals)

  pub of-if-else : (conditionals : List Conditional) (last : List Statement) → least ((action (form.If conditionals (Some last))).broken place)
      ≡ both (least (flat_map (λ c. conditional c place) conditionals)) (least (statements last place))
  of-if-else conditionals last =
      ap (λ (s : StatementRules). least (s.broken place)) (ap action (sym (form.rolls-If conditionals (Some last))) ∙ fold-roll-Action StatementRules Check Check Check StatementRules action_step alternative_step branch_step conditional_step statement_step (Action-F.If conditionals (Some last)))
      ∙ least_append (flat_map (λ c. c place) (map conditional conditionals)) (statements last place)
      ∙ ap (λ rules. both (least rules) (least (statements last place))) (at-each conditional place conditionals)

  pub of-while : (condition : Expr) (body : List Statement) → least ((action (form.While condition body)).broken place)
      ≡ both (least (check_condition place.scope condition)) (least (statements body place))
  of-while condition body =
      ap (λ (s : StatementRules). least (s.broken place)) (ap action (sym (form.rolls-While condition body)) ∙ fold-roll-Action StatementRules Check Check Check StatementRules action_step alternative_step branch_step conditional_step statement_step (Action-F.While condition body))
      ∙ least_append (check_condition place.scope condition) (statements body place)

  pub of-do-while : (body : List Statement) (condition : Expr) → least ((action (form.DoWhile body condition)).broken place)
      ≡ both (least (statements body place)) (least (check_condition place.scope condition))
  of-do-while body condition =
      ap (λ (s : StatementRules). least (s.broken place)) (ap action (sym (form.rolls-DoWhile body condition)) ∙ fold-roll-Action StatementRules Check Check Check StatementRules action_step alternative_step branch_step conditional_step statement_step (Action-F.DoWhile body condition))
      ∙ least_append (statements body place) (check_condition place.scope condition)

  pub of-for : (start : ForStart) (condition : Expr) (step : Assignment) (body : List Statement) → least ((action (form.For start condition step body)).broken place)
      ≡ both (least (check_for_head place.scope start condition step)) (least (statements body (with_scope place (behind_for_start place.scope start))))
  of-for start condition step body =
      ap (λ (s : StatementRules). least (s.broken place)) (ap action (sym (form.rolls-For start condition step body)) ∙ fold-roll-Action StatementRules Check Check Check StatementRules action_step alternative_step branch_step conditional_step statement_step (Action-F.For start condition step body))
      ∙ least_append (check_for_head place.scope start condition step) (statements body (with_scope place (behind_for_start place.scope start)))

-- statements with blocks declare nothing
pub behind-alt : (branches : List Branch) → (action (form.Alt branches)).scope_behind ≡ (λ scope. scope)
behind-alt branches = ap (λ (s : StatementRules). s.scope_behind) (ap action (sym (form.rolls-Alt branches)) ∙ fold-roll-Action StatementRules Check Check Check StatementRules action_step alternative_step branch_step conditional_step statement_step (Action-F.Alt branches))

pub behind-if : (conditionals : List Conditional) (last : Option (List Statement)) → (action (form.If conditionals last)).scope_behind ≡ (λ scope. scope)
behind-if conditionals last = ap (λ (s : StatementRules). s.scope_behind) (ap action (sym (form.rolls-If conditionals last)) ∙ fold-roll-Action StatementRules Check Check Check StatementRules action_step alternative_step branch_step conditional_step statement_step (Action-F.If conditionals last))

pub behind-while : (condition : Expr) (body : List Statement) → (action (form.While condition body)).scope_behind ≡ (λ scope. scope)
behind-while condition body = ap (λ (s : StatementRules). s.scope_behind) (ap action (sym (form.rolls-While condition body)) ∙ fold-roll-Action StatementRules Check Check Check StatementRules action_step alternative_step branch_step conditional_step statement_step (Action-F.While condition body))

pub behind-do-while : (body : List Statement) (condition : Expr) → (action (form.DoWhile body condition)).scope_behind ≡ (λ scope. scope)
behind-do-while body condition = ap (λ (s : StatementRules). s.scope_behind) (ap action (sym (form.rolls-DoWhile body condition)) ∙ fold-roll-Action StatementRules Check Check Check StatementRules action_step alternative_step branch_step conditional_step statement_step (Action-F.DoWhile body condition))

pub behind-for : (start : ForStart) (condition : Expr) (step : Assignment) (body : List Statement) → (action (form.For start condition step body)).scope_behind ≡ (λ scope. scope)
behind-for start condition step body = ap (λ (s : StatementRules). s.scope_behind) (ap action (sym (form.rolls-For start condition step body)) ∙ fold-roll-Action StatementRules Check Check Check StatementRules action_step alternative_step branch_step conditional_step statement_step (Action-F.For start condition step body))

pub statement-out : (s : Statement) → statement s ≡ action (out-Statement s).action
statement-out s = fold_out-Statement StatementRules Check Check Check StatementRules action_step alternative_step branch_step conditional_step statement_step s

-- what is said of a statement, form by form
pub ruleset statement_forms = (statement-out, of-variables, of-constants, of-timers, of-assign, of-call, of-event, of-repeat, of-return, of-stop, of-log, of-setverdict, of-connect, of-map, of-send, of-start-component, of-start-timer, of-stop-of, of-activate, of-deactivate, of-alt, of-if, of-if-else, of-while, of-do-while, of-for, behind-alt, behind-if, behind-while, behind-do-while, behind-for, both-assoc)

-- ---- branches

module _ (place : Place) where
  pub of-lone-event : (guard : Option Expr) (event : Event) → least (alternative (alternative_form.Event guard event None) place) ≡ least (check_guarded_event place.scope guard event)
  of-lone-event guard event =
      ap (λ (f : Check). least (f place)) (ap alternative (sym (alternative_form.rolls-Event guard event None)) ∙ fold-roll-Alternative StatementRules Check Check Check StatementRules action_step alternative_step branch_step conditional_step statement_step (Alternative-F.«Alternative::Event» guard event None))
      ∙ least_append (check_guarded_event place.scope guard event) []
      ∙ both-nothing (least (check_guarded_event place.scope guard event))

  pub of-event-block : (guard : Option Expr) (event : Event) (body : List Statement) → least (alternative (alternative_form.Event guard event (Some body)) place)
      ≡ both (least (check_guarded_event place.scope guard event)) (least (statements body (inside_branch place)))
  of-event-block guard event body =
      ap (λ (f : Check). least (f place)) (ap alternative (sym (alternative_form.rolls-Event guard event (Some body))) ∙ fold-roll-Alternative StatementRules Check Check Check StatementRules action_step alternative_step branch_step conditional_step statement_step (Alternative-F.«Alternative::Event» guard event (Some body)))
      ∙ least_append (check_guarded_event place.scope guard event) (statements body (inside_branch place))

  pub of-branch-call : (guard : Option Expr) (call : Call) → least (alternative (alternative_form.Call guard call None) place) ≡ least (check_guarded_call place.scope guard call)
  of-branch-call guard call =
      ap (λ (f : Check). least (f place)) (ap alternative (sym (alternative_form.rolls-Call guard call None)) ∙ fold-roll-Alternative StatementRules Check Check Check StatementRules action_step alternative_step branch_step conditional_step statement_step (Alternative-F.«Alternative::Call» guard call None))
      ∙ least_append (check_guarded_call place.scope guard call) []
      ∙ both-nothing (least (check_guarded_call place.scope guard call))

  pub of-call-block : (guard : Option Expr) (call : Call) (body : List Statement) → least (alternative (alternative_form.Call guard call (Some body)) place)
      ≡ both (least (check_guarded_call place.scope guard call)) (least (statements body (inside_branch place)))
  of-call-block guard call body =
      ap (λ (f : Check). least (f place)) (ap alternative (sym (alternative_form.rolls-Call guard call (Some body))) ∙ fold-roll-Alternative StatementRules Check Check Check StatementRules action_step alternative_step branch_step conditional_step statement_step (Alternative-F.«Alternative::Call» guard call (Some body)))
      ∙ least_append (check_guarded_call place.scope guard call) (statements body (inside_branch place))

  pub of-else : (body : List Statement) → alternative (alternative_form.Else body) place ≡ statements body (inside_branch place)
  of-else body = ap (λ (f : Check). f place) (ap alternative (sym (alternative_form.rolls-Else body)) ∙ fold-roll-Alternative StatementRules Check Check Check StatementRules action_step alternative_step branch_step conditional_step statement_step (Alternative-F.Else body))

pub branch-out : (b : Branch) → branch b ≡ alternative (out-Branch b).alternative
branch-out b = fold_out-Branch StatementRules Check Check Check StatementRules action_step alternative_step branch_step conditional_step statement_step b

-- what is said of a branch, form by form
pub ruleset branch_forms = (branch-out, of-lone-event, of-event-block, of-branch-call, of-call-block, of-else, both-assoc)

-- ---- conditions with blocks

pub conditional-least : (c : Conditional) (place : Place) → least (conditional c place)
    ≡ both (least (check_condition place.scope (out-Conditional c).condition)) (least (statements (out-Conditional c).block place))
conditional-least c place =
    ap (λ (f : Check). least (f place)) (fold_out-Conditional StatementRules Check Check Check StatementRules action_step alternative_step branch_step conditional_step statement_step c)
    ∙ least_append (check_condition place.scope (out-Conditional c).condition) (statements (out-Conditional c).block place)
