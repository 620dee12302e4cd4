-- A scope within another one is that with other names.
use Rattle.std.proofs.Common.{◌≡◌, ◌≢◌, ℕ, Bool, List, [], Option, subst, sym}
use Rattle.ttcn_syntax.specs.declared.tree.definition.Definition.{Definition}
use Rattle.ttcn_syntax.specs.declared.tree.definition.DefinitionKind.{DefinitionKind}
use Rattle.ttcn_syntax.specs.declared.tree.definition.Parameter.{Parameter}
use Rattle.ttcn_syntax.specs.declared.tree.expression.ComponentRef.{ComponentRef}
use Rattle.ttcn_syntax.specs.declared.tree.expression.Expr.{Expr}
use Rattle.ttcn_syntax.specs.declared.tree.expression.Reference.{Reference}
use Rattle.ttcn_syntax.specs.declared.tree.statement.Assignment.{Assignment}
use Rattle.ttcn_syntax.specs.declared.tree.statement.Event.{Event}
use Rattle.ttcn_syntax.specs.declared.tree.statement.LogItem.{LogItem}
use Rattle.ttcn_syntax.specs.declared.tree.statement.Mapping.{Mapping}
use Rattle.ttcn_syntax.specs.declared.tree.statement.PortSelector.{PortSelector}
use Rattle.ttcn_syntax.specs.declared.tree.statement.Receive.{Receive}
use Rattle.ttcn_syntax.specs.declared.tree.statement.Send.{Send}
use Rattle.ttcn_syntax.specs.declared.tree.statement.Verdict.{Verdict}
use Rattle.ttcn_syntax.specs.declared.tree.template.MessageTemplate.{MessageTemplate}
use Rattle.ttcn_syntax.specs.declared.tree.template.Template.{Template}
use Rattle.ttcn_syntax.specs.declared.tree.value.Call.{Call}
use Rattle.ttcn_syntax.specs.declared.tree.value.Rhs.{Rhs}
use Rattle.ttcn_syntax.specs.declared.tree.value.TypeName.{TypeName}
use Rattle.ttcn_syntax.specs.declared.tree.value.Value.{Value}
use Rattle.check_rules.specs.Calls.{check_activation, check_arguments, check_call}
use Rattle.check_rules.specs.Expressions.{Judgement, check_component, check_reference, check_wanted_component, expression}
use Rattle.check_rules.specs.Targets.{check_assignment, check_rhs, check_target, check_type, target_at}
use Rattle.check_rules.specs.Templates.{template}
use Rattle.check_rules.specs.Values.{value}
use Rattle.check_scope.specs.Names.{Scope, resolved}
use Rattle.check_scope.specs.declared.types.Target.{Target}
use Rattle.check_rules.specs.Definitions.{returns_of}
use Rattle.check_rules.specs.Messages.{Passing, check_event, check_message, check_receive, check_selector, check_send, check_timer, incoming, type_of_message}
use Rattle.check_rules.specs.Statements.{Place, check_condition, check_deactivate, check_ends, check_guard, check_log, check_mapping, check_return, check_setverdict, check_start, check_stop}
use Rattle.laws_checker.proofs.Whole.{naming}
use Rattle.laws_statements.specs.Within.{IsWithin, ReturnsStayFine, StaysFine, StaysSame}
use Rattle.laws_statements.proofs.WithinExpressions as inside
use Rattle.laws_statements.proofs.WithinPhrases.{activation-fine, assignment-fine, call-fine, condition-fine, deactivate-fine, ends-fine, event-fine, guard-fine, incoming-same, log-fine, mapping-fine, message-fine, message-typing-same, receive-fine, return-fine, rhs-fine, send-fine, setverdict-fine, start-fine, stop-fine, target-at-same, target-same, timer-fine, type-same}
use Rattle.laws_statements.proofs.WithinTemplates.{template-fine}

pub other-names : (scope other : Scope) → IsWithin scope other → naming scope other.names ≡ other
other-names scope other within = λ i. record { definitions = sym within.definitions i; names = other.names; itself = sym within.itself i }

pub expression_stays : (e : Expr) (free : Bool) → StaysSame (λ s. expression e s free)
expression_stays e free scope other within nothing =
    subst (λ s. expression e s free ≡ expression e scope free) (other-names scope other within) (inside.expression-same scope other.names within.names e free nothing)

pub value_stays : (v : Value) (target : Target) → StaysFine (λ s. value v s target)
value_stays v target scope other within nothing =
    subst (λ s. value v s target ≡ []) (other-names scope other within) (inside.value-fine scope other.names within.names v target nothing)

pub template_stays : (t : Template) (target : Target) → StaysFine (λ s. template t s target)
template_stays t target scope other within nothing =
    subst (λ s. template t s target ≡ []) (other-names scope other within) (template-fine scope other.names within.names t target nothing)

pub reference_stays : (r : Reference) → StaysSame (λ s. check_reference s r)
reference_stays r scope g within nothing =
    subst (λ s. check_reference s r ≡ check_reference scope r) (other-names scope g within) (inside.reference-same scope g.names within.names r nothing)

pub component_stays : (c : ComponentRef) (free : Bool) → StaysSame (λ s. check_component s c free)
component_stays c free scope g within nothing =
    subst (λ s. check_component s c free ≡ check_component scope c free) (other-names scope g within) (inside.component-same scope g.names within.names c free nothing)

pub target_stays : (r : Reference) → StaysSame (λ s. check_target s r)
target_stays r scope g within nothing =
    subst (λ s. check_target s r ≡ check_target scope r) (other-names scope g within) (target-same scope g.names within.names r nothing)

pub call_stays : (callable : Option DefinitionKind → Bool) (call : Call) → StaysFine (λ s. check_call s callable call)
call_stays callable call scope g within nothing = subst (λ s. check_call s callable call ≡ []) (other-names scope g within) (call-fine scope g.names within.names callable call nothing)

pub activation_stays : (call : Call) → StaysFine (λ s. check_activation s call)
activation_stays call scope g within nothing = subst (λ s. check_activation s call ≡ []) (other-names scope g within) (activation-fine scope g.names within.names call nothing)

pub rhs_stays : (target : Target) (right : Rhs) → StaysFine (λ s. check_rhs s target right)
rhs_stays target right scope g within nothing = subst (λ s. check_rhs s target right ≡ []) (other-names scope g within) (rhs-fine scope g.names within.names target right nothing)

pub assignment_stays : (a : Assignment) → StaysFine (λ s. check_assignment s a)
assignment_stays a scope g within nothing = subst (λ s. check_assignment s a ≡ []) (other-names scope g within) (assignment-fine scope g.names within.names a nothing)

pub condition_stays : (e : Expr) → StaysFine (λ s. check_condition s e)
condition_stays e scope g within nothing = subst (λ s. check_condition s e ≡ []) (other-names scope g within) (condition-fine scope g.names within.names e nothing)

pub guard_stays : (guard : Option Expr) → StaysFine (λ s. check_guard s guard)
guard_stays guard scope g within nothing = subst (λ s. check_guard s guard ≡ []) (other-names scope g within) (guard-fine scope g.names within.names guard nothing)

pub setverdict-stays : (v : Verdict) (reasons : List LogItem) → StaysFine (λ s. check_setverdict s v reasons)
setverdict-stays v reasons scope g within nothing = subst (λ s. check_setverdict s v reasons ≡ []) (other-names scope g within) (setverdict-fine scope g.names within.names v reasons nothing)

pub log-stays : (items : List LogItem) → StaysFine (λ s. check_log s items)
log-stays items scope g within nothing = subst (λ s. check_log s items ≡ []) (other-names scope g within) (log-fine scope g.names within.names items nothing)

pub return_stays : (definitions : List Definition) (of : Option TypeName) (place : Place) → place.returns ≡ returns_of definitions of → ReturnsStayFine place
return_stays definitions of place is given scope g within nothing =
    subst (λ may. check_return g may given ≡ []) (sym is)
    (subst (λ s. check_return s (returns_of definitions of) given ≡ []) (other-names scope g within)
    (return-fine scope g.names within.names definitions of given (subst (λ may. check_return scope may given ≡ []) is nothing)))

pub no_return_stays : (place : Place) → ((inner : Scope) (given : Option Value) → check_return inner place.returns given ≢ []) → ReturnsStayFine place
no_return_stays place none given scope g within nothing = absurd (none scope given nothing)

pub deactivate_stays : (r : Option Reference) → StaysFine (λ s. check_deactivate s r)
deactivate_stays r scope g within nothing = subst (λ s. check_deactivate s r ≡ []) (other-names scope g within) (deactivate-fine scope g.names within.names r nothing)

pub stop_stays : (c : ComponentRef) → StaysFine (λ s. check_stop s c)
stop_stays c scope g within nothing = subst (λ s. check_stop s c ≡ []) (other-names scope g within) (stop-fine scope g.names within.names c nothing)

pub ends_stays : (one other : ComponentRef) → StaysFine (λ s. check_ends s one other)
ends_stays one other scope g within nothing = subst (λ s. check_ends s one other ≡ []) (other-names scope g within) (ends-fine scope g.names within.names one other nothing)

pub mapping_stays : (mapping : Mapping) → StaysFine (λ s. check_mapping s mapping)
mapping_stays mapping scope g within nothing = subst (λ s. check_mapping s mapping ≡ []) (other-names scope g within) (mapping-fine scope g.names within.names mapping nothing)

pub start_stays : (c : ComponentRef) (call : Call) → StaysFine (λ s. check_start s c call)
start_stays c call scope g within nothing = subst (λ s. check_start s c call ≡ []) (other-names scope g within) (start-fine scope g.names within.names c call nothing)

pub timer_stays : (name : List ℕ) → StaysFine (λ s. check_timer s name)
timer_stays name scope g within nothing = subst (λ s. check_timer s name ≡ []) (other-names scope g within) (timer-fine scope g.names within.names name nothing)

pub message_stays : (passing : Passing) (otherwise : Judgement) (message : MessageTemplate) → StaysFine (λ s. check_message s passing otherwise message)
message_stays passing otherwise message scope g within nothing = subst (λ s. check_message s passing otherwise message ≡ []) (other-names scope g within) (message-fine scope g.names within.names passing otherwise message nothing)

pub send_stays : (send : Send) → StaysFine (λ s. check_send s send)
send_stays send scope g within nothing = subst (λ s. check_send s send ≡ []) (other-names scope g within) (send-fine scope g.names within.names send nothing)

pub receive_stays : (receive : Receive) → StaysFine (λ s. check_receive s receive)
receive_stays receive scope g within nothing = subst (λ s. check_receive s receive ≡ []) (other-names scope g within) (receive-fine scope g.names within.names receive nothing)

pub event_stays : (e : Event) → StaysFine (λ s. check_event s e)
event_stays e scope g within nothing = subst (λ s. check_event s e ≡ []) (other-names scope g within) (event-fine scope g.names within.names e nothing)

pub wanted_stays : (c : ComponentRef) → StaysSame (λ s. check_wanted_component s c)
wanted_stays c scope g within nothing =
    subst (λ s. check_wanted_component s c ≡ check_wanted_component scope c) (other-names scope g within) (inside.wanted-same scope g.names within.names c nothing)

pub arguments_stay : (ps : List Parameter) (given : List Value) → StaysFine (λ s. check_arguments s ps given)
arguments_stay ps given scope g within nothing =
    subst (λ s. check_arguments s ps given ≡ []) (other-names scope g within) (inside.arguments-fine scope g.names within.names ps given nothing)

-- ---- types

pub type_stays : (scope g : Scope) → IsWithin scope g → (default : Bool) (t : TypeName) → check_type scope.names default t ≡ [] → resolved g.names t ≡ resolved scope.names t
type_stays scope g within default t nothing = type-same scope g.names within.names default t nothing

pub target_at_stays : (scope g : Scope) → IsWithin scope g → (r : Reference) → (check_target scope r).broken ≡ [] → target_at g r ≡ target_at scope r
target_at_stays scope g within r nothing =
    subst (λ s. target_at s r ≡ target_at scope r) (other-names scope g within) (target-at-same scope g.names within.names r nothing)

pub message_type_stays : (scope g : Scope) → IsWithin scope g → (passing : Passing) (otherwise : Judgement) (message : MessageTemplate) → check_message scope passing otherwise message ≡ []
    → type_of_message g passing otherwise message ≡ type_of_message scope passing otherwise message
message_type_stays scope g within passing otherwise message nothing =
    subst (λ s. type_of_message s passing otherwise message ≡ type_of_message scope passing otherwise message) (other-names scope g within)
    (message-typing-same scope g.names within.names passing otherwise message nothing)

pub port_stays : (scope g : Scope) → IsWithin scope g → (port : PortSelector) → check_selector scope port ≡ [] → incoming g port ≡ incoming scope port
port_stays scope g within port nothing =
    subst (λ s. incoming s port ≡ incoming scope port) (other-names scope g within) (incoming-same scope g.names within.names port nothing)
