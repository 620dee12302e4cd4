-- Declarations, events and other parts of statements, without blocks, that `==` finds equal are one.
use Rattle.std.proofs.lemmas.Bool.{and_parts}
use Rattle.syntax_equality.specs.Equality.{IsOne, OneAt, last, list_one, name_one, none, option_one, tests_of, variant_one}
use Rattle.syntax_equality.specs.Expressions.{component_one, expression_one, reference_one}
use Rattle.syntax_equality.specs.Templates.{message_one}
use Rattle.syntax_equality.specs.Values.{right_one, type_one, value_one}
use Rattle.ttcn_syntax.specs.contracts.tree.statement.AssignmentPartialEq.TheImpl as assignments
use Rattle.ttcn_syntax.specs.contracts.tree.statement.ConstantPartialEq.TheImpl as constants
use Rattle.ttcn_syntax.specs.contracts.tree.statement.ConstantsPartialEq.TheImpl as constant_lists
use Rattle.ttcn_syntax.specs.contracts.tree.statement.Event.{enum as event_enum}
use Rattle.ttcn_syntax.specs.contracts.tree.statement.EventPartialEq.TheImpl as events
use Rattle.ttcn_syntax.specs.contracts.tree.statement.ForStart.{enum as start_enum}
use Rattle.ttcn_syntax.specs.contracts.tree.statement.ForStartPartialEq.TheImpl as starts
use Rattle.ttcn_syntax.specs.contracts.tree.statement.LogItem.{enum as item_enum}
use Rattle.ttcn_syntax.specs.contracts.tree.statement.LogItemPartialEq.TheImpl as items
use Rattle.ttcn_syntax.specs.contracts.tree.statement.MapOperation.{the_type as operation_type}
use Rattle.ttcn_syntax.specs.contracts.tree.statement.MapOperationPartialEq.TheImpl as operations
use Rattle.ttcn_syntax.specs.contracts.tree.statement.MappingPartialEq.TheImpl as mappings
use Rattle.ttcn_syntax.specs.contracts.tree.statement.PortRefPartialEq.TheImpl as ports
use Rattle.ttcn_syntax.specs.contracts.tree.statement.PortSelector.{enum as selector_enum}
use Rattle.ttcn_syntax.specs.contracts.tree.statement.PortSelectorPartialEq.TheImpl as selectors
use Rattle.ttcn_syntax.specs.contracts.tree.statement.ReceivePartialEq.TheImpl as receives
use Rattle.ttcn_syntax.specs.contracts.tree.statement.SendPartialEq.TheImpl as sends
use Rattle.ttcn_syntax.specs.contracts.tree.statement.TimerPartialEq.TheImpl as timers
use Rattle.ttcn_syntax.specs.contracts.tree.statement.VariablePartialEq.TheImpl as variables
use Rattle.ttcn_syntax.specs.contracts.tree.statement.VariablesPartialEq.TheImpl as variable_lists
use Rattle.ttcn_syntax.specs.contracts.tree.statement.Verdict.{the_type as verdict_type}
use Rattle.ttcn_syntax.specs.contracts.tree.statement.VerdictPartialEq.TheImpl as verdicts
use Rattle.ttcn_syntax.specs.declared.tree.statement.Assignment.{Assignment}
use Rattle.ttcn_syntax.specs.declared.tree.statement.Constant.{Constant}
use Rattle.ttcn_syntax.specs.declared.tree.statement.Constants.{Constants}
use Rattle.ttcn_syntax.specs.declared.tree.statement.Event.{Event}
use Rattle.ttcn_syntax.specs.declared.tree.statement.Event.TheVariants as event
use Rattle.ttcn_syntax.specs.declared.tree.statement.ForStart.{ForStart}
use Rattle.ttcn_syntax.specs.declared.tree.statement.ForStart.TheVariants as for_start
use Rattle.ttcn_syntax.specs.declared.tree.statement.LogItem.{LogItem}
use Rattle.ttcn_syntax.specs.declared.tree.statement.LogItem.TheVariants as log_item
use Rattle.ttcn_syntax.specs.declared.tree.statement.MapOperation.{MapOperation}
use Rattle.ttcn_syntax.specs.declared.tree.statement.Mapping.{Mapping}
use Rattle.ttcn_syntax.specs.declared.tree.statement.PortRef.{PortRef}
use Rattle.ttcn_syntax.specs.declared.tree.statement.PortSelector.{PortSelector}
use Rattle.ttcn_syntax.specs.declared.tree.statement.PortSelector.TheVariants as selector
use Rattle.ttcn_syntax.specs.declared.tree.statement.Receive.{Receive}
use Rattle.ttcn_syntax.specs.declared.tree.statement.Send.{Send}
use Rattle.ttcn_syntax.specs.declared.tree.statement.Timer.{Timer}
use Rattle.ttcn_syntax.specs.declared.tree.statement.Variable.{Variable}
use Rattle.ttcn_syntax.specs.declared.tree.statement.Variables.{Variables}
use Rattle.ttcn_syntax.specs.declared.tree.statement.Verdict.{Verdict}
use denote.Enum.Bare.{same_true}

-- ---- declarations and assignments

pub variable_one : (a : Variable) → IsOne Variable (variables.ghosts).eq a
variable_one a b h = let p = and_parts _ _ h in λ i. record { name = name_one a.name b.name p.0 i; value = option_one _ right_one a.value b.value p.1 i }

pub variables_one : (a : Variables) → IsOne Variables (variable_lists.ghosts).eq a
variables_one a b h = let p = and_parts _ _ h in λ i. record { type_name = type_one a.type_name b.type_name p.0 i; variables = list_one _ variable_one a.variables b.variables p.1 i }

pub constant_one : (a : Constant) → IsOne Constant (constants.ghosts).eq a
constant_one a b h = let p = and_parts _ _ h in λ i. record { name = name_one a.name b.name p.0 i; value = value_one a.value b.value p.1 i }

pub constants_one : (a : Constants) → IsOne Constants (constant_lists.ghosts).eq a
constants_one a b h = let p = and_parts _ _ h in λ i. record { type_name = type_one a.type_name b.type_name p.0 i; constants = list_one _ constant_one a.constants b.constants p.1 i }

pub timer_one : (a : Timer) → IsOne Timer (timers.ghosts).eq a
timer_one a b h = λ i. record { name = name_one a.name b.name h i }

pub assignment_one : (a : Assignment) → IsOne Assignment (assignments.ghosts).eq a
assignment_one a b h = let p = and_parts _ _ h in λ i. record { target = reference_one a.target b.target p.0 i; value = right_one a.value b.value p.1 i }

start_at : (a : ForStart) → OneAt start_enum.parts (tests_of start_enum (starts.ghosts).eq) (start_enum.as_values a)
start_at (for_start.Variables variables) = last (variables_one variables)
start_at (for_start.Assign assignment) = last (assignment_one assignment)

pub start_one : (a : ForStart) → IsOne ForStart (starts.ghosts).eq a
start_one a = variant_one start_enum (tests_of start_enum (starts.ghosts).eq) a (start_at a)

-- ---- connections, mappings, messages, events, logs and verdicts

pub port_one : (a : PortRef) → IsOne PortRef (ports.ghosts).eq a
port_one a b h = let p = and_parts _ _ h in λ i. record { component = component_one a.component b.component p.0 i; port = name_one a.port b.port p.1 i }

pub operation_one : (a : MapOperation) → IsOne MapOperation (operations.ghosts).eq a
operation_one = same_true operation_type _

pub mapping_one : (a : Mapping) → IsOne Mapping (mappings.ghosts).eq a
mapping_one a b h =
    let p = and_parts _ _ h in
    let q = and_parts _ _ p.1 in
    λ i. record {
      operation = operation_one a.operation b.operation p.0 i;
      port = port_one a.port b.port q.0 i;
      system_port = name_one a.system_port b.system_port q.1 i;
    }

selector_at : (a : PortSelector) → OneAt selector_enum.parts (tests_of selector_enum (selectors.ghosts).eq) (selector_enum.as_values a)
selector_at (selector.Named name) = last (name_one name)
selector_at selector.Any = none

pub selector_one : (a : PortSelector) → IsOne PortSelector (selectors.ghosts).eq a
selector_one a = variant_one selector_enum (tests_of selector_enum (selectors.ghosts).eq) a (selector_at a)

pub send_one : (a : Send) → IsOne Send (sends.ghosts).eq a
send_one a b h =
    let p = and_parts _ _ h in
    let q = and_parts _ _ p.1 in
    λ i. record {
      port = name_one a.port b.port p.0 i;
      message = message_one a.message b.message q.0 i;
      to = option_one _ component_one a.to b.to q.1 i;
    }

pub receive_one : (a : Receive) → IsOne Receive (receives.ghosts).eq a
receive_one a b h =
    let p = and_parts _ _ h in
    let q = and_parts _ _ p.1 in
    let r = and_parts _ _ q.1 in
    let s = and_parts _ _ r.1 in
    λ i. record {
      port = selector_one a.port b.port p.0 i;
      message = option_one _ message_one a.message b.message q.0 i;
      from = option_one _ component_one a.from b.from r.0 i;
      value = option_one _ reference_one a.value b.value s.0 i;
      sender = option_one _ reference_one a.sender b.sender s.1 i;
    }

event_at : (a : Event) → OneAt event_enum.parts (tests_of event_enum (events.ghosts).eq) (event_enum.as_values a)
event_at (event.Receive receive) = last (receive_one receive)
event_at (event.Timeout name) = last (name_one name)
event_at (event.Done component) = last (component_one component)
event_at event.AllDone = none

pub event_one : (a : Event) → IsOne Event (events.ghosts).eq a
event_one a = variant_one event_enum (tests_of event_enum (events.ghosts).eq) a (event_at a)

item_at : (a : LogItem) → OneAt item_enum.parts (tests_of item_enum (items.ghosts).eq) (item_enum.as_values a)
item_at log_item.Text = none
item_at (log_item.Expr e) = last (expression_one e)

pub item_one : (a : LogItem) → IsOne LogItem (items.ghosts).eq a
item_one a = variant_one item_enum (tests_of item_enum (items.ghosts).eq) a (item_at a)

pub verdict_one : (a : Verdict) → IsOne Verdict (verdicts.ghosts).eq a
verdict_one = same_true verdict_type _
