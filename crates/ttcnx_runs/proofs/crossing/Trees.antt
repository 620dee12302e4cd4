-- Trees may be shared by threads.
use Rattle.std.proofs.Crossing.{crosses}
use Rattle.std.specs.contracts.option.Option as option
use Rattle.ttcn_syntax.proofs.tree.expression.Expr.TheLaws.TheKnot as expressions
use Rattle.ttcn_syntax.proofs.tree.statement.Action.TheLaws.TheKnot as statements
use Rattle.ttcn_syntax.proofs.tree.template.TemplateBody.TheLaws.TheKnot as templates
use Rattle.ttcn_syntax.proofs.tree.value.Value.TheLaws.TheKnot as values
use Rattle.ttcn_syntax.specs.contracts.boxed.Boxed as boxed
use Rattle.ttcn_syntax.specs.contracts.name.Name as name
use Rattle.ttcn_syntax.specs.contracts.place.Span as span
use Rattle.ttcn_syntax.specs.contracts.seq.Seq as seq
use Rattle.ttcn_syntax.specs.contracts.tree.definition.Altstep as altstep
use Rattle.ttcn_syntax.specs.contracts.tree.definition.ComponentType as componentType
use Rattle.ttcn_syntax.specs.contracts.tree.definition.Definition as definition
use Rattle.ttcn_syntax.specs.contracts.tree.definition.DefinitionKind as definitionKind
use Rattle.ttcn_syntax.specs.contracts.tree.definition.EnumeratedType as enumeratedType
use Rattle.ttcn_syntax.specs.contracts.tree.definition.Function as function
use Rattle.ttcn_syntax.specs.contracts.tree.definition.Member as member
use Rattle.ttcn_syntax.specs.contracts.tree.definition.PortType as portType
use Rattle.ttcn_syntax.specs.contracts.tree.definition.RecordType as recordType
use Rattle.ttcn_syntax.specs.contracts.tree.definition.TemplateDefinition as templateDefinition
use Rattle.ttcn_syntax.specs.contracts.tree.definition.Testcase as testcase
use Rattle.ttcn_syntax.specs.contracts.tree.expression.ComponentRef as componentRef
use Rattle.ttcn_syntax.specs.contracts.tree.expression.Expr as expression
use Rattle.ttcn_syntax.specs.contracts.tree.expression.Reference as reference
use Rattle.ttcn_syntax.specs.contracts.tree.statement.Assignment as assignment
use Rattle.ttcn_syntax.specs.contracts.tree.statement.Branch as branch
use Rattle.ttcn_syntax.specs.contracts.tree.statement.Constants as constants
use Rattle.ttcn_syntax.specs.contracts.tree.statement.Event as event
use Rattle.ttcn_syntax.specs.contracts.tree.statement.ForStart as forStart
use Rattle.ttcn_syntax.specs.contracts.tree.statement.LogItem as logItem
use Rattle.ttcn_syntax.specs.contracts.tree.statement.Mapping as mapping
use Rattle.ttcn_syntax.specs.contracts.tree.statement.PortRef as portRef
use Rattle.ttcn_syntax.specs.contracts.tree.statement.Send as send
use Rattle.ttcn_syntax.specs.contracts.tree.statement.Statement as statement
use Rattle.ttcn_syntax.specs.contracts.tree.statement.Timer as timer
use Rattle.ttcn_syntax.specs.contracts.tree.statement.Variables as variables
use Rattle.ttcn_syntax.specs.contracts.tree.statement.Verdict as verdict
use Rattle.ttcn_syntax.specs.contracts.tree.template.Template as template
use Rattle.ttcn_syntax.specs.contracts.tree.value.Call as call
use Rattle.ttcn_syntax.specs.contracts.tree.value.Value as value
use denote.Param.Send.{IsSync, sendable}
use denote.RattleType.{RattleType}

pub name-sync : IsSync name.the_row
name-sync = search (crosses, sendable) depth 60 fits 20000

pub seq-sync : (R : RattleType) → IsSync R → IsSync (seq.the_row R)
seq-sync R s = search (crosses, sendable) depth 60 fits 20000

pub boxed-sync : (R : RattleType) → IsSync R → IsSync (boxed.the_row R)
boxed-sync R s = search (crosses, sendable) depth 60 fits 20000

pub option-seq-sync : (R : RattleType) → IsSync R → IsSync (option.the_row (seq.the_row R))
option-seq-sync R s = search (seq-sync, crosses, sendable) depth 60 fits 20000

pub expression-sync : IsSync expression.the_field.row
expression-sync = search (crosses, expressions.crosses, sendable) depth 60 fits 20000

pub value-sync : IsSync value.the_field.row
value-sync = search (expression-sync, crosses, values.crosses, sendable) depth 60 fits 20000

pub template-sync : IsSync template.the_field.row
template-sync = search (expression-sync, value-sync, crosses, templates.crosses, sendable) depth 60 fits 20000

-- what parts of statements hold
ruleset in_statements = (template-sync, value-sync, expression-sync, option-seq-sync, seq-sync, boxed-sync, crosses, sendable)

variables-sync : IsSync variables.the_field.row
variables-sync = search in_statements depth 60 fits 20000

constants-sync : IsSync constants.the_field.row
constants-sync = search in_statements depth 60 fits 20000

timers-sync : IsSync (seq.the_field timer.the_row).row
timers-sync = search in_statements depth 60 fits 20000

assignment-sync : IsSync assignment.the_field.row
assignment-sync = search in_statements depth 60 fits 20000

call-sync : IsSync call.the_field.row
call-sync = search in_statements depth 60 fits 20000

event-sync : IsSync event.the_field.row
event-sync = search in_statements depth 60 fits 20000

forStart-sync : IsSync forStart.the_field.row
forStart-sync = search in_statements depth 60 fits 20000

valueOption-sync : IsSync (option.the_field value.the_row).row
valueOption-sync = search in_statements depth 60 fits 20000

logItems-sync : IsSync (seq.the_field logItem.the_row).row
logItems-sync = search in_statements depth 60 fits 20000

verdict-sync : IsSync verdict.the_field.row
verdict-sync = search in_statements depth 60 fits 20000

portRef-sync : IsSync portRef.the_field.row
portRef-sync = search in_statements depth 60 fits 20000

mapping-sync : IsSync mapping.the_field.row
mapping-sync = search in_statements depth 60 fits 20000

send-sync : IsSync send.the_field.row
send-sync = search in_statements depth 60 fits 20000

componentRef-sync : IsSync componentRef.the_field.row
componentRef-sync = search in_statements depth 60 fits 20000

name-field-sync : IsSync name.the_field.row
name-field-sync = search in_statements depth 60 fits 20000

referenceOption-sync : IsSync (option.the_field reference.the_row).row
referenceOption-sync = search in_statements depth 60 fits 20000

expressionOption-sync : IsSync (option.the_field expression.the_row).row
expressionOption-sync = search in_statements depth 60 fits 20000

span-sync : IsSync span.the_field.row
span-sync = search in_statements depth 60 fits 20000

branch-sync : IsSync branch.the_field.row
branch-sync = statements.sync-Branch variables-sync constants-sync timers-sync assignment-sync call-sync event-sync seq-sync option-seq-sync expression-sync forStart-sync valueOption-sync logItems-sync verdict-sync portRef-sync mapping-sync send-sync componentRef-sync name-field-sync referenceOption-sync expressionOption-sync span-sync boxed-sync

pub statement-sync : IsSync statement.the_field.row
statement-sync = statements.sync-Statement variables-sync constants-sync timers-sync assignment-sync call-sync event-sync seq-sync option-seq-sync expression-sync forStart-sync valueOption-sync logItems-sync verdict-sync portRef-sync mapping-sync send-sync componentRef-sync name-field-sync referenceOption-sync expressionOption-sync span-sync boxed-sync

-- what definitions hold
ruleset in_definitions = (statement-sync, branch-sync, constants-sync, in_statements)

recordType-sync : IsSync recordType.the_field.row
recordType-sync = search in_definitions depth 60 fits 20000

enumeratedType-sync : IsSync enumeratedType.the_field.row
enumeratedType-sync = search in_definitions depth 60 fits 20000

portType-sync : IsSync portType.the_field.row
portType-sync = search in_definitions depth 60 fits 20000

member-sync : IsSync member.the_field.row
member-sync = search in_definitions depth 60 fits 20000

componentType-sync : IsSync componentType.the_field.row
componentType-sync = search (member-sync, in_definitions) depth 60 fits 20000

templateDefinition-sync : IsSync templateDefinition.the_field.row
templateDefinition-sync = search in_definitions depth 60 fits 20000

function-sync : IsSync function.the_field.row
function-sync = search in_definitions depth 60 fits 20000

altstep-sync : IsSync altstep.the_field.row
altstep-sync = search in_definitions depth 60 fits 20000

testcase-sync : IsSync testcase.the_field.row
testcase-sync = search in_definitions depth 60 fits 20000

definitionKind-sync : IsSync definitionKind.the_field.row
definitionKind-sync = search (recordType-sync, enumeratedType-sync, portType-sync, componentType-sync, templateDefinition-sync, function-sync, altstep-sync, testcase-sync, in_definitions) depth 60 fits 20000

pub definition-sync : IsSync definition.the_field.row
definition-sync = search (definitionKind-sync, in_definitions) depth 60 fits 20000
