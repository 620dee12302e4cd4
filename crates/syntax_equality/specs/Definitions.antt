-- Modules and their definitions that `==` finds equal are one.
use Rattle.std.proofs.lemmas.Bool.{and_parts}
use Rattle.syntax_equality.specs.Equality.{IsOne, OneAt, boolean_one, last, list_one, more, name_one, number_one, option_one, tests_of, variant_one}
use Rattle.syntax_equality.specs.Expressions.{place_one}
use Rattle.syntax_equality.specs.Parts.{constants_one, timer_one}
use Rattle.syntax_equality.specs.Statements.{branch_one, statement_one}
use Rattle.syntax_equality.specs.Templates.{template_one}
use Rattle.syntax_equality.specs.Values.{type_one, value_one}
use Rattle.ttcn_syntax.specs.contracts.tree.definition.AltstepPartialEq.TheImpl as altsteps
use Rattle.ttcn_syntax.specs.contracts.tree.definition.ComponentTypePartialEq.TheImpl as component_types
use Rattle.ttcn_syntax.specs.contracts.tree.definition.DefinitionPartialEq.TheImpl as definitions
use Rattle.ttcn_syntax.specs.contracts.tree.definition.DefinitionKind.{enum as kind_enum}
use Rattle.ttcn_syntax.specs.contracts.tree.definition.DefinitionKindPartialEq.TheImpl as kinds
use Rattle.ttcn_syntax.specs.contracts.tree.definition.Direction.{the_type as direction_type}
use Rattle.ttcn_syntax.specs.contracts.tree.definition.DirectionPartialEq.TheImpl as directions
use Rattle.ttcn_syntax.specs.contracts.tree.definition.EnumNumberPartialEq.TheImpl as numbers
use Rattle.ttcn_syntax.specs.contracts.tree.definition.EnumeratedTypePartialEq.TheImpl as enumerated_types
use Rattle.ttcn_syntax.specs.contracts.tree.definition.EnumeratorPartialEq.TheImpl as enumerators
use Rattle.ttcn_syntax.specs.contracts.tree.definition.FieldPartialEq.TheImpl as fields
use Rattle.ttcn_syntax.specs.contracts.tree.definition.FunctionPartialEq.TheImpl as functions
use Rattle.ttcn_syntax.specs.contracts.tree.definition.Member.{enum as member_enum}
use Rattle.ttcn_syntax.specs.contracts.tree.definition.MemberPartialEq.TheImpl as members
use Rattle.ttcn_syntax.specs.contracts.tree.definition.MemberVariablePartialEq.TheImpl as variables
use Rattle.ttcn_syntax.specs.contracts.tree.definition.ModulePartialEq.TheImpl as modules
use Rattle.ttcn_syntax.specs.contracts.tree.definition.ParameterPartialEq.TheImpl as parameters
use Rattle.ttcn_syntax.specs.contracts.tree.definition.PortMessagesPartialEq.TheImpl as messages
use Rattle.ttcn_syntax.specs.contracts.tree.definition.PortTypePartialEq.TheImpl as port_types
use Rattle.ttcn_syntax.specs.contracts.tree.definition.RecordTypePartialEq.TheImpl as record_types
use Rattle.ttcn_syntax.specs.contracts.tree.definition.TemplateDefinitionPartialEq.TheImpl as templates
use Rattle.ttcn_syntax.specs.contracts.tree.definition.TestcasePartialEq.TheImpl as testcases
use Rattle.ttcn_syntax.specs.declared.tree.definition.Altstep.{Altstep}
use Rattle.ttcn_syntax.specs.declared.tree.definition.ComponentType.{ComponentType}
use Rattle.ttcn_syntax.specs.declared.tree.definition.Definition.{Definition}
use Rattle.ttcn_syntax.specs.declared.tree.definition.DefinitionKind.{DefinitionKind}
use Rattle.ttcn_syntax.specs.declared.tree.definition.DefinitionKind.TheVariants as kind
use Rattle.ttcn_syntax.specs.declared.tree.definition.Direction.{Direction}
use Rattle.ttcn_syntax.specs.declared.tree.definition.EnumNumber.{EnumNumber}
use Rattle.ttcn_syntax.specs.declared.tree.definition.EnumeratedType.{EnumeratedType}
use Rattle.ttcn_syntax.specs.declared.tree.definition.Enumerator.{Enumerator}
use Rattle.ttcn_syntax.specs.declared.tree.definition.Field.{Field}
use Rattle.ttcn_syntax.specs.declared.tree.definition.Function.{Function}
use Rattle.ttcn_syntax.specs.declared.tree.definition.Member.{Member}
use Rattle.ttcn_syntax.specs.declared.tree.definition.Member.TheVariants as member
use Rattle.ttcn_syntax.specs.declared.tree.definition.MemberVariable.{MemberVariable}
use Rattle.ttcn_syntax.specs.declared.tree.definition.Module.{Module}
use Rattle.ttcn_syntax.specs.declared.tree.definition.Parameter.{Parameter}
use Rattle.ttcn_syntax.specs.declared.tree.definition.PortMessages.{PortMessages}
use Rattle.ttcn_syntax.specs.declared.tree.definition.PortType.{PortType}
use Rattle.ttcn_syntax.specs.declared.tree.definition.RecordType.{RecordType}
use Rattle.ttcn_syntax.specs.declared.tree.definition.TemplateDefinition.{TemplateDefinition}
use Rattle.ttcn_syntax.specs.declared.tree.definition.Testcase.{Testcase}
use denote.Enum.Bare.{same_true}

-- ---- types

pub field_one : (a : Field) → IsOne Field (fields.ghosts).eq a
field_one a b h =
    let p = and_parts _ _ h in
    let q = and_parts _ _ p.1 in
    λ i. record {
      type_name = type_one a.type_name b.type_name p.0 i;
      name = name_one a.name b.name q.0 i;
      optional = boolean_one a.optional b.optional q.1 i;
    }

pub record_type_one : (a : RecordType) → IsOne RecordType (record_types.ghosts).eq a
record_type_one a b h = let p = and_parts _ _ h in λ i. record { name = name_one a.name b.name p.0 i; fields = list_one _ field_one a.fields b.fields p.1 i }

pub enum_number_one : (a : EnumNumber) → IsOne EnumNumber (numbers.ghosts).eq a
enum_number_one a b h = let p = and_parts _ _ h in λ i. record { minus = boolean_one a.minus b.minus p.0 i; magnitude = number_one a.magnitude b.magnitude p.1 i }

pub enumerator_one : (a : Enumerator) → IsOne Enumerator (enumerators.ghosts).eq a
enumerator_one a b h = let p = and_parts _ _ h in λ i. record { name = name_one a.name b.name p.0 i; number = option_one _ enum_number_one a.number b.number p.1 i }

pub enumerated_type_one : (a : EnumeratedType) → IsOne EnumeratedType (enumerated_types.ghosts).eq a
enumerated_type_one a b h = let p = and_parts _ _ h in λ i. record { name = name_one a.name b.name p.0 i; enumerators = list_one _ enumerator_one a.enumerators b.enumerators p.1 i }

pub direction_one : (a : Direction) → IsOne Direction (directions.ghosts).eq a
direction_one = same_true direction_type _

pub port_messages_one : (a : PortMessages) → IsOne PortMessages (messages.ghosts).eq a
port_messages_one a b h = let p = and_parts _ _ h in λ i. record { direction = direction_one a.direction b.direction p.0 i; types = list_one _ type_one a.types b.types p.1 i }

pub port_type_one : (a : PortType) → IsOne PortType (port_types.ghosts).eq a
port_type_one a b h = let p = and_parts _ _ h in λ i. record { name = name_one a.name b.name p.0 i; messages = list_one _ port_messages_one a.messages b.messages p.1 i }

pub member_variable_one : (a : MemberVariable) → IsOne MemberVariable (variables.ghosts).eq a
member_variable_one a b h = let p = and_parts _ _ h in λ i. record { name = name_one a.name b.name p.0 i; value = option_one _ value_one a.value b.value p.1 i }

member_at : (a : Member) → OneAt member_enum.parts (tests_of member_enum (members.ghosts).eq) (member_enum.as_values a)
member_at (member.Ports name names) = more (name_one name) (last (list_one _ name_one names))
member_at (member.Constants constants) = last (constants_one constants)
member_at (member.Variables type variables) = more (type_one type) (last (list_one _ member_variable_one variables))
member_at (member.Timers timers) = last (list_one _ timer_one timers)

pub member_one : (a : Member) → IsOne Member (members.ghosts).eq a
member_one a = variant_one member_enum (tests_of member_enum (members.ghosts).eq) a (member_at a)

pub component_type_one : (a : ComponentType) → IsOne ComponentType (component_types.ghosts).eq a
component_type_one a b h = let p = and_parts _ _ h in λ i. record { name = name_one a.name b.name p.0 i; members = list_one _ member_one a.members b.members p.1 i }

-- ---- templates and behaviours

pub parameter_one : (a : Parameter) → IsOne Parameter (parameters.ghosts).eq a
parameter_one a b h = let p = and_parts _ _ h in λ i. record { type_name = type_one a.type_name b.type_name p.0 i; name = name_one a.name b.name p.1 i }

pub template_definition_one : (a : TemplateDefinition) → IsOne TemplateDefinition (templates.ghosts).eq a
template_definition_one a b h =
    let p = and_parts _ _ h in
    let q = and_parts _ _ p.1 in
    let r = and_parts _ _ q.1 in
    λ i. record {
      type_name = type_one a.type_name b.type_name p.0 i;
      name = name_one a.name b.name q.0 i;
      parameters = list_one _ parameter_one a.parameters b.parameters r.0 i;
      template = template_one a.template b.template r.1 i;
    }

pub function_one : (a : Function) → IsOne Function (functions.ghosts).eq a
function_one a b h =
    let p = and_parts _ _ h in
    let q = and_parts _ _ p.1 in
    let r = and_parts _ _ q.1 in
    let s = and_parts _ _ r.1 in
    λ i. record {
      name = name_one a.name b.name p.0 i;
      parameters = list_one _ parameter_one a.parameters b.parameters q.0 i;
      runs_on = option_one _ name_one a.runs_on b.runs_on r.0 i;
      returns = option_one _ type_one a.returns b.returns s.0 i;
      body = list_one _ statement_one a.body b.body s.1 i;
    }

pub altstep_one : (a : Altstep) → IsOne Altstep (altsteps.ghosts).eq a
altstep_one a b h =
    let p = and_parts _ _ h in
    let q = and_parts _ _ p.1 in
    let r = and_parts _ _ q.1 in
    λ i. record {
      name = name_one a.name b.name p.0 i;
      parameters = list_one _ parameter_one a.parameters b.parameters q.0 i;
      runs_on = option_one _ name_one a.runs_on b.runs_on r.0 i;
      branches = list_one _ branch_one a.branches b.branches r.1 i;
    }

pub testcase_one : (a : Testcase) → IsOne Testcase (testcases.ghosts).eq a
testcase_one a b h =
    let p = and_parts _ _ h in
    let q = and_parts _ _ p.1 in
    let r = and_parts _ _ q.1 in
    λ i. record {
      name = name_one a.name b.name p.0 i;
      runs_on = name_one a.runs_on b.runs_on q.0 i;
      system = option_one _ name_one a.system b.system r.0 i;
      body = list_one _ statement_one a.body b.body r.1 i;
    }

-- ---- modules

kind_at : (a : DefinitionKind) → OneAt kind_enum.parts (tests_of kind_enum (kinds.ghosts).eq) (kind_enum.as_values a)
kind_at (kind.Record d) = last (record_type_one d)
kind_at (kind.Enumerated d) = last (enumerated_type_one d)
kind_at (kind.Port d) = last (port_type_one d)
kind_at (kind.Component d) = last (component_type_one d)
kind_at (kind.Constants d) = last (constants_one d)
kind_at (kind.Template d) = last (template_definition_one d)
kind_at (kind.Function d) = last (function_one d)
kind_at (kind.Altstep d) = last (altstep_one d)
kind_at (kind.Testcase d) = last (testcase_one d)

pub kind_one : (a : DefinitionKind) → IsOne DefinitionKind (kinds.ghosts).eq a
kind_one a = variant_one kind_enum (tests_of kind_enum (kinds.ghosts).eq) a (kind_at a)

pub definition_one : (a : Definition) → IsOne Definition (definitions.ghosts).eq a
definition_one a b h = let p = and_parts _ _ h in λ i. record { place = place_one a.place b.place p.0 i; kind = kind_one a.kind b.kind p.1 i }

pub module_one : (a : Module) → IsOne Module (modules.ghosts).eq a
module_one a b h = let p = and_parts _ _ h in λ i. record { name = name_one a.name b.name p.0 i; definitions = list_one _ definition_one a.definitions b.definitions p.1 i }
