-- The rules that definitions break inside (ES 201 873-1, 6 and 16).
use Rattle.std.specs.Prelude.{ℕ, ◌+◌, Bool, true, false, not, ◌&&◌, ◌||◌, List, [], ◌∷◌, ◌++◌, bytes_eq, nat_eq, Option, Some, None, is_some}
use Rattle.std.specs.List.{flat_map, list_any}
use Rattle.ttcn_syntax.specs.declared.tree.definition.Definition.{Definition}
use Rattle.ttcn_syntax.specs.declared.tree.definition.DefinitionKind.{DefinitionKind}
use Rattle.ttcn_syntax.specs.declared.tree.definition.DefinitionKind.TheVariants as kind
use Rattle.ttcn_syntax.specs.declared.tree.definition.EnumNumber.{EnumNumber}
use Rattle.ttcn_syntax.specs.declared.tree.definition.Enumerator.{Enumerator}
use Rattle.ttcn_syntax.specs.declared.tree.definition.Field.{Field}
use Rattle.ttcn_syntax.specs.declared.tree.definition.Member.{Member}
use Rattle.ttcn_syntax.specs.declared.tree.definition.Member.TheVariants as member
use Rattle.ttcn_syntax.specs.declared.tree.definition.MemberVariable.{MemberVariable}
use Rattle.ttcn_syntax.specs.declared.tree.definition.Parameter.{Parameter}
use Rattle.ttcn_syntax.specs.declared.tree.definition.PortMessages.{PortMessages}
use Rattle.ttcn_syntax.specs.declared.tree.definition.TemplateDefinition.{TemplateDefinition}
use Rattle.ttcn_syntax.specs.declared.tree.statement.Constant.{Constant}
use Rattle.ttcn_syntax.specs.declared.tree.value.TypeName.{TypeName}
use Rattle.ttcn_syntax.specs.declared.tree.value.TypeName.TheVariants as type_name
use Rattle.ttcn_syntax.specs.declared.tree.value.Value.{Value}
use Rattle.check_rules.specs.Calls.{component_named}
use Rattle.check_rules.specs.Declarations.{behind_all, one_by_one}
use Rattle.check_scope.specs.Names.{Entry, Names, Scope, component_meant, declaring, member_entries, module_names, port_type_meant, resolved}
use Rattle.check_rules.specs.Statements.{Place, branch, statements}
use Rattle.check_rules.specs.Targets.{check_constants, check_new_name, check_timers, check_type}
use Rattle.check_rules.specs.Templates.{template}
use Rattle.check_scope.specs.Typings.{target_of, unless}
use Rattle.check_rules.specs.Values.{value}
use Rattle.check_scope.specs.declared.names.Meaning.{Meaning}
use Rattle.check_scope.specs.declared.names.Meaning.TheVariants as meaning
use Rattle.check_rules.specs.declared.returns.Returns.{Returns}
use Rattle.check_rules.specs.declared.returns.Returns.TheVariants as returns
use Rattle.check_scope.specs.declared.rule.Rule.{Rule}
use Rattle.check_scope.specs.declared.rule.Rule.TheVariants as rule
use Rattle.check_scope.specs.declared.types.DataType.{DataType}
use Rattle.check_scope.specs.declared.types.Target.{Target}
use Rattle.check_scope.specs.Scopes.{check_module_names, component_scope, module_scope, scope_on}

-- ---- records, enumerations and ports

-- a type that records and messages hold: no component, port or `default` type
abbrev pub as_part : Option Meaning → List Rule
as_part (Some (meaning.Record at)) = []
as_part (Some (meaning.Enumerated at)) = []
as_part (Some (meaning.Component at)) = rule.BadType ∷ []
as_part (Some (meaning.PortType at)) = rule.BadType ∷ []
as_part _ = rule.UnknownName ∷ []

-- the rules that the type of a field or of a message breaks
abbrev pub check_part : Names → TypeName → List Rule
check_part names type_name.Integer = []
check_part names type_name.Boolean = []
check_part names type_name.Default = rule.BadType ∷ []
check_part names (type_name.Named name) = as_part (names name)

-- the rules that fields break behind others with these names
abbrev pub check_fields : Names → List (List ℕ) → List Field → List Rule
check_fields names before [] = []
check_fields names before (field ∷ fields) =
    unless (not (list_any (bytes_eq field.name) before)) rule.DuplicateName ++ check_part names field.type_name ++
    check_fields names (before ++ field.name ∷ []) fields

-- two signs are the same, where `true` stands for a minus
abbrev pub same_sign : Bool → Bool → Bool
same_sign true minus = minus
same_sign false minus = not minus

-- two given numbers are equal: `0` and `-0` are one
abbrev pub same_number : EnumNumber → EnumNumber → Bool
same_number n m = nat_eq n.magnitude m.magnitude && (nat_eq n.magnitude 0 || same_sign n.minus m.minus)

-- a number is none of those before it
abbrev pub check_number : List EnumNumber → Option EnumNumber → List Rule
check_number before None = []
check_number before (Some n) = unless (not (list_any (same_number n) before)) rule.EnumNumbers

-- the numbers that are given, with a further one
abbrev pub and_number : List EnumNumber → Option EnumNumber → List EnumNumber
and_number before None = before
and_number before (Some n) = before ++ n ∷ []

-- the rules that enumerators break behind these numbers: no number is given twice
abbrev pub check_numbers : List EnumNumber → List Enumerator → List Rule
check_numbers before [] = []
check_numbers before (enumerator ∷ enumerators) = check_number before enumerator.number ++ check_numbers (and_number before enumerator.number) enumerators

-- the rules that a list of message types of a port type breaks
abbrev pub check_messages : Names → PortMessages → List Rule
check_messages names messages = flat_map (check_part names) messages.types

-- ---- component types

-- a port of a component type: its name is new
abbrev pub check_port_name : Scope → List ℕ → List Rule
check_port_name scope name = check_new_name scope.names name

-- the entry of a port: its name stands for a port of the type at this position, if that is known
abbrev pub port_entry : Option ℕ → Scope → List ℕ → Entry
port_entry of scope name = (name, meaning.Port of)

-- the rules that the initial value of a component's variable breaks at its target, if there is one
abbrev pub check_initial_value : Scope → Target → Option Value → List Rule
check_initial_value scope target None = []
check_initial_value scope target (Some v) = value v scope target

-- a variable of a component type: its name is new, and its initial value is of its type
abbrev pub check_member_variable : Option DataType → Scope → MemberVariable → List Rule
check_member_variable of scope variable = check_new_name scope.names variable.name ++ check_initial_value scope (target_of of) variable.value

-- the entry of a component's variable: its name stands for a variable of this type
abbrev pub member_variable_entry : Option DataType → Scope → MemberVariable → Entry
member_variable_entry of scope variable = (variable.name, meaning.Variable of)

-- the rules that one declaration of a component type breaks: of ports, constants, variables or timers
abbrev pub check_member : Scope → Member → List Rule
check_member scope (member.Ports port_type ports) =
    unless (is_some (port_type_meant (scope.names port_type))) rule.UnknownName ++
    one_by_one check_port_name (port_entry (port_type_meant (scope.names port_type))) scope ports
check_member scope (member.Constants cs) = check_constants scope cs
check_member scope (member.Variables of variables) = check_type scope.names true of ++
    one_by_one (check_member_variable (resolved scope.names of)) (member_variable_entry (resolved scope.names of)) scope variables
check_member scope (member.Timers timers) = check_timers scope timers

-- the rules that the declarations of a component type break, each behind those before it
abbrev pub check_members : Scope → List Member → List Rule
check_members scope [] = []
check_members scope (member ∷ members) = check_member scope member ++ check_members (declaring scope (member_entries scope.names member)) members

-- ---- constants and templates

-- the values of constants of the module; their names are judged with those of the module
abbrev pub check_module_constants : Scope → Option DataType → List Constant → List Rule
check_module_constants scope of constants = flat_map (λ constant. value constant.value scope (target_of of)) constants

-- a parameter: it is visible in those behind it too
abbrev pub check_parameter : Scope → Parameter → List Rule
check_parameter scope parameter = check_new_name scope.names parameter.name ++ check_type scope.names true parameter.type_name

-- the entry of a formal parameter: its name stands for a variable of the parameter's type
abbrev pub parameter_entry : Scope → Parameter → Entry
parameter_entry scope parameter = (parameter.name, meaning.Variable (resolved scope.names parameter.type_name))

-- the rules that a list of formal parameters breaks, each behind those before it
abbrev pub check_parameters : Scope → List Parameter → List Rule
check_parameters scope parameters = one_by_one check_parameter parameter_entry scope parameters

-- the scope that has the parameters
abbrev pub with_parameters : Scope → List Parameter → Scope
with_parameters scope parameters = behind_all parameter_entry scope parameters

-- the rules that the definition of a template breaks: those of its type, its parameters and its body
abbrev pub check_template : Scope → TemplateDefinition → List Rule
check_template scope t =
    check_type scope.names false t.type_name ++ check_parameters scope t.parameters ++
    template t.template (with_parameters scope t.parameters) (target_of (resolved scope.names t.type_name))

-- ---- behaviours

-- a name is that of a component type
abbrev pub check_component_name : List Definition → Option (List ℕ) → List Rule
check_component_name definitions None = []
check_component_name definitions (Some name) = unless (is_some (component_meant (module_names definitions name))) rule.UnknownName

-- the rules that the type of a function's result breaks, if it has one: it is not `default`
abbrev pub check_result : List Definition → Option TypeName → List Rule
check_result definitions None = []
check_result definitions (Some name) = check_type (module_names definitions) false name

-- what a function may return
abbrev pub returns_of : List Definition → Option TypeName → Returns
returns_of definitions None = returns.WithoutValue
returns_of definitions (Some name) = returns.WithValue (resolved (module_names definitions) name)

-- the place where a behaviour's body begins: behind the parameters, and in no branch
abbrev pub place_in : Scope → List Parameter → Returns → Place
place_in scope parameters returns = record { scope = with_parameters scope parameters; returns = returns; in_branch = false }

-- ---- definitions

-- the rules that the definition at a position breaks inside
abbrev pub check_definition : List Definition → ℕ → DefinitionKind → List Rule
check_definition definitions at (kind.Record r) = check_fields (module_names definitions) [] r.fields
check_definition definitions at (kind.Enumerated e) = check_numbers [] e.enumerators
check_definition definitions at (kind.Port p) = flat_map (check_messages (module_names definitions)) p.messages
check_definition definitions at (kind.Component c) =
    check_members (component_scope definitions at) c.members
check_definition definitions at (kind.Constants cs) =
    check_type (module_names definitions) false cs.type_name ++
    check_module_constants (module_scope definitions) (resolved (module_names definitions) cs.type_name) cs.constants
check_definition definitions at (kind.Template t) = check_template (module_scope definitions) t
check_definition definitions at (kind.Function f) =
    check_component_name definitions f.runs_on ++ check_parameters (scope_on definitions (component_named definitions f.runs_on)) f.parameters ++
    check_result definitions f.returns ++
    statements f.body (place_in (scope_on definitions (component_named definitions f.runs_on)) f.parameters (returns_of definitions f.returns))
check_definition definitions at (kind.Altstep a) =
    check_component_name definitions a.runs_on ++ check_parameters (scope_on definitions (component_named definitions a.runs_on)) a.parameters ++
    flat_map (λ b. branch b (place_in (scope_on definitions (component_named definitions a.runs_on)) a.parameters returns.Nowhere)) a.branches
check_definition definitions at (kind.Testcase t) =
    check_component_name definitions (Some t.runs_on) ++ check_component_name definitions t.system ++
    statements t.body (place_in (scope_on definitions (component_named definitions (Some t.runs_on))) [] returns.Nowhere)

-- the rules that definitions of a module break inside, the first of them at this position
abbrev pub check_definitions : List Definition → ℕ → List Definition → List Rule
check_definitions all at [] = []
check_definitions all at (definition ∷ definitions) = check_definition all at definition.kind ++ check_definitions all (at + 1) definitions

-- the rules that the sites of a module break, each as often as there are sites that break it
abbrev pub check_sites : List Definition → List Rule
check_sites definitions = check_module_names definitions ++ check_definitions definitions 0 definitions
