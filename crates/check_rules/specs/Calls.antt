-- The rules that calls and their arguments break (ES 201 873-1, 16 and 20).
use Rattle.std.specs.Prelude.{ℕ, Bool, true, false, List, [], ◌∷◌, ◌++◌, length, nat_eq, Option, Some, None, is_some}
use Rattle.ttcn_syntax.specs.declared.tree.definition.Definition.{Definition}
use Rattle.ttcn_syntax.specs.declared.tree.definition.DefinitionKind.{DefinitionKind}
use Rattle.ttcn_syntax.specs.declared.tree.definition.DefinitionKind.TheVariants as kind
use Rattle.ttcn_syntax.specs.declared.tree.definition.Parameter.{Parameter}
use Rattle.ttcn_syntax.specs.declared.tree.value.Call.{Call}
use Rattle.ttcn_syntax.specs.declared.tree.value.TypeName.{TypeName}
use Rattle.ttcn_syntax.specs.declared.tree.value.Value.{Value}
use Rattle.check_scope.specs.Names.{Scope, component_meant, kind_at, module_names, resolved}
use Rattle.check_scope.specs.Typings.{any_target, target_of, typed, unless}
use Rattle.check_rules.specs.Values.{value}
use Rattle.check_rules.specs.declared.callee.CallPlace.{CallPlace}
use Rattle.check_rules.specs.declared.callee.CallPlace.TheVariants as place
use Rattle.check_scope.specs.declared.names.Meaning.{Meaning}
use Rattle.check_scope.specs.declared.names.Meaning.TheVariants as meaning
use Rattle.check_scope.specs.declared.rule.Rule.{Rule}
use Rattle.check_scope.specs.declared.rule.Rule.TheVariants as rule
use Rattle.check_scope.specs.declared.types.DataType.{DataType}
use Rattle.check_scope.specs.declared.types.Target.{Target}
use Rattle.check_scope.specs.declared.types.Typing.{Typing}
use Rattle.check_scope.specs.declared.types.Typing.TheVariants as typing

-- ---- what is called

-- the formal parameters of a template, a function or an altstep, none of any other definition
abbrev pub parameters_of : Option DefinitionKind → List Parameter
parameters_of (Some (kind.Template t)) = t.parameters
parameters_of (Some (kind.Function f)) = f.parameters
parameters_of (Some (kind.Altstep a)) = a.parameters
parameters_of _ = []

-- the component type that a function or an altstep says it runs on; no test case is called, wherever it runs
abbrev pub runs_on_of : Option DefinitionKind → Option (List ℕ)
runs_on_of (Some (kind.Function f)) = f.runs_on
runs_on_of (Some (kind.Altstep a)) = a.runs_on
runs_on_of _ = None

-- the type of a function's result, where it has one
abbrev pub result_type_of : Option DefinitionKind → Option TypeName
result_type_of (Some (kind.Function f)) = f.returns
result_type_of _ = None

-- the type of a template
abbrev pub template_type : List Definition → Option DefinitionKind → Option DataType
template_type definitions (Some (kind.Template t)) = resolved (module_names definitions) t.type_name
template_type definitions _ = None

-- ---- arguments

-- what the first argument goes to: what has no parameter is judged by itself
abbrev pub parameter_target : Scope → List Parameter → Target
parameter_target scope [] = any_target
parameter_target scope (parameter ∷ parameters) = target_of (resolved (module_names scope.definitions) parameter.type_name)

-- what is behind the first parameter
abbrev pub next_parameters : List Parameter → List Parameter
next_parameters [] = []
next_parameters (parameter ∷ parameters) = parameters

-- arguments by the order of the parameters
abbrev pub arguments : Scope → List Parameter → List Value → List Rule
arguments scope parameters [] = []
arguments scope parameters (argument ∷ others) =
    value argument scope (parameter_target scope parameters) ++ arguments scope (next_parameters parameters) others

-- the rules that the arguments of a call break: they are as many as the parameters, each of its parameter's type
abbrev pub check_arguments : Scope → List Parameter → List Value → List Rule
check_arguments scope parameters given =
    unless (nat_eq (length given) (length parameters)) rule.Arguments ++ arguments scope parameters given

-- the rules that arguments break in a call of something that can't be called
abbrev pub lone_arguments : Scope → List Value → List Rule
lone_arguments scope given = arguments scope [] given

-- ---- behaviours

-- a behaviour runs on what its caller runs on: one that says nothing may be called everywhere, and what doesn't stand for
-- a component type is not judged
abbrev pub runs_here : Option ℕ → Option ℕ → Bool
runs_here (Some at) (Some caller) = nat_eq at caller
runs_here (Some at) None = false
runs_here None caller = true

-- the position of the component type that a clause such as `runs on` names, if it stands there and names one
abbrev pub component_named : List Definition → Option (List ℕ) → Option ℕ
component_named definitions None = None
component_named definitions (Some name) = component_meant (module_names definitions name)

-- what a name means as a behaviour: its position
abbrev pub behaviour_meant : Option Meaning → Option ℕ
behaviour_meant (Some (meaning.Function at)) = Some at
behaviour_meant (Some (meaning.Altstep at)) = Some at
behaviour_meant (Some (meaning.Testcase at)) = Some at
behaviour_meant _ = None

-- the rules that the call of a behaviour breaks: it names one, with arguments for its parameters, that runs on what its caller runs on,
-- and is of a kind that may be called here
abbrev pub check_behaviour : Scope → (Option DefinitionKind → Bool) → Call → Option ℕ → List Rule
check_behaviour scope callable call None = rule.UnknownName ∷ lone_arguments scope call.arguments
check_behaviour scope callable call (Some at) =
    check_arguments scope (parameters_of (kind_at scope.definitions at)) call.arguments ++
    unless (runs_here (component_named scope.definitions (runs_on_of (kind_at scope.definitions at))) scope.itself) rule.RunsOn ++
    unless (callable (kind_at scope.definitions at)) rule.CallKind

-- the rules that a call breaks, where behaviours of some kinds may be called
abbrev pub check_call : Scope → (Option DefinitionKind → Bool) → Call → List Rule
check_call scope callable call = check_behaviour scope callable call (behaviour_meant (scope.names call.name))

-- a call that stands alone: of a function or an altstep
abbrev pub stands_alone : Option DefinitionKind → Bool
stands_alone (Some (kind.Function f)) = true
stands_alone (Some (kind.Altstep a)) = true
stands_alone _ = false

-- a call as a branch: of an altstep
abbrev pub is_altstep : Option DefinitionKind → Bool
is_altstep (Some (kind.Altstep a)) = true
is_altstep _ = false

-- a call that gives a value: of a function with a result
abbrev pub gives_value : Option DefinitionKind → Bool
gives_value (Some (kind.Function f)) = is_some f.returns
gives_value _ = false

-- what may be called where a call stands
abbrev pub callable : CallPlace → Option DefinitionKind → Bool
callable place.Alone = stands_alone
callable place.Branch = is_altstep
callable place.Value = gives_value

-- what is known of the result of a call
abbrev pub result_typing : Scope → Option TypeName → Typing
result_typing scope None = typing.Unknown
result_typing scope (Some type_name) = typed (resolved (module_names scope.definitions) type_name)

-- the position of the altstep that a name means, if it means one
abbrev pub altstep_meant : Option Meaning → Option ℕ
altstep_meant (Some (meaning.Altstep at)) = Some at
altstep_meant _ = None

-- the rules that an `activate` breaks: it names an altstep, and is judged as a call of one
abbrev pub check_activation : Scope → Call → List Rule
check_activation scope call = check_behaviour scope is_altstep call (altstep_meant (scope.names call.name))
