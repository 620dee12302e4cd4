-- The members of component types, where they break no rule.
use Rattle.std.specs.Prelude.{◌≡◌, ℕ, true, List, [], ◌∷◌, Option, Some, None, is_none}
use Rattle.ttcn_syntax.specs.declared.tree.definition.Definition.{Definition}
use Rattle.ttcn_syntax.specs.declared.tree.definition.Member.{Member}
use Rattle.ttcn_syntax.specs.declared.tree.definition.Member.TheVariants as member
use Rattle.ttcn_syntax.specs.declared.tree.definition.MemberVariable.{MemberVariable}
use Rattle.ttcn_syntax.specs.declared.tree.value.TypeName.{TypeName}
use Rattle.ttcn_syntax.specs.declared.tree.value.Value.{Value}
use Rattle.check_rules.specs.Targets.{timer_entry}
use Rattle.check_rules.specs.Values.{value}
use Rattle.check_scope.specs.Names.{Entry, Scope, behind_members, declaring, module_names, resolved}
use Rattle.check_scope.specs.Typings.{target_of}
use Rattle.check_scope.specs.declared.names.Meaning.TheVariants as meaning
use Rattle.check_scope.specs.declared.types.DataType.{DataType}
use Rattle.check_rules.specs.Definitions.{member_variable_entry, port_entry}
use Rattle.laws_statements.specs.Named.{IsDefinedAs}
use Rattle.laws_statements.specs.Targets.{DeclaresConstants}

-- the scope in the component type at a position behind some of its members: it has the names of the module and of these members
abbrev pub scope_behind : List Definition → ℕ → List Member → Scope
scope_behind definitions at members = record { definitions = definitions; names = behind_members (module_names definitions) members; itself = Some at }

-- names that are declared one behind the other, each of them new
abbrev pub AreNew : {A : Type 0} → (Scope → A → Entry) → Scope → List A → Type 0
AreNew entry scope [] = Unit {0}
AreNew entry scope (item ∷ items) = (is_none (scope.names (entry scope item).0) ≡ true) × AreNew entry (declaring scope (entry scope item ∷ [])) items

-- ports of a type that the module defines under the name which stands there
pub record DeclaresPorts (scope : Scope) (port_type : List ℕ) (ports : List (List ℕ)) : Type 0 where
  pub of : ℕ
  pub meant : scope.names port_type ≡ Some (meaning.PortType of)
  pub defined : IsDefinedAs scope.definitions port_type (meaning.PortType of)
  pub each : AreNew (port_entry (Some of)) scope ports

-- an initial value of a component's variable, where there is one, goes to the variable's type
abbrev pub IsInitialValue : Scope → DataType → Option Value → Type 0
IsInitialValue scope data_type None = Unit {0}
IsInitialValue scope data_type (Some v) = value v scope (target_of (Some data_type)) ≡ []

-- variables of a type, each visible to those behind it: its name is new, and its initial value goes to the type
abbrev pub AreMemberVariables : Scope → DataType → List MemberVariable → Type 0
AreMemberVariables scope data_type [] = Unit {0}
AreMemberVariables scope data_type (v ∷ vs) =
    (is_none (scope.names v.name) ≡ true) × IsInitialValue scope data_type v.value ×
    AreMemberVariables (declaring scope (member_variable_entry (Some data_type) scope v ∷ [])) data_type vs

-- a declaration of a component's variables, whose type is known
pub record DeclaresMemberVariables (scope : Scope) (of : TypeName) (variables : List MemberVariable) : Type 0 where
  pub data_type : DataType
  pub known : resolved scope.names of ≡ Some data_type
  pub each : AreMemberVariables scope data_type variables

-- a member: ports have their port type, constants and variables their type, to which values go, and all names are new
abbrev pub IsMember : Scope → Member → Type 0
IsMember scope (member.Ports port_type ports) = DeclaresPorts scope port_type ports
IsMember scope (member.Constants cs) = DeclaresConstants scope cs
IsMember scope (member.Variables of variables) = DeclaresMemberVariables scope of variables
IsMember scope (member.Timers timers) = AreNew timer_entry scope timers
