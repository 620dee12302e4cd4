-- What single declarations of component types say of names.
use Rattle.std.specs.Prelude.{ℕ, Bool, List, bytes_eq}
use Rattle.std.specs.List.{list_any}
use Rattle.ttcn_syntax.specs.declared.tree.definition.Member.{Member}
use Rattle.ttcn_syntax.specs.declared.tree.definition.Member.TheVariants as member
use Rattle.check_scope.specs.Names.{Names, port_type_meant, resolved}
use Rattle.check_scope.specs.declared.names.Meaning.{Meaning}
use Rattle.check_scope.specs.declared.names.Meaning.TheVariants as meaning

-- a name is one of those that are declared
abbrev pub declares : Member → List ℕ → Bool
declares (member.Ports port_type ports) name = list_any (λ port. bytes_eq port name) ports
declares (member.Constants cs) name = list_any (λ c. bytes_eq c.name name) cs.constants
declares (member.Variables of variables) name = list_any (λ v. bytes_eq v.name name) variables
declares (member.Timers timers) name = list_any (λ t. bytes_eq t.name name) timers

-- what each name that a member declares stands for, where the names before are these
abbrev pub member_meaning : Names → Member → Meaning
member_meaning names (member.Ports port_type ports) = meaning.Port (port_type_meant (names port_type))
member_meaning names (member.Constants cs) = meaning.Constant (resolved names cs.type_name)
member_meaning names (member.Variables of variables) = meaning.Variable (resolved names of)
member_meaning names (member.Timers timers) = meaning.Timer
