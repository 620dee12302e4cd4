use Rattle.std.proofs.Common.{map, List, ℕ}
use Rattle.ttcn_syntax.specs.declared.tree.definition.MemberVariable.{MemberVariable}
use Rattle.ttcn_syntax.specs.declared.tree.statement.Constant.{Constant}
use Rattle.ttcn_syntax.specs.declared.tree.statement.Timer.{Timer}
use Rattle.check_scope.specs.Names.{port_type_meant, resolved}
use Rattle.check_scope.specs.internal.Tables.{either, said}
use Rattle.check_scope.specs.declared.names.Meaning.TheVariants as meaning
use Rattle.check_scope.proofs.Entries.{either_behind}
use Rattle.check_scope.proofs.scope.members.add_member.Goals as goal

pub returns-in_ok-add_all-in-Ports : goal.returns-in_ok-add_all-in-Ports
returns-in_ok-add_all-in-Ports c =
    let names = either (said c.args.table.now) (said c.args.defined.now) in
    rw c.in-Ports.is (either_behind (said c.args.table.now) (said c.add_all.new.table) (said c.args.defined.now) (map (λ (name : List ℕ). (name, meaning.Port (port_type_meant (names c.in-Ports.port_type)))) c.in-Ports.ports)
    (rw (c.as_slice.ensures, c.port_type_meant-of.ensures, c.get.ensures) at c.in_ok-add_all-in-Ports.ensures))

pub returns-in_ok-add_all-in-Constants : goal.returns-in_ok-add_all-in-Constants
returns-in_ok-add_all-in-Constants c =
    let names = either (said c.args.table.now) (said c.args.defined.now) in
    rw c.in-Constants.is (either_behind (said c.args.table.now) (said c.add_all-in-Constants.new.table) (said c.args.defined.now) (map (λ (constant : Constant). (constant.name, meaning.Constant (resolved names c.in-Constants.constants.type_name))) c.in-Constants.constants.constants)
    (rw (c.as_slice-in-Constants.ensures, c.resolved-of.ensures) at c.in_ok-add_all-in-Constants.ensures))

pub returns-in_ok-add_all-in-Variables : goal.returns-in_ok-add_all-in-Variables
returns-in_ok-add_all-in-Variables c =
    let names = either (said c.args.table.now) (said c.args.defined.now) in
    rw c.in-Variables.is (either_behind (said c.args.table.now) (said c.add_all-in-Variables.new.table) (said c.args.defined.now) (map (λ (variable : MemberVariable). (variable.name, meaning.Variable (resolved names c.in-Variables.type_name))) c.in-Variables.variables)
    (rw (c.as_slice-in-Variables.ensures, c.resolved-of-in-Variables.ensures) at c.in_ok-add_all-in-Variables.ensures))

pub returns-in_ok-add_all-in-Timers : goal.returns-in_ok-add_all-in-Timers
returns-in_ok-add_all-in-Timers c =
    let names = either (said c.args.table.now) (said c.args.defined.now) in
    rw c.in-Timers.is (either_behind (said c.args.table.now) (said c.add_all-in-Timers.new.table) (said c.args.defined.now) (map (λ (timer : Timer). (timer.name, meaning.Timer)) c.in-Timers.timers)
    (rw (c.as_slice-in-Timers.ensures) at c.in_ok-add_all-in-Timers.ensures))
