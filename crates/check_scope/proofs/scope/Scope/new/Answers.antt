use Rattle.std.proofs.Common.{None}
use Rattle.check_scope.proofs.Members.{are-members, view-outside}
use Rattle.check_scope.proofs.scope.Scope.new.Goals as goal

pub invariant_of-result : goal.invariant_of-result
invariant_of-result c = record {
  are_members = are-members c.args.definitions.now c.in_ok-defined.defined c.in_ok-members.members.items c.in_ok-defined.ensures.names c.in_ok-members.ensures;
  are_fields = c.in_ok-fields_by_name.ensures;
  are_ports = rw c.in_ok-defined.ensures.names at c.in_ok-ports.ensures;
  is_whole = c.in_ok-defined.ensures.names;
}

pub returns-clause-view : goal.returns-clause-view
returns-clause-view c =
    rw c.new.ensures.items
    (view-outside c.args.definitions.now c.in_ok-defined.defined c.new-2.result c.in_ok-members.members.items None None c.new-2.ensures c.in_ok-defined.ensures.names
    (are-members c.args.definitions.now c.in_ok-defined.defined c.in_ok-members.members.items c.in_ok-defined.ensures.names c.in_ok-members.ensures))
