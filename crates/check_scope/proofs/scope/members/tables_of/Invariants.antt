use Rattle.std.proofs.Common.{◌≡◌, length, take}
use Rattle.check_scope.specs.internal.Tables.{said}
use Rattle.check_scope.proofs.Members.{HaveMembers}
use Rattle.check_scope.proofs.scope.members.tables_of.Given as goal

abbrev pub invariant-loop-definition : goal.invariant-loop-definition
invariant-loop-definition l = record {
  count : length l.tables.items ≡ l.definition-index;
  members : HaveMembers (said l.defined) l.tables.items (take l.definition-index l.definitions);
}
