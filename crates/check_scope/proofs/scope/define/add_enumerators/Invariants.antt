use Rattle.std.proofs.Common.{[], drop, map}
use Rattle.check_scope.specs.internal.Checking.{least}
use Rattle.ttcn_syntax.specs.declared.tree.definition.Enumerator.{Enumerator}
use Rattle.check_scope.specs.declared.names.Meaning.TheVariants as meaning
use Rattle.check_scope.specs.internal.Tables.{said}
use Rattle.check_scope.proofs.Entries.{Left}
use Rattle.check_scope.proofs.scope.define.add_enumerators.Given as goal

abbrev pub invariant-loop-enumerator : goal.invariant-loop-enumerator
invariant-loop-enumerator l =
    Left l.broken (said l.table) (map (λ (n : Enumerator). (n.name, meaning.Enumerator l.at)) (drop l.enumerator-index l.enumerators)) (least []) (said l.fn.table) (map (λ (n : Enumerator). (n.name, meaning.Enumerator l.fn.at)) l.fn.enumerators)
