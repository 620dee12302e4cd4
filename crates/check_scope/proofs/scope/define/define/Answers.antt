use Rattle.std.proofs.Common.{map}
use Rattle.ttcn_syntax.specs.declared.tree.definition.Enumerator.{Enumerator}
use Rattle.check_scope.specs.internal.Tables.{said}
use Rattle.check_scope.specs.declared.names.Meaning.TheVariants as meaning
use Rattle.check_scope.proofs.Entries.{new-names, new-rules}
use Rattle.check_scope.proofs.scope.define.define.Goals as goal

pub returns-in_ok-more-in-Enumerated-clause-broken : goal.returns-in_ok-more-in-Enumerated-clause-broken
returns-in_ok-more-in-Enumerated-clause-broken c =
    rw (c.in-Enumerated.is, c.and.ensures)
    (new-rules _ c.in_ok-more-in-Enumerated.more (said c.args.table.now) (said c.add-in-Enumerated.new.table) _
    (map (λ (n : Enumerator). (n.name, meaning.Enumerator c.args.at)) c.in-Enumerated.enumerated.enumerators)
    c.in_ok-broken-in-Enumerated.ensures.broken c.in_ok-broken-in-Enumerated.ensures.said (rw c.as_slice.ensures at c.in_ok-more-in-Enumerated.ensures.broken))

pub returns-in_ok-more-in-Enumerated-clause-said : goal.returns-in_ok-more-in-Enumerated-clause-said
returns-in_ok-more-in-Enumerated-clause-said c =
    rw c.in-Enumerated.is
    (new-names (said c.args.table.now) (said c.add-in-Enumerated.new.table) (said c.add_enumerators.new.table) _
    (map (λ (n : Enumerator). (n.name, meaning.Enumerator c.args.at)) c.in-Enumerated.enumerated.enumerators)
    c.in_ok-broken-in-Enumerated.ensures.said (rw c.as_slice.ensures at c.in_ok-more-in-Enumerated.ensures.said))
