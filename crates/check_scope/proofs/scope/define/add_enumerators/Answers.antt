use Rattle.std.proofs.Common.{[], map}
use Rattle.check_scope.specs.internal.Checking.{least}
use Rattle.ttcn_syntax.specs.declared.tree.definition.Enumerator.{Enumerator}
use Rattle.check_scope.specs.declared.names.Meaning.TheVariants as meaning
use Rattle.check_scope.specs.internal.Tables.{said}
use Rattle.check_scope.proofs.Entries.{names-end, names-next, declared-end, left-first, left-next, rules-end}
use Rattle.check_scope.proofs.scope.define.add_enumerators.Goals as goal

pub loop-enumerator-init : goal.loop-enumerator-init
loop-enumerator-init c = rw c.nothing-broken.ensures (left-first (least []) (said c.args.table.now) (map (λ (n : Enumerator). (n.name, meaning.Enumerator c.args.at)) c.args.enumerators.now))

pub loop-enumerator-preserved : goal.loop-enumerator-preserved
loop-enumerator-preserved c =
    left-next c.loop-enumerator.broken c.in_ok-more.more c.and-broken.result _ (said c.loop-enumerator.table) _ _ _ _ _
    (rw (names-next (λ (n : Enumerator). (n.name, meaning.Enumerator c.args.at)) c.args.enumerators.now c.loop-enumerator.enumerator-index c.enumerator-item.result c.loop-enumerator-test.true c.enumerator-item.is) at c.loop-enumerator.invariant)
    c.in_ok-more.ensures.broken c.in_ok-more.ensures.said c.and-broken.ensures

pub returns-clause-broken : goal.returns-clause-broken
returns-clause-broken c =
    rules-end c.loop-enumerator.broken (least []) (said c.loop-enumerator.table) _ _ (rw (names-end (λ (n : Enumerator). (n.name, meaning.Enumerator c.args.at)) c.args.enumerators.now c.loop-enumerator.enumerator-index c.loop-enumerator-test.false) at c.loop-enumerator.invariant)

pub returns-clause-said : goal.returns-clause-said
returns-clause-said c =
    declared-end c.loop-enumerator.broken (least []) (said c.loop-enumerator.table) _ _ (rw (names-end (λ (n : Enumerator). (n.name, meaning.Enumerator c.args.at)) c.args.enumerators.now c.loop-enumerator.enumerator-index c.loop-enumerator-test.false) at c.loop-enumerator.invariant)
