use Rattle.std.proofs.Common.{None, ◌∙◌}
use Rattle.check_scope.specs.internal.Checking.{least_in}
use Rattle.check_scope.specs.Names.{entries_at, entries_from}
use Rattle.check_scope.specs.internal.Tables.{said}
use Rattle.check_scope.proofs.Entries.{behind-nothing, declared-end, definitions-end, definitions-next, left-more, rules-end}
use Rattle.check_scope.proofs.scope.define.define_all.Goals as goal

pub loop-at-preserved : goal.loop-at-preserved
loop-at-preserved c =
    left-more (least_in c.loop-at.found) c.in_ok-broken.broken _ _ (said c.loop-at.table) _ _ (entries_at c.loop-at.at c.index-definitions-at.result.kind) _ _
    (rw (definitions-next c.args.definitions.now c.loop-at.at c.index-definitions-at.result c.loop-at-test.true c.index-definitions-at.is) at c.loop-at.invariant)
    c.in_ok-broken.ensures.broken c.in_ok-broken.ensures.said c.note.ensures

pub returns-clause-names : goal.returns-clause-names
returns-clause-names c =
    declared-end (least_in c.loop-at.found) (least_in c.args.found.now) (said c.loop-at.table) (λ name. None) (entries_from 0 c.args.definitions.now)
    (rw (definitions-end c.args.definitions.now c.loop-at.at c.loop-at-test.false) at c.loop-at.invariant)
    ∙ behind-nothing (entries_from 0 c.args.definitions.now)

pub returns-clause-least : goal.returns-clause-least
returns-clause-least c =
    rules-end (least_in c.loop-at.found) (least_in c.args.found.now) (said c.loop-at.table) (λ name. None) (entries_from 0 c.args.definitions.now)
    (rw (definitions-end c.args.definitions.now c.loop-at.at c.loop-at-test.false) at c.loop-at.invariant)
