use Rattle.std.proofs.Common.{map}
use Rattle.check_scope.specs.declared.names.Meaning.TheVariants as meaning
use Rattle.semantics.specs.Sites as sites
use Rattle.ttcn_graph.specs.Drafts.{at_site}
use Rattle.ttcn_graph.proofs.Growing.{declare-end, declare-next}
use Rattle.ttcn_graph.proofs.names.declare_timers.Goals as goal

pub loop-timer-preserved : goal.loop-timer-preserved
loop-timer-preserved c =
    declare-next (λ timer. (timer.name, meaning.Timer)) c.loop-timer.draft c.declare.new.self (at_site (sites.site_behind c.args.draft.now.site (map (λ timer. (timer.name, meaning.Timer)) c.args.timers.now)) c.args.draft.now)
    c.args.timers.now c.loop-timer.timer-index c.timer-item.result c.loop-timer-test.true c.timer-item.is c.in_ok-declare.ensures c.loop-timer.invariant

pub returns : goal.returns
returns c =
    declare-end (λ timer. (timer.name, meaning.Timer)) c.loop-timer.draft (at_site (sites.site_behind c.args.draft.now.site (map (λ timer. (timer.name, meaning.Timer)) c.args.timers.now)) c.args.draft.now)
    c.args.timers.now c.loop-timer.timer-index c.loop-timer-test.false c.loop-timer.invariant
