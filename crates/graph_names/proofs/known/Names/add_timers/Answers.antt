use Rattle.std.proofs.Common.{◌∙◌}
use Rattle.ttcn_syntax.specs.declared.tree.statement.Timer.{Timer}
use Rattle.graph_names.proofs.Learned.{each-end, each-next}
use Rattle.graph_names.proofs.known.Names.add_timers.Goals as goal

pub loop-timer-preserved : goal.loop-timer-preserved
loop-timer-preserved c =
    each-next c.args.timers.now c.loop-timer.timer-index (λ (t : Timer). t.name) c.timer-item.result c.loop-timer.self c.add.new.self c.loop-timer-test.true c.timer-item.is c.in_ok-add.ensures
    ∙ c.loop-timer.invariant

pub returns : goal.returns
returns c = each-end c.args.timers.now c.loop-timer.timer-index (λ (t : Timer). t.name) c.loop-timer.self c.loop-timer-test.false ∙ c.loop-timer.invariant
