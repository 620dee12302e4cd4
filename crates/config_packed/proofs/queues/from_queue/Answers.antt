use Rattle.std.proofs.Common.{sym, subst, ◌∙◌, arith}
use Rattle.config_packed.specs.internal.Cuts.{AreAt}
use Rattle.config_packed.proofs.Waiting.{stands-first, stands-found, stands-next, stands-none}
use Rattle.config_packed.proofs.queues.from_queue.Goals as goal

pub loop-turn-init : goal.loop-turn-init
loop-turn-init c qs is =
    stands-first c.args.port qs c.args.queues.now c.new-reader.result c.take_long-count.new.reader c.take_long-count.result
    is c.new-reader.ensures c.take_long-count.ensures.value c.take_long-count.ensures.rest

pub returns-then-found-port : goal.returns-then-found-port
returns-then-found-port c qs is =
    subst (AreAt c.args.port qs) (sym (c.new.ensures ∙ c.rest-here.ensures))
    (stands-found c.args.port qs c.take_long-count.result c.loop-turn._turn c.take_pair-count.result c.loop-turn.reader
    c.loop-turn-test.true c.take_pair-count.ensures.value c.if-found-port.true (c.loop-turn.invariant qs is))

pub loop-turn-preserved : goal.loop-turn-preserved
loop-turn-preserved c qs is =
    stands-next c.args.port qs c.take_long-count.result c.loop-turn._turn c.take_pair-count.result c.loop-turn.reader c.take_pair-count.new.reader c.take_sized-messages.new.reader
    c.loop-turn-test.true c.take_pair-count.ensures.value c.take_pair-count.ensures.rest c.take_sized-messages.ensures.rest c.if-found-port.false (c.loop-turn.invariant qs is)

pub returns : goal.returns
returns c qs is =
    stands-none c.args.port qs c.take_long-count.result c.loop-turn._turn c.loop-turn.reader (omega arith) (c.loop-turn.invariant qs is)
