use Rattle.std.proofs.Common.{ℕ, List, ap, ◌∙◌, arith}
use Rattle.config_packed.proofs.Cutting.{fronts-all, fronts-more}
use Rattle.config_packed.specs.Reading.{read_long}
use Rattle.config_packed.proofs.pieces.put_fronts.Goals as goal

pub loop-turn-preserved : goal.loop-turn-preserved
loop-turn-preserved c =
    fronts-more c.take_long-count.result c.loop-turn._turn c.loop-turn.reader c.put_front.new.reader _ c.loop-turn.key.items c.put_front.new.key.items
    c.loop-turn-test.true c.in_ok-put_front.ensures.value c.in_ok-put_front.ensures.rest c.loop-turn.invariant

pub returns : goal.returns
returns c =
    fronts-all c.args.queues.now c.take_long-count.new.reader c.loop-turn.reader c.args.key.now.items c.put_long.new.bytes.items c.loop-turn.key.items c.take_long-count.result c.loop-turn._turn
    (c.take_long-count.ensures.value ∙ ap (λ (b : List ℕ). (read_long b).0) c.new-reader.ensures) (c.take_long-count.ensures.rest ∙ ap (λ (b : List ℕ). (read_long b).1) c.new-reader.ensures)
    c.in_ok-put_long.ensures (omega arith) c.loop-turn.invariant
