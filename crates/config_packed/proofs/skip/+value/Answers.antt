use Rattle.std.proofs.Common.{arith}
use Rattle.config_packed.proofs.Items.{items-passed, list-passed}
use Rattle.config_packed.specs.Reading.{read_field, read_record, read_value_within}
use Rattle.config_packed.proofs.skip.+value.Goals as goal

pub skip_record-loop-turn-preserved : goal.skip_record-loop-turn-preserved
skip_record-loop-turn-preserved t c =
    items-passed (read_field (read_value_within c.args.depth)) c.take_long-count.result c.loop-turn._turn c.loop-turn.reader c.skip_field.new.reader _
    c.loop-turn-test.true c.skip_field.ensures c.loop-turn.invariant

pub skip_record-returns : goal.skip_record-returns
unfolding read_record
skip_record-returns t c =
    let e = list-passed (read_field (read_value_within c.args.depth)) c.take_long-at.new.reader c.take_long-count.new.reader c.loop-turn.reader c.take_long-count.result c.loop-turn._turn
    c.take_long-count.ensures.value c.take_long-count.ensures.rest (omega arith) c.loop-turn.invariant in
    rw (← c.take_long-at.ensures.rest) e
