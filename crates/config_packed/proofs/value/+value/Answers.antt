use Rattle.std.proofs.Common.{refl, arith}
use Rattle.config_packed.proofs.Items.{items-more, list-read}
use Rattle.config_packed.specs.Reading.{read_field, read_record, read_value_within}
use Rattle.config_packed.proofs.value.+value.Goals as goal

pub take_record-loop-turn-preserved : goal.take_record-loop-turn-preserved
take_record-loop-turn-preserved t c =
    rw c.in_ok-push.ensures.items
    (items-more (read_field (read_value_within c.args.depth)) c.take_long-count.result c.loop-turn._turn c.loop-turn.reader c.take_field.new.reader _ c.loop-turn.fields.items c.in_ok-take_field.field-0
    c.loop-turn-test.true c.in_ok-take_field.ensures.value c.in_ok-take_field.ensures.rest c.loop-turn.invariant)

pub take_record-returns-clause-value : goal.take_record-returns-clause-value
unfolding read_record
take_record-returns-clause-value t c =
    let e = list-read (read_field (read_value_within c.args.depth)) c.take_long-at.new.reader c.take_long-count.new.reader c.loop-turn.reader c.take_long-count.result c.loop-turn._turn c.loop-turn.fields.items
    c.take_long-count.ensures.value c.take_long-count.ensures.rest (omega arith) c.loop-turn.invariant in
    rw (← c.take_long-at.ensures.rest, ← c.take_long-at.ensures.value, e, c.from_vec.ensures) refl

pub take_record-returns-clause-rest : goal.take_record-returns-clause-rest
unfolding read_record
take_record-returns-clause-rest t c =
    let e = list-read (read_field (read_value_within c.args.depth)) c.take_long-at.new.reader c.take_long-count.new.reader c.loop-turn.reader c.take_long-count.result c.loop-turn._turn c.loop-turn.fields.items
    c.take_long-count.ensures.value c.take_long-count.ensures.rest (omega arith) c.loop-turn.invariant in
    rw (← c.take_long-at.ensures.rest, e) refl
