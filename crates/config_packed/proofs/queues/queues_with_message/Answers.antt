use Rattle.std.proofs.Common.{◌∙◌}
use Rattle.config_packed.proofs.Waiting.{message-came}
use Rattle.config_packed.proofs.queues.queues_with_message.Goals as goal

pub returns : goal.returns
returns c qs is =
    message-came c.args.port c.args.message.now qs c.args.queues.now c.in-Some.reader c.take_pair-count.new.reader c.take_sized-waiting.result.now c.rest.result.now c.since-front.result.now c.as_bytes-message.result.now
    c.in_ok-bytes.bytes.items c.extend_from_slice.new.self.items c.put_pair.new.bytes.items c.put_long.new.bytes.items c.extend_from_slice-2.new.self.items c.extend_from_slice-3.new.self.items c.extend_from_slice-4.new.self.items c.take_pair-count.result c.in-Some-checked_add.more c.in-Some-checked_add-2.size
    is c.as_bytes-message.ensures (c.in-Some.ensures qs is) c.since-front.ensures
    c.take_pair-count.ensures.value c.take_pair-count.ensures.rest c.take_sized-waiting.ensures.value (c.rest.ensures ∙ c.take_sized-waiting.ensures.rest)
    c.in-Some-checked_add.ensures.1 c.in-Some-checked_add-2.ensures.1
    c.in_ok-bytes.ensures.items c.in_ok-extend_from_slice.ensures.items c.in_ok-put_pair.ensures c.in_ok-put_long.ensures c.in_ok-extend_from_slice-2.ensures.items c.in_ok-extend_from_slice-3.ensures.items c.in_ok-extend_from_slice-4.ensures.items
