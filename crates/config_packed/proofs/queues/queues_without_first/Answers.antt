use Rattle.std.proofs.Common.{◌≡◌, ℕ, List, ap, ◌∙◌}
use Rattle.std.proofs.lemmas.Result.{IfOk-weaker}
use Rattle.config_packed.specs.Reading.{read_message}
use Rattle.config_packed.specs.Spelling.{spell_list, spell_queue}
use Rattle.config_packed.proofs.Waiting.{first-gone, first-gone-none}
use Rattle.config_parts.specs.internal.Changes.{without_message}
use Rattle.config_packed.proofs.queues.queues_without_first.Goals as goal

pub returns-then-count-eq0 : goal.returns-then-count-eq0
returns-then-count-eq0 c qs is =
    IfOk-weaker c.from_slice-then-count-eq0.result (λ bytes. bytes.items ≡ c.args.queues.now) (λ bytes. bytes.items ≡ spell_list spell_queue (without_message c.args.port qs))
    (λ bytes same. first-gone-none c.args.port qs c.args.queues.now c.in-Some.reader c.take_pair-count.new.reader bytes.items c.take_pair-count.result
    is (c.in-Some.ensures qs is) c.take_pair-count.ensures.value c.take_pair-count.ensures.rest c.if-count-eq0.true same)
    c.from_slice-then-count-eq0.ensures.items

pub returns : goal.returns
returns c qs is =
    first-gone c.args.port qs c.args.queues.now c.in-Some.reader c.take_pair-count.new.reader c.take_sized.result.now c.rest.result.now c.rest-2.result.now c.since-front.result.now c.in_ok-bytes.bytes.items c.extend_from_slice.new.self.items c.put_pair.new.bytes.items c.put_sized.new.bytes.items c.extend_from_slice-2.new.self.items c.take_pair-count.result
    is (c.in-Some.ensures qs is) c.since-front.ensures
    c.take_pair-count.ensures.value c.take_pair-count.ensures.rest c.if-count-eq0.false
    c.take_sized.ensures.value (c.rest-2.ensures ∙ c.take_sized.ensures.rest) (c.rest.ensures ∙ c.skip.ensures ∙ ap (λ (bytes : List ℕ). (read_message bytes).1) c.new-messages.ensures)
    c.in_ok-bytes.ensures.items c.in_ok-extend_from_slice.ensures.items c.in_ok-put_pair.ensures c.in_ok-put_sized.ensures c.in_ok-extend_from_slice-2.ensures.items
