use Rattle.std.proofs.Common.{sym, ap, ◌∙◌, slice_set}
use Rattle.config_parts.proofs.Changed.{overwritten}
use Rattle.config_parts.proofs.Places.{changed-first, placed, unchanged}
use Rattle.config_parts.specs.internal.Changes.{is_of_port, place, without_first, without_message}
use Rattle.config_parts.proofs.change.without_message.Goals as goal

pub returns-in_default : goal.returns-in_default
returns-in_default c =
    c.from_vec.ensures ∙ sym c.deref.ensures.value
    ∙ unchanged (is_of_port c.args.port) (λ queue. record { port = queue.port; messages = without_first queue.messages }) c.deref.result.now
    (sym (placed (is_of_port c.args.port) c.deref.result.now) ∙ sym c.queue_of.ensures ∙ c.in_default.is)
    ∙ ap (without_message c.args.port) (c.deref.ensures.value ∙ c.into_vec-queues.ensures)

pub returns : goal.returns
returns c =
    c.from_vec-2.ensures
    ∙ ap (λ messages. slice_set c.into_vec-queues.result.items c.in-Some.at (record { port = c.index_mut-queue.result.now.port; messages = messages }))
    (c.without_first.ensures ∙ ap without_first c.replace-messages.ensures.value)
    ∙ overwritten c.into_vec-queues.result.items c.in-Some.at c.index_mut-queue.result.now (λ queue. record { port = queue.port; messages = without_first queue.messages }) c.index_mut-queue.ensures.value
    ∙ changed-first (is_of_port c.args.port) (λ queue. record { port = queue.port; messages = without_first queue.messages }) c.into_vec-queues.result.items c.in-Some.at
    (ap (place (is_of_port c.args.port)) (sym c.deref.ensures.value) ∙ sym (placed (is_of_port c.args.port) c.deref.result.now) ∙ sym c.queue_of.ensures ∙ c.in-Some.is)
    ∙ ap (without_message c.args.port) c.into_vec-queues.ensures
