use Rattle.std.proofs.Common.{[], ◌∷◌, ◌++◌, sym, ap, ◌∙◌, slice_set}
use Rattle.config_parts.proofs.Changed.{overwritten}
use Rattle.config_parts.proofs.Places.{changed-first, placed, unchanged}
use Rattle.config_parts.specs.internal.Changes.{is_of_port, place, with_message}
use Rattle.config_parts.proofs.change.with_message.Goals as goal

pub returns-in_default : goal.returns-in_default
returns-in_default c =
    c.from_vec.ensures ∙ sym c.deref.ensures.value
    ∙ unchanged (is_of_port c.args.port) (λ queue. record { port = queue.port; messages = queue.messages ++ c.args.message ∷ [] }) c.deref.result.now
    (sym (placed (is_of_port c.args.port) c.deref.result.now) ∙ sym c.queue_of.ensures ∙ c.in_default.is)
    ∙ ap (with_message c.args.port c.args.message) (c.deref.ensures.value ∙ c.into_vec-queues.ensures)

pub returns : goal.returns
returns c =
    c.from_vec-2.ensures
    ∙ ap (λ messages. slice_set c.into_vec-queues.result.items c.in-Some.at (record { port = c.index_mut.result.now.port; messages = messages })) c.in_ok-push.ensures.ok
    ∙ overwritten c.into_vec-queues.result.items c.in-Some.at c.index_mut.result.now (λ queue. record { port = queue.port; messages = queue.messages ++ c.args.message ∷ [] }) c.index_mut.ensures.value
    ∙ changed-first (is_of_port c.args.port) (λ queue. record { port = queue.port; messages = queue.messages ++ c.args.message ∷ [] }) c.into_vec-queues.result.items c.in-Some.at
    (ap (place (is_of_port c.args.port)) (sym c.deref.ensures.value) ∙ sym (placed (is_of_port c.args.port) c.deref.result.now) ∙ sym c.queue_of.ensures ∙ c.in-Some.is)
    ∙ ap (with_message c.args.port c.args.message) c.into_vec-queues.ensures
