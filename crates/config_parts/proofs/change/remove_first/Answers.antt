use Rattle.std.proofs.Common.{sym, ap, ◌∙◌, slice_set}
use Rattle.config_parts.proofs.Changed.{written}
use Rattle.config_parts.specs.internal.Changes.{live_place, with_queues, without_message}
use Rattle.config_parts.proofs.change.remove_first.Goals as goal

pub returns-in_ok-component : goal.returns-in_ok-component
returns-in_ok-component c =
    let component = c.index_mut-component.result.now in
    ap (λ queues. slice_set c.args.components.now.items c.in-Some.at (with_queues (λ old. queues) component))
    (c.in_ok-component.ensures ∙ c.without_message-queues.ensures ∙ ap (without_message c.args.port) (c.in_ok-try_clone.ensures ∙ c.deref-in-Some.ensures))
    ∙ written c.args.components.now.items c.args.path.now c.in-Some.at component (with_queues (without_message c.args.port))
    (ap (λ components. live_place components c.args.path.now) (sym c.deref.ensures.value) ∙ sym c.live_place.ensures.found ∙ c.in-Some.is)
    c.index_mut-component.ensures.value
