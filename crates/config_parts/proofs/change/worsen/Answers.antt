use Rattle.std.proofs.Common.{sym, ap, ◌∙◌, slice_set}
use Rattle.config_parts.proofs.Changed.{written}
use Rattle.config_parts.specs.internal.Changes.{live_place, with_verdict}
use Rattle.config_parts.proofs.change.worsen.Goals as goal

pub returns-in-Some : goal.returns-in-Some
returns-in-Some c =
    let component = c.index_mut-component.result.now in
    ap (λ v. slice_set c.args.components.now.items c.in-Some.at (record { itself = component.itself; own = component.own; state = component.state; verdict = v; queues = component.queues })) c.worse-component.ensures
    ∙ written c.args.components.now.items c.args.path.now c.in-Some.at component (with_verdict c.args.verdict)
    (ap (λ components. live_place components c.args.path.now) (sym c.deref.ensures.value) ∙ sym c.live_place.ensures.found ∙ c.in-Some.is)
    c.index_mut-component.ensures.value
