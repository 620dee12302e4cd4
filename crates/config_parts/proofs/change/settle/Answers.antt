use Rattle.std.proofs.Common.{sym, ap, ◌∙◌, slice_set}
use Rattle.config_parts.proofs.Changed.{written}
use Rattle.config_parts.specs.internal.Changes.{live_place, with_own}
use Rattle.config_parts.proofs.change.settle.Goals as goal

pub returns-in_ok-components : goal.returns-in_ok-components
returns-in_ok-components c =
    ap (λ own. slice_set c.args.components.now.items c.in-Some.at (with_own own c.index_mut.result.now)) c.in_ok-components.ensures
    ∙ written c.args.components.now.items c.args.path.now c.in-Some.at c.index_mut.result.now (with_own c.args.own)
    (ap (λ components. live_place components c.args.path.now) (sym c.deref.ensures.value) ∙ sym c.live_place.ensures.found ∙ c.in-Some.is)
    c.index_mut.ensures.value
