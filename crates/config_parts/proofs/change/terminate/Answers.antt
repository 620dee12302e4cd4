use Rattle.std.proofs.Common.{sym, ap, ◌∙◌}
use Rattle.config_parts.proofs.Changed.{written}
use Rattle.config_parts.specs.internal.Changes.{live_place, terminated, with_state}
use Rattle.config_parts.proofs.change.terminate.Goals as goal

pub returns-in-Some : goal.returns-in-Some
returns-in-Some c =
    written c.args.components.now.items c.args.path.now c.in-Some.at c.index_mut.result.now (with_state terminated)
    (ap (λ components. live_place components c.args.path.now) (sym c.deref.ensures.value) ∙ sym c.live_place.ensures.found ∙ c.in-Some.is)
    c.index_mut.ensures.value
