use Rattle.std.proofs.Common.{[], ◌∷◌, ◌++◌, ap, ◌∙◌, slice_set}
use Rattle.config_parts.proofs.Changed.{overwritten}
use Rattle.config_parts.specs.internal.Changes.{begun, with_calls, with_own, with_state}
use Rattle.config_parts.specs.declared.component.State.TheVariants.{Running}
use Rattle.config_parts.proofs.change.begin.Goals as goal

pub returns : goal.returns
returns c =
    let component = c.index_mut-component.result.now in
    ap (λ own. slice_set c.args.components.now.items c.args.at (with_state Running (with_own own component)))
    (c.in_ok-component.ensures ∙ ap (with_calls c.push.new.self) (c.in_ok-own.ensures ∙ c.deref.ensures))
    ∙ ap (λ calls. slice_set c.args.components.now.items c.args.at (with_state Running (with_own (with_calls calls component.own) component)))
    (c.in_ok-push.ensures.ok ∙ ap (λ frames. frames ++ c.args.frame ∷ []) c.new-calls.ensures)
    ∙ overwritten c.args.components.now.items c.args.at component (begun c.args.frame) c.index_mut-component.ensures.value
