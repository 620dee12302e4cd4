use Rattle.std.proofs.Common.{List, subst, ap, ◌∙◌}
use Rattle.config_parts.specs.declared.component.Component.{Component}
use Rattle.config_parts.specs.internal.Changes.{touch, with_own}
use Rattle.config_parts.specs.internal.Done as done
use Rattle.config_parts.proofs.act.done.Goals as goal

pub returns : goal.returns
returns c =
    let P : List Component → Type 0 = λ components. done.Answers (done.perform components c.args.going.links c.args.going.forgotten c.args.itself.now c.args.act.request) c.performed.result in
    subst P (c.in_ok-settle.ensures ∙ ap (λ components. touch components c.args.itself.now.path (with_own c.args.act.own)) c.into_vec-components.ensures) c.performed.ensures
