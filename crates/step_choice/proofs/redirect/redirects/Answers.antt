use Rattle.std.proofs.Common.{[], ◌∷◌, ◌++◌, map, sym, ap, ◌∙◌}
use Rattle.std.specs.Option.{option_map}
use Rattle.semantics.specs.Events.{redirected_sender, redirected_value}
use Rattle.semantics.specs.Sites.{scope_at}
use Rattle.step_choice.proofs.Redirected.{both-stored, one-sender}
use Rattle.step_choice.specs.Deeds.{stored_by}
use Rattle.graph_items.specs.Standing.{target_of}
use Rattle.graph_sites.specs.Facts.{goal_by}
use Rattle.value_types.specs.Outcomes.{outcome_map}
use Rattle.value_types.specs.declared.value.Value.TheVariants as value
use Rattle.step_choice.proofs.redirect.redirects.Goals as goal

pub returns : goal.returns
returns c test site receive same =
    let message = c.args.message.now in
    let sender = c.in-Some-sender.sender in
    let sent = one-sender test site receive.sender sender c.in-Some.goal
    (ap (option_map goal_by) (sym c.in-Some.is) ∙ ap (λ facts. facts.sender) same) (sym c.fits_sender.ensures ∙ c.if-not-fits_sender.false) in (
      redirected_value receive.value message.value ++ sent.0,
      (
        ap (λ sender. outcome_map (λ stored. redirected_value receive.value message.value ++ stored) (redirected_sender (scope_at test.definitions site) receive.sender sender)) c.in-Some-sender.is
            ∙ ap (outcome_map (λ stored. redirected_value receive.value message.value ++ stored)) sent.1.0,
        ap (map stored_by) c.in_ok-push.ensures.items
            ∙ both-stored test site c.in_ok-stored.stored.items _ (redirected_value receive.value message.value) sent.0
            (c.in_ok-stored.ensures test site receive.value (ap (λ facts. facts.value) same))
            (ap (λ sender. (target_of c.in-Some.goal.target, value.Component sender) ∷ []) c.in_ok-sender.ensures ∙ sent.1.1),
      ),
    )
