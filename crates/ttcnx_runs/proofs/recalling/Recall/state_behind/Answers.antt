use Rattle.std.proofs.Common.{◌≡◌, ap, subst, sym, ◌∙◌}
use Rattle.std.specs.Prelude.{IfOk}
use Rattle.config_parts.specs.declared.config.Config.{Config}
use Rattle.semantics.specs.Canonical.{canonical_graph}
use Rattle.ttcn_step.specs.Machines.{said}
use Rattle.ttcnx_runs.proofs.Parts.{if-ok}
use Rattle.ttcnx_runs.proofs.recalling.Recall.state_behind.Goals as goal
use Rattle.ttcnx_runs.specs.Remembered.{led_to}
use Rattle.ttcnx_runs.specs.declared.outcome.Effect.{Effect}
use Rattle.ttcnx_runs.specs.declared.outcome.Effect.TheVariants as effect

pub returns-in-Sends : goal.returns-in-Sends
returns-in-Sends g c going component is found =
    subst (λ (e : Effect). IfOk c.state_sending.result (λ state. state ≡ led_to g.K.Scheme.machine going c.args.at component e)) (sym c.in-Sends.is) (c.state_sending.ensures going component is found)

pub returns-in-Ends : goal.returns-in-Ends
returns-in-Ends g c going component is found =
    subst (λ (e : Effect). IfOk c.state_ended.result (λ state. state ≡ led_to g.K.Scheme.machine going c.args.at component e)) (sym c.in-Ends.is) (c.state_ended.ensures going component is found)

pub returns-in-Other : goal.returns-in-Other
returns-in-Other g c going component is found =
    let machine = g.K.Scheme.machine in
    subst (λ (e : Effect). IfOk c.next_state.result (λ state. state ≡ led_to machine going c.args.at component e)) (sym c.in-Other.is)
    (if-ok c.next_state.result _ (λ state. state ≡ led_to machine going c.args.at component (effect.Other c.in-Other.label)) c.next_state.ensures
    (λ state same. same ∙ ap (λ (p : Config). (canonical_graph machine.test).after (said machine p) c.in-Other.label) is))
