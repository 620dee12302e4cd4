use Rattle.std.proofs.Common.{Some, ap, sym, option_map, ◌∙◌}
use Rattle.step_snapshot.specs.Tests.{legend_by, test_by}
use Rattle.config_parts.specs.Legend.{end_by, going_by}
use Rattle.config_parts.specs.Ways.{way_by}
use Rattle.ttcn_step.proofs.Told.{brings, brings-none, brings-unmapped}
use Rattle.ttcn_step.proofs.telling.sent_at.Goals as goal

pub returns-in_default : goal.returns-in_default
returns-in_default c =
    let t = c.args.test.now in
    let legend = legend_by t in
    brings-unmapped (test_by t) (going_by legend c.args.going.now) (legend.names c.args.system_port)
    (sym (c.mapped.ensures legend c.slots_are_ordered.ensures.legend) ∙ ap (option_map (λ end. end_by legend end.now)) c.in_default.is)

pub returns-in_default-next_message : goal.returns-in_default-next_message
returns-in_default-next_message c =
    let t = c.args.test.now in
    let legend = legend_by t in
    brings-none (test_by t) (going_by legend c.args.going.now) (legend.names c.args.system_port) (end_by legend c.in-Some.end.now)
    (sym (c.mapped.ensures legend c.slots_are_ordered.ensures.legend) ∙ ap (option_map (λ end. end_by legend end.now)) c.in-Some.is)
    (sym c.next_message.ensures ∙ ap (option_map (λ message. message.now)) c.in_default-next_message.is)

pub returns : goal.returns
returns c =
    let t = c.args.test.now in
    let legend = legend_by t in
    brings (test_by t) (going_by legend c.args.going.now) (legend.names c.args.system_port) (end_by legend c.in-Some.end.now) c.in_ok-value.value (way_by legend c.in_ok-way.way)
    (sym (c.mapped.ensures legend c.slots_are_ordered.ensures.legend) ∙ ap (option_map (λ end. end_by legend end.now)) c.in-Some.is)
    (sym c.next_message.ensures ∙ ap (option_map (λ message. message.now)) c.in-Some-next_message.is ∙ ap Some (sym c.in_ok-value.ensures))
    (c.in_ok-way.ensures legend)
