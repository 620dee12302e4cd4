use Rattle.std.proofs.Common.{Some, ap, subst, sym, option_map, ◌∙◌}
use Rattle.step_snapshot.specs.Tests.{extent_of, legend_by, test_by}
use Rattle.config_parts.specs.Acts.{HasPathsInOrder}
use Rattle.config_parts.specs.Legend.{end_by}
use Rattle.config_parts.specs.Views.{IsGoingWithin}
use Rattle.config_parts.specs.declared.config.Going.{Going}
use Rattle.config_parts.specs.declared.connection.End.{End}
use Rattle.step_arrivals.proofs.Delivering.{comes-in}
use Rattle.step_arrivals.proofs.delivery.delivery.Goals as goal

pub returns-clause-behind : goal.returns-clause-behind
returns-clause-behind c =
    let legend = legend_by c.args.test.now in
    let going = c.args.going.now in
    let slots = c.slots_are_ordered.ensures.legend in
    let copy = c.in_ok-copy.copy in
    let same = c.in_ok-copy.ensures in
    comes-in legend (test_by c.args.test.now) going copy c.come_in.new.self (legend.names c.args.system_port) c.in_ok-end.end c.in_ok-message.message
    (sym (c.mapped.ensures legend slots) ∙ ap (option_map (λ end. end_by legend end.now)) c.in-Some.is ∙ ap (λ (e : End). Some (end_by legend e)) (sym c.in_ok-end.ensures))
    (sym c.next_message.ensures ∙ ap (option_map (λ message. message.now)) c.in-Some-next_message.is ∙ ap Some (sym c.in_ok-message.ensures)) same
    (c.in_ok-come_in.ensures.comes legend slots (subst HasPathsInOrder (sym same) c.requires.ordered))

pub returns-clause-within : goal.returns-clause-within
returns-clause-within c =
    let size = extent_of c.args.test.now in
    c.in_ok-come_in.ensures.within size (let P : Going → Type 0 = λ g. IsGoingWithin size g in subst P (sym c.in_ok-copy.ensures) c.requires.all)
