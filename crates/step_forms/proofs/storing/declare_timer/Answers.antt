use Rattle.std.proofs.Common.{ap, true, ◌∙◌}
use Rattle.step_forms.proofs.storing.declare_timer.Goals as goal
use Rattle.semantics.specs.Storing as rules
use Rattle.step_snapshot.specs.Tests.{extent_of, legend_by}
use Rattle.config_parts.specs.Legend.{data_by}

pub returns-clause-changed : goal.returns-clause-changed
returns-clause-changed c =
    let legend = legend_by c.args.test.now in
    c.in_ok-declare_timer.ensures.changed legend c.slots_are_in_order.ensures ∙ ap (λ n. rules.in_frame true (rules.declare_timer n) (data_by legend c.args.own)) c.slot_of.ensures.named

pub returns-clause-within : goal.returns-clause-within
returns-clause-within c = c.in_ok-declare_timer.ensures.within (extent_of c.args.test.now) c.slot_of.ensures.within c.requires.within
