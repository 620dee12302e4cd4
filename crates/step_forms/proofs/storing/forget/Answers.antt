use Rattle.std.proofs.Common.{ap, true, ◌∙◌}
use Rattle.step_forms.proofs.storing.forget.Goals as goal
use Rattle.semantics.specs.Storing as rules
use Rattle.step_snapshot.specs.Tests.{extent_of, legend_by}
use Rattle.config_parts.specs.Legend.{data_by}

pub returns-clause-changed : goal.returns-clause-changed
returns-clause-changed c =
    let legend = legend_by c.args.test.now in
    c.in_ok-forget.ensures.changed legend c.slots_are_in_order.ensures ∙ ap (λ n. rules.in_frame true (rules.forget n) (data_by legend c.args.own)) c.slot_of.ensures.named

pub returns-clause-within : goal.returns-clause-within
returns-clause-within c = c.in_ok-forget.ensures.within (extent_of c.args.test.now) c.requires.within
