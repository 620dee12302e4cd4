use Rattle.std.proofs.Common.{Bor, ap, option_map, sym, ◌∙◌}
use Rattle.laws_steps.proofs.Found.{some-of}
use Rattle.step_snapshot.specs.Tests.{extent_of, legend_by, test_by}
use Rattle.config_parts.specs.Legend.{component_by, going_by}
use Rattle.config_parts.specs.Views.{IsWithin}
use Rattle.config_parts.specs.declared.component.Component.{Component}
use Rattle.ttcn_step.proofs.Steps.{paths-in-order}
use Rattle.ttcn_step.proofs.Told.{missing-sends}
use Rattle.ttcn_step.proofs.telling.sent_going.Goals as goal

pub sent_of_component-requires-clause-ordered : goal.sent_of_component-requires-clause-ordered
sent_of_component-requires-clause-ordered c = paths-in-order (legend_by c.args.test.now) c.args.going.now c.requires.ordered.ordered

pub sent_of_component-requires-clause-within : goal.sent_of_component-requires-clause-within
sent_of_component-requires-clause-within c =
    let size = extent_of c.args.test.now in
    some-of (λ (x : Bor Component). IsWithin size x.now.own) c.maker.result c.in-Some.component c.in-Some.is (c.maker.ensures.within size c.requires.within)

pub returns-in-None : goal.returns-in-None
returns-in-None c =
    let t = c.args.test.now in
    let legend = legend_by t in
    missing-sends (test_by t) (going_by legend c.args.going.now) c.args.label.now c.in-Statement.field-0 c.in-Statement.is
    (sym (ap (option_map (λ (x : Bor Component). component_by legend x.now)) c.in-None.is) ∙ c.maker.ensures.found legend)
