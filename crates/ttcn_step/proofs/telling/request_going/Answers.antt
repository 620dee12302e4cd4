use Rattle.std.proofs.Common.{Bor}
use Rattle.laws_steps.proofs.Found.{some-of}
use Rattle.step_snapshot.specs.Tests.{extent_of, legend_by}
use Rattle.config_parts.specs.Views.{IsWithin}
use Rattle.config_parts.specs.declared.component.Component.{Component}
use Rattle.ttcn_step.proofs.Steps.{paths-in-order}
use Rattle.ttcn_step.proofs.telling.request_going.Goals as goal

pub request_of_component-requires-clause-ordered : goal.request_of_component-requires-clause-ordered
request_of_component-requires-clause-ordered c = paths-in-order (legend_by c.args.test.now) c.args.going.now c.requires.ordered.ordered

pub request_of_component-requires-clause-within : goal.request_of_component-requires-clause-within
request_of_component-requires-clause-within c =
    let size = extent_of c.args.test.now in
    some-of (λ (x : Bor Component). IsWithin size x.now.own) c.maker.result c.in-Some.component c.in-Some.is (c.maker.ensures.within size c.requires.within)
