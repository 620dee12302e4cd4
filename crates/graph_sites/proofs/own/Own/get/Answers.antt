use Rattle.std.proofs.Common.{ap, ◌∙◌}
use Rattle.check_scope.specs.Names.{Names}
use Rattle.graph_sites.specs.internal.KeptNames.{meant}
use Rattle.graph_sites.specs.internal.OwnNames.{own_names}
use Rattle.graph_sites.proofs.own.Own.get.Goals as goal

pub returns-in-Some : goal.returns-in-Some
returns-in-Some c = ap meant c.in-Some.ensures.value ∙ ap (λ (o : Names). o c.args.name.now) (c.self.invariant.0 ∙ ap own_names c.self.view_is)

pub returns-in-None : goal.returns-in-None
returns-in-None c = ap meant c.in-None.ensures.value ∙ ap (λ (o : Names). o c.args.name.now) (c.self.invariant.0 ∙ ap own_names c.self.view_is)
