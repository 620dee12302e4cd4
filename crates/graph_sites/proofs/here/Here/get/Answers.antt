use Rattle.std.proofs.Common.{ap, ◌∙◌}
use Rattle.check_scope.specs.internal.Checking.{view}
use Rattle.semantics.specs.Sites.{scope_at}
use Rattle.graph_sites.proofs.Sites.{found-inside, found-outside}
use Rattle.graph_sites.proofs.here.Here.get.Goals as goal

pub returns-in-Some : goal.returns-in-Some
returns-in-Some c =
    found-inside c.self.inside.scope.definitions.now (record { behaviour = c.self.inside.behaviour; declared = c.self.inside.own }) (view c.self.inside.scope) c.self.invariant.0 c.args.name.now
    c.in-Some.meaning c.in-Some.ensures ∙ ap (λ v. (scope_at v.0 v.1).names c.args.name.now) c.self.view_is

pub returns-in-None : goal.returns-in-None
returns-in-None c =
    found-outside c.self.inside.scope.definitions.now (record { behaviour = c.self.inside.behaviour; declared = c.self.inside.own }) (view c.self.inside.scope) c.self.invariant.0 c.args.name.now
    c.get-in-None.result c.in-None.ensures c.get-in-None.ensures ∙ ap (λ v. (scope_at v.0 v.1).names c.args.name.now) c.self.view_is
