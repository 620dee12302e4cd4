use Rattle.std.proofs.Common.{ap, sym, ◌∙◌}
use Rattle.check_scope.specs.Names.{Scope}
use Rattle.semantics.specs.Sites.{scope_at}
use Rattle.graph_sites.proofs.Sites.{itself-at}
use Rattle.graph_sites.proofs.here.Here.itself.Goals as goal

pub returns : goal.returns
returns c =
    c.itself.ensures ∙ ap (λ (s : Scope). s.itself) c.self.invariant.0
    ∙ sym (itself-at c.self.inside.scope.definitions.now (record { behaviour = c.self.inside.behaviour; declared = c.self.inside.own }))
    ∙ ap (λ v. (scope_at v.0 v.1).itself) c.self.view_is
