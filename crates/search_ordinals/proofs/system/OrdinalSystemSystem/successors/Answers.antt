use Rattle.std.proofs.Common.{ap, refl, ◌∙◌}
use Rattle.search_ordinals.proofs.Numbers.{if-ok, numbered-there}
use Rattle.search_ordinals.proofs.system.OrdinalSystemSystem.successors.Goals as goal
use Rattle.search_ordinals.specs.internal.Numbered.{numbered}

pub returns : goal.returns
returns g c =
    let system = c.args.self.now.system.now in
    let graph = g.Y.System.graph system in
    if-ok c.numbered.result _ _ c.numbered.ensures (λ pairs are.
    are ∙ ap (numbered 0) c.in_ok-branched_successors.ensures ∙ numbered-there (g.Y.Located.branch system) graph c.args.state.now (graph.enabled c.args.state.now) refl)
