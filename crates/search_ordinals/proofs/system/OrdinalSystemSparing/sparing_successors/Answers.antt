use Rattle.std.proofs.Common.{ap, map, subst, sym, ◌∙◌}
use Rattle.search_ordinals.proofs.Sparing.{numbered-spared}
use Rattle.search_ordinals.proofs.Numbers.{if-ok}
use Rattle.search_ordinals.specs.OrdinalLaws.{label_of, led_there}
use Rattle.search_layer.specs.Late.{IsSpared}
use Rattle.search_ordinals.specs.OrdinalOrder.{ordinal_cmp}
use Rattle.search_ordinals.specs.Ordinals.{ordinal_graph}
use Rattle.std.specs.List.{All}
use Rattle.search_ordinals.proofs.system.OrdinalSystemSparing.sparing_successors.Goals as goal

pub sparing_branches-requires-clause-behind : goal.sparing_branches-requires-clause-behind
sparing_branches-requires-clause-behind g c =
    let system = c.args.self.now.system.now in
    let enabled = (g.Y.System.graph system).enabled c.args.before.now in
    let found = label_of (g.Y.Located.branch system c.args.before.now) enabled c.args.last.now c.requires.enabled in
    (found.0, found.1, c.requires.behind ∙ led_there (g.Y.Located.branch system) (g.Y.System.graph system) c.args.before.now enabled c.args.last.now.nth found.0 found.1)

pub returns-clause-labels : goal.returns-clause-labels
returns-clause-labels g c =
    let system = c.args.self.now.system.now in
    let told = numbered-spared (g.Y.Located.branch system) (g.Y.System.graph system) c.args.before.now c.args.last.now c.args.state.now c.in_ok-found.found.items c.in_ok-found.ensures in
    if-ok c.numbered.result _ _ c.numbered.ensures (λ pairs are. ap (map (λ p. p.0)) are ∙ told.0)

pub returns-clause-states : goal.returns-clause-states
returns-clause-states g c =
    let system = c.args.self.now.system.now in
    let branch = g.Y.Located.branch system in
    let graph = g.Y.System.graph system in
    let told = numbered-spared branch graph c.args.before.now c.args.last.now c.args.state.now c.in_ok-found.found.items c.in_ok-found.ensures in
    if-ok c.numbered.result _ _ c.numbered.ensures (λ pairs are. subst (All (IsSpared (ordinal_graph branch graph) ordinal_cmp c.args.before.now c.args.last.now c.args.state.now)) (sym are) told.1)
