use Rattle.std.proofs.Common.{ap, ◌∙◌}
use Rattle.search_ordinals.proofs.Numbers.{if-ok, numbered-shown}
use Rattle.search_ordinals.proofs.watched.OrdinalSystemWatched.events.Goals as goal
use Rattle.search_ordinals.specs.internal.Numbered.{numbered}

pub returns : goal.returns
returns g c =
    let system = c.args.self.now.system.now in
    let state = c.args.state.now in
    if-ok c.numbered.result _ _ c.numbered.ensures (λ shown are.
    are ∙ ap (numbered 0) c.in_ok-branched_events.ensures
    ∙ numbered-shown (g.Y.Located.branch system state) (g.Y.Watched.event system state) ((g.Y.System.graph system).enabled state))
