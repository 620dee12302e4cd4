use Rattle.ttcnx_runs.proofs.Parts.{blocked-part, branches-part, if-ok, later-parts}
use Rattle.ttcnx_runs.proofs.search.search_watched.Goals as goal

pub returns-clause-branches : goal.returns-clause-branches
returns-clause-branches g c = if-ok c.explore_watched_by_ordinals.result _ _ c.explore_watched_by_ordinals.ensures.summary
    (λ s. branches-part (g.Y.System.graph c.args.system.now) (g.Y.Located.branch c.args.system.now) (g.Y.Located.blocked c.args.system.now) s.reached.steps s.reached.answer.summary)

pub returns-clause-blocked : goal.returns-clause-blocked
returns-clause-blocked g c = if-ok c.explore_watched_by_ordinals.result _ _ c.explore_watched_by_ordinals.ensures.summary
    (λ s. blocked-part (g.Y.System.graph c.args.system.now) (g.Y.Located.branch c.args.system.now) (g.Y.Located.blocked c.args.system.now) s.reached.steps s.reached.answer.summary)

pub returns-clause-every_bound : goal.returns-clause-every_bound
returns-clause-every_bound g c = if-ok c.explore_watched_by_ordinals.result _ _ c.explore_watched_by_ordinals.ensures.every_bound
    (λ s. later-parts (g.Y.System.graph c.args.system.now) (g.Y.Located.branch c.args.system.now) (g.Y.Located.blocked c.args.system.now) s.reached.answer.complete s.reached.steps s.reached.answer.count s.reached.answer.summary)
