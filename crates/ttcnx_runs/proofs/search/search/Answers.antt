use Rattle.ttcnx_runs.proofs.Parts.{blocked-part, branches-part, if-ok, later-parts}
use Rattle.ttcnx_runs.proofs.search.search.Goals as goal

pub returns-clause-branches : goal.returns-clause-branches
returns-clause-branches g c = if-ok c.explore_by_ordinals.result _ _ c.explore_by_ordinals.ensures.summary
    (λ reached. branches-part (g.Y.System.graph c.args.system.now) (g.Y.Located.branch c.args.system.now) (g.Y.Located.blocked c.args.system.now) reached.steps reached.answer.summary)

pub returns-clause-blocked : goal.returns-clause-blocked
returns-clause-blocked g c = if-ok c.explore_by_ordinals.result _ _ c.explore_by_ordinals.ensures.summary
    (λ reached. blocked-part (g.Y.System.graph c.args.system.now) (g.Y.Located.branch c.args.system.now) (g.Y.Located.blocked c.args.system.now) reached.steps reached.answer.summary)

pub returns-clause-every_bound : goal.returns-clause-every_bound
returns-clause-every_bound g c = if-ok c.explore_by_ordinals.result _ _ c.explore_by_ordinals.ensures.every_bound
    (λ reached. later-parts (g.Y.System.graph c.args.system.now) (g.Y.Located.branch c.args.system.now) (g.Y.Located.blocked c.args.system.now) reached.answer.complete reached.steps reached.answer.count reached.answer.summary)
