use Rattle.search_bounds.proofs.places.BoundedSystemLocated.branch.Goals as goal
use Rattle.search_bounds.specs.BoundedLaws.{enabled_within}

pub branch-self-requires-clause-enabled : goal.branch-self-requires-clause-enabled
branch-self-requires-clause-enabled g c = enabled_within c.args.self.now.bound g.Y.Timed.kind (g.Y.System.graph c.args.self.now.system.now) c.args.b.now c.args.label.now c.requires.enabled
