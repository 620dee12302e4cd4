use Rattle.search_bounds.proofs.system.BoundedSystemSystem.next.Goals as goal
use Rattle.search_bounds.specs.BoundedLaws.{enabled_within}

pub next-requires-clause-enabled : goal.next-requires-clause-enabled
next-requires-clause-enabled g c = enabled_within c.args.self.now.bound g.Y.Timed.kind (g.Y.System.graph c.args.self.now.system.now) c.args.b.now c.args.label.now c.requires.enabled
