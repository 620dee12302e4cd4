use Rattle.search_ordinals.specs.OrdinalLaws.{contains_from_nth}
use Rattle.search_ordinals.proofs.branched.Branched.next_of.Goals as goal

pub next-requires-clause-enabled : goal.next-requires-clause-enabled
next-requires-clause-enabled g c = contains_from_nth ((g.Self.System.graph c.args.self.now).enabled c.args.state.now) c.args.nth c.args.label.now c.requires.nth
