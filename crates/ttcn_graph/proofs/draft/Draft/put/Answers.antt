use Rattle.std.proofs.Common.{◌∷◌, [], get_or}
use Rattle.semantics.specs.Items as rules
use Rattle.graph_items.specs.Standing.{part_of}
use Rattle.ttcn_graph.proofs.Drafted.{drawn, ways-begun}
use Rattle.ttcn_graph.proofs.draft.Draft.put.Goals as goal

pub finish-requires-clause-ways : goal.finish-requires-clause-ways
finish-requires-clause-ways c =
    ways-begun c.args.self.now c.begin.new.self c.in_ok-at.at (rules.Doing c.args.self.now.site c.args.statement.now (part_of c.args.part) ∷ get_or c.args.self.now.lists c.args.rest [])
    c.args.ways c.in_ok-at.ensures c.requires.ways

pub returns : goal.returns
returns c =
    drawn c.args.self.now c.begin.new.self c.finish.new.self c.in_ok-at.at (rules.Doing c.args.self.now.site c.args.statement.now (part_of c.args.part) ∷ get_or c.args.self.now.lists c.args.rest [])
    c.in_ok-at.ensures c.in_ok-finish.ensures
