use Rattle.std.proofs.Common.{◌∷◌, [], get_or}
use Rattle.semantics.specs.Items as rules
use Rattle.graph_items.specs.Standing.{target_of}
use Rattle.ttcn_graph.proofs.Drafted.{drawn}
use Rattle.ttcn_graph.proofs.draft.Draft.wait.Goals as goal

pub returns : goal.returns
returns c =
    drawn c.args.self.now c.begin_wait.new.self c.finish.new.self c.in_ok-at.at (rules.Waiting (target_of c.args.target) ∷ get_or c.args.self.now.lists c.args.rest [])
    c.in_ok-at.ensures c.in_ok-finish.ensures
