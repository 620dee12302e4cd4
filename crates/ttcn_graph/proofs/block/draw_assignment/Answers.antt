use Rattle.std.proofs.Common.{[], get_or}
use Rattle.graph_items.specs.Standing.{part_of}
use Rattle.ttcn_graph.specs.Ways.{ways_of_assignment}
use Rattle.ttcn_graph.proofs.Growing.{put-drawn}
use Rattle.ttcn_graph.proofs.block.draw_assignment.Goals as goal

pub returns : goal.returns
returns c =
    let old = c.args.draft.now in
    put-drawn old c.assignment.new.self c.put.new.self c.args.statement.now (part_of c.args.part) c.in_ok-ways.ways
    (ways_of_assignment old.definitions old.site (get_or old.lists c.args.rest []) c.args.assignment.now) c.args.rest c.in_ok-at.at c.in_ok-ways.ensures c.requires.rest c.in_ok-at.ensures
