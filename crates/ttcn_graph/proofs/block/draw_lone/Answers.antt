use Rattle.std.proofs.Common.{[], ◌∷◌, get_or}
use Rattle.semantics.specs.Items as rules
use Rattle.ttcn_graph.proofs.Drafted.{drawn}
use Rattle.ttcn_graph.proofs.Growing.{begun-more}
use Rattle.ttcn_graph.proofs.block.draw_lone.Goals as goal

pub returns : goal.returns
returns c =
    let old = c.args.draft.now in
    let list = rules.Doing old.site c.args.statement.now rules.Whole ∷ get_or old.lists c.args.rest [] in
    drawn old c.mark.new.self c.finish_one.new.self c.in_ok-whole.whole list
    (begun-more old c.begin.new.self c.mark.new.self c.in_ok-whole.whole list c.in_ok-whole.ensures c.in_ok-marked.ensures.grown) c.in_ok-finish_one.ensures
