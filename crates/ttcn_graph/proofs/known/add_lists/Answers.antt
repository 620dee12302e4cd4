use Rattle.std.proofs.Common.{arith, ◌∙◌}
use Rattle.graph_names.specs.Known.{names_of}
use Rattle.graph_names.proofs.Learned.{all-end, lists-next}
use Rattle.ttcn_graph.proofs.known.add_lists.Goals as goal

pub loop-at-preserved : goal.loop-at-preserved
loop-at-preserved c =
    let d = c.args.drawn.now in
    let test = c.loop-at-test.true in
    let count = c.len-at-end.ensures in
    lists-next d.definitions d.lists c.loop-at.at c.loop-at.names c.add_at.new.names (omega (arith, test, count)) c.in_ok-add_at.ensures ∙ c.loop-at.invariant

pub returns : goal.returns
returns c =
    let test = c.loop-at-test.false in
    let count = c.len-at-end.ensures in
    all-end c.args.drawn.now.lists c.loop-at.at names_of c.loop-at.names (omega (arith, test, count)) ∙ c.loop-at.invariant
