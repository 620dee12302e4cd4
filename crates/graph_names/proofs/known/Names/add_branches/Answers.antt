use Rattle.std.proofs.Common.{◌∙◌}
use Rattle.graph_names.specs.Known.{names_of_branch}
use Rattle.graph_names.proofs.Learned.{all-end, all-next}
use Rattle.graph_names.proofs.known.Names.add_branches.Goals as goal

pub loop-branch-preserved : goal.loop-branch-preserved
loop-branch-preserved c =
    all-next c.args.branches.now c.loop-branch.branch-index names_of_branch c.branch-item.result c.loop-branch.self c.add_branch.new.self c.loop-branch-test.true c.branch-item.is c.in_ok-add_branch.ensures
    ∙ c.loop-branch.invariant

pub returns : goal.returns
returns c = all-end c.args.branches.now c.loop-branch.branch-index names_of_branch c.loop-branch.self c.loop-branch-test.false ∙ c.loop-branch.invariant
