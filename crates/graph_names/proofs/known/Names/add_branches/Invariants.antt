use Rattle.std.proofs.Common.{◌≡◌, drop}
use Rattle.std.specs.List.{flat_map}
use Rattle.graph_names.specs.Known.{names_of_branch}
use Rattle.graph_names.specs.internal.Learning.{with_names}
use Rattle.graph_names.proofs.known.Names.add_branches.Given as goal

abbrev pub invariant-loop-branch : goal.invariant-loop-branch
invariant-loop-branch l = with_names l.self (flat_map names_of_branch (drop l.branch-index l.branches)) ≡ with_names l.fn.self (flat_map names_of_branch l.fn.branches)
