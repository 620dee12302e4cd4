use Rattle.std.proofs.Common.{◌≡◌, drop}
use Rattle.std.specs.List.{flat_map}
use Rattle.graph_names.specs.Known.{names_of}
use Rattle.graph_names.specs.internal.Learning.{with_names}
use Rattle.ttcn_graph.proofs.known.add_lists.Given as goal

abbrev pub invariant-loop-at : goal.invariant-loop-at
invariant-loop-at l = with_names l.names (flat_map names_of (drop l.at l.drawn.lists)) ≡ with_names l.fn.names (flat_map names_of l.fn.drawn.lists)
