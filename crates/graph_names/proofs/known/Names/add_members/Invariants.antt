use Rattle.std.proofs.Common.{◌≡◌, drop}
use Rattle.std.specs.List.{flat_map}
use Rattle.graph_names.specs.Known.{names_of_member}
use Rattle.graph_names.specs.internal.Learning.{with_names}
use Rattle.graph_names.proofs.known.Names.add_members.Given as goal

abbrev pub invariant-loop-member : goal.invariant-loop-member
invariant-loop-member l = with_names l.self (flat_map names_of_member (drop l.member-index l.members)) ≡ with_names l.fn.self (flat_map names_of_member l.fn.members)
