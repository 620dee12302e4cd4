use Rattle.std.proofs.Common.{[], get_or}
use Rattle.ttcn_graph.proofs.Growing.{NamesLeft}
use Rattle.ttcn_graph.proofs.names.draw_names.Given as goal

abbrev pub invariant-loop-place : goal.invariant-loop-place
invariant-loop-place l = NamesLeft l.fn.draft l.draft l.statement l.count (get_or l.fn.draft.lists l.rest []) l.at l.place
