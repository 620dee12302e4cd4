use Rattle.ttcn_graph.proofs.Graphed.{AreFactsOf, AreGraphed}
use Rattle.ttcn_graph.proofs.graphs.draw_all.Given as goal

abbrev pub invariant-loop-at : goal.invariant-loop-at
invariant-loop-at l = record { drawn : AreGraphed l.definitions l.draft l.starts.items l.at; known : AreFactsOf l.definitions l.altsteps.items l.at }
