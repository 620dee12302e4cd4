use Rattle.std.proofs.Common.{◌≡◌, List, ◌++◌, length, map, take}
use Rattle.search_layer.specs.declared.visited.Candidate.{Candidate}
use Rattle.search_layer.specs.internal.Search.{newly, state_of, step_of}
use Rattle.search_layer.specs.internal.Thinned.{AreThinned}
use Rattle.search_layer.specs.internal.Work.{AreFirst}
use Rattle.search_layer.proofs.NotFirst.{IsUpTo}
use Rattle.search_layer.proofs.entering.enter_first.Given as goal

abbrev pub invariant-loop-candidate : goal.invariant-loop-candidate
invariant-loop-candidate g l = record {
  states : (all : List (Candidate g.row.S.Denot g.row.L.Denot)) → AreThinned g.S.PartialEq.eq l.fn.visited.states.keys all l.fn.candidates.items → AreFirst g.S.PartialEq.eq l.fn.visited.states.keys all l.firsts
      → l.visited.states.keys ≡ l.fn.visited.states.keys ++ map state_of (newly g.S.PartialEq.eq l.fn.visited.states.keys (take l.at all));
  steps : (all : List (Candidate g.row.S.Denot g.row.L.Denot)) → AreThinned g.S.PartialEq.eq l.fn.visited.states.keys all l.fn.candidates.items → AreFirst g.S.PartialEq.eq l.fn.visited.states.keys all l.firsts
      → l.visited.steps ≡ l.fn.visited.steps ++ map step_of (newly g.S.PartialEq.eq l.fn.visited.states.keys (take l.at all));
  shards : l.visited.states.shards ≡ l.fn.visited.states.shards;
  at : l.at ≡ length l.yielded;
  up : IsUpTo l.firsts l.next l.at;
}
