use Rattle.std.proofs.Common.{◌≢◌}
use Rattle.check_survey.specs.internal.Search.{IsSearched, StayBegun, left, state_of}
use Rattle.check_survey.specs.declared.search.State.TheVariants.{New}
use Rattle.check_survey.proofs.search.Search.visit.Given as goal

-- the first thing is begun, and what was begun before
abbrev pub invariant-loop-step : goal.invariant-loop-step
invariant-loop-step l = record {
  searched : IsSearched l.things l.self.states.items l.self.path.items;
  start : state_of l.self.states.items l.start ≢ New;
  begun : StayBegun l.fn.self.states.items l.self.states.items;
}

abbrev pub decreases-loop-step : goal.decreases-loop-step
decreases-loop-step l = left l.things l.self.states.items l.self.path.items
