use Rattle.std.proofs.Common.{◌≡◌, ℕ, ◌≤◌, []}
use Rattle.check_survey.specs.internal.Search.{IsSearched, state_of}
use Rattle.check_survey.specs.declared.search.State.TheVariants.{New}
use Rattle.check_survey.proofs.findings.survey.Given as goal

-- the things before this one are done
abbrev pub invariant-loop-start : goal.invariant-loop-start
invariant-loop-start l = record {
  searched : IsSearched l.things l.search.states.items [];
  path : l.search.path.items ≡ [];
  begun : (i : ℕ) → state_of l.search.states.items i ≡ New → l.start ≤ i;
}
