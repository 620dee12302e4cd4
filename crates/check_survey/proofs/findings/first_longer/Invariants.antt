use Rattle.std.proofs.Common.{ℕ, ◌<◌, ◌≤◌, get_or}
use Rattle.check_survey.specs.internal.Search.{size_of}
use Rattle.check_survey.specs.declared.search.State.{State}
use Rattle.check_survey.proofs.findings.first_longer.Given as goal

abbrev pub invariant-loop-thing : goal.invariant-loop-thing
invariant-loop-thing l = (k : ℕ) (d : State) → k < l.thing → (size_of (get_or l.states k d)).chain ≤ l.longest
