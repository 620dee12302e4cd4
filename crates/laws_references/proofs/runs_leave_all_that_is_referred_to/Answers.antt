use Rattle.laws_references.proofs.Runs.{ends-stand, replay_stands}
use Rattle.laws_references.proofs.runs_leave_all_that_is_referred_to.Goals as goal

pub returns-clause-replayed : goal.returns-clause-replayed
returns-clause-replayed c = replay_stands

pub returns-clause-ends : goal.returns-clause-ends
returns-clause-ends c = ends-stand
