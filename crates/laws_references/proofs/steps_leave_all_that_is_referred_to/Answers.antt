use Rattle.laws_references.proofs.Runs.{apply_stands, expiry-stands, next_stands, snapshot-refers}
use Rattle.laws_references.proofs.steps_leave_all_that_is_referred_to.Goals as goal

pub returns-clause-snapshot : goal.returns-clause-snapshot
returns-clause-snapshot c = snapshot-refers

pub returns-clause-asked : goal.returns-clause-asked
returns-clause-asked c = apply_stands

pub returns-clause-expiry : goal.returns-clause-expiry
returns-clause-expiry c = expiry-stands

pub returns-clause-next : goal.returns-clause-next
returns-clause-next c = next_stands
