use Rattle.laws_references.proofs.Stays.{asked-stays, next-stays, snapshot-stays}
use Rattle.laws_references.proofs.components_stay.Goals as goal

pub returns-clause-asked : goal.returns-clause-asked
returns-clause-asked c = asked-stays

pub returns-clause-next : goal.returns-clause-next
returns-clause-next c = next-stays

pub returns-clause-snapshots : goal.returns-clause-snapshots
returns-clause-snapshots c = snapshot-stays
