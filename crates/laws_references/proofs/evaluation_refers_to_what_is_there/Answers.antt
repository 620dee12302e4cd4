use Rattle.laws_references.proofs.Found.{component-is-there, reading-in-refers, value-is-there}
use Rattle.laws_references.proofs.evaluation_refers_to_what_is_there.Goals as goal

pub returns-clause-readings : goal.returns-clause-readings
returns-clause-readings c = reading-in-refers

pub returns-clause-components : goal.returns-clause-components
returns-clause-components c = component-is-there

pub returns-clause-values : goal.returns-clause-values
returns-clause-values c = value-is-there
