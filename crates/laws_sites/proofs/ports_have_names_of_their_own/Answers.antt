use Rattle.laws_sites.proofs.Firsts.{queue-found, queues-differ}
use Rattle.laws_sites.proofs.ports_have_names_of_their_own.Goals as goal

pub returns-clause-names : goal.returns-clause-names
returns-clause-names c = queues-differ

pub returns-clause-found : goal.returns-clause-found
returns-clause-found c = queue-found
