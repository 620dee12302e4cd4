use Rattle.laws_references.proofs.Found.{asked-is-there, peers-are-there, start-is-met}
use Rattle.laws_references.proofs.what_is_asked_for_is_found.Goals as goal

pub returns-clause-asked : goal.returns-clause-asked
returns-clause-asked c = asked-is-there

pub returns-clause-starts : goal.returns-clause-starts
returns-clause-starts c = start-is-met

pub returns-clause-peers : goal.returns-clause-peers
returns-clause-peers c = peers-are-there
