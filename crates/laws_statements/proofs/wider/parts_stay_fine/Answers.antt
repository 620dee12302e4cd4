use Rattle.laws_statements.proofs.Within.{log-stays, setverdict-stays}
use Rattle.laws_statements.proofs.wider.parts_stay_fine.Goals as goal

pub returns-clause-verdicts : goal.returns-clause-verdicts
returns-clause-verdicts c = setverdict-stays

pub returns-clause-logs : goal.returns-clause-logs
returns-clause-logs c = log-stays
