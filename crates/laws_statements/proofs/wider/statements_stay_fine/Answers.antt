use Rattle.laws_statements.proofs.WithinActions.{statement-stays-further}
use Rattle.laws_statements.proofs.wider.statements_stay_fine.Goals as goal

pub returns-clause-names : goal.returns-clause-names
returns-clause-names c = statement-stays-further
