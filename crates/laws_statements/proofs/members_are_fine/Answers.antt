use Rattle.laws_statements.proofs.Members.{whole_between}
use Rattle.laws_statements.proofs.members_are_fine.Goals as goal

pub returns-clause-scopes : goal.returns-clause-scopes
returns-clause-scopes c at c' is before rest all = whole_between c.args.program.now.definitions c.module.ensures.well_typed at c' is before rest all
