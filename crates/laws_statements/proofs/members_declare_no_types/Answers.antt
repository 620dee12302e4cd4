use Rattle.laws_statements.proofs.Members.{types-of-module}
use Rattle.laws_statements.proofs.members_declare_no_types.Goals as goal

pub returns : goal.returns
returns c = types-of-module
