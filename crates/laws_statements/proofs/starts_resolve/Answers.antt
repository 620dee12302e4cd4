use Rattle.laws_statements.proofs.Resolving.{started}
use Rattle.laws_statements.proofs.starts_resolve.Goals as goal

pub returns : goal.returns
returns c = started
