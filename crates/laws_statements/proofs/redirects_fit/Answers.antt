use Rattle.laws_statements.proofs.Redirecting.{redirects_fit}
use Rattle.laws_statements.proofs.redirects_fit.Goals as goal

pub returns : goal.returns
returns c = redirects_fit
