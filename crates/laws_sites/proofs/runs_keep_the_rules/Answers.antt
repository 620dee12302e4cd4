use Rattle.laws_sites.proofs.Runs.{ends-stand}
use Rattle.laws_sites.proofs.runs_keep_the_rules.Goals as goal

pub returns-clause-ends : goal.returns-clause-ends
returns-clause-ends c = ends-stand
