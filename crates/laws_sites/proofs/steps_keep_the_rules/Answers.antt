use Rattle.laws_sites.proofs.Runs.{expiry-stands}
use Rattle.laws_sites.proofs.steps_keep_the_rules.Goals as goal

pub returns-clause-expiry : goal.returns-clause-expiry
returns-clause-expiry c = expiry-stands
