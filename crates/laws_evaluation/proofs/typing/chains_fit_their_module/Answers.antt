use Rattle.laws_evaluation.proofs.TypedChains.{all-chains-fit, names-fit}
use Rattle.laws_evaluation.proofs.typing.chains_fit_their_module.Goals as goal

pub returns-clause-chains : goal.returns-clause-chains
returns-clause-chains c = all-chains-fit

pub returns-clause-names : goal.returns-clause-names
returns-clause-names c = names-fit
