use Rattle.laws_references.proofs.Chains.{chains-refer}
use Rattle.laws_references.proofs.chains_refer_to_what_is_read.Goals as goal
use Rattle.laws_references.specs.References.{Passes}

pub returns : goal.returns
returns c = λ good n facts is. chains-refer (Passes good) n facts is
