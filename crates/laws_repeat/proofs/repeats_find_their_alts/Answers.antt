use Rattle.laws_repeat.proofs.Found.{repeats-found}
use Rattle.laws_repeat.proofs.repeats_find_their_alts.Goals as goal

pub returns : goal.returns
returns c = repeats-found
