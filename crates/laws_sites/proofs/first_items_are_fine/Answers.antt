use Rattle.laws_sites.proofs.Firsts.{part-fine, whole-fine}
use Rattle.laws_sites.proofs.first_items_are_fine.Goals as goal

pub returns-clause-item : goal.returns-clause-item
returns-clause-item c = part-fine

pub returns-clause-parts : goal.returns-clause-parts
returns-clause-parts c = whole-fine
