use Rattle.laws_order.proofs.Families.{new-inserted, new-path}
use Rattle.laws_order.proofs.new_components_have_new_paths.Goals as goal

pub returns-clause-path : goal.returns-clause-path
returns-clause-path c = new-path

pub returns-clause-inserted : goal.returns-clause-inserted
returns-clause-inserted c = new-inserted
