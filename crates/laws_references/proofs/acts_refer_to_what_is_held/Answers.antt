use Rattle.laws_references.proofs.Asked.{act-refers, asked-refers}
use Rattle.laws_references.proofs.acts_refer_to_what_is_held.Goals as goal
use Rattle.laws_references.specs.References.{Passes}
use Rattle.semantics.specs.Statements.{act}

pub returns : goal.returns
returns c = λ good test snapshot own itself mtc fronts is. act-refers (Passes good) test.definitions snapshot.itself own.children (act test snapshot own) (asked-refers (Passes good) test snapshot own itself mtc fronts is)
