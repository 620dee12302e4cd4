use Rattle.laws_references.proofs.Expressions.{expression-gives}
use Rattle.laws_references.proofs.Literals.{value-gives}
use Rattle.laws_references.proofs.Templates.{arguments-give}
use Rattle.laws_references.proofs.values_refer_to_what_is_read.Goals as goal
use Rattle.laws_references.specs.References.{Passes}

pub returns-clause-expressions : goal.returns-clause-expressions
returns-clause-expressions c = λ good reading is e. expression-gives (Passes good) e reading is

pub returns-clause-wanted : goal.returns-clause-wanted
returns-clause-wanted c = λ good reading is v wanted. value-gives (Passes good) v reading is wanted

pub returns-clause-arguments : goal.returns-clause-arguments
returns-clause-arguments c = λ good reading is parameters given. arguments-give (Passes good) reading is parameters given
