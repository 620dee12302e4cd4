use Rattle.laws_references.proofs.Expressions.{component-gives, referred-gives, referred-is}
use Rattle.laws_references.proofs.references_refer_to_what_is_read.Goals as goal
use Rattle.laws_references.specs.References.{Passes}

pub returns-clause-names : goal.returns-clause-names
returns-clause-names c = λ good reading is reference. referred-gives (Passes good) reading is reference

pub returns-clause-values : goal.returns-clause-values
returns-clause-values c = λ good reading is d. component-gives (Passes good) reading is d

pub returns-clause-components : goal.returns-clause-components
returns-clause-components c = λ good reading is d. referred-is (Passes good) reading is d
