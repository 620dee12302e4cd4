use Rattle.laws_references.proofs.Sending.{sent-gives, specific-gives}
use Rattle.laws_references.proofs.Templates.{template-gives}
use Rattle.laws_references.proofs.templates_refer_to_what_is_read.Goals as goal
use Rattle.laws_references.specs.References.{Passes}

pub returns-clause-templates : goal.returns-clause-templates
returns-clause-templates c = λ good reading is t wanted. template-gives (Passes good) t reading is wanted

pub returns-clause-specific : goal.returns-clause-specific
returns-clause-specific c = λ good t is. specific-gives (Passes good) t is

pub returns-clause-sent : goal.returns-clause-sent
returns-clause-sent c = λ good reading is t wanted. sent-gives (Passes good) t reading is wanted
