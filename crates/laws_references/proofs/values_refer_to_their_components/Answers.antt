use Rattle.laws_references.proofs.Forms.{of-boolean, of_component, of-default, of-enumerated, of-integer, of-null, of-omit, of-record}
use Rattle.laws_references.proofs.values_refer_to_their_components.Goals as goal

pub returns-clause-component : goal.returns-clause-component
returns-clause-component c = of_component

pub returns-clause-record : goal.returns-clause-record
returns-clause-record c = of-record

pub returns-clause-null : goal.returns-clause-null
returns-clause-null c = of-null

pub returns-clause-omit : goal.returns-clause-omit
returns-clause-omit c = of-omit

pub returns-clause-integer : goal.returns-clause-integer
returns-clause-integer c = of-integer

pub returns-clause-boolean : goal.returns-clause-boolean
returns-clause-boolean c = of-boolean

pub returns-clause-enumerated : goal.returns-clause-enumerated
returns-clause-enumerated c = of-enumerated

pub returns-clause-default : goal.returns-clause-default
returns-clause-default c = of-default
