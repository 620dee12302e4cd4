use Rattle.ttcn_step.proofs.Told.{maker-found, maker-within}
use Rattle.ttcn_step.proofs.telling.maker.Goals as goal

pub returns-in-Statement-clause-found : goal.returns-in-Statement-clause-found
returns-in-Statement-clause-found c legend =
    maker-found legend c.args.going.now c.args.label.now c.in-Statement.path c.as_slice.result.now c.component_of.result c.in-Statement.is c.component_of.ensures c.as_slice.ensures

pub returns-in-Statement-clause-within : goal.returns-in-Statement-clause-within
returns-in-Statement-clause-within c size within =
    maker-within size c.in-Statement.path.numbers c.as_slice.result.now c.args.going.now.components c.component_of.result within.components c.component_of.ensures c.as_slice.ensures
