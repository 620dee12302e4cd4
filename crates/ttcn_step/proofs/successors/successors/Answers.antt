use Rattle.ttcn_step.proofs.Succeeding.{in-order, successors-labelled, successors-lead}
use Rattle.ttcn_step.specs.Machines.{machine_of}
use Rattle.ttcn_step.proofs.successors.successors.Goals as goal

pub returns-in_ok-labels-in-Going-clause-labels : goal.returns-in_ok-labels-in-Going-clause-labels
returns-in_ok-labels-in-Going-clause-labels c =
    let machine = machine_of c.args.test.now in
    let going = c.in-Going.going in
    let all = c.args.config.now in
    successors-labelled machine going c.in_ok-labels-in-Going.labels.items (in-order machine all going c.in-Going.is c.requires.ordered) c.in_ok-labels-in-Going.ensures
    all c.successors_among.result c.in-Going.is c.successors_among.ensures.pairs

pub returns-in_ok-labels-in-Going-clause-leads : goal.returns-in_ok-labels-in-Going-clause-leads
returns-in_ok-labels-in-Going-clause-leads c =
    let machine = machine_of c.args.test.now in
    let going = c.in-Going.going in
    let all = c.args.config.now in
    successors-lead machine going c.in_ok-labels-in-Going.labels.items (in-order machine all going c.in-Going.is c.requires.ordered) c.in_ok-labels-in-Going.ensures
    all c.successors_among.result c.in-Going.is c.successors_among.ensures.pairs
