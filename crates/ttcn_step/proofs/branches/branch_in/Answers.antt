use Rattle.std.proofs.Common.{Some, None}
use Rattle.step_snapshot.specs.Tests.{extent_of, legend_by, test_by}
use Rattle.ttcn_step.proofs.Branching.{delivery-takes-none, expiry-takes-none, found-takes, missing-takes-none}
use Rattle.ttcn_step.proofs.Found.{found-within, searched}
use Rattle.ttcn_step.proofs.Steps.{paths-in-order}
use Rattle.ttcn_step.proofs.branches.branch_in.Goals as goal

pub branch_of-requires-clause-ordered : goal.branch_of-requires-clause-ordered
branch_of-requires-clause-ordered c = paths-in-order (legend_by c.args.test.now) c.args.going.now c.requires.ordered.ordered

pub branch_of-requires-clause-within : goal.branch_of-requires-clause-within
branch_of-requires-clause-within c =
    let path = c.in-Statement.path in
    found-within (extent_of c.args.test.now) path.numbers c.args.going.now.components c.in-Some.component.now c.requires.within.components
    (searched path.numbers c.as_slice.result.now c.args.going.now.components c.component_of.result (Some c.in-Some.component) c.component_of.ensures c.as_slice.ensures c.in-Some.is)

pub returns-in-Expiry : goal.returns-in-Expiry
returns-in-Expiry c =
    let t = c.args.test.now in
    expiry-takes-none (legend_by t) (test_by t) c.args.going.now c.args.label.now _ _ _ c.in-Expiry.is

pub returns-in-Delivery : goal.returns-in-Delivery
returns-in-Delivery c =
    let t = c.args.test.now in
    delivery-takes-none (legend_by t) (test_by t) c.args.going.now c.args.label.now _ c.in-Delivery.is

pub returns-in-Some : goal.returns-in-Some
returns-in-Some c =
    let t = c.args.test.now in
    let path = c.in-Statement.path in
    found-takes (legend_by t) (test_by t) c.args.going.now c.args.label.now path c.in-Some.component.now c.branch_of.result c.in-Statement.is
    (searched path.numbers c.as_slice.result.now c.args.going.now.components c.component_of.result (Some c.in-Some.component) c.component_of.ensures c.as_slice.ensures c.in-Some.is)
    c.branch_of.ensures

pub returns-in-None : goal.returns-in-None
returns-in-None c =
    let t = c.args.test.now in
    let path = c.in-Statement.path in
    missing-takes-none (legend_by t) (test_by t) c.args.going.now c.args.label.now path c.in-Statement.is
    (searched path.numbers c.as_slice.result.now c.args.going.now.components c.component_of.result None c.component_of.ensures c.as_slice.ensures c.in-None.is)
