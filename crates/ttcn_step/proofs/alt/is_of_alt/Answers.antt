use Rattle.std.proofs.Common.{Some, None}
use Rattle.step_snapshot.specs.Tests.{legend_by, test_by}
use Rattle.ttcn_step.proofs.AtAlt.{delivery-not, expiry-not, found-of, missing-not}
use Rattle.ttcn_step.proofs.Found.{searched}
use Rattle.ttcn_step.proofs.alt.is_of_alt.Goals as goal

pub returns-in-Expiry : goal.returns-in-Expiry
returns-in-Expiry c =
    let t = c.args.test.now in
    expiry-not (legend_by t) (test_by t) c.args.going.now c.args.label.now _ _ _ c.in-Expiry.is

pub returns-in-Delivery : goal.returns-in-Delivery
returns-in-Delivery c =
    let t = c.args.test.now in
    delivery-not (legend_by t) (test_by t) c.args.going.now c.args.label.now _ c.in-Delivery.is

pub returns-in-Some : goal.returns-in-Some
returns-in-Some c =
    let t = c.args.test.now in
    let path = c.in-Statement.path in
    found-of (legend_by t) (test_by t) c.args.going.now c.args.label.now path c.in-Some.component.now c.stands_at_alt.result c.in-Statement.is
    (searched path.numbers c.as_slice.result.now c.args.going.now.components c.component_of.result (Some c.in-Some.component) c.component_of.ensures c.as_slice.ensures c.in-Some.is)
    c.stands_at_alt.ensures

pub returns-in-None : goal.returns-in-None
returns-in-None c =
    let t = c.args.test.now in
    let path = c.in-Statement.path in
    missing-not (legend_by t) (test_by t) c.args.going.now c.args.label.now path c.in-Statement.is
    (searched path.numbers c.as_slice.result.now c.args.going.now.components c.component_of.result None c.component_of.ensures c.as_slice.ensures c.in-None.is)
