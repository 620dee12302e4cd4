use Rattle.std.proofs.Common.{Option, Some, None, IfSome}
use Rattle.semantics.specs.Steps.{Delivery, Expiry, statement_step, step_in}
use Rattle.step_snapshot.specs.Tests.{extent_of, legend_by, test_by}
use Rattle.config_parts.specs.Legend.{component_by, going_by}
use Rattle.config_parts.specs.Views.{IsConfigWithin}
use Rattle.config_parts.specs.declared.config.Config.{Config}
use Rattle.config_parts.specs.declared.config.Config.TheVariants as config
use Rattle.ttcn_step.proofs.Following.{fits-behind}
use Rattle.ttcn_step.proofs.Found.{found-within, searched}
use Rattle.ttcn_step.proofs.Stepping.{Stepped, behind-missing, behind-same, behind-statement, ok-both, ok-more}
use Rattle.ttcn_step.proofs.Steps.{paths-in-order}
use Rattle.ttcn_step.specs.Machines.{Fits, machine_of}
use Rattle.step_arrivals.specs.Behind.{IsBehind}
use Rattle.ttcn_step.proofs.step.step.Goals as goal

pub returns-in-None-clause-behind : goal.returns-in-None-clause-behind
returns-in-None-clause-behind c =
    let t = c.args.test.now in
    let path = c.in-Statement.path in
    behind-missing (legend_by t) (test_by t) c.args.going.now c.args.label.now path c.in-Statement.is
    (searched path.numbers c.as_slice.result.now c.args.going.now.components c.component_of.result None c.component_of.ensures c.as_slice.ensures c.in-None.is)

pub statement-requires-clause-ordered : goal.statement-requires-clause-ordered
statement-requires-clause-ordered c = paths-in-order (legend_by c.args.test.now) c.args.going.now c.requires.ordered.ordered

pub statement-requires-clause-within : goal.statement-requires-clause-within
statement-requires-clause-within c =
    let path = c.in-Statement.path in
    found-within (extent_of c.args.test.now) path.numbers c.args.going.now.components c.in-Some.component.now c.requires.within.components
    (searched path.numbers c.as_slice.result.now c.args.going.now.components c.component_of.result (Some c.in-Some.component) c.component_of.ensures c.as_slice.ensures c.in-Some.is)

pub expiry_named-requires-clause-ordered : goal.expiry_named-requires-clause-ordered
expiry_named-requires-clause-ordered c = paths-in-order (legend_by c.args.test.now) c.args.going.now c.requires.ordered.ordered

pub returns-in-Some-clause-behind : goal.returns-in-Some-clause-behind
returns-in-Some-clause-behind c =
    let t = c.args.test.now in
    let legend = legend_by t in
    let going = c.args.going.now in
    let path = c.in-Statement.path in
    let x = c.in-Some.component.now in
    ok-more (IsBehind legend (statement_step (test_by t) (going_by legend going) (component_by legend x))) (Stepped legend (test_by t) going c.args.label.now) c.statement.result
    (behind-statement legend (test_by t) going c.args.label.now path x c.in-Statement.is
    (searched path.numbers c.as_slice.result.now going.components c.component_of.result (Some c.in-Some.component) c.component_of.ensures c.as_slice.ensures c.in-Some.is))
    c.statement.ensures.behind

pub returns-in-Some-clause-fits : goal.returns-in-Some-clause-fits
returns-in-Some-clause-fits c =
    let t = c.args.test.now in
    ok-both (Stepped (legend_by t) (test_by t) c.args.going.now c.args.label.now) (λ (after : Option Config). IfSome after (IsConfigWithin (extent_of t))) (λ (after : Option Config). IfSome after (Fits (machine_of t))) c.statement.result
    (λ after. fits-behind (machine_of t) (config.Going c.args.going.now) c.args.label.now after c.requires)
    (returns-in-Some-clause-behind c) c.statement.ensures.within

pub returns-in-Expiry-clause-behind : goal.returns-in-Expiry-clause-behind
returns-in-Expiry-clause-behind c =
    let t = c.args.test.now in
    let legend = legend_by t in
    let going = c.args.going.now in
    let expiry = Expiry c.in-Expiry.component c.in-Expiry.frame c.in-Expiry.timer in
    ok-more (IsBehind legend (step_in (test_by t) (going_by legend going) expiry)) (Stepped legend (test_by t) going c.args.label.now) c.expiry_named.result
    (behind-same legend (test_by t) going c.args.label.now expiry c.in-Expiry.is)
    c.expiry_named.ensures.behind

pub returns-in-Expiry-clause-fits : goal.returns-in-Expiry-clause-fits
returns-in-Expiry-clause-fits c =
    let t = c.args.test.now in
    ok-both (Stepped (legend_by t) (test_by t) c.args.going.now c.args.label.now) (λ (after : Option Config). IfSome after (IsConfigWithin (extent_of t))) (λ (after : Option Config). IfSome after (Fits (machine_of t))) c.expiry_named.result
    (λ after. fits-behind (machine_of t) (config.Going c.args.going.now) c.args.label.now after c.requires)
    (returns-in-Expiry-clause-behind c) c.expiry_named.ensures.within

pub delivery_named-requires-clause-ordered : goal.delivery_named-requires-clause-ordered
delivery_named-requires-clause-ordered c = paths-in-order (legend_by c.args.test.now) c.args.going.now c.requires.ordered.ordered

pub returns-in-Delivery-clause-behind : goal.returns-in-Delivery-clause-behind
returns-in-Delivery-clause-behind c =
    let t = c.args.test.now in
    let legend = legend_by t in
    let going = c.args.going.now in
    let delivery = Delivery c.in-Delivery.system_port in
    ok-more (IsBehind legend (step_in (test_by t) (going_by legend going) delivery)) (Stepped legend (test_by t) going c.args.label.now) c.delivery_named.result
    (behind-same legend (test_by t) going c.args.label.now delivery c.in-Delivery.is)
    c.delivery_named.ensures.behind

pub returns-in-Delivery-clause-fits : goal.returns-in-Delivery-clause-fits
returns-in-Delivery-clause-fits c =
    let t = c.args.test.now in
    ok-both (Stepped (legend_by t) (test_by t) c.args.going.now c.args.label.now) (λ (after : Option Config). IfSome after (IsConfigWithin (extent_of t))) (λ (after : Option Config). IfSome after (Fits (machine_of t))) c.delivery_named.result
    (λ after. fits-behind (machine_of t) (config.Going c.args.going.now) c.args.label.now after c.requires)
    (returns-in-Delivery-clause-behind c) c.delivery_named.ensures.within
