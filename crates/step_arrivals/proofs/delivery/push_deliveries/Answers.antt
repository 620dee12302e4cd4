use Rattle.std.proofs.Common.{◌++◌, length, refl, ap, ◌∙◌}
use Rattle.semantics.specs.Labels.{delivery}
use Rattle.step_snapshot.specs.Tests.{legend_by, test_by}
use Rattle.config_parts.specs.Legend.{going_by, mapping_by}
use Rattle.config_parts.specs.declared.connection.Links.{Links}
use Rattle.step_arrivals.proofs.Delivering.{deliveries_by, mapped-within}
use Rattle.step_arrivals.proofs.Listed.{grown}
use Rattle.step_arrivals.proofs.delivery.push_deliveries.Goals as goal

pub push_delivery-requires : goal.push_delivery-requires
push_delivery-requires c =
    mapped-within (length c.args.test.now.names) c.as_slice-mapping-items.result.now c.args.going.now.links.mappings c.loop-mapping.mapping-index c.mapping-item.result
    (c.as_slice-mapping-items.ensures ∙ ap (λ (links : Links). links.mappings) c.deref.ensures) c.loop-mapping-test.true c.mapping-item.is c.requires

pub loop-mapping-preserved : goal.loop-mapping-preserved
loop-mapping-preserved c =
    let legend = legend_by c.args.test.now in
    let test = test_by c.args.test.now in
    let going = going_by legend c.args.going.now in
    let items = c.as_slice-mapping-items.result.now in
    grown (deliveries_by legend test going) items c.loop-mapping.mapping-index c.mapping-item.result
    c.loop-mapping.labels.items c.push_delivery.new.labels.items (delivery test going (mapping_by legend c.mapping-item.result)) (c.args.labels.now.items ++ deliveries_by legend test going items)
    c.loop-mapping-test.true c.mapping-item.is refl c.in_ok-push_delivery.ensures c.loop-mapping.invariant
