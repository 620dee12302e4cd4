use Rattle.std.proofs.Common.{List, map, refl}
use Rattle.std.specs.List.{flat_map}
use Rattle.semantics.specs.Places.{place_of, with_place}
use Rattle.step_snapshot.specs.Tests.{legend_by}
use Rattle.config_parts.specs.Legend.{component_by}
use Rattle.config_parts.specs.declared.component.Component.{Component}
use Rattle.step_arrivals.proofs.Listed.{grown}
use Rattle.step_labels.specs.declared.standing.Standing.{Standing}
use Rattle.ttcn_step.proofs.places.standing_in.Goals as goal

pub loop-component-preserved : goal.loop-component-preserved
loop-component-preserved c =
    let legend = legend_by c.args.test.now in
    let told : List Component → List Standing = λ components. flat_map (λ component. with_place component (place_of component)) (map (component_by legend) components) in
    let items = c.as_slice-component-items.result.now in
    let component = component_by legend c.component-item.result in
    grown told items c.loop-component.component-index c.component-item.result
    c.loop-component.found.items c.push_standing.new.found.items (with_place component (place_of component)) (told items)
    c.loop-component-test.true c.component-item.is refl c.in_ok-push_standing.ensures c.loop-component.invariant
