use Rattle.std.proofs.Common.{◌≡◌, ◌++◌, drop, map}
use Rattle.std.specs.List.{flat_map}
use Rattle.semantics.specs.Places.{place_of, with_place}
use Rattle.step_snapshot.specs.Tests.{legend_by}
use Rattle.config_parts.specs.Legend.{component_by}
use Rattle.ttcn_step.proofs.places.standing_in.Given as goal

-- those so far, before the components to come
abbrev pub invariant-loop-component : goal.invariant-loop-component
invariant-loop-component l =
    l.found.items ++ flat_map (λ component. with_place component (place_of component)) (map (component_by (legend_by l.test)) (drop l.component-index l.component-items))
    ≡ flat_map (λ component. with_place component (place_of component)) (map (component_by (legend_by l.test)) l.component-items)
