-- The first run that was found to an aim is the least.
use Rattle.std.proofs.Common.{◌≡◌, sym, subst}
use Rattle.std.specs.Prelude.{List, Option}
use Rattle.explore.specs.Sightings.{shown_at_end, shown_by_step}
use Rattle.semantics.specs.Labels.{label_cmp}
use Rattle.semantics.specs.Runs.{graph_of}
use Rattle.semantics.specs.Snapshots.{Test}
use Rattle.semantics.specs.Steps.{Label}
use Rattle.step_labels.specs.Labels.{label_total}
use Rattle.ttcnx.specs.Aims.{IsLeastToAim}
use Rattle.ttcnx.specs.declared.aim.Aim.{Aim}
use Rattle.ttcnx.specs.declared.aim.Aim.TheVariants as aim
use Rattle.ttcnx.specs.internal.Reaches.{reach_by}
use Rattle.ttcnx_runs.proofs.FirstSights.{first-is-least}
use Rattle.ttcnx_runs.proofs.StepPlaces.{least-there}
use Rattle.ttcnx_runs.specs.Aims.{is_at, stands_at}
use Rattle.ttcnx_runs.specs.Sights.{AreBlocks, ArePlaces, block_in, step_place}
use Rattle.ttcnx_runs.specs.declared.sights.Sights.{Sights}
use Rattle.ttcnx_runs.specs.declared.step_place.StepPlace.{StepPlace}

pub reached-is-least : (test : Test) (sights : Sights) (a : Aim)
    → ArePlaces test sights.extent.steps sights.places.items → AreBlocks test sights.extent.steps sights.blocks.items
    → IsLeastToAim test sights.extent.steps a (reach_by sights a)
reached-is-least test sights (aim.Step place) places blocks =
    least-there test sights.extent.steps place (reach_by sights (aim.Step place))
    (first-is-least (graph_of test) label_cmp label_total sights.extent.steps (shown_by_step (graph_of test) (step_place test)) (λ (e : StepPlace). is_at place e.place) sights.places.items places)
reached-is-least test sights (aim.Block place) places blocks =
    first-is-least (graph_of test) label_cmp label_total sights.extent.steps (shown_at_end (graph_of test) (block_in test)) (stands_at place) sights.blocks.items blocks

-- what was found to an aim is the least, of a test case that is this one
pub found-is-least : {test other : Test} (sights : Sights) (a : Aim) {found : Option (List Label)} → test ≡ other → found ≡ reach_by sights a
    → ArePlaces test sights.extent.steps sights.places.items → AreBlocks test sights.extent.steps sights.blocks.items
    → IsLeastToAim other sights.extent.steps a found
found-is-least {test} {other} sights a {found} same is places blocks =
    subst (λ (t : Test). IsLeastToAim t sights.extent.steps a found) same
    (subst (λ (run : Option (List Label)). IsLeastToAim test sights.extent.steps a run) (sym is) (reached-is-least test sights a places blocks))
