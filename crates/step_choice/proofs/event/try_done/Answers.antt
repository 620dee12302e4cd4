use Rattle.semantics.specs.Events.{happened_if}
use Rattle.semantics.specs.Snapshots.{is_terminated_in}
use Rattle.step_choice.proofs.Tried.{failing}
use Rattle.step_snapshot.specs.Seen.{seen_by}
use Rattle.value_types.specs.Frames.{reading}
use Rattle.value_types.specs.Readings.{component_referred}
use Rattle.step_choice.proofs.event.try_done.Goals as goal

pub returns-in-Err : goal.returns-in-Err
returns-in-Err c site =
    let s = c.args.snapshot.now in
    failing s site (λ component. happened_if (is_terminated_in (seen_by s) component.path)) (component_referred (reading c.args.frame.now) c.args.reference.now) c.in-Err.fault c.in-Err.ensures
