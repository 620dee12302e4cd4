-- In frames templates stand for their bodies, since as many links as frames have are enough.
use Rattle.laws_evaluation.proofs.Steps.{frame-templates-stand}
use Rattle.laws_evaluation.proofs.laws.templates_stand_for_their_bodies.Goals as goal

pub returns-clause-in_frames : goal.returns-clause-in_frames
returns-clause-in_frames c = λ frame is. frame-templates-stand c.args.program.now.definitions c.module.ensures.well_typed frame is
