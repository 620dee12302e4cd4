-- In frames constants stand for their values, since as many links as frames have are enough.
use Rattle.laws_evaluation.proofs.Steps.{frame-constants-stand}
use Rattle.laws_evaluation.proofs.laws.constants_stand_for_their_values.Goals as goal

pub returns-clause-in_frames : goal.returns-clause-in_frames
returns-clause-in_frames c = λ frame is. frame-constants-stand c.args.program.now.definitions c.module.ensures.well_typed frame is
