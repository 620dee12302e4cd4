use Rattle.laws_types.proofs.Running.{stays_well_typed}
use Rattle.laws_types.proofs.runs_stay_well_typed.Goals as goal

pub returns : goal.returns
returns c = stays_well_typed
