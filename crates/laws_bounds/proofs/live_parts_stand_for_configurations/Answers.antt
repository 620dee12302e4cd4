use Rattle.laws_bounds.proofs.Standings.{live-stands}
use Rattle.laws_bounds.proofs.live_parts_stand_for_configurations.Goals as goal

pub returns : goal.returns
returns c = live-stands
