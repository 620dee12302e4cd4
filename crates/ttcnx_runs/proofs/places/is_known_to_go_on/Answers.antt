use Rattle.ttcnx_runs.proofs.Recalled.{state-fits}
use Rattle.ttcnx_runs.proofs.places.is_known_to_go_on.Goals as goal

pub surely_goes_on-requires : goal.surely_goes_on-requires
surely_goes_on-requires g c = state-fits g.K.Scheme.machine c.state.inside.packed c.args.state.now c.state.invariant.1 c.state.view_is c.requires
