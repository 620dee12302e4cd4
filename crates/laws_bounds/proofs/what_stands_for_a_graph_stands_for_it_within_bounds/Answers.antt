use Rattle.laws_bounds.proofs.Standings.{bounded-stands}
use Rattle.laws_bounds.proofs.what_stands_for_a_graph_stands_for_it_within_bounds.Goals as goal

pub returns : goal.returns
returns g c = bounded-stands
