-- Fixed lists and the names of slots cross threads.
use denote.RattleType.{RattleType}
use denote.Param.Send.{IsSync, sendable}
use Rattle.std.proofs.Crossing.{crosses}
use Rattle.graph_numbers.specs.contracts.names.Names as names
use Rattle.graph_numbers.specs.contracts.fixed.Fixed as fixed
use Rattle.ttcnx_runs.proofs.crossing.Trees.{name-sync}

pub slot-names-sync : IsSync names.the_field.row
slot-names-sync = search (name-sync, crosses, sendable) depth 60 fits 20000

pub fixed-sync : (T : RattleType) → IsSync T → IsSync (fixed.the_field T).row
fixed-sync T s = search (crosses, sendable) depth 60 fits 20000
