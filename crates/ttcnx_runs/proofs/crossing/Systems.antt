-- The runs of a test case, as a system, may be shared by threads.
use denote.RattleType.{RattleType}
use denote.Param.Send.{IsSync, recorded_sync, sendable}
use denote.Ref.{NamedLft}
use Rattle.std.proofs.Crossing.{crosses}
use Rattle.ttcnx_runs.specs.contracts.runs.Runs as runs
use Rattle.ttcnx_runs.specs.declared.scheme.Scheme.{Ghosts}
use Rattle.ttcnx_runs.proofs.crossing.Machines.{machine-sync}
use Rattle.ttcnx_runs.proofs.crossing.Memories.{interner-sync, memory-sync}

pub runs-sync : (l m n : NamedLft) (K : RattleType) (g : Ghosts K.Denot) → IsSync (runs.the_field l m n K g).row
runs-sync l m n K g = search (machine-sync, memory-sync, interner-sync, crosses, sendable) depth 60 fits 20000

pub runs-row-sync : (l m n : NamedLft) (K : RattleType) (g : Ghosts K.Denot) → IsSync (runs.the_row l m n K g)
runs-row-sync l m n K g = recorded_sync (runs.the_field l m n K g).row _ _ (runs.the_type l m n K g).to_one (runs-sync l m n K g)
