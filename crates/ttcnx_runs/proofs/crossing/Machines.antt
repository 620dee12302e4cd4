-- Machines may be shared by threads.
use denote.Param.Send.{IsSync, sendable}
use denote.Ref.{NamedLft}
use Rattle.std.proofs.Crossing.{crosses}
use Rattle.ttcnx_runs.proofs.crossing.Graphs.{graphs-sync}
use Rattle.ttcnx_runs.proofs.crossing.Interned.{slot-names-sync}
use Rattle.ttcnx_runs.proofs.crossing.Scopes.{table-sync}
use Rattle.ttcnx_runs.proofs.crossing.States.{cells-sync, id-sync, messages-sync}
use Rattle.ttcnx_runs.proofs.crossing.Trees.{definition-sync, name-sync}
use Rattle.step_snapshot.specs.contracts.test_case.TestCase as test_case
use Rattle.ttcn_step.specs.contracts.machine.Machine as machine
use Rattle.check_rules.specs.contracts.definition_table.Definitions as definitions

definitions-sync : (l : NamedLft) → IsSync (definitions.the_field l).row
definitions-sync l = search (definition-sync, table-sync, crosses, sendable) depth 60 fits 20000

test_case-sync : (l : NamedLft) → IsSync (test_case.the_field l).row
test_case-sync l = search (definitions-sync, graphs-sync, slot-names-sync, id-sync, cells-sync, name-sync, messages-sync, crosses, sendable) depth 60 fits 20000

pub machine-sync : (l : NamedLft) → IsSync (machine.the_field l).row
machine-sync l = search (test_case-sync, crosses, sendable) depth 60 fits 20000
