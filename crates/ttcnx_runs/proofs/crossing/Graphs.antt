-- Graphs may be shared by threads.
use denote.Param.Send.{IsSync, sendable}
use denote.Ref.{NamedLft}
use Rattle.std.proofs.Crossing.{crosses}
use Rattle.std.proofs.MapsCrossing as maps
use Rattle.ttcnx_runs.proofs.crossing.Interned.{fixed-sync}
use Rattle.ttcnx_runs.proofs.crossing.Trees.{definition-sync, name-sync, seq-sync, statement-sync}
use Rattle.graph_items.specs.contracts.declared.Declared as declared
use Rattle.graph_items.specs.contracts.item.Item as item
use Rattle.graph_items.specs.contracts.item.Target as target
use Rattle.graph_items.specs.contracts.referred.Referred as referred
use Rattle.graph_sites.specs.contracts.facts.EventFacts as event_facts
use Rattle.graph_sites.specs.contracts.facts.Facts as facts
use Rattle.graph_names.specs.contracts.known.Names as known
use Rattle.ttcn_graph.specs.contracts.cells.FixedCells as cells
use Rattle.ttcn_graph.specs.contracts.drawn.Drawn as drawn
use Rattle.ttcn_graph.specs.contracts.graphs.Graphs as graphs

referred-sync : (l : NamedLft) → IsSync (referred.the_field l).row
referred-sync l = search (name-sync, crosses, sendable) depth 60 fits 20000

target-sync : (l : NamedLft) → IsSync (target.the_field l).row
target-sync l = search (referred-sync, crosses, sendable) depth 60 fits 20000

item-sync : (l : NamedLft) → IsSync (item.the_field l).row
item-sync l = search (target-sync, statement-sync, crosses, sendable) depth 60 fits 20000

declared-sync : (l : NamedLft) → IsSync (declared.the_field l).row
declared-sync l = search (name-sync, crosses, sendable) depth 60 fits 20000

event_facts-sync : (l : NamedLft) → IsSync (event_facts.the_field l).row
event_facts-sync l = search (target-sync, crosses, sendable) depth 60 fits 20000

facts-sync : (l : NamedLft) → IsSync (facts.the_field l).row
facts-sync l = search (event_facts-sync, target-sync, seq-sync, crosses, sendable) depth 60 fits 20000

cells-sync : (l : NamedLft) → IsSync (cells.the_field l).row
cells-sync l = search (facts-sync, fixed-sync, item-sync, declared-sync, crosses, sendable) depth 60 fits 20000

drawn-sync : (l : NamedLft) → IsSync (drawn.the_field l).row
drawn-sync l = search (definition-sync, cells-sync, seq-sync, crosses, sendable) depth 60 fits 20000

known-sync : (l : NamedLft) → IsSync (known.the_field l).row
known-sync l = search (name-sync, maps.crosses, crosses, sendable) depth 60 fits 20000

pub graphs-sync : (l : NamedLft) → IsSync (graphs.the_field l).row
graphs-sync l = search (drawn-sync, known-sync, event_facts-sync, seq-sync, crosses, sendable) depth 60 fits 20000
