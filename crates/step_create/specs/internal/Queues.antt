-- The ports of components that code makes, among those of the rules.
use Rattle.std.specs.Prelude.{ℕ, List, [], map}
use Rattle.semantics.specs.Configurations as rules
use Rattle.step_snapshot.specs.Tests.{legend_by}
use Rattle.step_snapshot.specs.declared.test_case.TestCase.{TestCase}
use Rattle.config_parts.specs.Legend.{queue_by}
use Rattle.config_parts.specs.declared.component.Queue.{Queue}

-- a port at which no message waits
abbrev pub no_messages : List ℕ → rules.Queue
no_messages name = (name, [])

-- the queues, with the names of their ports
abbrev pub queues_for : TestCase → List Queue → List rules.Queue
queues_for t queues = map (queue_by (legend_by t)) queues
