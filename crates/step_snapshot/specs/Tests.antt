-- What test cases and snapshots of code stand for among those of the rules.
use Rattle.std.specs.Prelude.{length}
use Rattle.semantics.specs.Snapshots as snapshots
use Rattle.step_snapshot.specs.declared.test_case.TestCase.{TestCase}
use Rattle.config_parts.specs.Legend.{Legend}
use Rattle.config_parts.specs.Names.{legend_of}
use Rattle.config_parts.specs.Views.{Extent}

-- the test case
abbrev pub test_by : TestCase → snapshots.Test
test_by t = record { definitions = t.definitions; testcase = t.position; script = t.script.now }

-- the lists of its positions, and the names of its slots
abbrev pub legend_by : TestCase → Legend
legend_by t = legend_of t.graphs.lists t.names

-- how many lists have positions, and how many names have slots
abbrev pub extent_of : TestCase → Extent
extent_of t = record { lists = length t.graphs.lists; names = length t.names }
