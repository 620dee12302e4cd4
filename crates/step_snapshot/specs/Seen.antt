-- What snapshots of code stand for among those of the rules.
use Rattle.semantics.specs.Configurations as rules
use Rattle.semantics.specs.Snapshots as snapshots
use Rattle.step_snapshot.specs.Tests.{legend_by}
use Rattle.step_snapshot.specs.declared.snapshot.Snapshot.{Snapshot}
use Rattle.config_parts.specs.Legend.{component_by, data_by, going_by}

-- what the component sees
abbrev pub seen_by : Snapshot → snapshots.Snapshot
seen_by s = snapshots.snapshot_of (going_by (legend_by s.test.now) s.going.now) (component_by (legend_by s.test.now) s.component.now)

-- the component's own data
abbrev pub own_by : Snapshot → rules.Data
own_by s = data_by (legend_by s.test.now) s.component.now.own
