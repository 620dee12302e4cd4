use Rattle.std.proofs.Common.{◌≡◌, ◌++◌, drop}
use Rattle.step_snapshot.specs.Tests.{legend_by, test_by}
use Rattle.config_parts.specs.Legend.{going_by}
use Rattle.step_arrivals.proofs.Delivering.{deliveries_by}
use Rattle.step_arrivals.proofs.delivery.push_deliveries.Given as goal

-- the labels so far, before those of the mappings to come
abbrev pub invariant-loop-mapping : goal.invariant-loop-mapping
invariant-loop-mapping l =
    l.labels.items ++ deliveries_by (legend_by l.test) (test_by l.test) (going_by (legend_by l.test) l.going) (drop l.mapping-index l.mapping-items)
    ≡ l.initial.labels.items ++ deliveries_by (legend_by l.test) (test_by l.test) (going_by (legend_by l.test) l.going) l.mapping-items
