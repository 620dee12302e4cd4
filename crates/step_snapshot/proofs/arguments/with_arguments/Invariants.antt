use Rattle.std.proofs.Common.{◌≡◌, ◌++◌, drop, length, vec_len}
use Rattle.std.specs.List.{zip}
use Rattle.semantics.specs.Branches.{with_arguments}
use Rattle.semantics.specs.Snapshots.{view_of_arguments}
use Rattle.step_snapshot.proofs.arguments.with_arguments.Given as goal
use Rattle.step_snapshot.specs.Tests.{legend_by}
use Rattle.config_parts.specs.Views.{HasSlotsWithin, view_by}

-- the values that were taken so far go to their parameters, and those that are left stand before them
abbrev pub invariant-loop-value : goal.invariant-loop-value
invariant-loop-value l = record {
  within : HasSlotsWithin (length l.test.names) l.cells;
  said : view_by (legend_by l.test) l.cells ≡ view_of_arguments (with_arguments (zip (drop (length l.values.items) l.parameters) (drop (length l.values.items) l.fn.values)));
  whole : l.values.items ++ drop (length l.values.items) l.fn.values ≡ l.fn.values;
}

abbrev pub decreases-loop-value : goal.decreases-loop-value
decreases-loop-value l = vec_len l.values
