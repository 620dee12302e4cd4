use Rattle.std.proofs.Common.{◌≡◌, ◌++◌, map}
use Rattle.step_acts.specs.internal.Takings.{stored_all}
use Rattle.step_acts.proofs.waiting.store_all.Given as goal
use Rattle.step_choice.specs.Deeds.{stored_by}
use Rattle.step_snapshot.specs.Tests.{extent_of, legend_by, test_by}
use Rattle.config_parts.specs.Legend.{data_by}
use Rattle.config_parts.specs.Views.{IsWithin}
use Rattle.value_types.specs.Outcomes.{Yields}

-- the values so far are stored
abbrev pub invariant-loop-one : goal.invariant-loop-one
invariant-loop-one l = record {
  split : l.fn.stored.items ≡ l.yielded ++ l.one-iterator.rest.items;
  within : IsWithin (extent_of l.test) l.own;
  stored : stored_all (test_by l.test) (map stored_by l.yielded) (data_by (legend_by l.test) l.fn.own) ≡ Yields (data_by (legend_by l.test) l.own);
}
