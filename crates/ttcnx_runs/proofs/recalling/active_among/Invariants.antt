use Rattle.std.proofs.Common.{◌≡◌, ◌≤◌, take}
use Rattle.laws_local.specs.Alone.{how_many}
use Rattle.ttcnx_runs.proofs.recalling.active_among.Given as goal
use Rattle.ttcnx_runs.specs.internal.Recalls.{has_steps}

abbrev pub invariant-loop-one : goal.invariant-loop-one
invariant-loop-one g l = record {
  count : l.count ≡ how_many (λ one. has_steps one.now.outcomes.items) (take l.one-index l.all);
  small : l.count ≤ l.one-index;
}
