use Rattle.std.proofs.Common.{◌≡◌}
use Rattle.std.specs.List.{filter}
use Rattle.std.specs.Ordering.{is_gt, is_lt}
use Rattle.config_parts.specs.internal.Ends.{connection_cmp}
use Rattle.config_parts.proofs.connect.add.Given as goal

-- those before the new one so far, and those behind it
abbrev pub invariant-loop-connection : goal.invariant-loop-connection
invariant-loop-connection l =
    (l.all.items ≡ filter (λ k. is_lt (connection_cmp k l.new)) l.yielded)
    × (l.behind.items ≡ filter (λ k. is_gt (connection_cmp k l.new)) l.yielded)
