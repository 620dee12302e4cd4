use Rattle.std.proofs.Common.{◌≡◌, take}
use Rattle.std.specs.List.{filter}
use Rattle.search_bounds.proofs.system.BoundedSystemSystem.labels.Given as goal
use Rattle.search_bounds.specs.Bounded.{any_statement, may_take}

abbrev pub invariant-seen : goal.invariant-seen
invariant-seen g l = l.statement ≡ any_statement g.Y.Timed.kind (take l.label-index l.label-items)

abbrev pub invariant-taken : goal.invariant-taken
invariant-taken g l = l.kept.items ≡ filter (λ label. may_take l.expire (g.Y.Timed.kind label)) l.yielded
