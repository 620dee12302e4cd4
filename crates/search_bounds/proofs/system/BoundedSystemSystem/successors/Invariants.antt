use Rattle.std.proofs.Common.{◌≡◌, map, take}
use Rattle.std.specs.List.{filter, list_any}
use Rattle.search_bounds.proofs.Successors.{pair-of}
use Rattle.search_bounds.proofs.system.BoundedSystemSystem.successors.Given as goal
use Rattle.search_bounds.specs.Bounded.{may_take}
use Rattle.search_bounds.specs.KeptRuns.{is_statement}

abbrev pub invariant-seen : goal.invariant-seen
invariant-seen g l = l.statement ≡ list_any (λ pair. is_statement (g.Y.Timed.kind pair.0)) (take l.label-index l.label-items)

abbrev pub invariant-taken : goal.invariant-taken
invariant-taken g l = l.kept.items ≡ map (pair-of g.Y.Timed.kind l.b.left) (filter (λ pair. may_take l.expire (g.Y.Timed.kind pair.0)) l.yielded)
