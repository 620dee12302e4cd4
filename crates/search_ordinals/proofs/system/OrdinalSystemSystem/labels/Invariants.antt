use Rattle.std.proofs.Common.{◌≡◌}
use Rattle.search_ordinals.specs.Ordinals.{ordinals_from}
use Rattle.search_ordinals.proofs.system.OrdinalSystemSystem.labels.Given as goal

abbrev pub invariant-loop-label : goal.invariant-loop-label
invariant-loop-label g l = l.ordinals.items ≡ ordinals_from (g.Y.Located.branch l.self.system.now l.state) 0 l.yielded
