use Rattle.std.proofs.Common.{◌∙◌}
use Rattle.check_scope.proofs.scope.Scope.traffic.Goals as goal

pub returns : goal.returns
returns c = rw c.as_slice.ensures.value at c.traffic_at.ensures ∙ c.args.self.now.are_ports c.args.at
