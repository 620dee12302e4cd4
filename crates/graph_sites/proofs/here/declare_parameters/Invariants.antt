use Rattle.std.proofs.Common.{◌≡◌, drop}
use Rattle.check_scope.specs.internal.Checking.{view}
use Rattle.check_rules.specs.Definitions.{with_parameters}
use Rattle.graph_sites.proofs.here.declare_parameters.Given as goal

abbrev pub invariant-loop-parameter : goal.invariant-loop-parameter
invariant-loop-parameter l = with_parameters (view l.scope) (drop l.parameter-index l.parameters) ≡ with_parameters (view l.initial.scope) l.parameters
