use Rattle.std.proofs.Common.{[], ◌∷◌}
use Rattle.check_scope.specs.internal.Tables.{said}
use Rattle.ttcn_types.proofs.Surrounded.{declared-in-table, declared-no-constant}
use Rattle.ttcn_types.proofs.parts.surroundings.Surroundings.with_parameter.Goals as goal

pub returns : goal.returns
returns c =
    declared-in-table c.args.self.scope.now.definitions.now c.args.self.parameters c.insert.new.self (_ ∷ [])
    (rw (c.as_bytes.ensures, c.resolved.ensures) at c.in_ok-insert.ensures)

pub invariant_of-result-clause-no_constants : goal.invariant_of-result-clause-no_constants
invariant_of-result-clause-no_constants c = declared-no-constant (said c.args.self.parameters) (said c.insert.new.self) _ _ c.in_ok-insert.ensures c.args.self.no_constants
