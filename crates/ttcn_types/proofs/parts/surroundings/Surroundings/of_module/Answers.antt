use Rattle.check_scope.specs.internal.Tables.{said}
use Rattle.ttcn_types.proofs.Surrounded.{module-by-table, none-constant}
use Rattle.ttcn_types.proofs.parts.surroundings.Surroundings.of_module.Goals as goal

pub returns : goal.returns
returns c = module-by-table c.args.scope.now.definitions.now c.new.result c.new.ensures

pub invariant_of-result-clause-no_constants : goal.invariant_of-result-clause-no_constants
invariant_of-result-clause-no_constants c = none-constant (said c.new.result) c.new.ensures
