use Rattle.ttcn_types.proofs.Surrounded.{module-numbered}
use Rattle.ttcn_types.proofs.parts.surroundings.Surroundings.get.Goals as goal

pub returns-clause-has_number : goal.returns-clause-has_number
returns-clause-has_number c = module-numbered c.args.self.now.scope.now.definitions.now c.args.name.now c.in_module.result c.in_module.ensures
