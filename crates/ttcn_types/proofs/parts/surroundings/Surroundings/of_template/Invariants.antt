use Rattle.std.proofs.Common.{◌≡◌, drop}
use Rattle.ttcn_types.specs.internal.Surrounding.{scope_of}
use Rattle.check_scope.specs.Scopes.{module_scope}
use Rattle.check_rules.specs.Definitions.{with_parameters}
use Rattle.ttcn_types.proofs.parts.surroundings.Surroundings.of_template.Given as goal

-- the scope so far, with the parameters that are left, is that with all of them
abbrev pub invariant-loop-parameter : goal.invariant-loop-parameter
invariant-loop-parameter l =
    with_parameters (scope_of l.around) (drop l.parameter-index l.parameters) ≡ with_parameters (module_scope l.fn.scope.definitions.now) l.fn.parameters
