use Rattle.check_scope.specs.internal.Checking.{least_in, view}
use Rattle.ttcn_types.proofs.LeastWhere.{found-broken}
use Rattle.ttcn_types.proofs.checker.least_broken.Goals as goal

pub returns : goal.returns
returns c =
    found-broken c.args.definitions.now (view c.in_ok-scope.scope) (least_in c.in_ok-check_surveys.field-0) (least_in c.new.new.found) (least_in c.and-found.result) (least_in c.check_definitions.new.found)
    c.in_ok-scope.ensures.view c.in_ok-scope.ensures.rules c.in_ok-check_surveys.ensures c.and-found.ensures c.in_ok-check_definitions.ensures
