use Rattle.std.proofs.Common.{[], Some}
use Rattle.check_scope.specs.internal.Checking.{least_in}
use Rattle.check_rules.specs.Calls.{component_named}
use Rattle.check_rules.specs.Definitions.{check_component_name, place_in}
use Rattle.check_scope.specs.Scopes.{scope_on}
use Rattle.check_rules.specs.Statements.{statements}
use Rattle.check_rules.specs.declared.returns.Returns.TheVariants as returns
use Rattle.check_statements.proofs.DefinitionForms.{testcase-noted}
use Rattle.check_statements.proofs.definition.check_testcase.Goals as goal

pub returns-clause-found : goal.returns-clause-found
returns-clause-found c =
    let definitions = c.args.scope.now.definitions.now in
    let testcase = c.args.testcase.now in
    let system = rw c.as_ref.ensures.value at c.check_component_name-system.ensures in
    rw (testcase-noted (least_in c.args.found.now) c.in_ok-head.head c.check_component_name-system.result c.and.result (least_in c.note.new.self)
    (check_component_name definitions (Some testcase.runs_on)) (check_component_name definitions testcase.system)
    (statements testcase.body (place_in (scope_on definitions (component_named definitions (Some testcase.runs_on))) [] returns.Nowhere))
    c.in_ok-head.ensures.broken system c.and.ensures c.note.ensures)
    at (rw (c.as_slice.ensures, c.in_ok-head.ensures.view, c.in_body-inside.ensures.returns, c.in_body-inside.ensures.outside) at c.block.ensures.found)
