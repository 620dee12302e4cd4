use Rattle.check_scope.specs.internal.Checking.{least_in}
use Rattle.check_rules.specs.Calls.{component_named}
use Rattle.check_rules.specs.Definitions.{check_component_name, check_result, check_parameters, place_in, returns_of}
use Rattle.check_scope.specs.Scopes.{scope_on}
use Rattle.check_rules.specs.Statements.{statements}
use Rattle.check_statements.proofs.DefinitionForms.{function-noted}
use Rattle.check_statements.proofs.definition.check_function.Goals as goal

pub returns-clause-found : goal.returns-clause-found
returns-clause-found c =
    let definitions = c.args.scope.now.definitions.now in
    let function = c.args.function.now in
    let scope = scope_on definitions (component_named definitions function.runs_on) in
    let head = rw (c.as_slice.ensures, c.as_ref-runs_on.ensures.value) at c.in_ok-head.ensures.broken in
    let inside = rw (c.as_slice.ensures, c.as_ref-runs_on.ensures.value) at c.in_ok-head.ensures.view in
    let result = rw c.as_ref.ensures.value at c.check_result-result.ensures in
    let returns = rw c.as_ref-2.ensures.value at c.returns_of-returns.ensures in
    rw (function-noted (least_in c.args.found.now) c.in_ok-head.head c.check_result-result.result c.and.result (least_in c.note.new.self)
    (check_component_name definitions function.runs_on) (check_parameters scope function.parameters) (check_result definitions function.returns)
    (statements function.body (place_in scope function.parameters (returns_of definitions function.returns)))
    head result c.and.ensures c.note.ensures)
    at (rw (c.as_slice-2.ensures, inside, c.in_body-inside.ensures.returns, c.in_body-inside.ensures.outside, returns) at c.block.ensures.found)
