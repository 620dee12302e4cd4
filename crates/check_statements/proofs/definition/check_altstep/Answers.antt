use Rattle.std.proofs.Common.{◌++◌}
use Rattle.std.specs.List.{flat_map}
use Rattle.check_scope.specs.internal.Checking.{least_in}
use Rattle.check_rules.specs.Calls.{component_named}
use Rattle.check_rules.specs.Definitions.{check_component_name, check_parameters, place_in}
use Rattle.check_scope.specs.Scopes.{scope_on}
use Rattle.check_rules.specs.Statements.{branch}
use Rattle.check_rules.specs.declared.returns.Returns.TheVariants as returns
use Rattle.check_statements.proofs.DefinitionForms.{noted-before}
use Rattle.check_statements.proofs.definition.check_altstep.Goals as goal

pub returns-clause-found : goal.returns-clause-found
returns-clause-found c =
    let definitions = c.args.scope.now.definitions.now in
    let altstep = c.args.altstep.now in
    let scope = scope_on definitions (component_named definitions altstep.runs_on) in
    let head = rw (c.as_slice.ensures, c.as_ref-runs_on.ensures.value) at c.in_ok-head.ensures.broken in
    let inside = rw (c.as_slice.ensures, c.as_ref-runs_on.ensures.value) at c.in_ok-head.ensures.view in
    rw (noted-before (least_in c.args.found.now) c.in_ok-head.head (least_in c.note.new.self)
    (check_component_name definitions altstep.runs_on ++ check_parameters scope altstep.parameters)
    (flat_map (λ b. branch b (place_in scope altstep.parameters returns.Nowhere)) altstep.branches) head c.note.ensures)
    at (rw (c.as_slice-2.ensures, inside, c.in_body-inside.ensures.returns, c.in_body-inside.ensures.outside) at c.branches.ensures.found)
