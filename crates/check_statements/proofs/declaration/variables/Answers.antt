use Rattle.std.proofs.Common.{rules, true, sym}
use Rattle.check_scope.specs.internal.Checking.{view}
use Rattle.check_rules.specs.Declarations.{one_by_one}
use Rattle.check_rules.specs.Targets.{check_type, check_variable, variable_entry}
use Rattle.check_statements.proofs.Declared.{in-both}
use Rattle.check_statements.proofs.declaration.variables.Goals as goal

pub returns : goal.returns
returns c =
    let scope = view c.args.scope.now in
    let given = c.args.variables.now in
    let check = check_variable c.resolved-of.result in
    let entry = variable_entry c.resolved-of.result in
    let declared = rw c.as_slice.ensures at (c.in_ok-declared.ensures check entry (λ before item done after said. search rules)) in
    rw (sym c.resolved-of.ensures) record {
      broken = in-both c.check_type-typed.result c.in_ok-declared.declared c.and.result (check_type scope.names true given.type_name) (one_by_one check entry scope given.variables)
          c.check_type-typed.ensures declared.0 c.and.ensures;
      view = declared.1;
      around = declared.2;
    }
