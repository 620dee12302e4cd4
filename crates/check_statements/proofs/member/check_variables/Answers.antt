use Rattle.std.proofs.Common.{◌∙◌, rules, true, sym}
use Rattle.check_scope.specs.internal.Checking.{view}
use Rattle.check_rules.specs.Declarations.{one_by_one}
use Rattle.check_rules.specs.Targets.{check_type}
use Rattle.check_rules.specs.Definitions.{check_member_variable, member_variable_entry}
use Rattle.check_statements.proofs.Declared.{in-both}
use Rattle.check_statements.proofs.MemberForms.{behind-member-variables}
use Rattle.check_statements.proofs.member.check_variables.Goals as goal

pub returns : goal.returns
returns c =
    let scope = view c.args.scope.now in
    let of = c.resolved-of.result in
    let check = check_member_variable of in
    let entry = member_variable_entry of in
    let named = c.in_ok-named.ensures check entry (λ before variable done after said. search rules) in
    rw (sym c.resolved-of.ensures) record {
      broken = in-both c.check_type-typed.result c.in_ok-named.named c.and.result (check_type scope.names true c.args.type_name.now) (one_by_one check entry scope c.args.variables.now)
          c.check_type-typed.ensures named.0 c.and.ensures;
      view = named.1 ∙ behind-member-variables of scope c.args.variables.now;
      around = named.2;
    }
