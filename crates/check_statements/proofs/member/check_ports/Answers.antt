use Rattle.std.proofs.Common.{◌∙◌, rules, is_some, sym}
use Rattle.check_scope.specs.internal.Checking.{view}
use Rattle.check_scope.specs.Typings.{unless}
use Rattle.check_scope.specs.declared.rule.Rule.TheVariants as rule
use Rattle.check_rules.specs.Declarations.{one_by_one}
use Rattle.check_rules.specs.Definitions.{check_port_name, port_entry}
use Rattle.check_statements.proofs.Declared.{in-both}
use Rattle.check_statements.proofs.MemberForms.{behind-ports}
use Rattle.check_statements.proofs.member.check_ports.Goals as goal

pub returns : goal.returns
returns c =
    let of = c.port_type_meant-of.result in
    let meant = rw c.as_bytes.ensures at c.get.ensures in
    let named = c.in_ok-named.ensures check_port_name (port_entry of) (λ before name done after said. search rules) in
    rw (sym meant, sym c.port_type_meant-of.ensures) record {
      broken = in-both c.unless-typed.result c.in_ok-named.named c.and.result (unless (is_some of) rule.UnknownName) (one_by_one check_port_name (port_entry of) (view c.args.scope.now) c.args.names.now)
          (rw c.is_some.ensures at c.unless-typed.ensures) named.0 c.and.ensures;
      view = named.1 ∙ behind-ports of (view c.args.scope.now) c.args.names.now;
      around = named.2;
    }
