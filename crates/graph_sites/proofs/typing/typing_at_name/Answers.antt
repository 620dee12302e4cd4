use Rattle.std.proofs.Common.{ap, sym, ◌∙◌}
use Rattle.check_rules.specs.Calls.{template_type}
use Rattle.check_rules.specs.Templates.{typing_at_name}
use Rattle.check_scope.specs.Names.{kind_at}
use Rattle.check_scope.specs.Typings.{typed}
use Rattle.semantics.specs.Sites.{scope_at}
use Rattle.graph_sites.proofs.Sites.{definitions-at}
use Rattle.graph_sites.proofs.typing.typing_at_name.Goals as goal

pub returns-in-Some : goal.returns-in-Some
returns-in-Some c =
    let here = c.args.here.now in
    c.of.ensures ∙ ap typed c.type_of_template.ensures ∙ sym (ap (λ d. typed (template_type d (kind_at d c.in-Some.at))) (definitions-at here.0 here.1))
    ∙ sym (ap (typing_at_name (scope_at here.0 here.1) c.args.expr.now) c.in-Some.is)
