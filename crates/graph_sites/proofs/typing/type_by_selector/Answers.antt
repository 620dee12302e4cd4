use Rattle.std.proofs.Common.{true, Option, ℕ, ap, sym, ◌∙◌}
use Rattle.check_scope.specs.Typings.{type_known}
use Rattle.check_rules.specs.Messages.{incoming, incoming_at, passing_at, port_meant, type_by_port}
use Rattle.semantics.specs.Sites.{scope_at}
use Rattle.graph_sites.proofs.Sites.{definitions-at}
use Rattle.graph_sites.proofs.typing.type_by_selector.Goals as goal

pub returns-in-Some : goal.returns-in-Some
returns-in-Some c =
    let here = c.args.here.now in
    let scope = scope_at here.0 here.1 in
    c.type_by_port.ensures ∙ sym (ap (λ d. type_known (type_by_port (passing_at d true c.in-Some.port)).typing) (definitions-at here.0 here.1))
    ∙ ap (λ (o : Option (Option ℕ)). type_known (incoming_at scope.definitions o).1.typing)
    (sym c.in-Some.is ∙ c.port_meant.ensures ∙ ap port_meant (c.get.ensures ∙ ap scope.names c.as_bytes.ensures))
    ∙ sym (ap (λ s. type_known (incoming scope s).1.typing) c.in-Named.is)
