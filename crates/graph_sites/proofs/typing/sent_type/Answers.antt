use Rattle.std.proofs.Common.{false, Option, ℕ, ap, sym, ◌∙◌}
use Rattle.check_scope.specs.Typings.{type_known}
use Rattle.check_rules.specs.Messages.{passage_at, passing_at, port_meant, type_by_port}
use Rattle.semantics.specs.Sites.{scope_at}
use Rattle.semantics.specs.Statements.{sent_at}
use Rattle.graph_sites.proofs.Sites.{definitions-at}
use Rattle.graph_sites.proofs.typing.sent_type.Goals as goal

pub returns-in-Some : goal.returns-in-Some
returns-in-Some c =
    let here = c.args.here.now in
    let scope = scope_at here.0 here.1 in
    c.type_of_message.ensures (passage_at scope.definitions false c.in-Some.port).0 (passage_at scope.definitions false c.in-Some.port).1
    (c.type_by_port.ensures ∙ sym (ap (λ d. type_known (type_by_port (passing_at d false c.in-Some.port)).typing) (definitions-at here.0 here.1)))
    ∙ ap (λ (o : Option (Option ℕ)). sent_at scope o c.args.send.now) (sym c.in-Some.is ∙ c.port_meant.ensures ∙ ap port_meant (c.get.ensures ∙ ap scope.names c.as_bytes.ensures))
