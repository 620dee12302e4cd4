use Rattle.std.proofs.Common.{ap, sym, ◌∙◌}
use Rattle.check_rules.specs.Expressions.{along, check_meaning}
use Rattle.semantics.specs.Sites.{scope_at}
use Rattle.graph_sites.proofs.Sites.{definitions-at}
use Rattle.graph_sites.proofs.typing.typing_of_reference.Goals as goal

pub returns : goal.returns
returns c =
    let here = c.args.here.now in
    let scope = scope_at here.0 here.1 in
    let fields = c.args.reference.now.fields in
    c.typing_along.ensures ∙ ap (λ names. (along here.0 c.typing_of_meaning-named.result names).typing) c.as_slice.ensures
    ∙ ap (λ t. (along here.0 t fields).typing)
    (c.typing_of_meaning-named.ensures ∙ ap (λ m. (check_meaning here.0 m).typing) (c.get.ensures ∙ ap scope.names c.as_bytes.ensures))
    ∙ sym (ap (λ d. (along d (check_meaning d (scope.names c.args.reference.now.name)).typing fields).typing) (definitions-at here.0 here.1))
