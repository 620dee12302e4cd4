use Rattle.std.proofs.Common.{ap, sym, ◌∙◌}
use Rattle.ttcn_syntax.specs.declared.tree.expression.Expr.TheVariants as expr
use Rattle.check_rules.specs.Expressions.{expression}
use Rattle.check_scope.specs.declared.types.Typing.TheVariants as typing
use Rattle.semantics.specs.Sites.{scope_at}
use Rattle.graph_sites.proofs.Typed.{of-alone, of-chain}
use Rattle.graph_sites.proofs.typing.+typing_of_expr.Goals as goal

pub returns-in-empty : goal.returns-in-empty
returns-in-empty t c free =
    let scope = scope_at c.args.here.now.0 c.args.here.now.1 in
    of-alone scope free c.in-Chain.first c.as_slice.result.now c.typing_of_expr.result c.in-empty.len_below (c.typing_of_expr.ensures free ∙ ap (λ e. (expression e scope free).typing) c.get.ensures)
    ∙ ap (λ links. (expression (expr.Chain c.in-Chain.first links) scope free).typing) c.as_slice.ensures ∙ sym (ap (λ e. (expression e scope free).typing) c.in-Chain.is)

pub returns-in-len1-up : goal.returns-in-len1-up
returns-in-len1-up t c free =
    let scope = scope_at c.args.here.now.0 c.args.here.now.1 in
    ap typing.Known c.result_of.ensures
    ∙ of-chain scope free c.in-Chain.first c.as_slice.result.now c.last-item.result c.in-len1-up.len_at_least c.last-item.is
    ∙ ap (λ links. (expression (expr.Chain c.in-Chain.first links) scope free).typing) c.as_slice.ensures ∙ sym (ap (λ e. (expression e scope free).typing) c.in-Chain.is)
