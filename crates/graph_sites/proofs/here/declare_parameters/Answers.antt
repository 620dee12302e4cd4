use Rattle.std.proofs.Common.{[], ◌∷◌, ap, ◌∙◌}
use Rattle.check_scope.specs.internal.Checking.{view}
use Rattle.check_scope.specs.Names.{declaring}
use Rattle.check_scope.specs.declared.names.Meaning.TheVariants as meaning
use Rattle.graph_sites.proofs.Sites.{parameters-end, parameters-next}
use Rattle.graph_sites.proofs.here.declare_parameters.Goals as goal

pub loop-parameter-preserved : goal.loop-parameter-preserved
loop-parameter-preserved c =
    parameters-next (view c.loop-parameter.scope) (view c.declare.new.self) c.args.parameters.now c.loop-parameter.parameter-index c.parameter-item.result
    c.loop-parameter-test.true c.parameter-item.is
    (c.in_ok-declare.ensures.view ∙ ap (λ e. declaring (view c.loop-parameter.scope) (e ∷ [])) (λ i. (c.as_bytes.ensures i, meaning.Variable (c.resolved-of.ensures i))))
    ∙ c.loop-parameter.invariant

pub returns : goal.returns
returns c = parameters-end (view c.loop-parameter.scope) c.args.parameters.now c.loop-parameter.parameter-index c.loop-parameter-test.false ∙ c.loop-parameter.invariant
