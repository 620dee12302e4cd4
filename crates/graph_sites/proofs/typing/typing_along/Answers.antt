use Rattle.std.proofs.Common.{◌∙◌}
use Rattle.graph_sites.proofs.Typed.{along-end, along-next}
use Rattle.graph_sites.proofs.typing.typing_along.Goals as goal

pub loop-name-preserved : goal.loop-name-preserved
loop-name-preserved c =
    along-next c.args.here.now.0 c.args.names.now c.loop-name.name-index c.name-item.result c.loop-name.found c.typing_within-found.result c.loop-name-test.true c.name-item.is
    c.typing_within-found.ensures ∙ c.loop-name.invariant

pub returns : goal.returns
returns c = along-end c.args.here.now.0 c.args.names.now c.loop-name.name-index c.loop-name.found c.loop-name-test.false ∙ c.loop-name.invariant
