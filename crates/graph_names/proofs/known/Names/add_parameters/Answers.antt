use Rattle.std.proofs.Common.{◌∙◌}
use Rattle.ttcn_syntax.specs.declared.tree.definition.Parameter.{Parameter}
use Rattle.graph_names.proofs.Learned.{each-end, each-next}
use Rattle.graph_names.proofs.known.Names.add_parameters.Goals as goal

pub loop-parameter-preserved : goal.loop-parameter-preserved
loop-parameter-preserved c =
    each-next c.args.parameters.now c.loop-parameter.parameter-index (λ (p : Parameter). p.name) c.parameter-item.result c.loop-parameter.self c.add.new.self c.loop-parameter-test.true c.parameter-item.is c.in_ok-add.ensures
    ∙ c.loop-parameter.invariant

pub returns : goal.returns
returns c = each-end c.args.parameters.now c.loop-parameter.parameter-index (λ (p : Parameter). p.name) c.loop-parameter.self c.loop-parameter-test.false ∙ c.loop-parameter.invariant
