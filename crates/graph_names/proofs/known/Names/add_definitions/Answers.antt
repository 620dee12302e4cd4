use Rattle.std.proofs.Common.{◌∙◌}
use Rattle.graph_names.specs.internal.Learning.{names_of_definition}
use Rattle.graph_names.proofs.Learned.{all-end, all-next}
use Rattle.graph_names.proofs.known.Names.add_definitions.Goals as goal

pub loop-definition-preserved : goal.loop-definition-preserved
loop-definition-preserved c =
    all-next c.args.definitions.now c.loop-definition.definition-index names_of_definition c.definition-item.result c.loop-definition.self c.add_kind.new.self c.loop-definition-test.true
    c.definition-item.is c.in_ok-add_kind.ensures ∙ c.loop-definition.invariant

pub returns : goal.returns
returns c =
    all-end c.args.definitions.now c.loop-definition.definition-index names_of_definition c.loop-definition.self c.loop-definition-test.false ∙ c.loop-definition.invariant
