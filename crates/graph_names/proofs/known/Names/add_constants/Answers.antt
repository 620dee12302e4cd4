use Rattle.std.proofs.Common.{◌∙◌}
use Rattle.ttcn_syntax.specs.declared.tree.statement.Constant.{Constant}
use Rattle.graph_names.proofs.Learned.{each-end, each-next}
use Rattle.graph_names.proofs.known.Names.add_constants.Goals as goal

pub loop-constant-preserved : goal.loop-constant-preserved
loop-constant-preserved c =
    each-next c.args.constants.now c.loop-constant.constant-index (λ (c : Constant). c.name) c.constant-item.result c.loop-constant.self c.add.new.self c.loop-constant-test.true c.constant-item.is c.in_ok-add.ensures
    ∙ c.loop-constant.invariant

pub returns : goal.returns
returns c = each-end c.args.constants.now c.loop-constant.constant-index (λ (c : Constant). c.name) c.loop-constant.self c.loop-constant-test.false ∙ c.loop-constant.invariant
