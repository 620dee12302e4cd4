use Rattle.std.proofs.Common.{◌∙◌}
use Rattle.ttcn_syntax.specs.declared.tree.definition.MemberVariable.{MemberVariable}
use Rattle.graph_names.proofs.Learned.{each-end, each-next}
use Rattle.graph_names.proofs.known.Names.add_member_variables.Goals as goal

pub loop-variable-preserved : goal.loop-variable-preserved
loop-variable-preserved c =
    each-next c.args.variables.now c.loop-variable.variable-index (λ (v : MemberVariable). v.name) c.variable-item.result c.loop-variable.self c.add.new.self c.loop-variable-test.true c.variable-item.is c.in_ok-add.ensures
    ∙ c.loop-variable.invariant

pub returns : goal.returns
returns c = each-end c.args.variables.now c.loop-variable.variable-index (λ (v : MemberVariable). v.name) c.loop-variable.self c.loop-variable-test.false ∙ c.loop-variable.invariant
