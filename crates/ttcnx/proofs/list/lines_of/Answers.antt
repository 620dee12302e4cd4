use Rattle.std.proofs.Common.{◌∙◌}
use Rattle.check_scope.proofs.Added.{joined-end, joined-next}
use Rattle.ttcnx.specs.Listing.{testcase_line}
use Rattle.ttcnx.proofs.list.lines_of.Goals as goal

pub loop-definition-preserved : goal.loop-definition-preserved
loop-definition-preserved c =
    joined-next (λ definition. testcase_line definition.kind) c.args.definitions.now c.loop-definition.definition-index c.definition-item.result c.loop-definition.lines.items
    c.push_testcase.new.lines.items c.loop-definition-test.true c.definition-item.is c.in_ok-push_testcase.ensures ∙ c.loop-definition.invariant

pub returns : goal.returns
returns c =
    joined-end (λ definition. testcase_line definition.kind) c.args.definitions.now c.loop-definition.definition-index c.loop-definition.lines.items c.loop-definition-test.false
    ∙ c.loop-definition.invariant
