use Rattle.std.proofs.Common.{ap, sym, ◌∙◌}
use Rattle.check_rules.specs.declared.finding.Finding.{Finding}
use Rattle.check_expressions.proofs.Along.{optional-end, optional-next}
use Rattle.check_expressions.proofs.target.last_optional.Goals as goal

pub loop-name-preserved : goal.loop-name-preserved
loop-name-preserved c =
    sym (optional-next c.args.scope.now.definitions.now c.args.names.now c.loop-name.name-index c.name-item.result c.loop-name.around c.within-around.result.typing c.loop-name.last c.optional_in-last.result
    c.loop-name-test.true c.name-item.is (ap (λ (f : Finding). f.typing) c.within-around.ensures) c.optional_in-last.ensures) ∙ c.loop-name.invariant

pub returns : goal.returns
returns c =
    sym (optional-end c.args.scope.now.definitions.now c.args.names.now c.loop-name.name-index c.loop-name.around c.loop-name.last c.loop-name-test.false) ∙ c.loop-name.invariant
