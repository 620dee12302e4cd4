use Rattle.std.proofs.Common.{◌∙◌, refl, sym}
use Rattle.check_scope.specs.internal.Checking.{least_in, view}
use Rattle.check_statements.proofs.DefinitionForms.{check_definitions-end, check_definitions-next}
use Rattle.check_statements.proofs.definition.check_definitions.Goals as goal

pub loop-at-init : goal.loop-at-init
loop-at-init c = record { rules_are = refl; definitions_are = refl }

pub loop-at-preserved : goal.loop-at-preserved
loop-at-preserved c = record {
  rules_are =
      sym (check_definitions-next (view c.args.scope.now).definitions c.args.definitions.now c.loop-at.at c.index-definitions-at.result
      (least_in c.loop-at.found) (least_in c.check_definition.new.found) c.loop-at-test.true c.index-definitions-at.is
      (rw c.loop-at.invariant.definitions_are at c.in_ok-check_definition.ensures.found))
      ∙ c.loop-at.invariant.rules_are;
  definitions_are = c.in_ok-check_definition.ensures.definitions ∙ c.loop-at.invariant.definitions_are;
}

pub returns : goal.returns
returns c =
    sym (check_definitions-end (view c.args.scope.now).definitions c.args.definitions.now c.loop-at.at (least_in c.loop-at.found) c.loop-at-test.false)
    ∙ c.loop-at.invariant.rules_are
