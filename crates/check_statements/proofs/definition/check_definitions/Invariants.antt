use Rattle.std.proofs.Common.{◌≡◌, drop}
use Rattle.check_scope.specs.internal.Checking.{both, least, least_in, view}
use Rattle.check_rules.specs.Definitions as spec
use Rattle.check_statements.proofs.DefinitionForms.{rest_of_definitions}
use Rattle.check_statements.proofs.definition.check_definitions.Given as goal

-- what was found so far and what is left are what was found and what all break
abbrev pub invariant-loop-at : goal.invariant-loop-at
invariant-loop-at l = record {
  rules_are : rest_of_definitions (view l.fn.scope).definitions l.at (drop l.at l.definitions) (least_in l.found)
      ≡ both (least_in l.fn.found) (least (spec.check_definitions (view l.fn.scope).definitions 0 l.fn.definitions));
  definitions_are : (view l.scope).definitions ≡ (view l.fn.scope).definitions;
}
