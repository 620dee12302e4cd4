use Rattle.std.proofs.Common.{◌≡◌, ◌++◌, drop, map}
use Rattle.check_survey.specs.Things.{tally}
use Rattle.check_rules.specs.Parts.{things_from, constants_and_templates}
use Rattle.ttcn_types.proofs.parts.written.things_of.Given as goal

-- the list so far, with what is left, is all that is written out
abbrev pub invariant-loop-definition : goal.invariant-loop-definition
invariant-loop-definition l =
    l.things.items ++ map tally (things_from l.fn.scope.definitions.now (drop l.definition-index l.definition-items)) ≡ map tally (constants_and_templates l.fn.scope.definitions.now)
