use Rattle.std.proofs.Common.{◌≡◌, map}
use Rattle.check_survey.specs.Things.{tally}
use Rattle.check_rules.specs.Parts.{altstep_parts, altsteps}
use Rattle.ttcn_types.proofs.Listing.{listing}
use Rattle.ttcn_types.proofs.parts.altsteps.Given as goal

-- the altsteps so far, with those that are left, are all of them
abbrev pub invariant-loop-definition : goal.invariant-loop-definition
invariant-loop-definition l =
    listing (λ definition. altstep_parts l.fn.scope.definitions.now definition.kind) l.definition-items l.definition-index l.things.items ≡ map tally (altsteps l.fn.scope.definitions.now)
