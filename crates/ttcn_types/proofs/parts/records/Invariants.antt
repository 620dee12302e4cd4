use Rattle.std.proofs.Common.{◌≡◌, map}
use Rattle.check_survey.specs.Things.{tally}
use Rattle.check_rules.specs.Parts.{record_parts, records}
use Rattle.ttcn_types.proofs.Listing.{listing}
use Rattle.ttcn_types.proofs.parts.records.Given as goal

-- the records so far, with those that are left, are all of them
abbrev pub invariant-loop-definition : goal.invariant-loop-definition
invariant-loop-definition l =
    listing (λ definition. record_parts l.fn.scope.definitions.now definition.kind) l.definition-items l.definition-index l.things.items ≡ map tally (records l.fn.scope.definitions.now)
