use Rattle.std.proofs.Common.{◌≡◌, ◌++◌, map}
use Rattle.ttcn_types.specs.internal.Surrounding.{scope_of}
use Rattle.check_survey.specs.Things.{tally}
use Rattle.check_rules.specs.Parts.{constant_parts}
use Rattle.ttcn_types.proofs.Listing.{listing}
use Rattle.ttcn_types.proofs.parts.written.push_constants.Given as goal

-- the list so far, with the constants that are left, is what it was with all of them
abbrev pub invariant-loop-constant : goal.invariant-loop-constant
invariant-loop-constant l =
    listing (constant_parts (scope_of l.around)) l.constants l.constant-index l.things.items ≡ l.fn.things.items ++ map tally (map (constant_parts (scope_of l.fn.around)) l.fn.constants)
