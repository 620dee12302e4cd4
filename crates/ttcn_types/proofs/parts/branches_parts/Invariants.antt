use Rattle.std.proofs.Common.{◌≡◌, map}
use Rattle.check_survey.specs.Things.{tally}
use Rattle.check_rules.specs.Parts.{all_of, branch_parts}
use Rattle.ttcn_types.proofs.Beside.{collecting}
use Rattle.ttcn_types.proofs.parts.branches_parts.Given as goal

-- what was collected so far, with the branches that are left, is what all of them are
abbrev pub invariant-loop-branch : goal.invariant-loop-branch
invariant-loop-branch l =
    collecting (branch_parts l.scope.definitions.now) l.branches l.branch-index l.thing ≡ tally (all_of (map (branch_parts l.fn.scope.definitions.now) l.fn.branches))
