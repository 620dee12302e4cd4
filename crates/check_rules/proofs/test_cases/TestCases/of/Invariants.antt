use Rattle.std.proofs.Common.{◌≡◌, drop}
use Rattle.check_rules.specs.internal.TestCases.{placed}
use Rattle.check_rules.proofs.TestCaseLemmas.{placed_from, placing}
use Rattle.check_rules.proofs.test_cases.TestCases.of.Given as goal

-- the test cases so far, with those that are left, are all of them
abbrev pub invariant-loop-at : goal.invariant-loop-at
invariant-loop-at l = placing (placed l.cases) l.at (drop l.at l.definitions) ≡ placed_from 0 l.definitions
