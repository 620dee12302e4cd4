use Rattle.std.proofs.Common.{◌≡◌, ◌++◌, drop}
use Rattle.ttcnx.specs.Listing.{testcase_lines}
use Rattle.ttcnx.proofs.list.lines_of.Given as goal

-- the lines so far and those that are left are all
abbrev pub invariant-loop-definition : goal.invariant-loop-definition
invariant-loop-definition l = l.lines.items ++ testcase_lines (drop l.definition-index l.definitions) ≡ testcase_lines l.fn.definitions
