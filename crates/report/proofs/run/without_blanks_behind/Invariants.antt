use Rattle.std.proofs.Common.{◌≡◌, length}
use Rattle.report.specs.internal.Reader.{without_blanks_behind}
use Rattle.report.proofs.run.without_blanks_behind.Given as goal

abbrev pub decreases-loop-last : goal.decreases-loop-last
decreases-loop-last l = length l.rest

-- what is left has the same answer
abbrev pub invariant-loop-last : goal.invariant-loop-last
invariant-loop-last l = without_blanks_behind l.rest ≡ without_blanks_behind l.fn.line
