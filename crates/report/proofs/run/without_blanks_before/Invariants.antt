use Rattle.std.proofs.Common.{◌≡◌, length}
use Rattle.report.specs.internal.Reader.{without_blanks_before}
use Rattle.report.proofs.run.without_blanks_before.Given as goal

abbrev pub decreases-loop-first : goal.decreases-loop-first
decreases-loop-first l = length l.rest

-- what is left has the same answer
abbrev pub invariant-loop-first : goal.invariant-loop-first
invariant-loop-first l = without_blanks_before l.rest ≡ without_blanks_before l.fn.line
