use Rattle.std.proofs.Common.{length}
use Rattle.value_assignment.proofs.+assign.Given as goal

-- how many fields are left
abbrev pub decreases-assign : goal.decreases-assign
decreases-assign l = length l.fields.now
