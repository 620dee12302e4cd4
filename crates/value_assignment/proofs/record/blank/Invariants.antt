use Rattle.std.proofs.Common.{◌≡◌, map, take, None}
use Rattle.value_assignment.proofs.record.blank.Given as goal

-- a field without a value for each that was passed
abbrev pub invariant-loop : goal.invariant-loop
invariant-loop l = l.fields ≡ map (λ field. None) (take l.index l.items)
