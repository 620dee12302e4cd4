use Rattle.std.proofs.Common.{◌≡◌, bytes_eq, drop}
use Rattle.std.specs.List.{position_from}
use Rattle.value_assignment.proofs.record.place_of.Given as goal

-- the first one of the name is among those that are left
abbrev pub invariant-loop-place : goal.invariant-loop-place
invariant-loop-place l =
    position_from (λ field. bytes_eq field.name l.name) l.place (drop l.place l.fields)
    ≡ position_from (λ field. bytes_eq field.name l.name) 0 l.fields
