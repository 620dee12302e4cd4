use Rattle.std.proofs.Common.{◌≡◌, ◌+◌, ◌-◌, ◌*◌, ◌≤◌, fold, drop}
use Rattle.ttcn_syntax.specs.Cut.{decimal}
use Rattle.ttcn_syntax.proofs.reading.integer.Given as goal

abbrev pub invariant-loop-digit : goal.invariant-loop-digit
invariant-loop-digit l =
    (fold (λ value digit. 10 * value + (digit - 48)) l.value (drop l.digit-index l.digits) ≡ decimal l.digits)
    × (l.value ≤ 9223372036854775807)
