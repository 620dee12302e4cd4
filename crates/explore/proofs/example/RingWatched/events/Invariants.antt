use Rattle.std.proofs.Common.{◌≡◌, Some, map}
use Rattle.explore.proofs.example.RingWatched.events.Given as goal

abbrev pub invariant-loop-label : goal.invariant-loop-label
invariant-loop-label l = l.found.items ≡ map (λ label. (label, Some label)) l.yielded
