use Rattle.std.proofs.Common.{map, reverse}
use Rattle.parse_limits.specs.internal.Behind.{Knows}
use Rattle.parse_limits.proofs.limits.first_left_out.Given as goal

-- the tokens so far, which were taken from the last one on, are known
abbrev pub invariant-loop-spanned : goal.invariant-loop-spanned
invariant-loop-spanned l = Knows (reverse (map (λ k. k.now) l.yielded)) l.behind
