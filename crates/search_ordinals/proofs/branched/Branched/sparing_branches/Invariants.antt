use Rattle.std.proofs.Common.{◌≡◌, map}
use Rattle.search_ordinals.proofs.Sparing.{all-given}
use Rattle.search_ordinals.proofs.branched.Branched.sparing_branches.Given as goal

abbrev pub invariant-loop-branch : goal.invariant-loop-branch
invariant-loop-branch g l = l.found.items ≡ map all-given l.yielded
