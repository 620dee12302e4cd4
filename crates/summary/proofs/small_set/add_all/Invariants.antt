use Rattle.std.proofs.Common.{◌≡◌, take}
use Rattle.std.specs.FinSet.{union}
use Rattle.summary.specs.NumberSet.{number_set}
use Rattle.summary.proofs.small_set.add_all.Given as goal

abbrev pub invariant-loop-number : goal.invariant-loop-number
invariant-loop-number l = number_set l.numbers.items ≡ union (number_set l.fn.numbers.items) (number_set (take l.number-index l.more))
