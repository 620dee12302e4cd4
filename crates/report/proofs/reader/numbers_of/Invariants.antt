use Rattle.std.proofs.Common.{◌==◌, drop, length, take}
use Rattle.std.specs.List.{AllZip, slice_split}
use Rattle.report.specs.Runs.{IsNumber}
use Rattle.report.proofs.reader.numbers_of.Given as goal

-- the parts so far are the digits of the numbers so far
abbrev pub invariant-loop-digits : goal.invariant-loop-digits
invariant-loop-digits l = AllZip IsNumber (take (length l.yielded) (slice_split (λ b. b == 46) (drop 1 l.text))) l.numbers.items
