use Rattle.std.proofs.Common.{take}
use Rattle.std.specs.List.{flat_map}
use Rattle.std.specs.Fmt.{HasWritten, IsPlainFormatter}
use Rattle.report.specs.Labels.{number_text}
use Rattle.report.proofs.text.PathTextDisplay.fmt.Given as goal

-- the texts of the items so far are written
abbrev pub invariant-loop-number : goal.invariant-loop-number
invariant-loop-number g l =
    IsPlainFormatter l.initial.f → HasWritten g.W.Write.write_str_gives l.initial.f (flat_map number_text (take l.number-index l.number-items)) l.f
