use Rattle.std.proofs.Common.{take}
use Rattle.std.specs.List.{flat_map}
use Rattle.std.specs.Fmt.{HasWritten, IsPlainFormatter}
use Rattle.report.specs.Texts.{step_line}
use Rattle.report.proofs.text.OutcomeDisplay.fmt.Given as goal

-- the texts of the items so far are written
abbrev pub invariant-loop-label : goal.invariant-loop-label
invariant-loop-label g l =
    IsPlainFormatter l.initial.f → HasWritten g.W.Write.write_str_gives l.initial.f (flat_map step_line (take l.label-index l.self.run.items)) l.f
