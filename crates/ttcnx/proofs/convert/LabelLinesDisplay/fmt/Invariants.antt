use Rattle.std.proofs.Common.{take}
use Rattle.std.specs.List.{flat_map}
use Rattle.std.specs.Fmt.{HasWritten, IsPlainFormatter}
use Rattle.report.specs.Labels.{label_text}
use Rattle.report.specs.Texts.{line}
use Rattle.ttcnx.proofs.convert.LabelLinesDisplay.fmt.Given as goal

-- the lines of the labels so far are written
abbrev pub invariant-loop-label : goal.invariant-loop-label
invariant-loop-label g l =
    IsPlainFormatter l.initial.f → HasWritten g.W.Write.write_str_gives l.initial.f (flat_map (λ label. line (label_text label)) (take l.label-index l.label-items)) l.f
