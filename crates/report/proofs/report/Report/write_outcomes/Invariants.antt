use Rattle.std.proofs.Common.{take}
use Rattle.std.specs.List.{flat_map}
use Rattle.std.specs.Fmt.{HasWritten, IsPlainFormatter}
use Rattle.report.specs.Texts.{outcome_text}
use Rattle.report.proofs.report.Report.write_outcomes.Given as goal

-- the texts of the items so far are written
abbrev pub invariant-loop-outcome : goal.invariant-loop-outcome
invariant-loop-outcome g l =
    IsPlainFormatter l.initial.f → HasWritten g.W.Write.write_str_gives l.initial.f (flat_map outcome_text (take l.outcome-index l.self.outcomes.items)) l.f
