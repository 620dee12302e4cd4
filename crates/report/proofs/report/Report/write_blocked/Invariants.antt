use Rattle.std.proofs.Common.{take}
use Rattle.std.specs.List.{flat_map}
use Rattle.std.specs.Fmt.{HasWritten, IsPlainFormatter}
use Rattle.report.specs.Texts.{blocked_line}
use Rattle.report.proofs.report.Report.write_blocked.Given as goal

-- the texts of the items so far are written
abbrev pub invariant-loop-standing : goal.invariant-loop-standing
invariant-loop-standing g l =
    IsPlainFormatter l.initial.f → HasWritten g.W.Write.write_str_gives l.initial.f (flat_map blocked_line (take l.standing-index l.self.blocked.items)) l.f
