use Rattle.std.proofs.Common.{◌≡◌, map, take}
use Rattle.report.specs.Runs.{ReadsAll, ReadsBy}
use Rattle.report.proofs.run.read_lines.Given as goal

-- the lines so far read as the labels so far
abbrev pub invariant-loop-line : goal.invariant-loop-line
invariant-loop-line g l =
    (l.number ≡ l.line-index) × ReadsAll (ReadsBy g.T.Written.text_of g.T.Written.is_held) (take l.line-index (map (λ line. line.now) l.line-items)) l.labels.items
