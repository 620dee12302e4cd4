use Rattle.std.proofs.Common.{rules}
use Rattle.std.proofs.Output.{has_written_append, has_written_of_eq}
use Rattle.report.specs.Texts.{blocked_line}
use Rattle.report.proofs.Pieces.{flat_map-take_more}
use Rattle.report.proofs.report.Report.write_blocked.Goals as goal

pub loop-standing-preserved : goal.loop-standing-preserved
loop-standing-preserved g c = λ plain. has_written_of_eq _ _ _ _ _ (flat_map-take_more blocked_line c.args.self.now.blocked.items c.loop-standing.standing-index c.standing-item.result (search rules))
    (has_written_append _ _ _ _ _ _ (c.loop-standing.invariant plain) (search rules))
