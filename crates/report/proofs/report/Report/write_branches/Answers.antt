use Rattle.std.proofs.Common.{rules}
use Rattle.std.proofs.Output.{has_written_append, has_written_of_eq}
use Rattle.report.specs.Texts.{branch_line}
use Rattle.report.proofs.Pieces.{flat_map-take_more}
use Rattle.report.proofs.report.Report.write_branches.Goals as goal

pub loop-place-preserved : goal.loop-place-preserved
loop-place-preserved g c = λ plain. has_written_of_eq _ _ _ _ _ (flat_map-take_more branch_line c.args.self.now.branches.items c.loop-place.place-index (record { line = 0; column = 0 }) (search rules))
    (has_written_append _ _ _ _ _ _ (c.loop-place.invariant plain) (search rules))
