use Rattle.std.proofs.Common.{rules}
use Rattle.std.proofs.Output.{has_written_append, has_written_of_eq}
use Rattle.report.specs.Labels.{number_text}
use Rattle.report.proofs.Pieces.{flat_map-take_more}
use Rattle.report.proofs.text.PathTextDisplay.fmt.Goals as goal

pub loop-number-preserved : goal.loop-number-preserved
loop-number-preserved g c = λ plain. has_written_of_eq _ _ _ _ _ (flat_map-take_more number_text c.args.self.now.0.now c.loop-number.number-index 0 (search rules))
    (has_written_append _ _ _ _ _ _ (c.loop-number.invariant plain) (search rules))
