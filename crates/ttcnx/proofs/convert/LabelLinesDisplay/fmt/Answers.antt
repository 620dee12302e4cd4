use Rattle.std.proofs.Common.{rules}
use Rattle.std.proofs.Output.{has_written_append, has_written_of_eq}
use Rattle.report.proofs.Pieces.{flat_map-take_more}
use Rattle.report.specs.Labels.{label_text}
use Rattle.report.specs.Texts.{line}
use Rattle.ttcnx.proofs.convert.LabelLinesDisplay.fmt.Goals as goal

pub loop-label-preserved : goal.loop-label-preserved
loop-label-preserved g c = λ plain. has_written_of_eq _ _ _ _ _ (flat_map-take_more (λ label. line (label_text label)) c.args.self.now.0.now c.loop-label.label-index c.label-item.result (search rules))
    (has_written_append _ _ _ _ _ _ (c.loop-label.invariant plain) (search rules))
