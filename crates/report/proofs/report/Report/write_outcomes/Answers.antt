use Rattle.std.proofs.Common.{rules}
use Rattle.std.proofs.Output.{has_written_append, has_written_of_eq}
use Rattle.report.specs.Texts.{outcome_text}
use Rattle.report.proofs.Pieces.{flat_map-take_more}
use Rattle.report.proofs.report.Report.write_outcomes.Goals as goal

pub loop-outcome-preserved : goal.loop-outcome-preserved
loop-outcome-preserved g c = λ plain. has_written_of_eq _ _ _ _ _ (flat_map-take_more outcome_text c.args.self.now.outcomes.items c.loop-outcome.outcome-index c.outcome-item.result (search rules))
    (has_written_append _ _ _ _ _ _ (c.loop-outcome.invariant plain) (search rules))
