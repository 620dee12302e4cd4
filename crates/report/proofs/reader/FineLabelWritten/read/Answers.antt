use Rattle.report.proofs.Fine.{fine-ends}
use Rattle.report.proofs.reader.FineLabelWritten.read.Goals as goal

pub returns-clause-bare : goal.returns-clause-bare
returns-clause-bare c = fine-ends
