use Rattle.report.proofs.Wholes.{label-ends}
use Rattle.report.proofs.reader.LabelWritten.read.Goals as goal

pub returns-clause-bare : goal.returns-clause-bare
returns-clause-bare c = label-ends
