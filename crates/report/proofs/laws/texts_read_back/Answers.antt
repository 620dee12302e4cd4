use Rattle.report.proofs.Lines.{text-reads}
use Rattle.report.proofs.laws.texts_read_back.Goals as goal

pub returns : goal.returns
returns c = text-reads
