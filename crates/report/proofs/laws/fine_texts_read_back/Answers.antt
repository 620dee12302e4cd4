use Rattle.report.proofs.Lines.{fine-text-reads}
use Rattle.report.proofs.laws.fine_texts_read_back.Goals as goal

pub returns : goal.returns
returns c = fine-text-reads
