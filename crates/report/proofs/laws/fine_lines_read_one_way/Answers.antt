use Rattle.report.proofs.Lines.{fine-line-same}
use Rattle.report.proofs.laws.fine_lines_read_one_way.Goals as goal

pub returns : goal.returns
returns c = fine-line-same
