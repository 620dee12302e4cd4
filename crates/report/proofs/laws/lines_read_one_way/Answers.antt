use Rattle.report.proofs.Lines.{line-same}
use Rattle.report.proofs.laws.lines_read_one_way.Goals as goal

pub returns : goal.returns
returns c = line-same
