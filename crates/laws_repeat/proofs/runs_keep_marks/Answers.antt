use Rattle.laws_repeat.proofs.Repeats.{end-marked}
use Rattle.laws_repeat.proofs.runs_keep_marks.Goals as goal

pub returns-clause-ends : goal.returns-clause-ends
returns-clause-ends c = λ test run well. end-marked test well run
