use Rattle.laws_fine.proofs.Laws.{same-verdicts}
use Rattle.laws_fine.proofs.fine_runs_reach_the_same_verdicts.Goals as goal

pub returns : goal.returns
returns c = λ test v well. same-verdicts test v well
