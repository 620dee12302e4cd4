use Rattle.laws_fine.proofs.Ends.{ends-as-runs}
use Rattle.laws_fine.proofs.labels_lead_where_runs_end.Goals as goal

pub returns : goal.returns
returns c = λ test v. ends-as-runs test v
