use Rattle.ttcnx_runs.proofs.Forms.{equal-forms}
use Rattle.ttcnx_runs.proofs.laws.canonical_forms_are_equal_for_equal_live_parts.Goals as goal

pub returns : goal.returns
returns c = equal-forms
