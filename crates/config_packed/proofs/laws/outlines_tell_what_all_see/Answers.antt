use Rattle.config_packed.proofs.Keys.{outlines-tell}
use Rattle.config_packed.proofs.laws.outlines_tell_what_all_see.Goals as goal

pub returns : goal.returns
returns c = outlines-tell
