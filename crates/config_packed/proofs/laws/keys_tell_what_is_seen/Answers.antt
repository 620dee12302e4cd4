use Rattle.config_packed.proofs.Keys.{keys-tell}
use Rattle.config_packed.proofs.laws.keys_tell_what_is_seen.Goals as goal

pub returns : goal.returns
returns c = keys-tell
