use Rattle.config_parts.proofs.Naming.{are-names}
use Rattle.config_parts.proofs.legend.names_make_legends.Goals as goal

pub returns-clause-names : goal.returns-clause-names
returns-clause-names c = are-names
