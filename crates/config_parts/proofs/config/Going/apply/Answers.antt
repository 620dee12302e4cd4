use Rattle.config_parts.proofs.Applied.{applied}
use Rattle.config_parts.proofs.Within.{applied-within}
use Rattle.config_parts.proofs.config.Going.apply.Goals as goal

pub returns-clause-leads : goal.returns-clause-leads
returns-clause-leads c legend test is ascend gone = applied legend is test c.args.self ascend c.args.itself.now c.args.act gone c.done.result c.done.ensures

pub returns-clause-within : goal.returns-clause-within
returns-clause-within c size all within = applied-within size c.args.self c.args.itself.now c.args.act c.done.result all within c.done.ensures
