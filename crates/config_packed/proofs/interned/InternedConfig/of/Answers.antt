use Rattle.config_packed.proofs.Shares.{parts-back, parts-of}
use Rattle.config_packed.proofs.interned.InternedConfig.of.Goals as goal

pub invariant_of-result : goal.invariant_of-result
invariant_of-result c = parts-of c.args.head.now c.args.front.now c.args.back.now c.requires.0 c.requires.1

pub returns : goal.returns
returns c config are = parts-back c.args.head.now c.args.front.now c.args.back.now config are
