use Rattle.search_ordinals.proofs.Numbers.{nth-read}
use Rattle.search_ordinals.proofs.steps.nth_of.Goals as goal

pub returns : goal.returns
returns g c = nth-read c.args.items.items c.args.nth c.swap_remove.result c.requires c.swap_remove.ensures.value
