use Rattle.laws_live.proofs.PartCounts.{counts-grow, counts-once}
use Rattle.laws_live.proofs.counts_of_live_parts_grow.Goals as goal

pub returns-clause-once : goal.returns-clause-once
returns-clause-once c = counts-once

pub returns-clause-grows : goal.returns-clause-grows
returns-clause-grows c = counts-grow
