use Rattle.ttcnx_runs.proofs.Parts.{if-ok}
use Rattle.ttcnx_runs.proofs.sights.sight_runs.Goals as goal

pub returns-clause-extent : goal.returns-clause-extent
returns-clause-extent g c = if-ok c.sight_within.result _ _ c.sight_within.ensures.answer (λ sights are. are.extent)

pub returns-clause-places : goal.returns-clause-places
returns-clause-places g c = if-ok c.sight_within.result _ _ c.sight_within.ensures.answer (λ sights are. are.places)

pub returns-clause-blocks : goal.returns-clause-blocks
returns-clause-blocks g c = if-ok c.sight_within.result _ _ c.sight_within.ensures.answer (λ sights are. are.blocks)
