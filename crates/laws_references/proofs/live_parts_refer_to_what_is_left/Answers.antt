use Rattle.laws_references.proofs.Live.{ends-left, live-left}
use Rattle.laws_references.proofs.live_parts_refer_to_what_is_left.Goals as goal

pub returns-clause-live : goal.returns-clause-live
returns-clause-live c = live-left

pub returns-clause-ends : goal.returns-clause-ends
returns-clause-ends c = ends-left
