use Rattle.std.proofs.Common.{sym, ◌∙◌}
use Rattle.summary.specs.KeyCode.{same_keys}
use Rattle.summary.proofs.OneAscent.{one-ascent}
use Rattle.summary.proofs.ordered_set.OrderedSet.as_slice.Goals as goal

pub returns-clause-only : goal.returns-clause-only
returns-clause-only g c = λ other made up.
    one-ascent g.met.T.Ord.total other c.self.inside.keys.items up c.self.invariant (same_keys g.row.T.coded other c.self.inside.keys.items (made ∙ sym c.self.view_is))
    ∙ sym c.as_slice.ensures.value
