use Rattle.std.proofs.Common.{◌≡◌}
use Rattle.explore.specs.internal.Noting.{note_shown}
use Rattle.explore.proofs.sightings.note_shown.Given as goal

abbrev pub invariant-loop-label : goal.invariant-loop-label
invariant-loop-label g l = l.noted.items ≡ note_shown g.E.PartialEq.eq l.place l.yielded l.fn.noted.items
