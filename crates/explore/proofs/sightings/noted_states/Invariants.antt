use Rattle.std.proofs.Common.{◌≡◌, [], take}
use Rattle.explore.specs.internal.Noting.{note_states}
use Rattle.explore.proofs.sightings.noted_states.Given as goal

abbrev pub invariant-loop-place : goal.invariant-loop-place
invariant-loop-place g l = l.noted.items ≡ note_states g.Y.Stand.PartialEq.eq (g.Y.Watched.stand l.system) 0 (take l.place l.states.keys) []
