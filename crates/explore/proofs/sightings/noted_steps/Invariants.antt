use Rattle.std.proofs.Common.{◌≡◌, [], take}
use Rattle.explore.specs.internal.Noting.{note_steps}
use Rattle.explore.proofs.sightings.noted_steps.Given as goal

abbrev pub invariant-loop-place : goal.invariant-loop-place
invariant-loop-place g l =
    l.noted.items ≡ note_steps (g.Y.System.graph l.system) g.Y.Event.PartialEq.eq (g.Y.Watched.event l.system) 0 (take l.place l.states.keys) []
