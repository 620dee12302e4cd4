use Rattle.std.proofs.Common.{◌≡◌, ◌+◌, ◌*◌, []}
use Rattle.ttcn_values.specs.internal.Building.{after_steps}
use Rattle.ttcn_values.specs.internal.Readers.{read_by}
use Rattle.ttcn_values.proofs.reader.Reader.+building.Given as goal

-- each template that is called has one link less
abbrev pub decreases-called : goal.decreases-called
decreases-called l = 4 * l.self.now.depth

abbrev pub decreases-advance : goal.decreases-advance
decreases-advance l = 4 * l.self.now.depth + 1

abbrev pub decreases-build : goal.decreases-build
decreases-build l = 4 * l.self.now.depth + 2

abbrev pub decreases-template : goal.decreases-template
decreases-template l = 4 * l.self.now.depth + 3

-- the steps that are left lead on from the templates so far
abbrev pub invariant-build-loop-step : goal.invariant-build-loop-step
invariant-build-loop-step l = after_steps (read_by l.self) l.fn.steps.items [] ≡ after_steps (read_by l.self) l.step-iterator.rest.items l.templates.items
