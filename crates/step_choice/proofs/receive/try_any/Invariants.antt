use Rattle.std.proofs.Common.{◌≡◌, drop}
use Rattle.semantics.specs.Events.{try_fronts}
use Rattle.semantics.specs.Sites.{Site}
use Rattle.step_choice.proofs.Ported.{queues-tried}
use Rattle.step_choice.specs.internal.Judged.{test_of}
use Rattle.step_choice.proofs.receive.try_any.Given as goal
use Rattle.step_snapshot.specs.Seen.{seen_by}
use Rattle.step_snapshot.specs.Tests.{legend_by}
use Rattle.graph_sites.specs.Facts.{event_by, event_facts}
use Rattle.ttcn_syntax.specs.declared.tree.statement.Event.TheVariants as event
use Rattle.value_types.specs.Frames.{reading}

-- all ports come to what those to come do
abbrev pub invariant-loop-queue : goal.invariant-loop-queue
invariant-loop-queue l =
    (site : Site) → event_by l.facts ≡ event_facts (test_of l.snapshot).definitions site (event.Receive l.receive)
    → try_fronts (test_of l.snapshot) site (reading l.frame) l.receive (seen_by l.snapshot).fronts
    ≡ queues-tried (legend_by l.snapshot.test.now) (test_of l.snapshot) site (reading l.frame) l.receive (drop l.queue-index l.queue-items)
