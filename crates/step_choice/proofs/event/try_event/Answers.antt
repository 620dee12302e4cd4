use Rattle.std.proofs.Common.{ap, sym, ◌∙◌}
use Rattle.semantics.specs.Events.{try_all_done, try_done, try_event, try_receive}
use Rattle.step_choice.proofs.Tried.{same-trial}
use Rattle.step_choice.specs.internal.Judged.{judge_of, reads, test_of}
use Rattle.step_choice.proofs.event.try_event.Goals as goal
use Rattle.step_snapshot.specs.Seen.{own_by, seen_by}
use Rattle.step_snapshot.specs.Tests.{legend_by}
use Rattle.config_parts.specs.Views.{view_by}
use Rattle.graph_sites.specs.Facts.{event_facts}
use Rattle.value_types.specs.Frames.{reading}

pub returns-in-Receive : goal.returns-in-Receive
returns-in-Receive c site at same =
    let s = c.args.snapshot.now in
    let receive = c.in-Receive.receive in
    let try = try_event (test_of s) (seen_by s) (own_by s) (judge_of s site c.args.inner.now) in
    same-trial s site (try_receive (test_of s) (seen_by s) site (reading c.frame-frame.result) receive receive.port) (try c.args.event.now) c.try_receive.result
    (ap try c.in-Receive.is ∙ ap (λ r. try_receive (test_of s) (seen_by s) site r receive receive.port) (sym (c.frame-frame.ensures site at)))
    (c.try_receive.ensures site (same ∙ ap (event_facts (test_of s).definitions site) c.in-Receive.is))

pub returns-in-Done : goal.returns-in-Done
returns-in-Done c site at same =
    let s = c.args.snapshot.now in
    let try = try_event (test_of s) (seen_by s) (own_by s) (judge_of s site c.args.inner.now) in
    same-trial s site (try_done (seen_by s) (reading c.frame-frame-in-Done.result) c.in-Done.reference) (try c.args.event.now) c.try_done.result
    (ap try c.in-Done.is ∙ ap (λ r. try_done (seen_by s) r c.in-Done.reference) (sym (c.frame-frame-in-Done.ensures site at)))
    (c.try_done.ensures site)

pub returns-in-AllDone : goal.returns-in-AllDone
returns-in-AllDone c site at same =
    let s = c.args.snapshot.now in
    let try = try_event (test_of s) (seen_by s) (own_by s) (judge_of s site c.args.inner.now) in
    same-trial s site (try_all_done (test_of s) (seen_by s) (reads s site c.args.inner.now)) (try c.args.event.now) c.try_all_done.result
    (ap try c.in-AllDone.is)
    (c.try_all_done.ensures site (view_by (legend_by s.test.now) c.args.inner.now))
