use Rattle.std.proofs.Common.{◌+◌, Ok, Err, Some, Option, drop, map, ap, sym, subst, ◌∙◌}
use Rattle.semantics.specs.Events.{or_next, try_front, try_fronts}
use Rattle.semantics.specs.Snapshots.{front_of}
use Rattle.step_choice.proofs.Ported.{queue-next, queues-tried}
use Rattle.step_choice.proofs.Tried.{decided, faulty, next-tried, same-trial}
use Rattle.step_choice.specs.declared.taken.Deed.{Deed}
use Rattle.step_choice.specs.internal.Judged.{Tries, names_of, test_of}
use Rattle.step_choice.proofs.receive.try_any.Goals as goal
use Rattle.step_snapshot.specs.Seen.{seen_by}
use Rattle.step_snapshot.specs.Tests.{legend_by}
use Rattle.config_parts.specs.Legend.{message_by}
use Rattle.value_types.specs.Frames.{reading}

pub loop-queue-init : goal.loop-queue-init
loop-queue-init c site same =
    let s = c.args.snapshot.now in
    ap (queues-tried (legend_by s.test.now) (test_of s) site (reading c.args.frame.now) c.args.receive.now) (sym (c.as_slice-queue-items.ensures ∙ c.deref.ensures))

pub returns-in-Ok-Some : goal.returns-in-Ok-Some
returns-in-Ok-Some c site same =
    let s = c.args.snapshot.now in
    let reads = reading c.args.frame.now in
    let queue = c.queue-item.result in
    let one = try_front (test_of s) site reads c.args.receive.now (names_of s queue.port) (front_of (map message_by queue.messages)) in
    let later = queues-tried (legend_by s.test.now) (test_of s) site reads c.args.receive.now (drop (c.loop-queue.queue-index + 1) c.as_slice-queue-items.result.now) in
    same-trial s site (or_next one later) (try_fronts (test_of s) site reads c.args.receive.now (seen_by s).fronts) (Ok (Some c.in-Ok-Some.deed))
    (c.loop-queue.invariant site same ∙ queue-next (legend_by s.test.now) (test_of s) site reads c.args.receive.now c.as_slice-queue-items.result.now c.loop-queue.queue-index queue c.loop-queue-test.true c.queue-item.is)
    (decided s site one later c.in-Ok-Some.deed (let P : Option Deed → Type 0 = λ r. Tries s site one (Ok r) in subst P c.in-Ok-Some.field-0-is (c.in-Ok-Some.ensures site same)))

pub returns-in-Err : goal.returns-in-Err
returns-in-Err c site same =
    let s = c.args.snapshot.now in
    let reads = reading c.args.frame.now in
    let queue = c.queue-item.result in
    let one = try_front (test_of s) site reads c.args.receive.now (names_of s queue.port) (front_of (map message_by queue.messages)) in
    let later = queues-tried (legend_by s.test.now) (test_of s) site reads c.args.receive.now (drop (c.loop-queue.queue-index + 1) c.as_slice-queue-items.result.now) in
    same-trial s site (or_next one later) (try_fronts (test_of s) site reads c.args.receive.now (seen_by s).fronts) (Err c.in-Err.fault)
    (c.loop-queue.invariant site same ∙ queue-next (legend_by s.test.now) (test_of s) site reads c.args.receive.now c.as_slice-queue-items.result.now c.loop-queue.queue-index queue c.loop-queue-test.true c.queue-item.is)
    (faulty s site one later c.in-Err.fault (c.in-Err.ensures site same))

pub loop-queue-preserved : goal.loop-queue-preserved
loop-queue-preserved c site same =
    let s = c.args.snapshot.now in
    let reads = reading c.args.frame.now in
    let queue = c.queue-item.result in
    let one = try_front (test_of s) site reads c.args.receive.now (names_of s queue.port) (front_of (map message_by queue.messages)) in
    let later = queues-tried (legend_by s.test.now) (test_of s) site reads c.args.receive.now (drop (c.loop-queue.queue-index + 1) c.as_slice-queue-items.result.now) in
    c.loop-queue.invariant site same ∙ queue-next (legend_by s.test.now) (test_of s) site reads c.args.receive.now c.as_slice-queue-items.result.now c.loop-queue.queue-index queue c.loop-queue-test.true c.queue-item.is
    ∙ next-tried one later (let P : Option Deed → Type 0 = λ r. Tries s site one (Ok r) in subst P c.in-Ok-None.field-0-is (c.in-Ok-None.ensures site same))
