use Rattle.std.proofs.Common.{Some, List, map, ap, sym, ◌∙◌}
use Rattle.semantics.specs.Events.{try_front}
use Rattle.semantics.specs.Snapshots.{front_of}
use Rattle.step_choice.proofs.Ported.{front-there}
use Rattle.step_choice.proofs.Tried.{same-trial}
use Rattle.step_choice.specs.internal.Judged.{names_of, test_of}
use Rattle.step_choice.proofs.receive.try_front.Goals as goal
use Rattle.config_parts.specs.Legend.{message_by}
use Rattle.config_parts.specs.declared.component.Message.{Message}
use Rattle.value_types.specs.Frames.{reading}

pub returns-in-Some : goal.returns-in-Some
returns-in-Some c site same =
    let s = c.args.snapshot.now in
    let queue = c.args.queue.now in
    let try = try_front (test_of s) site (reading c.args.frame.now) c.args.receive.now (names_of s queue.port) in
    same-trial s site (try (Some (message_by c.in-Some.message.now))) (try (front_of (map message_by queue.messages))) c.try_message.result
    (ap try (ap (λ (ms : List Message). front_of (map message_by ms)) (sym c.as_slice.ensures) ∙ front-there c.as_slice.result.now c.in-Some.message.now c.in-Some.ensures.value))
    (c.try_message.ensures site same)
