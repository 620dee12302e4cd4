use Rattle.std.proofs.Common.{true, Ok, Err, Some, ap, ◌∙◌}
use Rattle.semantics.specs.Events.{from_fits, happened_or_passed, redirects, template_fits, try_template}
use Rattle.semantics.specs.Sites.{scope_at}
use Rattle.step_choice.proofs.Received.{stored-fault, stored-received}
use Rattle.step_choice.proofs.Tried.{failing, trying}
use Rattle.step_choice.specs.declared.taken.Deed.TheVariants as code
use Rattle.step_choice.specs.internal.Judged.{names_of, test_of}
use Rattle.step_choice.proofs.receive.try_typed.Goals as goal
use Rattle.config_parts.specs.Legend.{message_by}
use Rattle.value_types.specs.Frames.{reading}
use Rattle.value_types.specs.Outcomes.{Yields}

pub returns-in-Err : goal.returns-in-Err
returns-in-Err c site same =
    let s = c.args.snapshot.now in
    let reads = reading c.args.frame.now in
    let message = message_by c.args.message.now in
    failing s site (try_template (test_of s) site reads c.args.receive.now (names_of s c.args.port) message c.args.of) (from_fits reads c.args.receive.now.from message.sender) c.in-Err.fault c.in-Err.ensures

pub returns-in-Err-fits_template : goal.returns-in-Err-fits_template
returns-in-Err-fits_template c site same =
    let s = c.args.snapshot.now in
    let reads = reading c.args.frame.now in
    let receive = c.args.receive.now in
    let message = message_by c.args.message.now in
    let port = names_of s c.args.port in
    trying s site (try_template (test_of s) site reads receive port message c.args.of) (from_fits reads receive.from message.sender) true (Err c.in-Err-fits_template.fault)
    (c.in-Ok-true.ensures ∙ ap Yields c.in-Ok-true.field-0-test)
    (failing s site (happened_or_passed (redirects (scope_at (test_of s).definitions site) receive message) port) (template_fits reads c.args.of receive.message message.value) c.in-Err-fits_template.fault c.in-Err-fits_template.ensures)

pub returns-in-Ok : goal.returns-in-Ok
returns-in-Ok c site same =
    let s = c.args.snapshot.now in
    let reads = reading c.args.frame.now in
    let receive = c.args.receive.now in
    let message = message_by c.args.message.now in
    let port = names_of s c.args.port in
    let stored = redirects (scope_at (test_of s).definitions site) receive message in
    trying s site (try_template (test_of s) site reads receive port message c.args.of) (from_fits reads receive.from message.sender) true (Ok (Some (code.Receives c.args.port c.in-Ok.stored)))
    (c.in-Ok-true.ensures ∙ ap Yields c.in-Ok-true.field-0-test)
    (trying s site (happened_or_passed stored port) (template_fits reads c.args.of receive.message message.value) true (Ok (Some (code.Receives c.args.port c.in-Ok.stored)))
    (c.in-Ok-true-fits_template.ensures ∙ ap Yields c.in-Ok-true-fits_template.field-0-test)
    (stored-received s site stored c.args.port c.in-Ok.stored (c.in-Ok.ensures (test_of s) site receive same)))

pub returns-in-Err-redirects : goal.returns-in-Err-redirects
returns-in-Err-redirects c site same =
    let s = c.args.snapshot.now in
    let reads = reading c.args.frame.now in
    let receive = c.args.receive.now in
    let message = message_by c.args.message.now in
    let port = names_of s c.args.port in
    let stored = redirects (scope_at (test_of s).definitions site) receive message in
    trying s site (try_template (test_of s) site reads receive port message c.args.of) (from_fits reads receive.from message.sender) true (Err c.in-Err-redirects.fault)
    (c.in-Ok-true.ensures ∙ ap Yields c.in-Ok-true.field-0-test)
    (trying s site (happened_or_passed stored port) (template_fits reads c.args.of receive.message message.value) true (Err c.in-Err-redirects.fault)
    (c.in-Ok-true-fits_template.ensures ∙ ap Yields c.in-Ok-true-fits_template.field-0-test)
    (stored-fault s site stored port c.in-Err-redirects.fault (c.in-Err-redirects.ensures (test_of s) site receive same)))
