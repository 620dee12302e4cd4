use Rattle.std.proofs.Common.{string_bytes}
use Rattle.clap.specs.Words.{found_of}
use Rattle.ttcnx_command_line.proofs.Getters.{none-given, text-copied}
use Rattle.ttcnx_command_line.proofs.command.text_if_given.Goals as goal

pub returns-in_ok-from_str-in-Some : goal.returns-in_ok-from_str-in-Some
returns-in_ok-from_str-in-Some c =
    text-copied (found_of c.args.given.now) c.args.id.now c.get_str.result c.in-Some.text (string_bytes c.in_ok-from_str-in-Some.field-0) c.get_str.ensures c.in-Some.is
    c.in_ok-from_str-in-Some.ensures.ok

pub returns-in-None : goal.returns-in-None
returns-in-None c = none-given (found_of c.args.given.now) c.args.id.now c.get_str.result c.get_str.ensures c.in-None.is
