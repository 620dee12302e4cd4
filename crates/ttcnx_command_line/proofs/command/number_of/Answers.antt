use Rattle.std.proofs.Common.{◌≡◌, ap, is_some, subst}
use Rattle.std.specs.Str.Parse.{ParsesUnsigned, ExplainsUnsignedError, HasUnsignedDigitsIfOk}
use Rattle.clap.specs.Words.{found_of, rows_of}
use Rattle.ttcnx_command_line.specs.Command.{IsNumber}
use Rattle.ttcnx_command_line.proofs.Getters.{number-read}
use Rattle.ttcnx_command_line.proofs.command.number_of.Goals as goal

pub unwrap-requires : goal.unwrap-requires
unwrap-requires c =
    let read = number-read (λ bs r. ParsesUnsigned 64 10 bs r × ExplainsUnsignedError 10 bs r × HasUnsignedDigitsIfOk bs r) (found_of c.args.given.now) c.args.id.now
    c.requires.0 c.requires.1 c.get_one.result c.get_one.ensures.value (λ t r g. g.0) c.requires.2 in
    ap (λ o. is_some o) read.1

pub returns : goal.returns
returns c =
    let read = number-read (λ bs r. ParsesUnsigned 64 10 bs r × ExplainsUnsignedError 10 bs r × HasUnsignedDigitsIfOk bs r) (found_of c.args.given.now) c.args.id.now
    c.requires.0 c.requires.1 c.get_one.result c.get_one.ensures.value (λ t r g. g.0) c.requires.2 in
    let given = read.1 in
    let same : read.0 ≡ c.unwrap.result = cc (given, c.unwrap.ensures) in
    subst (IsNumber (rows_of (found_of c.args.given.now)) c.args.id.now) same read.2
