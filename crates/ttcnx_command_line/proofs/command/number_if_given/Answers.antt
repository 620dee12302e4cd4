use Rattle.std.specs.Str.Parse.{ParsesUnsigned, ExplainsUnsignedError, HasUnsignedDigitsIfOk}
use Rattle.clap.specs.Words.{found_of}
use Rattle.ttcnx_command_line.proofs.Getters.{number-if-read}
use Rattle.ttcnx_command_line.proofs.command.number_if_given.Goals as goal

pub returns : goal.returns
returns c = number-if-read (λ bs r. ParsesUnsigned 64 10 bs r × ExplainsUnsignedError 10 bs r × HasUnsignedDigitsIfOk bs r) (found_of c.args.given.now) c.args.id.now
    c.requires.0 c.requires.1 c.get_one.result c.get_one.ensures.none c.get_one.ensures.value (λ t r g. g.0) c.requires.2
