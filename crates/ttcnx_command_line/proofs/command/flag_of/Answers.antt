use Rattle.clap.specs.Words.{found_of}
use Rattle.ttcnx_command_line.proofs.Getters.{flag-read}
use Rattle.ttcnx_command_line.proofs.command.flag_of.Goals as goal

pub returns : goal.returns
returns c = flag-read (found_of c.args.given.now) c.args.id.now c.get_flag.result c.get_flag.ensures.value c.get_flag.ensures.other c.requires
