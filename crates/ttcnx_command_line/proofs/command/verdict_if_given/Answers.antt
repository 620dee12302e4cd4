use Rattle.clap.specs.Words.{found_of}
use Rattle.ttcnx_command_line.proofs.Getters.{none-given, verdict-read, verdict-there}
use Rattle.ttcnx_command_line.proofs.command.verdict_if_given.Goals as goal

pub verdict_of-requires : goal.verdict_of-requires
verdict_of-requires c = verdict-there (found_of c.args.given.now) c.args.id.now c.get_str.result c.in-Some.word c.get_str.ensures c.in-Some.is c.requires

pub returns-in-Some : goal.returns-in-Some
returns-in-Some c =
    verdict-read (found_of c.args.given.now) c.args.id.now c.get_str.result c.in-Some.word c.verdict_of.result c.get_str.ensures c.in-Some.is c.verdict_of.ensures

pub returns-in-None : goal.returns-in-None
returns-in-None c = none-given (found_of c.args.given.now) c.args.id.now c.get_str.result c.get_str.ensures c.in-None.is
