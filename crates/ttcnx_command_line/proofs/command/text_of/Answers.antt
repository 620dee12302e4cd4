use Rattle.std.proofs.Common.{string_bytes}
use Rattle.std.proofs.lemmas.Result.{IfOk-weaker}
use Rattle.clap.specs.Words.{found_of}
use Rattle.ttcnx_command_line.proofs.Getters.{text-copied, text-there}
use Rattle.ttcnx_command_line.proofs.command.text_of.Goals as goal

pub unwrap-requires : goal.unwrap-requires
unwrap-requires c = text-there (found_of c.args.given.now) c.args.id.now c.get_str.result c.get_str.ensures c.requires

pub returns : goal.returns
returns c = IfOk-weaker c.from_str.result _ _
    (λ copy same. text-copied (found_of c.args.given.now) c.args.id.now c.get_str.result c.unwrap.result (string_bytes copy) c.get_str.ensures c.unwrap.ensures same) c.from_str.ensures.ok
