use Rattle.std.proofs.Common.{◌≡◌, ◌∙◌, ap, arith, map, take, take_all}
use Rattle.clap.specs.Words.{found_of}
use Rattle.ttcnx_command_line.proofs.Getters.{texts-copied, texts-there}
use Rattle.ttcnx_command_line.proofs.command.texts_of.Goals as goal

pub unwrap-text-items-requires : goal.unwrap-text-items-requires
unwrap-text-items-requires c = texts-there (found_of c.args.given.now) c.args.id.now c.get_strs.result c.get_strs.ensures c.requires

pub returns : goal.returns
returns c =
    let items = c.unwrap-text-items.result.now in
    let whole : take c.loop-text.text-index items ≡ items = take_all c.loop-text.text-index items (omega arith) in
    texts-copied (found_of c.args.given.now) c.args.id.now c.get_strs.result c.unwrap-text-items.result _ c.get_strs.ensures c.unwrap-text-items.ensures
    (c.loop-text.invariant ∙ ap (map (λ v. v.now)) whole)
