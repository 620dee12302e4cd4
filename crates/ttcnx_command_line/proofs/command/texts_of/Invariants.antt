use Rattle.std.proofs.Common.{◌≡◌, map, string_bytes, take}
use Rattle.ttcnx_command_line.proofs.command.texts_of.Given as goal

-- the texts that were gone through are copied
abbrev pub invariant-loop-text : goal.invariant-loop-text
invariant-loop-text l = map string_bytes l.texts.items ≡ map (λ v. v.now) (take l.text-index l.text-items)
