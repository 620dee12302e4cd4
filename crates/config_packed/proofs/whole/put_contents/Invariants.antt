use Rattle.std.proofs.Common.{◌≡◌, ◌++◌, take}
use Rattle.std.specs.List.{flat_map}
use Rattle.config_packed.specs.Spelling.{spell_content}
use Rattle.config_packed.proofs.whole.put_contents.Given as goal

-- the contents so far are spelled
abbrev pub invariant-loop-component : goal.invariant-loop-component
invariant-loop-component l = l.bytes.items ≡ l.initial.bytes.items ++ flat_map spell_content (take l.component-index l.components)
