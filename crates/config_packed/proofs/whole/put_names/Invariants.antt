use Rattle.std.proofs.Common.{◌≡◌, ◌++◌, take}
use Rattle.std.specs.List.{flat_map}
use Rattle.config_packed.specs.Spelling.{name_of, spell_name}
use Rattle.config_packed.proofs.whole.put_names.Given as goal

-- the names so far are spelled
abbrev pub invariant-loop-component : goal.invariant-loop-component
invariant-loop-component l = l.bytes.items ≡ l.initial.bytes.items ++ flat_map (λ c. spell_name (name_of c)) (take l.component-index l.components)
