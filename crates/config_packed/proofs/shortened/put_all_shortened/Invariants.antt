use Rattle.std.proofs.Common.{◌≡◌, ◌++◌, take}
use Rattle.std.specs.List.{flat_map}
use Rattle.config_packed.specs.internal.Cuts.{joined, shortened_parts}
use Rattle.config_packed.specs.Pieces.{bytes_of}
use Rattle.config_packed.proofs.shortened.put_all_shortened.Given as goal

-- the bytes of the components so far stand behind those of before
abbrev pub invariant-loop-component : goal.invariant-loop-component
invariant-loop-component l = l.bytes.items ≡ l.initial.bytes.items ++ flat_map (λ component. joined (shortened_parts (bytes_of component))) (take l.component-index l.components)
