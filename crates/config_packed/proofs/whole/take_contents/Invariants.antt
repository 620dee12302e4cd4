use Rattle.std.proofs.Common.{◌≡◌}
use Rattle.config_packed.specs.Reading.{read_contents}
use Rattle.config_packed.proofs.Items.{ahead}
use Rattle.config_packed.proofs.whole.take_contents.Given as goal

-- all components are those so far, and then those of the names that are left
abbrev pub invariant-loop-name : goal.invariant-loop-name
invariant-loop-name l = read_contents l.fn.names l.initial.reader ≡ ahead l.components.items (read_contents l.name-iterator.rest.items l.reader)
