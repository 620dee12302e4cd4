use Rattle.std.proofs.Common.{◌≡◌, ◌++◌, map}
use Rattle.config_packed.specs.internal.Cuts.{changed_contents, some_of}
use Rattle.config_packed.specs.Pieces.{bytes_of}
use Rattle.config_packed.proofs.change.changed_half.Given as goal

-- all of them are those so far, and then those that are left
abbrev pub invariant-loop-place : goal.invariant-loop-place
invariant-loop-place l =
    changed_contents l.change.at l.change.own.now l.change.behind l.change.queues.now l.from (some_of l.from l.to (map bytes_of l.parts.components.items))
    ≡ l.bytes.items ++ changed_contents l.change.at l.change.own.now l.change.behind l.change.queues.now l.place (some_of l.place l.to (map bytes_of l.parts.components.items))
