use Rattle.std.proofs.Common.{◌≡◌, ◌++◌, ◌-◌}
use Rattle.config_packed.specs.internal.Cuts.{fronts_read}
use Rattle.config_packed.proofs.pieces.put_fronts.Given as goal

-- all fronts are those so far, and then those that are left
abbrev pub invariant-loop-turn : goal.invariant-loop-turn
invariant-loop-turn l = l.initial.key.items ++ fronts_read l.count l.initial.reader ≡ l.key.items ++ fronts_read (l.count - l._turn) l.reader
