-- A beginning of the bytes was taken, and the rest is what stands behind it.
use Rattle.std.proofs.Common.{◌≡◌, ℕ, length, take, drop}
use Rattle.ttcnx_streams.specs.Transfers.{Took, device_by}
use Rattle.ttcnx_streams.proofs.writing.write_whole.Given as goal

abbrev pub invariant-loop-rest : goal.invariant-loop-rest
invariant-loop-rest g l = (count : ℕ) × (l.rest ≡ drop count l.bytes)
    × Took (device_by g.W.Write.contents l.initial.writer) (device_by g.W.Write.contents l.writer) (take count l.bytes)

abbrev pub decreases-loop-rest : goal.decreases-loop-rest
decreases-loop-rest g l = length l.rest
