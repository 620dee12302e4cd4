-- What was read is what the reader gave, and each piece brings the end nearer.
use Rattle.std.proofs.Common.{◌-◌, length}
use Rattle.ttcnx_streams.specs.Transfers.{Gave, device_by}
use Rattle.ttcnx_streams.proofs.reading.read_up_to.Given as goal

abbrev pub invariant-loop-piece : goal.invariant-loop-piece
invariant-loop-piece g l = Gave l.most (device_by g.R.Read.remaining l.initial.reader) (device_by g.R.Read.remaining l.reader) l.text.items

abbrev pub decreases-loop-piece : goal.decreases-loop-piece
decreases-loop-piece g l = l.most - length l.text.items
