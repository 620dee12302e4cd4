use Rattle.std.proofs.Common.{rules}
use Rattle.std.proofs.Output.{has_written_append, has_written_of_eq}
use Rattle.std.specs.Char.{encode_utf8}
use Rattle.report.proofs.Pieces.{flat_map-take_more}
use Rattle.report.proofs.text.NameTextDisplay.fmt.Goals as goal

pub loop-byte-preserved : goal.loop-byte-preserved
loop-byte-preserved g c = λ plain. has_written_of_eq _ _ _ _ _ (flat_map-take_more encode_utf8 c.as_bytes-byte-items.result.now c.loop-byte.byte-index 0 (search rules))
    (has_written_append _ _ _ _ _ _ (c.loop-byte.invariant plain) (search rules))
