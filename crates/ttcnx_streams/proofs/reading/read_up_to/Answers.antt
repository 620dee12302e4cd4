use Rattle.std.proofs.Common.{rules, ◌++◌, take, ◌∙◌}
use Rattle.std.proofs.KnownBytes.{Consumes-trans}
use Rattle.ttcnx_streams.proofs.Parts.{has-room}
use Rattle.ttcnx_streams.proofs.reading.read_up_to.Goals as goal

-- what was read last finds no room
pub returns-in_err-extend_from_slice-in-Ok-clause-refused : goal.returns-in_err-extend_from_slice-in-Ok-clause-refused
returns-in_err-extend_from_slice-in-Ok-clause-refused g c =
    let before = c.loop-piece.invariant in
    let read = c.in-Ok.ensures in
    λ _. (
      c.loop-piece.text.items ++ take c.in-Ok.given c.read.new.buf,
      record {
        given = Consumes-trans _ _ _ _ _ before.given read.bytes.0;
        at_most = has-room c.loop-piece.text.items c.read.new.buf c.in-Ok.given c.args.most (search rules) (search rules) before.at_most;
        none_failed = read.failed ∙ before.none_failed;
      },
    )
