use Rattle.std.proofs.Common.{rules, ◌+◌}
use Rattle.ttcnx_streams.proofs.Parts.{keeps-all, rest-behind, took-more, took_part}
use Rattle.ttcnx_streams.proofs.writing.write_whole.Goals as goal

pub loop-rest-preserved : goal.loop-rest-preserved
loop-rest-preserved g c =
    let (count, behind, took) = c.loop-rest.invariant in
    let taken = c.in-Ok.taken in
    let bytes = c.args.bytes.now in
    let rest = c.loop-rest.rest.now in
    (count + taken, rest-behind bytes rest count taken behind, took-more bytes rest count taken behind took c.in-Ok.ensures.bytes (search rules))

pub returns-in-Ok-eq0-clause-took_part : goal.returns-in-Ok-eq0-clause-took_part
returns-in-Ok-eq0-clause-took_part g c =
    let (count, behind, took) = c.loop-rest.invariant in
    took_part c.args.bytes.now count took (search rules) (search rules) c.requires

pub returns-in-Ok-eq0-2-clause-took_part : goal.returns-in-Ok-eq0-2-clause-took_part
returns-in-Ok-eq0-2-clause-took_part g c =
    let (count, behind, took) = c.loop-rest.invariant in
    took_part c.args.bytes.now count took (keeps-all _ _ (search rules)) (search rules) c.requires

pub returns-in-Err-clause-took_part : goal.returns-in-Err-clause-took_part
returns-in-Err-clause-took_part g c =
    let (count, behind, took) = c.loop-rest.invariant in
    let flush = c.in-Err.ensures in
    took_part c.args.bytes.now count took (keeps-all _ _ flush.bytes) flush.failed c.requires
