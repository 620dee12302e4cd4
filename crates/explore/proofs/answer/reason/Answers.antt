use Rattle.std.proofs.Common.{◌&&◌}
use Rattle.explore.specs.internal.Stopped.{is_quiet, kept, marked}
use Rattle.explore.proofs.answer.reason.Goals as goal
use Rattle.explore.proofs.answer.reason.Goals.{else-stops-via-then-stops+else-quiet, else-stops-via-else-stops}

pub returns-then-is_marked : goal.returns-then-is_marked
returns-then-is_marked g c = marked (c.is_marked.ensures.some c.if-is_marked.true)

pub returns-then-quiet : goal.returns-then-quiet
returns-then-quiet g c = is_quiet (c.is_marked.ensures.none c.if-is_marked.false) c.if-stops.true c.if-quiet.true

pub returns : goal.returns
returns g c =
    let unmarked = c.is_marked.ensures.none c.if-is_marked.false in
    elim c.else-stops.branch [
      | else-stops-via-then-stops+else-quiet w ↦ kept unmarked (λ i. w.if-stops.true i && w.if-quiet.false i)
      | else-stops-via-else-stops w ↦ kept unmarked (λ i. w.if-stops.false i && c.args.quiet)
    ]
