use Rattle.ttcnx_runs.proofs.Parting.{parts-going}
use Rattle.ttcnx_runs.proofs.shortening.shortened.Goals as goal

pub shortened-requires : goal.shortened-requires
shortened-requires c =
    let whole = parts-going c.args.packed.now c.in_ok-parts.field-0 c.in-Some.parts c.in_ok-parts.ensures c.in-Some.is in
    (whole.0, whole.2)

pub returns-then-are_many : goal.returns-then-are_many
returns-then-are_many c =
    let whole = parts-going c.args.packed.now c.in_ok-parts.field-0 c.in-Some.parts c.in_ok-parts.ensures c.in-Some.is in
    (whole.0, whole.1, c.in_ok-shortened.ensures whole.0 whole.2)
