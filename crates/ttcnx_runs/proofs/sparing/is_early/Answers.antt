use Rattle.ttcnx_runs.proofs.LastSteps.{there-with}
use Rattle.ttcnx_runs.proofs.sparing.is_early.Goals as goal

pub returns-then-are_apart : goal.returns-then-are_apart
returns-then-are_apart g c = λ early.
    let sees = c.leaves_sight.ensures early in
    there-with c.args.last.now c.in-Some.last _ c.in-Some.is (sees.0, sees.1, c.are_apart.ensures c.if-are_apart.true)
