use Rattle.std.proofs.Common.{sym, ◌∙◌}
use Rattle.config_parts.proofs.Touching.{path-is}
use Rattle.ttcnx_runs.proofs.Parting.{get-found}
use Rattle.ttcnx_runs.proofs.remembering.place_of.Goals as goal

pub returns-then-eq : goal.returns-then-eq
returns-then-eq c =
    let here = c.index-components-place.result in
    (here, get-found c.args.components.now c.loop-place.place here c.loop-place-test.true c.index-components-place.is, path-is here.itself.path c.args.path.now (sym c.eq.ensures ∙ c.if-eq.true))
