use Rattle.std.proofs.Common.{ap, sym, ◌∙◌}
use Rattle.ttcn_step.specs.Machines.{extent, said}
use Rattle.ttcnx_runs.proofs.Making.{if-some, own-within}
use Rattle.ttcnx_runs.proofs.Parts.{if-ok}
use Rattle.ttcnx_runs.proofs.remembering.own_behind.Goals as goal

pub returns : goal.returns
returns g c =
    let machine = g.K.Scheme.machine in
    if-ok c.own_at.result _ _ c.own_at.ensures (λ found told.
    if-some found _ _ told (λ own is. (
      is.0,
      is.1,
      sym c.state.view_is ∙ ap (said machine) is.2,
      is.3,
      is.4,
      own-within (extent machine) c.state.inside.packed is.0 c.args.at is.1 own is.2 is.3 is.4 c.state.invariant.1,
    )))
