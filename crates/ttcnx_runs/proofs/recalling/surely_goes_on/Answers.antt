use Rattle.std.proofs.Common.{ap, sym, ◌∙◌}
use Rattle.config_parts.specs.declared.config.Config.{Config}
use Rattle.semantics.specs.Labels.{labels}
use Rattle.ttcn_step.specs.Machines.{said}
use Rattle.ttcnx_runs.proofs.Parting.{parts-going}
use Rattle.ttcnx_runs.proofs.Parts.{if-ok}
use Rattle.ttcnx_runs.proofs.Recalled.{live-of}
use Rattle.ttcnx_runs.proofs.recalling.surely_goes_on.Goals as goal

pub returns : goal.returns
returns g c =
    let machine = g.K.Scheme.machine in
    let whole = parts-going c.args.packed.now c.in_ok-parts.field-0 c.in-Some.parts c.in_ok-parts.ensures c.in-Some.is in
    if-ok c.has_active.result _ _ c.has_active.ensures
    (λ active told yes none. told yes whole.0 whole.2 (live-of machine c.args.packed.now whole.0 c.requires whole.1) (ap (λ (w : Config). labels machine.test (said machine w)) (sym whole.1) ∙ none))
