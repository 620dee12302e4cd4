use Rattle.std.proofs.Common.{ap, subst, sym, ◌∙◌}
use Rattle.config_parts.specs.declared.config.Config.{Config}
use Rattle.semantics.specs.Labels.{labels}
use Rattle.ttcn_step.specs.Machines.{Fits, said}
use Rattle.ttcnx_runs.proofs.Parts.{if-ok}
use Rattle.ttcnx_runs.proofs.Recalled.{if-some, machine-fits}
use Rattle.ttcnx_runs.proofs.Shortened.{labels-shortened, state-shortened}
use Rattle.ttcnx_runs.proofs.shortening.with_same_labels.Goals as goal
use Rattle.ttcnx_runs.specs.internal.Recalls.{FitsState}

pub returns-in-Some-clause-fits : goal.returns-in-Some-clause-fits
returns-in-Some-clause-fits g c =
    let machine = g.K.Scheme.machine in
    let short = if-some c.in_ok-short.field-0 c.in-Some.short _ c.in_ok-short.ensures c.in-Some.is in
    if-ok c.unpack.result _ (Fits machine) c.unpack.ensures
    (λ config is. subst (Fits machine) (sym (is ∙ short.2)) (machine-fits machine _ (state-shortened machine short.0 (subst (FitsState machine) short.1 c.requires))))

pub returns-in-Some-clause-labels : goal.returns-in-Some-clause-labels
returns-in-Some-clause-labels g c =
    let machine = g.K.Scheme.machine in
    let short = if-some c.in_ok-short.field-0 c.in-Some.short _ c.in_ok-short.ensures c.in-Some.is in
    if-ok c.unpack.result _ _ c.unpack.ensures
    (λ config is.
    ap (λ (w : Config). labels machine.test (said machine w)) (is ∙ short.2) ∙ labels-shortened machine short.0
    ∙ ap (λ (w : Config). labels machine.test (said machine w)) (sym short.1))

pub returns-in-None-clause-fits : goal.returns-in-None-clause-fits
returns-in-None-clause-fits g c =
    let machine = g.K.Scheme.machine in
    if-ok c.config.result _ (Fits machine) c.config.ensures (λ config is. subst (Fits machine) (sym is) (machine-fits machine c.args.packed.now c.requires))

pub returns-in-None-clause-labels : goal.returns-in-None-clause-labels
returns-in-None-clause-labels g c =
    let machine = g.K.Scheme.machine in
    if-ok c.config.result _ _ c.config.ensures (λ config is. ap (λ (w : Config). labels machine.test (said machine w)) is)
