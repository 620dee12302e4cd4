use Rattle.std.proofs.Common.{◌≡◌, map, subst, sym, ◌∙◌}
use Rattle.std.specs.List.{All}
use Rattle.semantics.specs.Labels.{labels}
use Rattle.ttcn_step.specs.Answers.{IsSuccessor}
use Rattle.ttcn_step.specs.Machines.{Fits, Machine, said}
use Rattle.ttcnx_runs.proofs.Recalled.{machine-fits}
use Rattle.ttcnx_runs.proofs.working_out.steps_worked_out.Goals as goal
use Rattle.ttcnx_runs.specs.internal.WorkedOut.{AreSteps}

pub returns : goal.returns
returns g c =
    let config = c.args.config.now in
    record {
      enabled = c.in_ok-steps.ensures.labels ∙ subst (λ (m : Machine). map (λ s. s.label) c.in_ok-found.found.items ≡ labels m.test (said m config)) c.args.runs.now.is c.in_ok-found.ensures.labels;
      each = c.in_ok-steps.ensures.each;
    }

pub steps_to-requires-clause-fits : goal.steps_to-requires-clause-fits
steps_to-requires-clause-fits g c = machine-fits g.K.Scheme.machine c.args.config.now c.requires.fits

pub steps_to-requires-clause-leads : goal.steps_to-requires-clause-leads
steps_to-requires-clause-leads g c = subst (λ (m : Machine). All (IsSuccessor m c.args.config.now) c.in_ok-found.found.items) c.args.runs.now.is c.in_ok-found.ensures.leads

pub steps_to-requires-clause-is : goal.steps_to-requires-clause-is
steps_to-requires-clause-is g c = c.args.runs.now.is

pub steps_to-requires-clause-found : goal.steps_to-requires-clause-found
steps_to-requires-clause-found g c = c.in_ok-found.ensures.fits

pub remember-requires-clause-steps : goal.remember-requires-clause-steps
remember-requires-clause-steps g c =
    let machine = g.K.Scheme.machine in
    let config = c.args.config.now in
    subst (AreSteps machine config) (sym c.as_slice.ensures.value)
    (record {
      enabled = c.in_ok-steps.ensures.labels ∙ subst (λ (m : Machine). map (λ s. s.label) c.in_ok-found.found.items ≡ labels m.test (said m config)) c.args.runs.now.is c.in_ok-found.ensures.labels;
      each = c.in_ok-steps.ensures.each;
    })

pub remember-requires-clause-is : goal.remember-requires-clause-is
remember-requires-clause-is g c = c.args.runs.now.is

pub successors-requires : goal.successors-requires
successors-requires g c = subst (λ (m : Machine). Fits m c.args.config.now) (sym c.args.runs.now.is) (machine-fits g.K.Scheme.machine c.args.config.now c.requires.fits)
