use Rattle.std.proofs.Common.{ap, ◌∙◌}
use Rattle.ttcn_step.specs.Machines.{Machine, said}
use Rattle.ttcnx_runs.proofs.Making.{made-of, placed-of}
use Rattle.ttcnx_runs.proofs.remembering.outcome_of.Goals as goal
use Rattle.ttcnx_runs.specs.Sights.{step_place}

pub returns-clause-made : goal.returns-clause-made
returns-clause-made g c going component here =
    made-of g.K.Scheme.machine c.args.config.now going c.args.at component c.args.step.now.label here (record { branch = c.copied.result; event = c.in_ok-event.event; effect = c.in_ok-effect.effect })
    (c.copied.ensures ∙ c.requires.step.branch) (c.in_ok-effect.ensures.made going component here)

pub returns-clause-placed : goal.returns-clause-placed
returns-clause-placed g c going component here =
    let machine = g.K.Scheme.machine in
    placed-of machine c.args.config.now going c.args.at component c.args.step.now.label here c.in_ok-event.event
    (c.in_ok-event.ensures ∙ ap (λ (m : Machine). step_place m.test (said m c.args.config.now) c.args.step.now.label) c.requires.is)
