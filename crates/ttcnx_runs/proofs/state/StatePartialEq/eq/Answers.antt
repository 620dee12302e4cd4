use Rattle.std.proofs.Common.{ap, ◌∙◌}
use Rattle.ttcnx_runs.proofs.Packing.{same-bytes-equal}
use Rattle.ttcnx_runs.proofs.state.StatePartialEq.eq.Goals as goal
use Rattle.ttcnx_runs.specs.CodesBack.{eq_is_same}
use Rattle.ttcnx_runs.specs.SameConfigurations.{same_configuration}
use Rattle.ttcn_step.specs.Machines.{said}

pub returns : goal.returns
returns g c =
    let machine = g.K.Scheme.machine in
    let one = c.self.inside.packed in
    let other = c.other.inside.packed in
    c.eq.ensures ∙ same-bytes-equal one other ∙ eq_is_same machine.lists machine.names c.self.invariant.0.lists c.self.invariant.0.names one other c.self.invariant.1 c.other.invariant.1
    ∙ ap (λ x. same_configuration x (said machine other)) c.self.view_is ∙ ap (λ y. same_configuration c.args.self.now y) c.other.view_is
