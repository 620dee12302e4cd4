use Rattle.std.proofs.Common.{ap, sym, ◌∙◌}
use Rattle.std.specs.Hash as hashed
use Rattle.std.specs.Hash.{HashWrites}
use Rattle.std.specs.List.{fold}
use Rattle.config_parts.specs.declared.config.Config.{Config}
use Rattle.ttcnx_runs.proofs.state.StateHash.hash.Goals as goal
use Rattle.ttcnx_runs.specs.States.{fed, hash_code}
use Rattle.ttcnx_runs.specs.CodesBack.{code_of_config}

pub returns : goal.returns
returns g c =
    let machine = g.K.Scheme.machine in
    c.write_u32.ensures
    ∙ ap (λ (writes : HashWrites). fold g.H.Hasher.write c.args.state.now writes)
    (ap hashed.u32 c.self.invariant.3
    ∙ sym (ap (λ (configuration : Config). hashed.u32 (hash_code configuration)) (code_of_config machine.lists machine.names c.self.invariant.0.lists c.self.invariant.0.names c.self.inside.packed c.self.invariant.1))
    ∙ ap (fed machine) c.self.view_is)
