use Rattle.std.proofs.Common.{sym, ap, ◌∙◌}
use Rattle.std.specs.List.{find}
use Rattle.std.specs.Option.{option_map}
use Rattle.semantics.specs.Configurations.{is_terminated_state, same_path}
use Rattle.semantics.specs.Snapshots.{holds}
use Rattle.step_snapshot.specs.Tests.{legend_by}
use Rattle.step_snapshot.proofs.Entries.{state-by}
use Rattle.step_snapshot.proofs.snapshot.Snapshot.is_terminated.Goals as goal
use Rattle.config_parts.specs.Legend.{state_by}

pub returns-in-Some : goal.returns-in-Some
returns-in-Some c =
    let legend = legend_by c.args.self.now.test.now in
    c.is_terminated.ensures ∙ ap (λ r. holds is_terminated_state (option_map (λ x. state_by x.now.state) r)) (sym c.in-Some.is)
    ∙ state-by legend is_terminated_state c.args.path.now c.args.self.now.going.now.components c.component_at.result
    (c.component_at.ensures ∙ ap (find (λ x. same_path x.itself.path c.args.path.now)) c.as_slice.ensures)

pub returns-in-None : goal.returns-in-None
returns-in-None c =
    let legend = legend_by c.args.self.now.test.now in
    ap (λ r. holds is_terminated_state (option_map (λ x. state_by x.now.state) r)) (sym c.in-None.is)
    ∙ state-by legend is_terminated_state c.args.path.now c.args.self.now.going.now.components c.component_at.result
    (c.component_at.ensures ∙ ap (find (λ x. same_path x.itself.path c.args.path.now)) c.as_slice.ensures)
