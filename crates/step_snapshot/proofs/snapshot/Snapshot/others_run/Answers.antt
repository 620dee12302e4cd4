use Rattle.std.proofs.Common.{◌&&◌, not, ap, ◌∙◌}
use Rattle.std.specs.List.{list_any}
use Rattle.semantics.specs.Configurations.{is_running_state, same_path}
use Rattle.step_snapshot.specs.Tests.{legend_by}
use Rattle.step_snapshot.proofs.Entries.{any-by}
use Rattle.step_snapshot.proofs.snapshot.Snapshot.others_run.Goals as goal
use Rattle.config_parts.specs.Legend.{state_by}

pub returns : goal.returns
returns c =
    let path = c.args.self.now.test.now.mtc.path in
    c.another_runs.ensures ∙ ap (list_any (λ x. is_running_state (state_by x.state) && not (same_path x.itself.path path))) c.as_slice.ensures
    ∙ any-by (legend_by c.args.self.now.test.now) path c.args.self.now.going.now.components
