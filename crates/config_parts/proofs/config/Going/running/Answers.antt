use Rattle.std.proofs.Common.{ap, ◌∙◌}
use Rattle.config_parts.proofs.Viewed.{runs-by}
use Rattle.config_parts.specs.Views.{running_paths}
use Rattle.config_parts.proofs.config.Going.running.Goals as goal

pub returns : goal.returns
returns c legend component ascend p =
    runs-by legend c.args.self.now ascend component p c.in_ok-running.running.items (c.in_ok-running.ensures ∙ ap running_paths c.as_slice.ensures)
