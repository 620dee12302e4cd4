use Rattle.std.proofs.Common.{sym, ◌∙◌}
use Rattle.step_snapshot.specs.Tests.{legend_by}
use Rattle.config_parts.specs.Legend.{going_by}
use Rattle.ttcn_step.proofs.step.has_step.Goals as goal

pub returns-then-stands_at_plain : goal.returns-then-stands_at_plain
returns-then-stands_at_plain c =
    sym (c.stands_at_plain.ensures c.if-stands_at_plain.true (going_by (legend_by c.args.test.now) c.args.going.now) (sym c.is_running.ensures ∙ c.if-not-is_running.false))
