use Rattle.std.proofs.Common.{sym, true≢false, ◌∙◌}
use Rattle.std.specs.List.{flat_map}
use Rattle.semantics.specs.Labels.{deliveries, labels_of_component}
use Rattle.step_snapshot.specs.Tests.{legend_by, test_by}
use Rattle.config_parts.specs.Legend.{going_by}
use Rattle.ttcn_step.proofs.Stuck.{first-none}
use Rattle.ttcn_step.proofs.labels.is_stuck_going.Goals as goal

pub returns-then-not-branch : goal.returns-then-not-branch
returns-then-not-branch c =
    let test = test_by c.args.test.now in
    let going = going_by (legend_by c.args.test.now) c.args.going.now in (
      λ stuck. absurd (true≢false (sym stuck)),
      λ none. absurd (true≢false (sym (c.in_ok-are_stuck.ensures.1 (first-none (flat_map (labels_of_component test going) going.components) (deliveries test going) none)) ∙ c.if-not-branch.true)),
    )
