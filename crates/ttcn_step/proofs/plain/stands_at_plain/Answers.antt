use Rattle.std.proofs.Common.{List, ap, slice_get, ◌∙◌}
use Rattle.step_snapshot.specs.Tests.{legend_by, test_by}
use Rattle.config_parts.specs.declared.frame.Data.{Data}
use Rattle.config_parts.specs.declared.frame.Frame.{Frame}
use Rattle.ttcn_step.proofs.NoWait.{plain-frame-has-step}
use Rattle.ttcn_step.proofs.plain.stands_at_plain.Goals as goal

pub returns-in-Some : goal.returns-in-Some
returns-in-Some c = λ plain.
    let t = c.args.test.now in
    plain-frame-has-step (legend_by t) (test_by t) c.args.component.now c.in-Some.frame.now (c.in-Some.ensures.value ∙ ap (λ (calls : List Frame). slice_get calls 0) (c.as_slice.ensures ∙ ap (λ (own : Data). own.calls) c.deref.ensures))
    (c.is_plain_at.ensures plain)
