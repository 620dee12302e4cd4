use Rattle.std.proofs.Common.{ap, ◌∙◌, ◌++◌, ◌∷◌, []}
use Rattle.summary.proofs.Successors.{with-after-more}
use Rattle.summary.proofs.system.System.successors.Goals as goal

pub loop-label-preserved : goal.loop-label-preserved
loop-label-preserved g c =
    c.in_ok-push.ensures.items
    ∙ ap (λ pairs. pairs ++ (c.in-Some.label, c.in_ok-after.after) ∷ []) c.loop-label.invariant
    ∙ with-after-more (g.Self.System.graph c.args.self.now) c.args.state.now c.loop-label.yielded c.in-Some.label c.in_ok-after.after c.in_ok-after.ensures
