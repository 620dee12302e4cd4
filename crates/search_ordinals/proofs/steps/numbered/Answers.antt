use Rattle.std.proofs.Common.{◌∙◌}
use Rattle.search_ordinals.proofs.Numbers.{next-number}
use Rattle.search_ordinals.proofs.steps.numbered.Goals as goal

pub loop-branch-preserved : goal.loop-branch-preserved
loop-branch-preserved g c =
    c.in_ok-push.ensures.items
    ∙ next-number c.loop-branch.yielded c.loop-branch.pairs.items c.in_ok-nth.nth c.in-Some.branch c.in-Some.item c.loop-branch.invariant (c.in_ok-nth.ensures ∙ c.len-in-loop-branch.ensures ∙ c.loop-branch.pairs.ok.0)
