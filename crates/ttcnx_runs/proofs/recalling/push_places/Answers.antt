use Rattle.std.proofs.Common.{◌++◌, ap, map, sym, ◌∙◌}
use Rattle.std.proofs.lemmas.List.{append-nil, take_all}
use Rattle.ttcnx_runs.proofs.Gathering.{more-behind}
use Rattle.ttcnx_runs.proofs.recalling.push_places.Goals as goal
use Rattle.ttcnx_runs.specs.internal.Recalls.{branch_and_place}

pub loop-outcome-init : goal.loop-outcome-init
loop-outcome-init g c = sym (append-nil c.args.found.now.items)

pub loop-outcome-preserved : goal.loop-outcome-preserved
loop-outcome-preserved g c =
    more-behind branch_and_place c.as_slice-outcome-items.result.now c.loop-outcome.outcome-index c.outcome-item.result c.args.found.now.items c.loop-outcome.found.items c.push.new.self.items
    (c.copied-branch.result, c.copied_place-event.result) c.loop-outcome-test.true c.outcome-item.is c.loop-outcome.invariant c.in_ok-push.ensures.items
    (λ i. (c.copied-branch.ensures i, c.copied_place-event.ensures i))

pub returns : goal.returns
returns g c =
    c.loop-outcome.invariant
    ∙ ap (λ os. c.args.found.now.items ++ map branch_and_place os) (take_all c.loop-outcome.outcome-index c.as_slice-outcome-items.result.now c.loop-outcome-test.false ∙ c.as_slice-outcome-items.ensures.value)
