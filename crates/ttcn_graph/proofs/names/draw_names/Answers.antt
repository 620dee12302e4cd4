use Rattle.std.proofs.Common.{◌≡◌, ◌-◌, suc, [], arith, get_or}
use Rattle.ttcn_graph.proofs.Growing.{names-next}
use Rattle.ttcn_graph.proofs.names.draw_names.Goals as goal

pub loop-place-preserved : goal.loop-place-preserved
loop-place-preserved c =
    let some = c.loop-place-test.true in
    let one : c.loop-place.place ≡ suc (c.loop-place.place - 1) = omega (arith, some) in
    names-next c.args.draft.now c.loop-place.draft c.draw_name.new.draft c.args.statement.now c.args.count (get_or c.args.draft.now.lists c.args.rest [])
    c.loop-place.at c.in_ok-at.at (c.loop-place.place - 1) c.loop-place.place one c.loop-place.invariant c.in_ok-at.ensures
