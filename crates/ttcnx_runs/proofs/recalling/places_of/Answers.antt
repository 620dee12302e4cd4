use Rattle.std.proofs.Common.{◌≡◌, ◌++◌, ◌+◌, ℕ, suc, arith, ap, map, take, ◌∙◌}
use Rattle.std.proofs.lemmas.List.{take_all}
use Rattle.std.specs.List.{flat_map}
use Rattle.ttcnx_runs.proofs.Parting.{get-found}
use Rattle.ttcnx_runs.proofs.Recalled.{one-more}
use Rattle.ttcnx_runs.proofs.recalling.places_of.Goals as goal
use Rattle.ttcnx_runs.specs.internal.Recalls.{branch_and_place}

pub loop-one-preserved : goal.loop-one-preserved
loop-one-preserved g c =
    let at = c.loop-one.one-index in
    let one = c.one-item.result in
    let next : suc at ≡ at + 1 = omega arith in
    c.in_ok-push_places.ensures ∙ ap (λ xs. xs ++ map branch_and_place one.now.outcomes.items) c.loop-one.invariant
    ∙ one-more (λ one. map branch_and_place one.now.outcomes.items) c.args.all.now at one (get-found c.args.all.now at one c.loop-one-test.true c.one-item.is)
    ∙ ap (λ (n : ℕ). flat_map (λ one. map branch_and_place one.now.outcomes.items) (take n c.args.all.now)) next

pub returns : goal.returns
returns g c =
    c.loop-one.invariant ∙ ap (flat_map (λ one. map branch_and_place one.now.outcomes.items)) (take_all c.loop-one.one-index c.args.all.now c.loop-one-test.false)
