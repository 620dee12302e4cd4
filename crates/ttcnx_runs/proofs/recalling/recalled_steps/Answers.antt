use Rattle.std.proofs.Common.{ap, map, ◌∙◌}
use Rattle.std.specs.List.{flat_map}
use Rattle.config_parts.specs.declared.config.Going.{Going}
use Rattle.ttcnx_runs.proofs.Recalled.{if-some, live-of, places-recalled}
use Rattle.ttcnx_runs.proofs.recalling.recalled_steps.Goals as goal
use Rattle.ttcnx_runs.specs.internal.Recalls.{AreKeys, IsToRecall, branch_and_place}

pub returns : goal.returns
returns g c =
    let machine = g.K.Scheme.machine in
    let whole = if-some c.in_ok-parts.field-0 c.in-Some.parts (IsToRecall c.args.packed.now) c.in_ok-parts.ensures c.in-Some.is in
    let going : Going = whole.going in
    let all = c.in-Some-2.all.items in
    let keys : AreKeys going (map (λ one. one.now.key.items) all) = if-some c.in_ok-all.field-0 c.in-Some-2.all (λ all. AreKeys going (map (λ one. one.now.key.items) all.items)) (c.in_ok-all.ensures going whole.cut) c.in-Some-2.is in
    c.in_ok-places_of.ensures ∙ ap (flat_map (λ one. map branch_and_place one.now.outcomes.items)) c.deref.ensures.value
    ∙ places-recalled machine (λ one. one.now.key.items) (λ one. one.now.outcomes.items) (λ one. one.now.right) all c.args.packed.now going whole.is (live-of machine c.args.packed.now going c.requires whole.is) keys
    whole.unmapped
