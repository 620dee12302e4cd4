use Rattle.std.proofs.Common.{◌≡◌, ◌++◌, ◌+◌, ℕ, suc, arith, ap, map, subst, take, ◌∙◌}
use Rattle.std.proofs.lemmas.List.{take_all}
use Rattle.std.specs.List.{AllZip, flat_map}
use Rattle.config_parts.specs.declared.config.Config.TheVariants as config
use Rattle.semantics.specs.Canonical.{canonical_graph}
use Rattle.ttcn_step.specs.Machines.{said}
use Rattle.ttcnx_runs.proofs.Late.{component-at}
use Rattle.ttcnx_runs.proofs.Recalled.{keys-long, live-of, one-more, outcomes-shown}
use Rattle.ttcnx_runs.proofs.sparing.pairs_behind.Goals as goal
use Rattle.ttcnx_runs.specs.Remembered.{shown, steps_of}
use Rattle.ttcnx_runs.specs.internal.Spared.{IsSpared}

pub push_recalled-requires-clause-here : goal.push_recalled-requires-clause-here
push_recalled-requires-clause-here g c going is =
    component-at (λ one. one.now.key.items) c.args.all.now going c.loop-at.at c.index-all-at.result (c.requires.keys going is) c.loop-at-test.true c.index-all-at.is

pub loop-at-preserved : goal.loop-at-preserved
loop-at-preserved g c before going nth is reached =
    let machine = g.K.Scheme.machine in
    let at = c.loop-at.at in
    let one = c.index-all-at.result.now in
    let here = component-at (λ one. one.now.key.items) c.args.all.now going at c.index-all-at.result (c.requires.keys going is) c.loop-at-test.true c.index-all-at.is in
    let live = live-of machine c.args.recall.now.packed.now going c.requires.can.state is in
    let steps : map (shown machine going at here.0) one.outcomes.items ≡ steps_of machine going here.0 = outcomes-shown machine one.key.items one.outcomes.items one.right going at here.0 live here.1 here.2 in
    let next : suc at ≡ at + 1 = omega arith in
    subst (λ ss. AllZip (IsSpared (canonical_graph machine.test) (said machine (config.Going before)) nth) ss c.push_recalled.new.pairs.items)
    (ap (λ zs. flat_map (steps_of machine going) (take at going.components) ++ zs) steps ∙ one-more (steps_of machine going) going.components at here.0 here.1
    ∙ ap (λ (n : ℕ). flat_map (steps_of machine going) (take n going.components)) next)
    (c.in_ok-push_recalled.ensures before going nth here.0 (flat_map (steps_of machine going) (take at going.components)) is here.1 reached (c.loop-at.invariant before going nth is reached))

pub returns : goal.returns
returns g c before going nth is reached =
    let machine = g.K.Scheme.machine in
    let long = keys-long (λ one. one.now.key.items) c.args.all.now going (c.requires.keys going is) in
    let behind = c.loop-at-test.false in
    subst (λ cs. AllZip (IsSpared (canonical_graph machine.test) (said machine (config.Going before)) nth) (flat_map (steps_of machine going) cs) c.loop-at.pairs.items)
    (take_all c.loop-at.at going.components (omega (arith, behind, long))) (c.loop-at.invariant before going nth is reached)
