use Rattle.std.proofs.Common.{◌≡◌, ◌++◌, List, Some, ap, map, subst, sym, true, ◌∙◌}
use Rattle.std.proofs.lemmas.List.{append-nil, take_all}
use Rattle.std.specs.List.{All, AllZip}
use Rattle.config_packed.specs.Pieces.{spell_key}
use Rattle.config_parts.specs.Views.{IsConfigWithin}
use Rattle.config_parts.specs.declared.config.Config.TheVariants as config
use Rattle.semantics.specs.Canonical.{canonical_graph}
use Rattle.ttcn_step.specs.Machines.{extent, said}
use Rattle.ttcnx_runs.proofs.LastSteps.{by-both}
use Rattle.ttcnx_runs.proofs.Late.{late}
use Rattle.ttcnx_runs.proofs.Recalled.{live-of, one-of, outcomes-within}
use Rattle.ttcnx_runs.proofs.Zipped.{one-left, zipped-more}
use Rattle.ttcnx_runs.proofs.sparing.push_recalled.Goals as goal
use Rattle.ttcnx_runs.specs.Remembered.{IsEffectWithin, led_to, shown}
use Rattle.ttcnx_runs.specs.Schemes.{IsMachine}
use Rattle.search_ordinals.specs.Sparing.{IsEarly}
use Rattle.ttcnx_runs.specs.internal.Apart.{AreApart}
use Rattle.ttcnx_runs.specs.internal.Spared.{IsSpared}
use Rattle.ttcnx_runs.specs.declared.outcome.Outcome.{Outcome}

some-is : {A : Type 0} {a b : A} → Some a ≡ Some b → a ≡ b
some-is e = cc

pub loop-outcome-preserved : goal.loop-outcome-preserved
loop-outcome-preserved g c before going nth component start is found reached zipped =
    let machine = g.K.Scheme.machine in
    let at = c.args.at in
    let one = c.args.one in
    let outcome : Outcome = c.outcome-item.result in
    let items = c.as_slice-outcome-items.result.now in
    let here = c.requires.here going is in
    let told : one.now.key.items ≡ spell_key going at component = here.2 ∙ ap (spell_key going at) (some-is (sym here.1 ∙ found)) in
    let machines : IsMachine machine = subst IsMachine c.requires.is (record { lists = c.lists_and_names_differ.ensures.lists; names = c.lists_and_names_differ.ensures.names }) in
    let early : c.is_early-early.result ≡ true → IsEarly (canonical_graph machine.test) (said machine (config.Going before)) nth (led_to machine going at component outcome.effect) = λ yes.
    by-both c.args.last.now _ _ (IsEarly (canonical_graph machine.test) (said machine (config.Going before)) nth (led_to machine going at component outcome.effect))
    (c.is_early-early.ensures yes).0 (c.is_early-early.ensures yes).1 reached
    (λ last apart behind.
    one-of (λ o. AreApart last.at last.effect.now o.effect → IsEarly (canonical_graph machine.test) (said machine (config.Going before)) nth (led_to machine going at component o.effect))
    items c.loop-outcome.outcome-index outcome c.loop-outcome-test.true c.outcome-item.is
    (subst (All (λ o. AreApart last.at last.effect.now o.effect → IsEarly (canonical_graph machine.test) (said machine (config.Going before)) nth (led_to machine going at component o.effect)))
    (sym c.as_slice-outcome-items.ensures.value)
    (late machine machines (λ one. one.now.key.items) (λ one. one.now.outcomes.items) (λ one. one.now.right) before going nth last.known.items last.at last.effect.now behind
    (subst (IsConfigWithin (extent machine)) is c.requires.can.state.within) at component one found told apart.0 apart.1)) apart.2) in
    zipped-more (IsSpared (canonical_graph machine.test) (said machine (config.Going before)) nth) (shown machine going at component) items c.loop-outcome.outcome-index outcome (c.copied-branch.result, c.in_ok-after.after)
    start c.loop-outcome.pairs.items c.push.new.self.items c.loop-outcome-test.true c.outcome-item.is (c.loop-outcome.invariant before going nth component start is found reached zipped) c.in_ok-push.ensures.items
    (one-left (canonical_graph machine.test) (said machine (config.Going before)) nth c.is_early-early.result (shown machine going at component outcome) c.copied-branch.result c.in_ok-after.after
    c.copied-branch.ensures (c.in_ok-after.ensures going component is found) early)

pub returns : goal.returns
returns g c before going nth component start is found reached zipped =
    let machine = g.K.Scheme.machine in
    subst (λ (os : List Outcome). AllZip (IsSpared (canonical_graph machine.test) (said machine (config.Going before)) nth) (start ++ map (shown machine going c.args.at component) os) c.loop-outcome.pairs.items)
    (take_all c.loop-outcome.outcome-index c.as_slice-outcome-items.result.now c.loop-outcome-test.false ∙ c.as_slice-outcome-items.ensures.value)
    (c.loop-outcome.invariant before going nth component start is found reached zipped)

pub state_unless_early-requires-clause-within : goal.state_unless_early-requires-clause-within
state_unless_early-requires-clause-within g c going is =
    let machine = g.K.Scheme.machine in
    let one = c.args.one.now in
    let here = c.requires.here going is in
    one-of (λ outcome. IsEffectWithin machine going c.args.at outcome.effect) c.as_slice-outcome-items.result.now c.loop-outcome.outcome-index c.outcome-item.result c.loop-outcome-test.true c.outcome-item.is
    (subst (All (λ (outcome : Outcome). IsEffectWithin machine going c.args.at outcome.effect)) (sym c.as_slice-outcome-items.ensures.value)
    (outcomes-within machine one.key.items one.outcomes.items one.right going c.args.at here.0 (live-of machine c.args.recall.now.packed.now going c.requires.can.state is) here.1 here.2))

pub loop-outcome-init : goal.loop-outcome-init
loop-outcome-init g c before going nth component start is found reached zipped =
    let machine = g.K.Scheme.machine in
    subst (λ ss. AllZip (IsSpared (canonical_graph machine.test) (said machine (config.Going before)) nth) ss c.args.pairs.now.items) (sym (append-nil start)) zipped
