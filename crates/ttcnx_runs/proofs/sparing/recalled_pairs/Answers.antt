use Rattle.std.proofs.Common.{◌≡◌, ℕ, refl, ap, map, subst, sym, ◌∙◌}
use Rattle.std.specs.Prelude.{IfSome}
use Rattle.config_packed.specs.Pieces.{IsCut}
use Rattle.config_parts.specs.Legend.{going_by}
use Rattle.config_parts.specs.declared.config.Config.{Config}
use Rattle.config_parts.specs.declared.config.Config.TheVariants as config
use Rattle.config_parts.specs.declared.config.Going.{Going}
use Rattle.laws_local.specs.Alone.{how_many}
use Rattle.search_ordinals.specs.Told.{IsNth}
use Rattle.semantics.specs.Canonical.{canonical_graph}
use Rattle.semantics.specs.Labels.{labels}
use Rattle.semantics.specs.Steps.{Label}
use Rattle.ttcn_step.specs.Machines.{Machine, legend, said}
use Rattle.ttcnx_runs.proofs.LastSteps.{some-as}
use Rattle.ttcnx_runs.proofs.Recalled.{active-recalled, if-some, live-of}
use Rattle.ttcnx_runs.proofs.Zipped.{whole-spared}
use Rattle.ttcnx_runs.proofs.sparing.recalled_pairs.Goals as goal
use Rattle.ttcnx_runs.specs.internal.Recalls.{AreKeys, FitsState, IsToRecall, active_in, has_steps}
use Rattle.ttcnx_runs.specs.internal.Spared.{IsReached}

going-is : {a b : Going} → config.Going a ≡ config.Going b → a ≡ b
going-is e = cc

-- a configuration from which a step leads goes on
goes-before : (machine : Machine) (configuration : Config) (nth : ℕ) (label : Label) → IsNth (labels machine.test (said machine configuration)) nth label → (going : Going) × (configuration ≡ config.Going going)
goes-before machine (config.Ended v) nth label numbered = absurd numbered
goes-before machine (config.Going going) nth label numbered = (going, refl)

pub returns : goal.returns
returns g c =
    let machine = g.K.Scheme.machine in
    let whole = if-some c.in_ok-parts.field-0 c.in-Some.parts (IsToRecall c.args.packed.now) c.in_ok-parts.ensures c.in-Some.is in
    let behind = c.requires.behind in
    let earlier = goes-before machine c.args.before.now c.args.nth behind.0 behind.1 in
    let before : Going = earlier.0 in
    let reached : IfSome c.in_ok-last.last
    (λ last. IsReached machine (λ one. one.now.key.items) (λ one. one.now.outcomes.items) before c.args.nth last.known.items last.at last.effect.now whole.going) =
    some-as c.in_ok-last.last _ _
    (λ last made. record {
      state = subst (FitsState machine) earlier.1 c.requires.fits_before;
      keys = made.0;
      step = made.1;
      label = behind.0;
      numbered = subst (λ (s : Config). IsNth (labels machine.test (said machine s)) c.args.nth behind.0) earlier.1 behind.1;
      leads = ap (said machine) (sym whole.is) ∙ behind.2 ∙ ap (λ (s : Config). (canonical_graph machine.test).after (said machine s) behind.0) earlier.1;
    }) (c.in_ok-last.ensures before whole.going earlier.1 whole.cut) in
    whole-spared machine c.args.before.now c.args.packed.now before whole.going c.args.nth c.in_ok-pairs.pairs.items earlier.1 whole.is whole.unmapped
    (c.in_ok-pairs.ensures before whole.going c.args.nth whole.is reached)

pub step_before-requires : goal.step_before-requires
step_before-requires g c going cut =
    subst (λ xs. AreKeys going (map (λ one. one.now.key.items) xs)) (sym c.deref.ensures.value)
    (if-some c.in_ok-all.field-0 c.in-Some-2.all (λ all. AreKeys going (map (λ one. one.now.key.items) all.items)) (c.in_ok-all.ensures going cut) c.in-Some-2.is)

pub pairs_behind-requires-clause-can : goal.pairs_behind-requires-clause-can
pairs_behind-requires-clause-can g c =
    let machine = g.K.Scheme.machine in
    let whole = if-some c.in_ok-parts.field-0 c.in-Some.parts (IsToRecall c.args.packed.now) c.in_ok-parts.ensures c.in-Some.is in
    let going = whole.going in
    let all = c.in-Some-2.all.items in
    let keys : AreKeys going (map (λ one. one.now.key.items) all) = if-some c.in_ok-all.field-0 c.in-Some-2.all (λ all. AreKeys going (map (λ one. one.now.key.items) all.items)) (c.in_ok-all.ensures going whole.cut) c.in-Some-2.is in
    let live = live-of machine c.args.packed.now going c.requires.fits whole.is in
    let many : c.active_among.result ≡ active_in machine (going_by (legend machine) going) =
    c.active_among.ensures ∙ ap (how_many (λ one. has_steps one.now.outcomes.items)) c.deref-2.ensures.value
    ∙ active-recalled machine (λ one. one.now.key.items) (λ one. one.now.outcomes.items) (λ one. one.now.right) all going live keys in
    record {
      going = going;
      is = whole.is;
      cut = whole.cut;
      state = c.requires.fits;
      counted = many;
    }

pub pairs_behind-requires-clause-keys : goal.pairs_behind-requires-clause-keys
pairs_behind-requires-clause-keys g c going is =
    let whole = if-some c.in_ok-parts.field-0 c.in-Some.parts (IsToRecall c.args.packed.now) c.in_ok-parts.ensures c.in-Some.is in
    let cut : IsCut going c.in-Some.parts = subst (λ (w : Going). IsCut w c.in-Some.parts) (going-is (sym whole.is ∙ is)) whole.cut in
    subst (λ xs. AreKeys going (map (λ one. one.now.key.items) xs)) (sym c.deref-3.ensures.value)
    (if-some c.in_ok-all.field-0 c.in-Some-2.all (λ all. AreKeys going (map (λ one. one.now.key.items) all.items)) (c.in_ok-all.ensures going cut) c.in-Some-2.is)
