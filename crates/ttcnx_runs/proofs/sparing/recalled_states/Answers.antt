use Rattle.std.proofs.Common.{◌≡◌, ap, map, subst, sym, ◌∙◌}
use Rattle.config_packed.specs.Pieces.{IsCut}
use Rattle.config_parts.specs.Legend.{going_by}
use Rattle.config_parts.specs.declared.config.Going.{Going}
use Rattle.config_parts.specs.declared.config.Config.TheVariants as config
use Rattle.laws_local.specs.Alone.{how_many}
use Rattle.ttcn_step.specs.Machines.{legend}
use Rattle.ttcnx_runs.proofs.Recalled.{active-recalled, if-some, live-of}
use Rattle.ttcnx_runs.proofs.Zipped.{whole-spared}
use Rattle.ttcnx_runs.proofs.sparing.recalled_states.Goals as goal
use Rattle.ttcnx_runs.specs.internal.Recalls.{AreKeys, IsToRecall, active_in, has_steps}

going-is : {a b : Going} → config.Going a ≡ config.Going b → a ≡ b
going-is e = cc

pub returns : goal.returns
returns g c =
    let machine = g.K.Scheme.machine in
    let whole = if-some c.in_ok-parts.field-0 c.in-Some.parts (IsToRecall c.args.packed.now) c.in_ok-parts.ensures c.in-Some.is in
    whole-spared machine c.args.packed.now c.args.packed.now whole.going whole.going 0 c.in_ok-pairs_behind.field-0.items whole.is whole.is whole.unmapped
    (c.in_ok-pairs_behind.ensures whole.going whole.going 0 whole.is tt)

pub pairs_behind-requires-clause-can : goal.pairs_behind-requires-clause-can
pairs_behind-requires-clause-can g c =
    let machine = g.K.Scheme.machine in
    let whole = if-some c.in_ok-parts.field-0 c.in-Some.parts (IsToRecall c.args.packed.now) c.in_ok-parts.ensures c.in-Some.is in
    let going = whole.going in
    let all = c.in-Some-2.all.items in
    let keys : AreKeys going (map (λ one. one.now.key.items) all) = if-some c.in_ok-all.field-0 c.in-Some-2.all (λ all. AreKeys going (map (λ one. one.now.key.items) all.items)) (c.in_ok-all.ensures going whole.cut) c.in-Some-2.is in
    let live = live-of machine c.args.packed.now going c.requires.fits whole.is in
    let many : c.active_among.result ≡ active_in machine (going_by (legend machine) going) =
    c.active_among.ensures ∙ ap (how_many (λ one. has_steps one.now.outcomes.items)) c.deref.ensures.value
    ∙ active-recalled machine (λ one. one.now.key.items) (λ one. one.now.outcomes.items) (λ one. one.now.right) all going live keys in
    record {
      going = going;
      is = whole.is;
      cut = whole.cut;
      state = c.requires.fits;
      counted = many;
    }

pub pairs_behind-requires-clause-keys : goal.pairs_behind-requires-clause-keys
pairs_behind-requires-clause-keys g c going is =
    let whole = if-some c.in_ok-parts.field-0 c.in-Some.parts (IsToRecall c.args.packed.now) c.in_ok-parts.ensures c.in-Some.is in
    let cut : IsCut going c.in-Some.parts = subst (λ (w : Going). IsCut w c.in-Some.parts) (going-is (sym whole.is ∙ is)) whole.cut in
    subst (λ xs. AreKeys going (map (λ one. one.now.key.items) xs)) (sym c.deref-2.ensures.value)
    (if-some c.in_ok-all.field-0 c.in-Some-2.all (λ all. AreKeys going (map (λ one. one.now.key.items) all.items)) (c.in_ok-all.ensures going cut) c.in-Some-2.is)
