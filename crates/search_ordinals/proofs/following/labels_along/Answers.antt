use Rattle.std.proofs.Common.{◌≡◌, ℕ, ◌+◌, suc, ◌<◌, List, arith, drop, length, subst, sym}
use Rattle.search_ordinals.proofs.Walks.{IsOnTheWay, at-end, at-first, in-range, step-on}
use Rattle.search_ordinals.specs.OrdinalLaws.{contains_from_nth}
use Rattle.search_ordinals.specs.Told.{IsNth}
use Rattle.summary.specs.Run.{labels_of}
use Rattle.search_ordinals.proofs.following.labels_along.Goals as goal

pub loop-ordinal-init : goal.loop-ordinal-init
loop-ordinal-init g c =
    let system = c.args.system.now in
    let laws = g.met.Y.System g.world.𝓛 g.world.𝓜 g.world.𝓡 ((λ s x. x), (λ x. x), (λ x. x), λ x. x) in (
      subst (g.Y.System.fits system) (sym c.in_ok-state.ensures) (laws.first_fits system),
      λ run told is same. at-first (g.Y.Located.branch system) (g.Y.System.graph system) c.in_ok-state.state c.new-labels.result.items run told c.args.ordinals.now c.in_ok-state.ensures c.new-labels.ensures.items is same,
    )

pub nth_of-label-requires : goal.nth_of-label-requires
nth_of-label-requires g c =
    let system = c.args.system.now in
    let told = c.requires in
    subst (λ (labels : List _). c.ordinal-item.result.nth < length labels) (sym c.in_ok-labels.ensures)
    (in-range (g.Y.Located.branch system) (g.Y.System.graph system) c.loop-ordinal.state c.loop-ordinal.labels.items c.args.ordinals.now c.loop-ordinal.ordinal-index c.ordinal-item.result (labels_of told.0)
    c.loop-ordinal-test.true c.ordinal-item.is (c.loop-ordinal.invariant.1 told.0 told.1 told.2 told.3))

pub next_of-requires-clause-nth : goal.next_of-requires-clause-nth
next_of-requires-clause-nth g c =
    subst (λ (labels : List _). IsNth labels c.ordinal-item.result.nth c.nth_of-label.result) c.in_ok-labels.ensures c.nth_of-label.ensures

pub loop-ordinal-preserved : goal.loop-ordinal-preserved
loop-ordinal-preserved g c =
    let system = c.args.system.now in
    let graph = g.Y.System.graph system in
    let i = c.loop-ordinal.ordinal-index in
    let there : IsNth (graph.enabled c.loop-ordinal.state) c.ordinal-item.result.nth c.nth_of-label.result =
    subst (λ (labels : List _). IsNth labels c.ordinal-item.result.nth c.nth_of-label.result) c.in_ok-labels.ensures c.nth_of-label.ensures in
    let more : suc i ≡ i + 1 = omega arith in
    let laws = g.met.Y.System g.world.𝓛 g.world.𝓜 g.world.𝓡 ((λ s x. x), (λ x. x), (λ x. x), λ x. x) in (
      subst (g.Y.System.fits system) (sym c.in_ok-state-2.ensures)
          (laws.after_fits system c.loop-ordinal.state c.nth_of-label.result c.loop-ordinal.invariant.0 (contains_from_nth (graph.enabled c.loop-ordinal.state) c.ordinal-item.result.nth c.nth_of-label.result there)),
      λ run told is same. subst (λ (k : ℕ). IsOnTheWay (g.Y.Located.branch system) graph c.in_ok-state-2.state c.push.new.self.items (drop k c.args.ordinals.now) (labels_of run)) more
          (step-on (g.Y.Located.branch system) graph c.loop-ordinal.state c.loop-ordinal.labels.items c.args.ordinals.now i c.ordinal-item.result (labels_of run) c.loop-ordinal-test.true c.ordinal-item.is
          c.nth_of-label.result c.in_ok-state-2.state c.push.new.self.items there c.in_ok-state-2.ensures c.in_ok-push.ensures.items (c.loop-ordinal.invariant.1 run told is same)),
    )

pub returns : goal.returns
returns g c run told is same =
    let system = c.args.system.now in
    at-end (g.Y.Located.branch system) (g.Y.System.graph system) c.loop-ordinal.state c.loop-ordinal.labels.items c.args.ordinals.now c.loop-ordinal.ordinal-index (labels_of run) c.loop-ordinal-test.false
    (c.loop-ordinal.invariant.1 run told is same)
