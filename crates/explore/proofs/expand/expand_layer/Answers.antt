use Rattle.std.proofs.Common.{◌-◌, ◌<◌, ◌≡◌, length, drop, ap, ◌∙◌, arith}
use Rattle.std.specs.List.{range_with_len}
use Rattle.std.proofs.lemmas.List.{length-drop}
use Rattle.rayon.specs.Numbers.{nat_range}
use Rattle.rayon.proofs.ToStd.{nat_range-All}
use Rattle.explore.proofs.Expanding.{all-expanded}
use Rattle.explore.proofs.expand.expand_layer.Goals as goal

pub collect-requires-clause-ready : goal.collect-requires-clause-ready
collect-requires-clause-ready g c κs within =
    let n = length c.args.states.now.keys in
    let ends = c.into_par_iter.ensures in
    let len = c.len.ensures.len in
    let inside = nat_range-All (λ i. i < n) c.args.from n (λ i low high. high) in
    rw (c.map.ensures.f, c.map.ensures.base, c.with_min_len.ensures.base, ends.0, ends.1, len) (λ k d lt. ((inside k d lt, c.requires.fits, c.requires.kept), λ y p. tt))

pub returns : goal.returns
returns g c =
    let ends = c.into_par_iter.ensures in
    let states = c.args.states.now.keys in
    let from = c.args.from in
    let len = c.len.ensures.len in
    let count : c.len.result - from ≡ length (drop from states) = (let d = length-drop from states in omega arith) in
    let found = c.in_ok-collect.ensures in
    let base = c.map.ensures.base in
    let whole = c.with_min_len.ensures.base in
    let places = found.1.1 ∙ (λ i. nat_range (base i).base.start (base i).base.end) ∙ (λ i. nat_range (whole i).start (whole i).end) ∙ (λ i. nat_range (ends.0 i) (ends.1 i)) ∙ ap (range_with_len from) count in
    let each = rw c.map.ensures.f at found.1.2 in
    all-expanded (g.Y.System.graph c.args.system.now) g.Y.Label.Ord.cmp states c.args.steps.now from found.1.0 found.0 c.in_ok-collect.field-0 c.in_ok-candidates.candidates places each found.2 c.in_ok-candidates.was
