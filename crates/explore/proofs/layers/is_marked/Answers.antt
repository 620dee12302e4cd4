use Rattle.std.proofs.Common.{◌≡◌, ℕ, ◌≤◌, length, drop, ap, subst, sym, ◌∙◌, true≢false, arith}
use Rattle.std.specs.Prelude.{◌≢◌, All, Some}
use Rattle.std.proofs.lemmas.Option.{get_or_from_slice_get}
use Rattle.explore.proofs.Quiet.{in-all, one_more}
use Rattle.explore.proofs.layers.is_marked.Goals as goal

pub returns-then-has_mark-clause-some : goal.returns-then-has_mark-clause-some
returns-then-has_mark-clause-some g c is =
    let graph = g.Y.System.graph c.args.system.now in
    record {
      number = c.in-Some.mark;
      place = c.loop-place.place;
      is = c.in-Some.is;
      within = let test = c.loop-place-test.true in let len = c.len-place-end.ensures.len in omega arith;
      marked = ap graph.mark (get_or_from_slice_get c.args.states.now.keys c.loop-place.place c.index.result.now graph.first c.index.ensures) ∙ c.has_mark.ensures.0 c.if-has_mark.true;
    }

pub loop-place-preserved : goal.loop-place-preserved
loop-place-preserved g c =
    let graph = g.Y.System.graph c.args.system.now in
    one_more (λ (s : _). graph.mark s ≢ Some c.in-Some.mark) c.args.states.now.keys c.args.from c.loop-place.place c.loop-place.auto.place
    c.index.result.now c.index.ensures (λ marked. absurd (true≢false (sym (c.has_mark.ensures.1 marked) ∙ c.if-has_mark.false))) c.loop-place.invariant

pub returns-clause-none : goal.returns-clause-none
returns-clause-none g c is number wanted =
    let graph = g.Y.System.graph c.args.system.now in
    let same : c.in-Some.mark ≡ number = (let some = c.in-Some.is in cc) in
    let end : length c.args.states.now.keys ≤ c.loop-place.place = (let past = c.loop-place-test.false in let len = c.len-place-end.ensures.len in omega arith) in
    subst (λ (m : ℕ). All (λ (s : _). graph.mark s ≢ Some m) (drop c.args.from c.args.states.now.keys)) same
    (in-all (λ (s : _). graph.mark s ≢ Some c.in-Some.mark) c.args.states.now.keys c.args.from c.loop-place.place c.loop-place.auto.place end c.loop-place.invariant)
