use Rattle.std.proofs.Common.{◌≡◌, ◌≤◌, [], length, sym, refl, ◌∙◌, true≢false, arith}
use Rattle.explore.proofs.Quiet.{one_more, of-all, in-all}
use Rattle.explore.proofs.runs.is_quiet.Goals as goal

pub returns-then-not-branch : goal.returns-then-not-branch
returns-then-not-branch g c = (
  λ is. absurd (true≢false (sym is)),
  λ all. sym c.if-not-branch.true ∙ c.in_ok-is_stuck.ensures.1 (of-all (λ (s : _). (g.Y.System.graph c.args.system.now).enabled s ≡ []) c.args.states.now.keys c.args.from c.loop-place.place c.loop-place.auto.place
      c.index.result.now c.index.ensures all),
)

pub loop-place-preserved : goal.loop-place-preserved
loop-place-preserved g c =
    one_more (λ (s : _). (g.Y.System.graph c.args.system.now).enabled s ≡ []) c.args.states.now.keys c.args.from c.loop-place.place c.loop-place.auto.place
    c.index.result.now c.index.ensures (c.in_ok-is_stuck.ensures.0 c.if-not-branch.false) c.loop-place.invariant

pub returns : goal.returns
returns g c =
    let end : length c.args.states.now.keys ≤ c.loop-place.place = (let past = c.loop-place-test.false in let len = c.len-place-end.ensures.len in omega arith) in (
      λ is. in-all (λ (s : _). (g.Y.System.graph c.args.system.now).enabled s ≡ []) c.args.states.now.keys c.args.from c.loop-place.place c.loop-place.auto.place end c.loop-place.invariant,
      λ all. refl,
    )
