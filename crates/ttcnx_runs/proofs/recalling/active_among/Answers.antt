use Rattle.std.proofs.Common.{arith, sym, ◌∙◌}
use Rattle.ttcnx_runs.proofs.Gathering.{have-none, have-steps, none-more, one-more}
use Rattle.ttcnx_runs.proofs.recalling.active_among.Goals as goal
use Rattle.ttcnx_runs.proofs.recalling.active_among.Goals.{else-not-is_empty, then-not-is_empty}
use Rattle.ttcnx_runs.specs.internal.Recalls.{has_steps}

pub loop-one-preserved : goal.loop-one-preserved
loop-one-preserved g c =
    let one = c.one-item.result in
    elim c.if-not-is_empty.branch [
      | then-not-is_empty w ↦ record {
        count = one-more c.args.all.now c.loop-one.one-index one (λ one. has_steps one.now.outcomes.items) c.loop-one.count c.if-not-is_empty.count c.loop-one-test.true c.one-item.is c.loop-one.invariant.count
            (have-steps one.now.outcomes.items one.now.outcomes.len one.now.outcomes.ok.0 (sym w.if-not-is_empty.true ∙ c.is_empty.ensures)) w.count-is;
        small = omega (arith, w.count-is, c.loop-one.invariant.small);
      }
      | else-not-is_empty w ↦ record {
        count = none-more c.args.all.now c.loop-one.one-index one (λ one. has_steps one.now.outcomes.items) c.loop-one.count c.if-not-is_empty.count c.loop-one-test.true c.one-item.is c.loop-one.invariant.count
            (have-none one.now.outcomes.items one.now.outcomes.len one.now.outcomes.ok.0 (sym w.if-not-is_empty.false ∙ c.is_empty.ensures)) w.count-is;
        small = omega (arith, w.count-is, c.loop-one.invariant.small);
      }
    ]
