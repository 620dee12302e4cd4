use Rattle.std.proofs.Common.{sym, ◌∙◌}
use Rattle.step_forms.proofs.Conditions.{do-asks, for-asks}
use Rattle.step_acts.proofs.step.act_while.Goals as goal
use Rattle.ttcn_graph.proofs.Forms.{does-DoWhile, does-For}

pub returns-in-DoWhile-clause-asks : goal.returns-in-DoWhile-clause-asks
returns-in-DoWhile-clause-asks c =
    let s = c.args.stand.now in
    do-asks s c.in-DoWhile.block c.as_slice.result.now c.in-DoWhile.condition c.act_loop.result c.as_slice.ensures c.act_loop.ensures.asks
    c.requires (does-DoWhile s.statement.now c.in-DoWhile.block c.in-DoWhile.condition (sym c.get.ensures ∙ c.in-DoWhile.is))

pub returns-in-For-clause-asks : goal.returns-in-For-clause-asks
returns-in-For-clause-asks c =
    let s = c.args.stand.now in
    for-asks s c.in-For.block c.as_slice-in-For.result.now c.in-For.condition c.act_loop-in-For.result c.as_slice-in-For.ensures c.act_loop-in-For.ensures.asks
    c.in-For.field-0 c.in-For.field-2 c.requires (does-For s.statement.now c.in-For.field-0 c.in-For.condition c.in-For.field-2 c.in-For.block (sym c.get.ensures ∙ c.in-For.is))
