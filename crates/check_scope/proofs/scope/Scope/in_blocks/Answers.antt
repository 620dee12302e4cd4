use Rattle.std.proofs.Common.{rules, arith}
use Rattle.std.proofs.lemmas.Grind.{common_steps}
use Rattle.check_scope.proofs.Lookups.{or-None, said-end, said-next}
use Rattle.check_scope.proofs.scope.Scope.in_blocks.Goals as goal

pub loop-block-init : goal.loop-block-init
loop-block-init c = rw (or-None _, c.as_slice-block-items.ensures.value) (search rules)

pub loop-block-preserved : goal.loop-block-preserved
loop-block-preserved c =
    let e = said-next c.as_slice-block-items.result.now c.loop-block.block-index c.block-item.result c.args.name.now c.loop-block.found c.loop-block-test.true c.block-item.is in
    first_of (search rules, grind (arith, common_steps))

pub returns : goal.returns
returns c =
    let e = said-end c.as_slice-block-items.result.now c.loop-block.block-index c.args.name.now c.loop-block.found c.loop-block-test.false in
    first_of (search rules, grind (arith, common_steps))
