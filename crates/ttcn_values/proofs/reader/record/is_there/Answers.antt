use Rattle.std.proofs.Common.{refl, sym, ap, ◌∙◌}
use Rattle.ttcn_values.proofs.Following.{last-fault, last-next}
use Rattle.value_types.specs.Outcomes.{value_in}
use Rattle.ttcn_values.proofs.reader.record.is_there.Goals as goal

pub loop-name-init : goal.loop-name-init
loop-name-init c = refl

pub loop-name-preserved : goal.loop-name-preserved
loop-name-preserved c =
    last-next c.args.definitions.now c.args.others.now c.loop-name.name-index c.loop-name.last.now c.name-item.result c.loop-name.value.now c.in-Some.value.now
    c.loop-name-test.true c.name-item.is (sym c.in-Some.ensures) ∙ c.loop-name.invariant

pub returns-in-None-clause-gives : goal.returns-in-None-clause-gives
returns-in-None-clause-gives c =
    ap value_in (sym c.loop-name.invariant)
    ∙ last-fault c.args.definitions.now c.args.others.now c.loop-name.name-index c.loop-name.last.now c.name-item.result c.loop-name.value.now c.loop-name-test.true c.name-item.is (sym c.in-None.ensures)
