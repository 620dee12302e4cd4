use Rattle.std.proofs.Common.{refl, sym, ap, ◌∙◌}
use Rattle.ttcn_values.proofs.Following.{along-end, along-fault, along-next}
use Rattle.value_types.specs.Outcomes.{value_in}
use Rattle.ttcn_values.proofs.reader.record.along.Goals as goal

pub loop-name-init : goal.loop-name-init
loop-name-init c = refl

pub returns-in_err-value : goal.returns-in_err-value
returns-in_err-value c =
    let e = along-fault c.args.definitions.now c.args.names.now c.loop-name.name-index c.name-item.result c.loop-name.value.now c.loop-name-test.true c.name-item.is (sym c.in_err-value.ensures) in
    rw c.from_residual.ensures (sym e ∙ ap value_in c.loop-name.invariant)

pub loop-name-preserved : goal.loop-name-preserved
loop-name-preserved c =
    along-next c.args.definitions.now c.args.names.now c.loop-name.name-index c.name-item.result c.loop-name.value.now c.in_ok-value.value.now
    c.loop-name-test.true c.name-item.is (sym c.in_ok-value.ensures) ∙ c.loop-name.invariant

pub returns : goal.returns
returns c =
    ap value_in (sym (along-end c.args.definitions.now c.args.names.now c.loop-name.name-index c.loop-name.value.now c.loop-name-test.false) ∙ c.loop-name.invariant)
