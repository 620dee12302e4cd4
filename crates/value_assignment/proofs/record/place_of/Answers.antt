use Rattle.std.proofs.Common.{bytes_eq, refl, rules}
use Rattle.value_types.proofs.Lists.{position-end, position-first, position-next}
use Rattle.value_assignment.proofs.record.place_of.Goals as goal

pub loop-place-init : goal.loop-place-init
loop-place-init c = refl

pub returns-then-eq : goal.returns-then-eq
returns-then-eq c =
    position-first (λ field. bytes_eq field.name c.args.name.now) c.args.fields.now c.loop-place.place c.index-fields-place.result
    c.loop-place-test.true c.index-fields-place.is (search rules) c.loop-place.invariant

pub loop-place-preserved : goal.loop-place-preserved
loop-place-preserved c =
    position-next (λ field. bytes_eq field.name c.args.name.now) c.args.fields.now c.loop-place.place c.index-fields-place.result
    c.loop-place-test.true c.index-fields-place.is (search rules) c.loop-place.invariant

pub returns : goal.returns
returns c =
    position-end (λ field. bytes_eq field.name c.args.name.now) c.args.fields.now c.loop-place.place c.loop-place-test.false c.loop-place.invariant
