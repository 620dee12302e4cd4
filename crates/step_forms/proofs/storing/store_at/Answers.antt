use Rattle.std.proofs.Common.{refl, ◌∙◌}
use Rattle.step_forms.proofs.Changed.{stored-as}
use Rattle.step_forms.proofs.storing.store_at.Goals as goal
use Rattle.step_snapshot.specs.Tests.{extent_of, legend_by, test_by}
use Rattle.config_parts.specs.Legend.{data_by}

pub returns-clause-stored : goal.returns-clause-stored
returns-clause-stored c =
    let t = c.args.test.now in
    let target = c.args.target.now in
    stored-as (legend_by t) (test_by t) target.own target.data_type c.args.value (data_by (legend_by t) c.args.own) c.store.result
    ((legend_by t).names c.slot_of-slot.result) target.reference.name c.fields-fields.result.now target.reference.fields
    (c.slot_of-slot.ensures.named ∙ c.name.ensures) c.fields-fields.ensures
    (c.store.ensures.stored (legend_by t) (test_by t) c.slots_are_in_order.ensures refl)

pub returns-clause-within : goal.returns-clause-within
returns-clause-within c = c.store.ensures.within (extent_of c.args.test.now) c.slot_of-slot.ensures.within c.requires.within
