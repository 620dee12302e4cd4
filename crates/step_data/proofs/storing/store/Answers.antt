use Rattle.std.proofs.Common.{ap, sym, ◌∙◌}
use Rattle.value_assignment.specs.Assignment.{assigned}
use Rattle.semantics.specs.Storing as storing
use Rattle.step_data.proofs.Changes.{held-by}
use Rattle.config_parts.specs.Legend.{data_by}
use Rattle.value_types.specs.Outcomes.{Yields, outcome_map}
use Rattle.semantics.specs.Entries.{put}
use Rattle.semantics.specs.Items.{Target}
use Rattle.value_types.specs.Frames.{entry}
use Rattle.value_types.proofs.Faults.{handed-on-by}
use Rattle.step_data.proofs.storing.store.Goals as goal

pub returns-in_err-value-clause-stored : goal.returns-in_err-value-clause-stored
returns-in_err-value-clause-stored c legend test is same =
    let target : Target = record { own = c.args.last; reference = record { name = legend.names c.args.slot; fields = c.args.fields.now }; data_type = c.args.data_type } in
    handed-on-by (data_by legend) (assigned c.args.definitions.now c.args.data_type c.in_ok-before.before c.args.fields.now c.args.value)
    (storing.store test target c.args.value (data_by legend c.args.own)) c.in_err-value.field-0.0 c.from_residual-in_err-value.result c.from_residual-in_err-value.ensures.1 c.in_err-value.ensures
    (λ why none.
    ap (outcome_map (λ new. storing.in_frame c.args.last (λ frame. storing.with_values (put (legend.names c.args.slot) new frame.values) frame) (data_by legend c.args.own)))
    (ap (λ ds. assigned ds c.args.data_type (entry (storing.values_in c.args.last (data_by legend c.args.own)) (legend.names c.args.slot)) c.args.fields.now c.args.value) same
    ∙ ap (λ held. assigned c.args.definitions.now c.args.data_type held c.args.fields.now c.args.value) (sym (c.in_ok-before.ensures ∙ held-by legend is c.args.last c.args.slot c.args.own))
    ∙ none))

pub returns-clause-stored : goal.returns-clause-stored
returns-clause-stored c legend test is same =
    ap (outcome_map (λ new. storing.in_frame c.args.last (λ frame. storing.with_values (put (legend.names c.args.slot) new frame.values) frame) (data_by legend c.args.own)))
    (ap (λ ds. assigned ds c.args.data_type (entry (storing.values_in c.args.last (data_by legend c.args.own)) (legend.names c.args.slot)) c.args.fields.now c.args.value) same
    ∙ ap (λ held. assigned c.args.definitions.now c.args.data_type held c.args.fields.now c.args.value) (sym (c.in_ok-before.ensures ∙ held-by legend is c.args.last c.args.slot c.args.own))
    ∙ c.in_ok-value.ensures)
    ∙ ap Yields (sym (c.in_ok-set_value.ensures.changed legend is))
