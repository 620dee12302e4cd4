use Rattle.std.proofs.Common.{true, arith, bytes_eq, length, map, refl, ap, sym, ◌∙◌}
use Rattle.std.proofs.Math.ListN.{length-map}
use Rattle.std.specs.List.{find, zip}
use Rattle.ttcn_syntax.proofs.tree.template.FieldTemplate.TheLaws.{the_size}
use Rattle.ttcn_syntax.specs.declared.tree.template.FieldTemplate.{out-FieldTemplate}
use Rattle.check_scope.specs.Names.{fields_at}
use Rattle.ttcn_values.proofs.Bounds.{element-larger, found_within}
use Rattle.ttcn_values.proofs.BuildingLemmas.{each-none, loop-last, loop-next, mapped_at, paired-at, paired-length}
use Rattle.ttcn_values.proofs.Plans.{alone-many, gather-step, in_order-many, map-map, mapped-many, mapped_twice-many, mapped-twice-at, none-of-map, none-planned, plans-fault, plans-same, present-made, record-is, record-none, without-ifpresent}
use Rattle.ttcn_values.proofs.TemplateForms.{body-of-any, body-of-any-or-omit, body-of-complement, body-of-list, body-of-omit, element-found, element-missing, in-order-as-long, wanted-out}
use Rattle.ttcn_values.specs.internal.Building.{after_steps, alone, one_after, with_more}
use Rattle.ttcn_values.specs.internal.Readers.{read_by}
use Rattle.value_types.specs.Literals.{wanted_record}
use Rattle.value_types.specs.Outcomes.{Yields, outcome_map, unmet, value_in}
use Rattle.value_types.specs.Templates as spec
use Rattle.ttcn_values.specs.declared.reader.Step.TheVariants as step
use Rattle.value_types.specs.declared.template.Pattern.TheVariants as pattern
use Rattle.ttcn_values.proofs.reader.Reader.+templates.Goals as goal

pub plan-returns-else-template : goal.plan-returns-else-template
plan-returns-else-template t c =
    c.in_ok-plan_body.ensures
    ∙ ap (λ o. one_after (after_steps (read_by c.args.self.now) c.args.steps.now.items) (with_more (outcome_map alone o)))
    (sym (wanted-out c.args.template.now (read_by c.args.self.now) c.args.wanted
    ∙ ap (λ b. outcome_map (spec.with_ifpresent b) (spec.body_wanted c.args.template.now.body (read_by c.args.self.now) c.args.wanted)) c.if-template.false
    ∙ without-ifpresent (spec.body_wanted c.args.template.now.body (read_by c.args.self.now) c.args.wanted)))

pub plan-returns-in_ok-push : goal.plan-returns-in_ok-push
plan-returns-in_ok-push t c =
    gather-step (read_by c.args.self.now) c.args.steps.now.items c.push.new.self.items c.plan_body.new.steps.items step.Ifpresent (map (spec.with_ifpresent true)) 1
    (outcome_map alone (spec.body_wanted c.args.template.now.body (read_by c.args.self.now) c.args.wanted)) (outcome_map alone (spec.template_wanted c.args.template.now (read_by c.args.self.now) c.args.wanted))
    c.in_ok-plan_body.ensures c.in_ok-push.ensures.items refl (alone-many (spec.body_wanted c.args.template.now.body (read_by c.args.self.now) c.args.wanted))
    (present-made (spec.body_wanted c.args.template.now.body (read_by c.args.self.now) c.args.wanted) (spec.template_wanted c.args.template.now (read_by c.args.self.now) c.args.wanted)
    (ap (λ b. outcome_map (spec.with_ifpresent b) (spec.body_wanted c.args.template.now.body (read_by c.args.self.now) c.args.wanted)) (sym c.if-template.true)
    ∙ sym (wanted-out c.args.template.now (read_by c.args.self.now) c.args.wanted)))

pub plan_body-returns-in-Any : goal.plan_body-returns-in-Any
plan_body-returns-in-Any t c =
    plans-same (read_by c.args.self.now) c.args.steps.now.items c.put.new.steps.items (outcome_map alone (spec.body_wanted c.args.body.now (read_by c.args.self.now) c.args.wanted)) (Yields (alone (spec.plain pattern.Any))) c.put.result
    (ap (outcome_map alone) (body-of-any (read_by c.args.self.now) c.args.wanted c.args.body.now c.in-Any.is)) (c.put.ensures (read_by c.args.self.now))

pub plan_body-returns-in-AnyOrOmit : goal.plan_body-returns-in-AnyOrOmit
plan_body-returns-in-AnyOrOmit t c =
    plans-same (read_by c.args.self.now) c.args.steps.now.items c.put-in-AnyOrOmit.new.steps.items (outcome_map alone (spec.body_wanted c.args.body.now (read_by c.args.self.now) c.args.wanted)) (Yields (alone (spec.plain pattern.AnyOrOmit))) c.put-in-AnyOrOmit.result
    (ap (outcome_map alone) (body-of-any-or-omit (read_by c.args.self.now) c.args.wanted c.args.body.now c.in-AnyOrOmit.is)) (c.put-in-AnyOrOmit.ensures (read_by c.args.self.now))

pub plan_body-returns-in-Complement : goal.plan_body-returns-in-Complement
plan_body-returns-in-Complement t c =
    plans-same (read_by c.args.self.now) c.args.steps.now.items c.plan_complement.new.steps.items (outcome_map alone (spec.body_wanted c.args.body.now (read_by c.args.self.now) c.args.wanted))
    (outcome_map (λ ps. alone (spec.plain (pattern.Complement ps))) (spec.parts_of (read_by c.args.self.now) c.args.wanted (map spec.template_wanted c.as_slice.result.now))) c.plan_complement.result
    (ap (outcome_map alone) (body-of-complement (read_by c.args.self.now) c.args.wanted c.args.body.now c.in-Complement.parts c.as_slice.result.now (spec.parts_of (read_by c.args.self.now) c.args.wanted (map spec.template_wanted c.as_slice.result.now)) c.in-Complement.is c.as_slice.ensures refl)
    ∙ map-map alone (λ ps. spec.plain (pattern.Complement ps)) (spec.parts_of (read_by c.args.self.now) c.args.wanted (map spec.template_wanted c.as_slice.result.now)))
    c.plan_complement.ensures

pub plan_body-returns-in-List : goal.plan_body-returns-in-List
plan_body-returns-in-List t c =
    plans-same (read_by c.args.self.now) c.args.steps.now.items c.plan_list.new.steps.items (outcome_map alone (spec.body_wanted c.args.body.now (read_by c.args.self.now) c.args.wanted))
    (outcome_map (λ ps. alone (spec.plain (pattern.List ps))) (spec.parts_of (read_by c.args.self.now) c.args.wanted (map spec.template_wanted c.as_slice-in-List.result.now))) c.plan_list.result
    (ap (outcome_map alone) (body-of-list (read_by c.args.self.now) c.args.wanted c.args.body.now c.in-List.parts c.as_slice-in-List.result.now (spec.parts_of (read_by c.args.self.now) c.args.wanted (map spec.template_wanted c.as_slice-in-List.result.now)) c.in-List.is c.as_slice-in-List.ensures refl)
    ∙ map-map alone (λ ps. spec.plain (pattern.List ps)) (spec.parts_of (read_by c.args.self.now) c.args.wanted (map spec.template_wanted c.as_slice-in-List.result.now)))
    c.plan_list.ensures

pub plan_body-returns-in-Omit : goal.plan_body-returns-in-Omit
plan_body-returns-in-Omit t c =
    plans-same (read_by c.args.self.now) c.args.steps.now.items c.put-in-Omit.new.steps.items (outcome_map alone (spec.body_wanted c.args.body.now (read_by c.args.self.now) c.args.wanted)) (Yields (alone (spec.plain pattern.Omit))) c.put-in-Omit.result
    (ap (outcome_map alone) (body-of-omit (read_by c.args.self.now) c.args.wanted c.args.body.now c.in-Omit.is)) (c.put-in-Omit.ensures (read_by c.args.self.now))

pub plan_by_name-returns : goal.plan_by_name-returns
plan_by_name-returns t c =
    gather-step (read_by c.args.self.now) c.args.steps.now.items c.push.new.self.items c.plan_named.new.steps.items (step.Record c.in_ok-at.at (length c.fields-fields.result.now)) (λ ps. alone (spec.plain (pattern.Record c.in_ok-at.at ps))) (length c.fields-fields.result.now)
    (spec.by_name (read_by c.args.self.now) c.fields-fields.result.now (map spec.field_template c.args.elements.now)) (outcome_map alone (spec.record_at (wanted_record c.args.wanted) (λ at. spec.by_name (read_by c.args.self.now) (fields_at c.args.self.now.frame.now.definitions.now at) (map spec.field_template c.args.elements.now))))
    c.in_ok-plan_named.ensures c.in_ok-push.ensures.items refl (mapped-many (λ field. spec.element_named (read_by c.args.self.now) field (find (λ e. bytes_eq e.0 field.name) (map spec.field_template c.args.elements.now))) c.fields-fields.result.now)
    (record-is (wanted_record c.args.wanted) c.in_ok-at.at (λ at. spec.by_name (read_by c.args.self.now) (fields_at c.args.self.now.frame.now.definitions.now at) (map spec.field_template c.args.elements.now)) (spec.by_name (read_by c.args.self.now) c.fields-fields.result.now (map spec.field_template c.args.elements.now)) c.in_ok-at.ensures.gives (ap (λ fs. spec.by_name (read_by c.args.self.now) fs (map spec.field_template c.args.elements.now)) (sym c.fields-fields.ensures)))

pub plan_complement-returns : goal.plan_complement-returns
plan_complement-returns t c =
    gather-step (read_by c.args.self.now) c.args.steps.now.items c.push.new.self.items c.plan_parts.new.steps.items (step.Complement (length c.args.parts.now)) (λ ps. alone (spec.plain (pattern.Complement ps))) (length c.args.parts.now)
    (spec.parts_of (read_by c.args.self.now) c.args.wanted (map spec.template_wanted c.args.parts.now)) (outcome_map (λ ps. alone (spec.plain (pattern.Complement ps))) (spec.parts_of (read_by c.args.self.now) c.args.wanted (map spec.template_wanted c.args.parts.now)))
    c.in_ok-plan_parts.ensures c.in_ok-push.ensures.items refl (mapped_twice-many (λ (part : spec.Wanted). part (read_by c.args.self.now) c.args.wanted) spec.template_wanted c.args.parts.now) refl

pub plan_elements-loop-at-preserved : goal.plan_elements-loop-at-preserved
plan_elements-loop-at-preserved t c =
    loop-next (map (spec.element (read_by c.args.self.now)) (zip c.args.fields.now (map spec.template_wanted c.args.elements.now))) (after_steps (read_by c.args.self.now) c.args.steps.now.items) (after_steps (read_by c.args.self.now) c.loop-at.steps.items) c.loop-at.at c.loop-at.invariant (after_steps (read_by c.args.self.now) c.plan.new.steps.items) (spec.template_wanted c.index-elements-at.result (read_by c.args.self.now) c.resolved-wanted.result) (omega (arith, c.loop-at-test.true, paired-length (spec.element (read_by c.args.self.now)) spec.template_wanted c.args.fields.now c.args.elements.now c.if-elements-fields.false))
    (paired-at (spec.element (read_by c.args.self.now)) spec.template_wanted c.args.fields.now c.args.elements.now c.loop-at.at c.index-fields-at.result c.index-elements-at.result (spec.template_wanted c.index-elements-at.result (read_by c.args.self.now) c.resolved-wanted.result)
    c.loop-at-test.true (omega (arith, c.loop-at-test.true, c.if-elements-fields.false)) c.index-fields-at.is c.index-elements-at.is
    (ap (spec.template_wanted c.index-elements-at.result (read_by c.args.self.now)) (sym c.resolved-wanted.ensures))) c.in_ok-plan.ensures

pub plan_elements-returns : goal.plan_elements-returns
plan_elements-returns t c =
    loop-last (map (spec.element (read_by c.args.self.now)) (zip c.args.fields.now (map spec.template_wanted c.args.elements.now))) (after_steps (read_by c.args.self.now) c.args.steps.now.items) (after_steps (read_by c.args.self.now) c.loop-at.steps.items) c.loop-at.at c.loop-at.invariant (omega (arith, c.loop-at-test.false, paired-length (spec.element (read_by c.args.self.now)) spec.template_wanted c.args.fields.now c.args.elements.now c.if-elements-fields.false))
    ∙ ap (λ m. one_after (after_steps (read_by c.args.self.now) c.args.steps.now.items) (with_more m)) (sym (in-order-as-long (read_by c.args.self.now) c.args.fields.now c.args.elements.now c.if-elements-fields.false))

pub plan_elements-returns-in_err-plan : goal.plan_elements-returns-in_err-plan
plan_elements-returns-in_err-plan t c =
    plans-fault (read_by c.args.self.now) c.args.steps.now.items c.plan.new.steps.items (spec.in_order (read_by c.args.self.now) c.args.fields.now (map spec.template_wanted c.args.elements.now)) c.in_err-plan.field-0.0 c.from_residual.result c.from_residual.ensures.1
    (λ dynamic. ap value_in (in-order-as-long (read_by c.args.self.now) c.args.fields.now c.args.elements.now c.if-elements-fields.false) ∙ each-none (map (spec.element (read_by c.args.self.now)) (zip c.args.fields.now (map spec.template_wanted c.args.elements.now))) c.loop-at.at (spec.template_wanted c.index-elements-at.result (read_by c.args.self.now) c.resolved-wanted.result) (omega (arith, c.loop-at-test.true, paired-length (spec.element (read_by c.args.self.now)) spec.template_wanted c.args.fields.now c.args.elements.now c.if-elements-fields.false)) (paired-at (spec.element (read_by c.args.self.now)) spec.template_wanted c.args.fields.now c.args.elements.now c.loop-at.at c.index-fields-at.result c.index-elements-at.result (spec.template_wanted c.index-elements-at.result (read_by c.args.self.now) c.resolved-wanted.result)
    c.loop-at-test.true (omega (arith, c.loop-at-test.true, c.if-elements-fields.false)) c.index-fields-at.is c.index-elements-at.is
    (ap (spec.template_wanted c.index-elements-at.result (read_by c.args.self.now)) (sym c.resolved-wanted.ensures)))
    (none-of-map alone (spec.template_wanted c.index-elements-at.result (read_by c.args.self.now) c.resolved-wanted.result) (none-planned (read_by c.args.self.now) c.loop-at.steps.items c.plan.new.steps.items (outcome_map alone (spec.template_wanted c.index-elements-at.result (read_by c.args.self.now) c.resolved-wanted.result)) c.in_err-plan.field-0.0 c.in_err-plan.ensures dynamic)))

pub plan_in_order-returns : goal.plan_in_order-returns
plan_in_order-returns t c =
    gather-step (read_by c.args.self.now) c.args.steps.now.items c.push.new.self.items c.plan_elements.new.steps.items (step.Record c.in_ok-at.at (length c.fields-fields.result.now)) (λ ps. alone (spec.plain (pattern.Record c.in_ok-at.at ps))) (length c.fields-fields.result.now)
    (spec.in_order (read_by c.args.self.now) c.fields-fields.result.now (map spec.template_wanted c.args.elements.now)) (outcome_map alone (spec.record_at (wanted_record c.args.wanted) (λ at. spec.in_order (read_by c.args.self.now) (fields_at c.args.self.now.frame.now.definitions.now at) (map spec.template_wanted c.args.elements.now))))
    c.in_ok-plan_elements.ensures c.in_ok-push.ensures.items refl (in_order-many (read_by c.args.self.now) c.fields-fields.result.now (map spec.template_wanted c.args.elements.now))
    (record-is (wanted_record c.args.wanted) c.in_ok-at.at (λ at. spec.in_order (read_by c.args.self.now) (fields_at c.args.self.now.frame.now.definitions.now at) (map spec.template_wanted c.args.elements.now)) (spec.in_order (read_by c.args.self.now) c.fields-fields.result.now (map spec.template_wanted c.args.elements.now)) c.in_ok-at.ensures.gives (ap (λ fs. spec.in_order (read_by c.args.self.now) fs (map spec.template_wanted c.args.elements.now)) (sym c.fields-fields.ensures)))

pub plan_in_order-returns-in_err-plan_elements : goal.plan_in_order-returns-in_err-plan_elements
plan_in_order-returns-in_err-plan_elements t c =
    plans-fault (read_by c.args.self.now) c.args.steps.now.items c.plan_elements.new.steps.items (outcome_map alone (spec.record_at (wanted_record c.args.wanted) (λ at. spec.in_order (read_by c.args.self.now) (fields_at c.args.self.now.frame.now.definitions.now at) (map spec.template_wanted c.args.elements.now))))
    c.in_err-plan_elements.field-0.0 c.from_residual-in_err-plan_elements.result c.from_residual-in_err-plan_elements.ensures.1
    (λ dynamic. record-none (wanted_record c.args.wanted) c.in_ok-at.at (λ at. spec.in_order (read_by c.args.self.now) (fields_at c.args.self.now.frame.now.definitions.now at) (map spec.template_wanted c.args.elements.now)) (spec.in_order (read_by c.args.self.now) c.fields-fields.result.now (map spec.template_wanted c.args.elements.now)) c.in_ok-at.ensures.gives (ap (λ fs. spec.in_order (read_by c.args.self.now) fs (map spec.template_wanted c.args.elements.now)) (sym c.fields-fields.ensures))
    (none-planned (read_by c.args.self.now) c.args.steps.now.items c.plan_elements.new.steps.items (spec.in_order (read_by c.args.self.now) c.fields-fields.result.now (map spec.template_wanted c.args.elements.now)) c.in_err-plan_elements.field-0.0 c.in_err-plan_elements.ensures dynamic))

pub plan_list-returns : goal.plan_list-returns
plan_list-returns t c =
    gather-step (read_by c.args.self.now) c.args.steps.now.items c.push.new.self.items c.plan_parts.new.steps.items (step.List (length c.args.parts.now)) (λ ps. alone (spec.plain (pattern.List ps))) (length c.args.parts.now)
    (spec.parts_of (read_by c.args.self.now) c.args.wanted (map spec.template_wanted c.args.parts.now)) (outcome_map (λ ps. alone (spec.plain (pattern.List ps))) (spec.parts_of (read_by c.args.self.now) c.args.wanted (map spec.template_wanted c.args.parts.now)))
    c.in_ok-plan_parts.ensures c.in_ok-push.ensures.items refl (mapped_twice-many (λ (part : spec.Wanted). part (read_by c.args.self.now) c.args.wanted) spec.template_wanted c.args.parts.now) refl

pub plan_named-loop-field-preserved : goal.plan_named-loop-field-preserved
plan_named-loop-field-preserved t c =
    loop-next (map (λ field. spec.element_named (read_by c.args.self.now) field (find (λ e. bytes_eq e.0 field.name) (map spec.field_template c.args.elements.now))) c.args.fields.now) (after_steps (read_by c.args.self.now) c.args.steps.now.items) (after_steps (read_by c.args.self.now) c.loop-field.steps.items) c.loop-field.field-index c.loop-field.invariant (after_steps (read_by c.args.self.now) c.plan.new.steps.items) (spec.template_wanted (out-FieldTemplate c.in-Some.element.now).template (read_by c.args.self.now) c.resolved-wanted.result) (omega (arith, c.loop-field-test.true, length-map c.args.fields.now (λ field. spec.element_named (read_by c.args.self.now) field (find (λ e. bytes_eq e.0 field.name) (map spec.field_template c.args.elements.now)))))
    (mapped_at (λ field. spec.element_named (read_by c.args.self.now) field (find (λ e. bytes_eq e.0 field.name) (map spec.field_template c.args.elements.now))) c.args.fields.now c.loop-field.field-index c.field-item.result (spec.template_wanted (out-FieldTemplate c.in-Some.element.now).template (read_by c.args.self.now) c.resolved-wanted.result) c.loop-field-test.true c.field-item.is
    (element-found c.args.self.now c.field-item.result c.args.elements.now c.in-Some.element.now c.resolved-wanted.result (sym c.in-Some.ensures) c.resolved-wanted.ensures)) c.in_ok-plan.ensures

pub plan_named-plan-requires : goal.plan_named-plan-requires
plan_named-plan-requires t c =
    let within = found_within the_size (λ e. bytes_eq (out-FieldTemplate e).name c.field-item.result.name) c.args.elements.now c.in-Some.element.now (sym c.in-Some.ensures) in
    let larger = element-larger c.in-Some.element.now in
    (omega (arith, c.decreases), c.requires)

pub plan_named-returns : goal.plan_named-returns
plan_named-returns t c =
    loop-last (map (λ field. spec.element_named (read_by c.args.self.now) field (find (λ e. bytes_eq e.0 field.name) (map spec.field_template c.args.elements.now))) c.args.fields.now) (after_steps (read_by c.args.self.now) c.args.steps.now.items) (after_steps (read_by c.args.self.now) c.loop-field.steps.items) c.loop-field.field-index c.loop-field.invariant (omega (arith, c.loop-field-test.false, length-map c.args.fields.now (λ field. spec.element_named (read_by c.args.self.now) field (find (λ e. bytes_eq e.0 field.name) (map spec.field_template c.args.elements.now)))))

pub plan_named-returns-in_default : goal.plan_named-returns-in_default
plan_named-returns-in_default t c =
    each-none (map (λ field. spec.element_named (read_by c.args.self.now) field (find (λ e. bytes_eq e.0 field.name) (map spec.field_template c.args.elements.now))) c.args.fields.now) c.loop-field.field-index unmet (omega (arith, c.loop-field-test.true, length-map c.args.fields.now (λ field. spec.element_named (read_by c.args.self.now) field (find (λ e. bytes_eq e.0 field.name) (map spec.field_template c.args.elements.now)))))
    (mapped_at (λ field. spec.element_named (read_by c.args.self.now) field (find (λ e. bytes_eq e.0 field.name) (map spec.field_template c.args.elements.now))) c.args.fields.now c.loop-field.field-index c.field-item.result unmet c.loop-field-test.true c.field-item.is
    (element-missing c.args.self.now c.field-item.result c.args.elements.now (sym c.in_default.ensures))) refl

pub plan_named-returns-in_err-plan : goal.plan_named-returns-in_err-plan
plan_named-returns-in_err-plan t c =
    plans-fault (read_by c.args.self.now) c.args.steps.now.items c.plan.new.steps.items (spec.by_name (read_by c.args.self.now) c.args.fields.now (map spec.field_template c.args.elements.now)) c.in_err-plan.field-0.0 c.from_residual.result c.from_residual.ensures.1
    (λ dynamic. each-none (map (λ field. spec.element_named (read_by c.args.self.now) field (find (λ e. bytes_eq e.0 field.name) (map spec.field_template c.args.elements.now))) c.args.fields.now) c.loop-field.field-index (spec.template_wanted (out-FieldTemplate c.in-Some.element.now).template (read_by c.args.self.now) c.resolved-wanted.result) (omega (arith, c.loop-field-test.true, length-map c.args.fields.now (λ field. spec.element_named (read_by c.args.self.now) field (find (λ e. bytes_eq e.0 field.name) (map spec.field_template c.args.elements.now))))) (mapped_at (λ field. spec.element_named (read_by c.args.self.now) field (find (λ e. bytes_eq e.0 field.name) (map spec.field_template c.args.elements.now))) c.args.fields.now c.loop-field.field-index c.field-item.result (spec.template_wanted (out-FieldTemplate c.in-Some.element.now).template (read_by c.args.self.now) c.resolved-wanted.result) c.loop-field-test.true c.field-item.is
    (element-found c.args.self.now c.field-item.result c.args.elements.now c.in-Some.element.now c.resolved-wanted.result (sym c.in-Some.ensures) c.resolved-wanted.ensures))
    (none-of-map alone (spec.template_wanted (out-FieldTemplate c.in-Some.element.now).template (read_by c.args.self.now) c.resolved-wanted.result) (none-planned (read_by c.args.self.now) c.loop-field.steps.items c.plan.new.steps.items (outcome_map alone (spec.template_wanted (out-FieldTemplate c.in-Some.element.now).template (read_by c.args.self.now) c.resolved-wanted.result)) c.in_err-plan.field-0.0 c.in_err-plan.ensures dynamic)))

pub plan_parts-loop-part-preserved : goal.plan_parts-loop-part-preserved
plan_parts-loop-part-preserved t c =
    loop-next (map (λ (part : spec.Wanted). part (read_by c.args.self.now) c.args.wanted) (map spec.template_wanted c.args.parts.now)) (after_steps (read_by c.args.self.now) c.args.steps.now.items) (after_steps (read_by c.args.self.now) c.loop-part.steps.items) c.loop-part.part-index c.loop-part.invariant (after_steps (read_by c.args.self.now) c.plan.new.steps.items) (spec.template_wanted c.part-item.result (read_by c.args.self.now) c.args.wanted) (omega (arith, c.loop-part-test.true, length-map (map spec.template_wanted c.args.parts.now) (λ (part : spec.Wanted). part (read_by c.args.self.now) c.args.wanted), length-map c.args.parts.now spec.template_wanted))
    (mapped-twice-at (λ (part : spec.Wanted). part (read_by c.args.self.now) c.args.wanted) spec.template_wanted c.args.parts.now c.loop-part.part-index c.part-item.result c.loop-part-test.true c.part-item.is) c.in_ok-plan.ensures

pub plan_parts-returns : goal.plan_parts-returns
plan_parts-returns t c =
    loop-last (map (λ (part : spec.Wanted). part (read_by c.args.self.now) c.args.wanted) (map spec.template_wanted c.args.parts.now)) (after_steps (read_by c.args.self.now) c.args.steps.now.items) (after_steps (read_by c.args.self.now) c.loop-part.steps.items) c.loop-part.part-index c.loop-part.invariant (omega (arith, c.loop-part-test.false, length-map (map spec.template_wanted c.args.parts.now) (λ (part : spec.Wanted). part (read_by c.args.self.now) c.args.wanted), length-map c.args.parts.now spec.template_wanted))

pub plan_parts-returns-in_err-plan : goal.plan_parts-returns-in_err-plan
plan_parts-returns-in_err-plan t c =
    plans-fault (read_by c.args.self.now) c.args.steps.now.items c.plan.new.steps.items (spec.parts_of (read_by c.args.self.now) c.args.wanted (map spec.template_wanted c.args.parts.now)) c.in_err-plan.field-0.0 c.from_residual.result c.from_residual.ensures.1
    (λ dynamic. each-none (map (λ (part : spec.Wanted). part (read_by c.args.self.now) c.args.wanted) (map spec.template_wanted c.args.parts.now)) c.loop-part.part-index (spec.template_wanted c.part-item.result (read_by c.args.self.now) c.args.wanted) (omega (arith, c.loop-part-test.true, length-map (map spec.template_wanted c.args.parts.now) (λ (part : spec.Wanted). part (read_by c.args.self.now) c.args.wanted), length-map c.args.parts.now spec.template_wanted)) (mapped-twice-at (λ (part : spec.Wanted). part (read_by c.args.self.now) c.args.wanted) spec.template_wanted c.args.parts.now c.loop-part.part-index c.part-item.result c.loop-part-test.true c.part-item.is)
    (none-of-map alone (spec.template_wanted c.part-item.result (read_by c.args.self.now) c.args.wanted) (none-planned (read_by c.args.self.now) c.loop-part.steps.items c.plan.new.steps.items (outcome_map alone (spec.template_wanted c.part-item.result (read_by c.args.self.now) c.args.wanted)) c.in_err-plan.field-0.0 c.in_err-plan.ensures dynamic)))
