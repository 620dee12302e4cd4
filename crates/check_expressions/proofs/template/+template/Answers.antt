use Rattle.std.proofs.Common.{sym, ap, ◌∙◌, map}
use Rattle.std.specs.Option.{option_map}
use Rattle.ttcn_syntax.specs.declared.tree.template.FieldTemplate.{out-FieldTemplate}
use Rattle.check_scope.specs.internal.Checking.{view}
use Rattle.check_rules.specs.Templates as spec
use Rattle.check_rules.specs.Values.{wanted_fields}
use Rattle.check_expressions.proofs.Elements.{in_order-end, in_order-next, named-end, named-first, named-next, rest_in_order}
use Rattle.check_rules.proofs.TemplateForms.{each-end, each-next, field-template-out, rest_of_each}
use Rattle.check_expressions.proofs.template.+template.Goals as goal

pub by_name-loop-element-init : goal.by_name-loop-element-init
by_name-loop-element-init t c =
    named-first (view c.args.scope.now) (wanted_fields c.args.scope.now.definitions.now c.args.wanted) c.new-names.result (map spec.field_template c.args.elements.now) c.nothing-broken.result
    c.new-names.ensures c.nothing-broken.ensures

pub by_name-loop-element-preserved : goal.by_name-loop-element-preserved
by_name-loop-element-preserved t c =
    named-next spec.field_template (view c.args.scope.now) (wanted_fields c.args.scope.now.definitions.now c.args.wanted) c.loop-element.names c.insert.new.self c.args.elements.now
    c.loop-element.element-index c.element-item.result (out-FieldTemplate c.element-item.result).name (spec.template (out-FieldTemplate c.element-item.result).template)
    c.in_ok-is_new.is_new c.loop-element.broken c.check_field_name-named.result c.in_ok-part.part c.and-broken.result _
    c.loop-element-test.true c.element-item.is (field-template-out c.element-item.result) (rw c.as_bytes.ensures at c.in_ok-is_new.ensures.is_new)
    (rw c.as_bytes.ensures at c.in_ok-is_new.ensures.behind) c.check_field_name-named.ensures (rw c.target_named-target.ensures at c.in_ok-part.ensures)
    (rw c.and.ensures at c.and-broken.ensures) c.loop-element.invariant

pub by_name-returns : goal.by_name-returns
by_name-returns t c =
    named-end spec.field_template (view c.args.scope.now) (wanted_fields c.args.scope.now.definitions.now c.args.wanted) c.loop-element.names c.args.elements.now c.loop-element.element-index
    c.loop-element.broken _ c.loop-element-test.false c.loop-element.invariant

pub in_order-loop-element-init : goal.in_order-loop-element-init
in_order-loop-element-init t c =
    ap (rest_in_order (view c.args.scope.now) (option_map (λ fields. fields.now) c.args.fields) (map spec.template c.args.elements.now)) c.nothing-broken.ensures

pub in_order-loop-element-preserved : goal.in_order-loop-element-preserved
in_order-loop-element-preserved t c =
    sym (in_order-next spec.template (view c.args.scope.now) (option_map (λ fields. fields.now) c.loop-element.left) (option_map (λ fields. fields.now) c.next_fields-left.result)
    c.args.elements.now c.loop-element.element-index c.element-item.result c.loop-element.broken c.in_ok-part.part c.and-broken.result
    c.loop-element-test.true c.element-item.is c.next_fields-left.ensures (rw c.first_target.ensures at c.in_ok-part.ensures) c.and-broken.ensures)
    ∙ c.loop-element.invariant

pub in_order-returns : goal.in_order-returns
in_order-returns t c =
    sym (in_order-end spec.template (view c.args.scope.now) (option_map (λ fields. fields.now) c.loop-element.left) c.args.elements.now c.loop-element.element-index c.loop-element.broken c.loop-element-test.false)
    ∙ c.loop-element.invariant

pub each-loop-part-init : goal.each-loop-part-init
each-loop-part-init t c = ap (rest_of_each (view c.args.scope.now) c.args.target c.args.parts.now) c.nothing-broken.ensures

pub each-loop-part-preserved : goal.each-loop-part-preserved
each-loop-part-preserved t c =
    sym (each-next (view c.args.scope.now) c.args.target c.args.parts.now c.loop-part.part-index c.part-item.result c.loop-part.broken c.in_ok-template.field-0 c.and-broken.result
    c.loop-part-test.true c.part-item.is c.in_ok-template.ensures c.and-broken.ensures)
    ∙ c.loop-part.invariant

pub each-returns : goal.each-returns
each-returns t c = sym (each-end (view c.args.scope.now) c.args.target c.args.parts.now c.loop-part.part-index c.loop-part.broken c.loop-part-test.false) ∙ c.loop-part.invariant
