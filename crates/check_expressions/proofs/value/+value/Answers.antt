use Rattle.std.proofs.Common.{sym, ap, ◌∙◌, map}
use Rattle.std.specs.Option.{option_map}
use Rattle.ttcn_syntax.specs.declared.tree.value.FieldValue.{out-FieldValue}
use Rattle.check_scope.specs.internal.Checking.{view}
use Rattle.check_rules.specs.Values as checked
use Rattle.check_rules.specs.Values.{wanted_fields}
use Rattle.check_expressions.proofs.Elements.{in_order-end, in_order-next, named-end, named-first, named-next, rest_in_order}
use Rattle.check_rules.proofs.ValueForms.{field-value-out}
use Rattle.check_expressions.proofs.value.+value.Goals as goal

pub by_name-loop-element-init : goal.by_name-loop-element-init
by_name-loop-element-init t c =
    named-first (view c.args.scope.now) (wanted_fields c.args.scope.now.definitions.now c.args.wanted) c.new-names.result (map checked.field_value c.args.elements.now) c.nothing-broken.result
    c.new-names.ensures c.nothing-broken.ensures

pub by_name-loop-element-preserved : goal.by_name-loop-element-preserved
by_name-loop-element-preserved t c =
    named-next checked.field_value (view c.args.scope.now) (wanted_fields c.args.scope.now.definitions.now c.args.wanted) c.loop-element.names c.insert.new.self c.args.elements.now
    c.loop-element.element-index c.element-item.result (out-FieldValue c.element-item.result).name (checked.value (out-FieldValue c.element-item.result).value)
    c.in_ok-is_new.is_new c.loop-element.broken c.check_field_name-named.result c.in_ok-part.part c.and-broken.result _
    c.loop-element-test.true c.element-item.is (field-value-out c.element-item.result) (rw c.as_bytes.ensures at c.in_ok-is_new.ensures.is_new)
    (rw c.as_bytes.ensures at c.in_ok-is_new.ensures.behind) c.check_field_name-named.ensures (rw c.target_named-target.ensures at c.in_ok-part.ensures)
    (rw c.and.ensures at c.and-broken.ensures) c.loop-element.invariant

pub by_name-returns : goal.by_name-returns
by_name-returns t c =
    named-end checked.field_value (view c.args.scope.now) (wanted_fields c.args.scope.now.definitions.now c.args.wanted) c.loop-element.names c.args.elements.now c.loop-element.element-index
    c.loop-element.broken _ c.loop-element-test.false c.loop-element.invariant

pub in_order-loop-element-init : goal.in_order-loop-element-init
in_order-loop-element-init t c =
    ap (rest_in_order (view c.args.scope.now) (option_map (λ fields. fields.now) c.args.fields) (map checked.value c.args.elements.now)) c.nothing-broken.ensures

pub in_order-loop-element-preserved : goal.in_order-loop-element-preserved
in_order-loop-element-preserved t c =
    sym (in_order-next checked.value (view c.args.scope.now) (option_map (λ fields. fields.now) c.loop-element.left) (option_map (λ fields. fields.now) c.next_fields-left.result)
    c.args.elements.now c.loop-element.element-index c.element-item.result c.loop-element.broken c.in_ok-part.part c.and-broken.result
    c.loop-element-test.true c.element-item.is c.next_fields-left.ensures (rw c.first_target.ensures at c.in_ok-part.ensures) c.and-broken.ensures)
    ∙ c.loop-element.invariant

pub in_order-returns : goal.in_order-returns
in_order-returns t c =
    sym (in_order-end checked.value (view c.args.scope.now) (option_map (λ fields. fields.now) c.loop-element.left) c.args.elements.now c.loop-element.element-index c.loop-element.broken c.loop-element-test.false)
    ∙ c.loop-element.invariant
