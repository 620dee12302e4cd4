use Rattle.std.proofs.Common.{Some, ap, arith, map, subst, sym, ◌∙◌}
use Rattle.std.proofs.lemmas.Result.{err_from_is_err_and}
use Rattle.ttcn_values.proofs.Chained.{chain-fault, chain-of-fault}
use Rattle.ttcn_values.proofs.ConstantBounds.{constant-below, constants_weight, found_value-below, item-below, level-below, link_weight, value_weight}
use Rattle.ttcn_values.proofs.Each.{beside-fault, beside-next}
use Rattle.ttcn_values.proofs.LiteralForms.{assigned-fault, listed-fault, at-field, element-gives, given-none, given-some, order-is}
use Rattle.value_types.proofs.Outcomes.{passes-on}
use Rattle.value_types.specs.Evaluation.{value_of}
use Rattle.value_types.specs.Chains.{within_chains}
use Rattle.value_types.specs.Frames.{facts}
use Rattle.ttcn_values.specs.internal.Readers.{AreResults, read_by, seen_by}
use Rattle.value_types.specs.Literals as spec
use Rattle.value_types.specs.Outcomes.{Fails, Yields}
use Rattle.ttcn_values.specs.declared.reader.Visible.TheVariants as visible
use Rattle.ttcn_values.proofs.reader.Reader.+reader.Goals as goal

pub chain-link-requires : goal.chain-link-requires
chain-link-requires t c =
    (omega (arith, c.decreases, item-below link_weight c.args.links.now c.loop-next.next-index c.next-item.result c.loop-next-test.true c.next-item.is), c.requires)

pub chain-returns-in_err-value : goal.chain-returns-in_err-value
chain-returns-in_err-value t c =
    let p = err_from_is_err_and c.from_residual.result c.from_residual.ensures.1 in
    rw (p.1, p.2) (passes-on _ _ _ (λ why none. sym c.loop-next.invariant
    ∙ chain-fault (read_by c.args.self.now) c.args.links.now c.loop-next.next-index c.next-item.result c.loop-next.value c.loop-next-test.true c.next-item.is why none)
    c.in_err-value.ensures)

pub constant-value-requires : goal.constant-value-requires
constant-value-requires t c =
    let taken = c.in-Some.ensures in (
      level-below c.args.self.now.depth c.in-Some.depth (constants_weight c.args.self.now.frame.now.definitions.now) (value_weight c.in-Some-constant.constant.now.value) t
          (omega (arith, taken.0, taken.1))
          (constant-below c.args.self.now.frame.now.definitions.now c.args.at c.args.item c.in-Some-constant.constant.now (sym (rw c.in-Some-constant.is at c.constant.ensures)))
          c.decreases,
      subst (AreResults (within_chains c.in-Some.depth (seen_by visible.Nothing (facts c.args.self.now.frame.now)))) (sym c.as_slice.ensures.value) c.in_ok-constants.ensures,
    )

pub element_named-returns-in_default : goal.element_named-returns-in_default
element_named-returns-in_default t c =
    given-none (read_by c.args.self.now) c.args.elements.now c.args.field.now (sym (rw c.in_default.is at c.element_of.ensures))

pub element_named-value-requires : goal.element_named-value-requires
element_named-value-requires t c =
    (omega (arith, c.decreases, found_value-below _ c.args.elements.now c.in-Some.element.now (sym (rw c.in-Some.is at c.element_of.ensures))), c.requires)

pub element_named-returns-in_err-value : goal.element_named-returns-in_err-value
element_named-returns-in_err-value t c =
    let p = err_from_is_err_and c.from_residual.result c.from_residual.ensures.1 in
    rw (p.1, p.2) (passes-on (spec.value_wanted c.in-Some.element.now (read_by c.args.self.now) c.resolved-wanted.result) _ _ (λ why none.
    given-some (read_by c.args.self.now) c.args.elements.now c.args.field.now c.in-Some.element.now (Fails why)
    (sym (rw c.in-Some.is at c.element_of.ensures))
    (at-field (read_by c.args.self.now) c.args.field.now c.in-Some.element.now c.resolved-wanted.result (Fails why) c.resolved-wanted.ensures none))
    c.in_err-value.ensures)

pub element_named-returns : goal.element_named-returns
element_named-returns t c =
    given-some (read_by c.args.self.now) c.args.elements.now c.args.field.now c.in-Some.element.now (Yields c.in_ok-value.field-0)
    (sym (rw c.in-Some.is at c.element_of.ensures))
    (at-field (read_by c.args.self.now) c.args.field.now c.in-Some.element.now c.resolved-wanted.result (Yields c.in_ok-value.field-0) c.resolved-wanted.ensures c.in_ok-value.ensures)

pub evaluate-returns-in_err-first-in-Chain : goal.evaluate-returns-in_err-first-in-Chain
evaluate-returns-in_err-first-in-Chain t c =
    let p = err_from_is_err_and c.from_residual-in_err-first-in-Chain.result c.from_residual-in_err-first-in-Chain.ensures.1 in
    rw (p.1, p.2) (passes-on (value_of c.get-in-Chain.result.now (read_by c.args.self.now)) _ _ (λ why none.
    ap (λ e. value_of e (read_by c.args.self.now)) c.in-Chain.is
    ∙ chain-of-fault (read_by c.args.self.now) why c.in-Chain.first c.in-Chain.links (ap (λ e. value_of e (read_by c.args.self.now)) (sym c.get-in-Chain.ensures) ∙ none))
    c.in_err-first-in-Chain.ensures)

pub in_order-value-requires : goal.in_order-value-requires
in_order-value-requires t c = (
  omega (
    arith,
    c.decreases,
    item-below value_weight c.args.elements.now c.loop-at.at c.index-elements-at.result
        (omega (arith, c.loop-at-test.true, c.loop-at.invariant.0)) c.index-elements-at.is,
  ),
  c.requires,
)

pub in_order-returns-in_err-value : goal.in_order-returns-in_err-value
in_order-returns-in_err-value t c =
    let p = err_from_is_err_and c.from_residual-in_err-value.result c.from_residual-in_err-value.ensures.1 in
    rw (p.1, p.2) (passes-on (spec.value_wanted c.index-elements-at.result (read_by c.args.self.now) c.resolved-wanted.result) _ _ (λ why none. order-is (read_by c.args.self.now) c.args.fields.now c.args.elements.now c.loop-at.invariant.0
    ∙ sym c.loop-at.invariant.1
    ∙ beside-fault (spec.element (read_by c.args.self.now)) spec.value_wanted c.args.fields.now c.args.elements.now c.loop-at.values.items c.loop-at.at c.loop-at.invariant.0
    c.index-fields-at.result c.index-elements-at.result c.loop-at-test.true c.index-fields-at.is c.index-elements-at.is
    (element-gives (read_by c.args.self.now) c.index-fields-at.result c.index-elements-at.result c.resolved-wanted.result (Fails why) c.resolved-wanted.ensures none))
    c.in_err-value.ensures)

pub in_order-loop-at-preserved : goal.in_order-loop-at-preserved
in_order-loop-at-preserved t c = (
  c.loop-at.invariant.0,
  beside-next (spec.element (read_by c.args.self.now)) spec.value_wanted c.args.fields.now c.args.elements.now c.loop-at.values.items c.loop-at.at c.loop-at.invariant.0
      c.index-fields-at.result c.index-elements-at.result (Some c.in_ok-value.field-0) c.push.new.self.items c.in_ok-push.ensures.items c.loop-at-test.true c.index-fields-at.is c.index-elements-at.is
      (element-gives (read_by c.args.self.now) c.index-fields-at.result c.index-elements-at.result c.resolved-wanted.result (Yields c.in_ok-value.field-0) c.resolved-wanted.ensures c.in_ok-value.ensures)
      ∙ c.loop-at.invariant.1,
)

pub value-returns-in_err-fields-in-Assigned : goal.value-returns-in_err-fields-in-Assigned
value-returns-in_err-fields-in-Assigned t c =
    let p = err_from_is_err_and c.from_residual-in_err-fields-in-Assigned.result c.from_residual-in_err-fields-in-Assigned.ensures.1 in
    rw (p.1, p.2) (passes-on (spec.by_name (read_by c.args.self.now) c.fields-fields-in-Assigned.result.now (map spec.field_value c.as_slice-in-Assigned.result.now)) _ _ (λ why none.
    assigned-fault why (read_by c.args.self.now) c.args.wanted c.args.value.now c.in-Assigned.elements c.as_slice-in-Assigned.result.now c.in_ok-at-in-Assigned.at c.fields-fields-in-Assigned.result.now
    c.in-Assigned.is c.as_slice-in-Assigned.ensures c.in_ok-at-in-Assigned.ensures.gives c.fields-fields-in-Assigned.ensures none)
    c.in_err-fields-in-Assigned.ensures)

pub value-returns-in_err-fields-in-Listed : goal.value-returns-in_err-fields-in-Listed
value-returns-in_err-fields-in-Listed t c =
    let p = err_from_is_err_and c.from_residual-in_err-fields-in-Listed.result c.from_residual-in_err-fields-in-Listed.ensures.1 in
    rw (p.1, p.2) (passes-on (spec.in_order (read_by c.args.self.now) c.fields-fields.result.now (map spec.value_wanted c.as_slice.result.now)) _ _ (λ why none.
    listed-fault why (read_by c.args.self.now) c.args.wanted c.args.value.now c.in-Listed.elements c.as_slice.result.now c.in_ok-at-in-Listed.at c.fields-fields.result.now
    c.in-Listed.is c.as_slice.ensures c.in_ok-at-in-Listed.ensures.gives c.fields-fields.ensures none)
    c.in_err-fields-in-Listed.ensures)
