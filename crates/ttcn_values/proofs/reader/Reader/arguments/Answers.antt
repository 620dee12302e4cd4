use Rattle.std.proofs.Common.{map, ap, sym, ◌∙◌}
use Rattle.std.specs.List.{zip}
use Rattle.ttcn_values.proofs.Each.{beside-alone, beside-end, beside-fault, beside-next, if-as-long}
use Rattle.value_types.proofs.Faults.{handed-on-by}
use Rattle.ttcn_values.specs.internal.Readers.{read_by}
use Rattle.value_types.specs.Literals.{value_wanted}
use Rattle.value_types.specs.Outcomes.{each}
use Rattle.value_types.specs.Templates.{argument, arguments}
use Rattle.ttcn_values.proofs.reader.Reader.arguments.Goals as goal

pub loop-at-init : goal.loop-at-init
loop-at-init c = rw c.in_ok-values.ensures.items (beside-alone (argument (read_by c.args.self.now)) c.args.parameters.now c.args.given.now)

pub loop-at-preserved : goal.loop-at-preserved
loop-at-preserved c =
    beside-next (argument (read_by c.args.self.now)) (λ value. value) c.args.parameters.now c.args.given.now c.loop-at.values.items c.loop-at.at
    c.if-given-parameters.false c.index-parameters-at.result c.index-given-at.result c.in_ok-value.field-0 c.push.new.self.items
    c.in_ok-push.ensures.items c.loop-at-test.true c.index-parameters-at.is c.index-given-at.is
    (ap (value_wanted c.index-given-at.result (read_by c.args.self.now)) (sym c.resolved-wanted.ensures)
    ∙ c.in_ok-value.ensures)
    ∙ c.loop-at.invariant

pub returns-in_err-value : goal.returns-in_err-value
returns-in_err-value c =
    handed-on-by (λ values. values.items) (value_wanted c.index-given-at.result (read_by c.args.self.now) c.resolved-wanted.result)
    (arguments (read_by c.args.self.now) c.args.parameters.now c.args.given.now) c.in_err-value.field-0.0
    c.from_residual-in_err-value.result c.from_residual-in_err-value.ensures.1 c.in_err-value.ensures
    (λ why none. if-as-long c.args.given.now c.args.parameters.now (each (map (argument (read_by c.args.self.now)) (zip c.args.parameters.now c.args.given.now))) c.if-given-parameters.false
    ∙ sym c.loop-at.invariant
    ∙ beside-fault (argument (read_by c.args.self.now)) (λ value. value) c.args.parameters.now c.args.given.now c.loop-at.values.items c.loop-at.at
    c.if-given-parameters.false c.index-parameters-at.result c.index-given-at.result c.loop-at-test.true c.index-parameters-at.is c.index-given-at.is
    (ap (value_wanted c.index-given-at.result (read_by c.args.self.now)) (sym c.resolved-wanted.ensures)
    ∙ none))

pub returns : goal.returns
returns c =
    if-as-long c.args.given.now c.args.parameters.now (each (map (argument (read_by c.args.self.now)) (zip c.args.parameters.now c.args.given.now))) c.if-given-parameters.false
    ∙ sym c.loop-at.invariant
    ∙ beside-end (argument (read_by c.args.self.now)) (λ value. value) c.args.parameters.now c.args.given.now c.loop-at.values.items c.loop-at.at
    c.if-given-parameters.false c.loop-at-test.false
