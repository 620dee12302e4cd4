use Rattle.std.proofs.Common.{Global, Vec, refl, ap, sym, ◌∙◌}
use Rattle.ttcn_values.proofs.Plans.{and-then-fault, call-step, map-none, none-given-by, plans-fault}
use Rattle.ttcn_values.proofs.TemplateCalls.{with_arguments}
use Rattle.ttcn_values.specs.internal.Building.{alone}
use Rattle.ttcn_values.specs.internal.Readers.{read_by}
use Rattle.value_types.specs.Outcomes.{Yields, outcome_map, value_in}
use Rattle.value_types.specs.Templates as spec
use Rattle.value_types.specs.declared.value.Value.{Value}
use Rattle.ttcn_values.proofs.reader.Reader.plan_call.Goals as goal

pub returns-in_err-values : goal.returns-in_err-values
returns-in_err-values c =
    plans-fault (read_by c.args.self.now) c.args.steps.now.items c.args.steps.now.items (outcome_map alone (spec.template_called (read_by c.args.self.now) c.args.at c.args.given.now))
    c.in_err-values.field-0.0 c.from_residual.result c.from_residual.ensures.1
    (λ dynamic. map-none alone (spec.template_called (read_by c.args.self.now) c.args.at c.args.given.now)
    (ap value_in (ap (λ at. spec.template_called (read_by c.args.self.now) at c.args.given.now) c.in-Some.is
    ∙ with_arguments c.args.self.now c.in-Some.at c.args.given.now c.in-Some-template.template.now (sym c.in-Some-template.ensures) (spec.arguments (read_by c.args.self.now) c.in-Some-template.template.now.parameters c.args.given.now) refl)
    ∙ and-then-fault ((read_by c.args.self.now).templates c.in-Some.at) (spec.arguments (read_by c.args.self.now) c.in-Some-template.template.now.parameters c.args.given.now)
    (ap (λ ps. value_in (spec.arguments (read_by c.args.self.now) ps c.args.given.now)) (sym c.as_slice.ensures)
    ∙ none-given-by (λ (values : Vec Value Global). values.items) (spec.arguments (read_by c.args.self.now) c.as_slice.result.now c.args.given.now) c.in_err-values.field-0.0 c.in_err-values.ensures dynamic)))

pub returns : goal.returns
returns c =
    call-step (read_by c.args.self.now) c.args.steps.now.items c.push.new.self.items c.in-Some.at c.from_vec.result (spec.template_called (read_by c.args.self.now) c.args.at c.args.given.now) c.in_ok-push.ensures.items
    (ap (λ at. spec.template_called (read_by c.args.self.now) at c.args.given.now) c.in-Some.is
    ∙ with_arguments c.args.self.now c.in-Some.at c.args.given.now c.in-Some-template.template.now (sym c.in-Some-template.ensures) (Yields c.in_ok-values.values.items)
    (ap (λ ps. spec.arguments (read_by c.args.self.now) ps c.args.given.now) (sym c.as_slice.ensures) ∙ c.in_ok-values.ensures)
    ∙ ap ((read_by c.args.self.now).templates c.in-Some.at) (sym c.from_vec.ensures))
