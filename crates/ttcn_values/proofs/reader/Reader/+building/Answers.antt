use Rattle.std.proofs.Common.{[], ap, sym, arith, ◌∙◌}
use Rattle.std.proofs.Common.{Global, Vec}
use Rattle.value_types.proofs.Faults.{gives-same}
use Rattle.ttcn_values.proofs.Plans.{alone-last, alone-none, and-then-fault, gives-by-fault, gives-fault, none-built, none-given-by, none-of-map, planned-alone}
use Rattle.ttcn_values.proofs.TemplateCalls.{template-gives}
use Rattle.ttcn_values.specs.internal.Building.{after_step, after_steps, alone}
use Rattle.ttcn_values.specs.internal.Readers.{read_by}
use Rattle.value_types.specs.Outcomes.{outcome_and_then, value_in}
use Rattle.value_types.specs.Templates as spec
use Rattle.value_types.specs.declared.template.Template.{Template}
use Rattle.ttcn_values.proofs.reader.Reader.+building.Goals as goal

pub build-loop-step-preserved : goal.build-loop-step-preserved
build-loop-step-preserved t c =
    c.loop-step.invariant ∙ ap (λ steps. after_steps (read_by c.args.self.now) steps c.loop-step.templates.items) c.in-Some.ensures.steps.0
    ∙ ap (outcome_and_then (after_steps (read_by c.args.self.now) c.next.new.self.rest.items)) c.in_ok-advance.ensures

pub build-returns-in_err-advance : goal.build-returns-in_err-advance
build-returns-in_err-advance t c =
    gives-by-fault (λ (templates : Vec Template Global). templates.items) (after_steps (read_by c.args.self.now) c.args.steps.items []) c.in_err-advance.field-0.0 c.from_residual.result c.from_residual.ensures.1
    (λ dynamic. ap value_in (c.loop-step.invariant ∙ ap (λ steps. after_steps (read_by c.args.self.now) steps c.loop-step.templates.items) c.in-Some.ensures.steps.0)
    ∙ and-then-fault (after_steps (read_by c.args.self.now) c.next.new.self.rest.items) (after_step (read_by c.args.self.now) c.in-Some.step c.loop-step.templates.items)
    (none-built (after_step (read_by c.args.self.now) c.in-Some.step c.loop-step.templates.items) c.advance.new.templates.items c.in_err-advance.field-0.0 c.in_err-advance.ensures dynamic))

pub called-returns : goal.called-returns
called-returns t c =
    gives-same ((read_by c.args.self.now).templates c.args.at c.args.values.now) _ c.template-2.result
    (template-gives c.args.self.now c.args.at c.args.values.now c.in-Some-template.template.now (sym c.in-Some-template.ensures) c.get.result.now c.as_slice.result.now c.in-Some.depth c.resolved-wanted.result
    c.get.ensures c.as_slice.ensures (omega (arith, c.in-Some.ensures)) c.resolved-wanted.ensures)
    c.template-2.ensures

pub template-returns-in_err-templates : goal.template-returns-in_err-templates
template-returns-in_err-templates t c =
    gives-fault (spec.template_wanted c.args.template.now (read_by c.args.self.now) c.args.wanted) c.in_err-templates.field-0.0 c.from_residual-in_err-templates.result c.from_residual-in_err-templates.ensures.1
    (λ dynamic. none-of-map alone (spec.template_wanted c.args.template.now (read_by c.args.self.now) c.args.wanted) (ap value_in (sym (planned-alone (read_by c.args.self.now) c.new-steps.result.items c.plan.new.steps.items (spec.template_wanted c.args.template.now (read_by c.args.self.now) c.args.wanted) c.new-steps.ensures.items c.in_ok-plan.ensures))
    ∙ none-given-by (λ (templates : Vec Template Global). templates.items) (after_steps (read_by c.args.self.now) c.plan.new.steps.items []) c.in_err-templates.field-0.0 c.in_err-templates.ensures dynamic))

pub template-returns-in-Some : goal.template-returns-in-Some
template-returns-in-Some t c =
    alone-last (spec.template_wanted c.args.template.now (read_by c.args.self.now) c.args.wanted) c.in_ok-templates.templates.items c.pop.new.self.items c.in-Some.template
    (sym (planned-alone (read_by c.args.self.now) c.new-steps.result.items c.plan.new.steps.items (spec.template_wanted c.args.template.now (read_by c.args.self.now) c.args.wanted) c.new-steps.ensures.items c.in_ok-plan.ensures) ∙ c.in_ok-templates.ensures) c.in-Some.ensures.items

pub template-returns : goal.template-returns
template-returns t c =
    alone-none (spec.template_wanted c.args.template.now (read_by c.args.self.now) c.args.wanted) c.in_ok-templates.templates.items (sym (planned-alone (read_by c.args.self.now) c.new-steps.result.items c.plan.new.steps.items (spec.template_wanted c.args.template.now (read_by c.args.self.now) c.args.wanted) c.new-steps.ensures.items c.in_ok-plan.ensures) ∙ c.in_ok-templates.ensures) (omega (arith, c.in_ok-templates.templates.ok, c.in-None.ensures.cases.0))
