use Rattle.std.proofs.Common.{◌≡◌, Option, Ok, ap, subst, sym, ◌∙◌, option_map}
use Rattle.step_forms.specs.Asks.{Asks, AsksWithin, uncovered_act}
use Rattle.semantics.specs.Steps.{settled}
use Rattle.step_snapshot.specs.Tests.{extent_of, legend_by, test_by}
use Rattle.config_parts.specs.Acts.{IsUncovered, act_by}
use Rattle.config_parts.specs.Legend.{component_by, going_by}
use Rattle.config_parts.specs.declared.act.Act.{Act}
use Rattle.ttcn_step.proofs.Steps.{asks, is-uncovered}
use Rattle.ttcn_step.specs.internal.Steps as spec
use Rattle.ttcn_step.proofs.step.statement.Goals as goal

pub returns-in_ok-after-in-Ok-Some-clause-behind : goal.returns-in_ok-after-in-Ok-Some-clause-behind
returns-in_ok-after-in-Ok-Some-clause-behind c =
    let legend = legend_by c.args.test.now in
    let test = test_by c.args.test.now in
    let said = spec.asked c.args.test.now c.args.going.now c.args.component.now in
    let asked : uncovered_act said ≡ act_by legend c.in-Ok-Some.act = let P : Option Act → Type 0 = λ o. Asks legend (uncovered_act said) (Ok o) in subst P c.in-Ok-Some.field-0-is c.in-Ok-Some.ensures.asks in
    c.in_ok-after-in-Ok-Some.ensures.behind legend test c.slots_are_ordered.ensures.legend c.requires.ordered (subst IsUncovered asked (is-uncovered said))
    ∙ ap (option_map settled) (sym (asks test (going_by legend c.args.going.now) (component_by legend c.args.component.now) legend c.in-Ok-Some.act (sym c.is_running.ensures ∙ c.if-not-is_running.false) asked))

pub returns-in_ok-after-in-Ok-Some-clause-within : goal.returns-in_ok-after-in-Ok-Some-clause-within
returns-in_ok-after-in-Ok-Some-clause-within c =
    let size = extent_of c.args.test.now in
    c.in_ok-after-in-Ok-Some.ensures.within size c.requires.all (let P : Option Act → Type 0 = λ o. AsksWithin size (Ok o) in subst P c.in-Ok-Some.field-0-is c.in-Ok-Some.ensures.within)
