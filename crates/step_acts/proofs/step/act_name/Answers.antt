use Rattle.std.proofs.Common.{ap, IfSome, List, slice_get, subst, sym, ◌∙◌}
use Rattle.step_forms.proofs.Standing.{declared-known, known-there}
use Rattle.step_acts.proofs.step.act_name.Goals as goal
use Rattle.semantics.specs.Items.{Name}
use Rattle.step_snapshot.specs.Slots.{IsKnown}
use Rattle.ttcn_graph.proofs.Forms.{does-Constants, does-For, does-Timers, does-Variables}
use Rattle.ttcn_syntax.specs.declared.tree.statement.Action.TheOpen.{Action-F}
use Rattle.ttcn_syntax.specs.declared.tree.statement.Action.TheVariants as form
use Rattle.ttcn_syntax.specs.declared.tree.statement.Constant.{Constant}
use Rattle.ttcn_syntax.specs.declared.tree.statement.ForStart.TheVariants as for_start
use Rattle.ttcn_syntax.specs.declared.tree.statement.Timer.{Timer}
use Rattle.ttcn_syntax.specs.declared.tree.statement.Variable.{Variable}

pub act_variable_at-requires-clause-known : goal.act_variable_at-requires-clause-known
act_variable_at-requires-clause-known c =
    let s = c.args.stand.now in
    let declared = c.in-Variables.declared in
    let names = ((s.snapshot.now).test.now).names in
    subst (λ (all : List Variable). IfSome (slice_get all c.args.place) (λ v. IsKnown names v.name)) (sym c.as_slice.ensures)
    (declared-known names (λ (v : Variable). v.name) (slice_get declared.variables c.args.place)
    (known-there s (Name c.args.place) (Action-F.Variables declared) c.requires (does-Variables s.statement.now declared (sym c.get.ensures ∙ c.in-Variables.is))))

pub act_variable_at-requires-in-Variables-start-clause-known : goal.act_variable_at-requires-in-Variables-start-clause-known
act_variable_at-requires-in-Variables-start-clause-known c =
    let s = c.args.stand.now in
    let found = c.in-For in
    let declared = c.in-Variables-start.declared in
    let start = for_start.Variables declared in
    let names = ((s.snapshot.now).test.now).names in
    subst (λ (all : List Variable). IfSome (slice_get all c.args.place) (λ v. IsKnown names v.name)) (sym c.as_slice-in-Variables-start.ensures)
    (declared-known names (λ (v : Variable). v.name) (slice_get declared.variables c.args.place)
    (known-there s (Name c.args.place) (Action-F.For start found.field-1 found.field-2 found.field-3) c.requires
    (does-For s.statement.now start found.field-1 found.field-2 found.field-3 (sym c.get.ensures ∙ found.is ∙ ap (λ first. form.For first found.field-1 found.field-2 found.field-3) c.in-Variables-start.is))))

pub act_constant_at-requires : goal.act_constant_at-requires
act_constant_at-requires c =
    let s = c.args.stand.now in
    let declared = c.in-Constants.declared in
    let names = ((s.snapshot.now).test.now).names in
    let known : IfSome (slice_get c.as_slice-in-Constants.result.now c.args.place) (λ constant. IsKnown names constant.name) =
    subst (λ (all : List Constant). IfSome (slice_get all c.args.place) (λ constant. IsKnown names constant.name)) (sym c.as_slice-in-Constants.ensures)
    (declared-known names (λ (constant : Constant). constant.name) (slice_get declared.constants c.args.place)
    (known-there s (Name c.args.place) (Action-F.Constants declared) c.requires (does-Constants s.statement.now declared (sym c.get.ensures ∙ c.in-Constants.is)))) in
    record { known = known }

pub act_timer_at-requires : goal.act_timer_at-requires
act_timer_at-requires c =
    let s = c.args.stand.now in
    let timers = c.in-Timers.timers in
    let names = ((s.snapshot.now).test.now).names in
    let known : IfSome (slice_get c.as_slice-in-Timers.result.now c.args.place) (λ timer. IsKnown names timer.name) =
    subst (λ (all : List Timer). IfSome (slice_get all c.args.place) (λ timer. IsKnown names timer.name)) (sym c.as_slice-in-Timers.ensures)
    (declared-known names (λ (timer : Timer). timer.name) (slice_get timers c.args.place)
    (known-there s (Name c.args.place) (Action-F.Timers timers) c.requires (does-Timers s.statement.now timers (sym c.get.ensures ∙ c.in-Timers.is)))) in
    record { known = known }
