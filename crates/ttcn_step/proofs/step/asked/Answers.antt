use Rattle.std.proofs.Common.{◌≡◌, Bor, List, Option, Result, subst, sym}
use Rattle.std.specs.List.{list_any}
use Rattle.step_forms.specs.Asks.{Asks, uncovered_act}
use Rattle.semantics.specs.Snapshots.{runs_in, snapshot_of}
use Rattle.step_snapshot.specs.Tests.{legend_by}
use Rattle.step_snapshot.specs.declared.test_case.TestCase.{TestCase}
use Rattle.config_parts.specs.Legend.{component_by, going_by}
use Rattle.config_parts.specs.declared.act.Act.{Act}
use Rattle.config_parts.specs.declared.component.Component.{Component}
use Rattle.config_parts.specs.declared.config.Going.{Going}
use Rattle.ttcn_step.specs.internal.Steps as spec
use Rattle.value_types.specs.contracts.path.PathPartialEq.TheImpl as equality
use Rattle.value_types.specs.declared.fault.Fault.{Fault}
use Rattle.value_types.specs.declared.path.Path.{Path}
use Rattle.ttcn_step.proofs.step.asked.Goals as goal

-- what is asked for in a snapshot of these
asked-for : (t test : TestCase) (g going : Going) (x component : Component) (result : Result (Option Act) Fault) → t ≡ test → g ≡ going → x ≡ component
    → Asks (legend_by t) (uncovered_act (spec.asked t g x)) result → Asks (legend_by test) (uncovered_act (spec.asked test going component)) result
asked-for t test g going x component result same also its is =
    subst (λ (y : Component). Asks (legend_by test) (uncovered_act (spec.asked test going y)) result) its
    (subst (λ (h : Going). Asks (legend_by test) (uncovered_act (spec.asked test h x)) result) also
    (subst (λ (u : TestCase). Asks (legend_by u) (uncovered_act (spec.asked u g x)) result) same is))

pub new-snapshot-requires-clause-runs : goal.new-snapshot-requires-clause-runs
new-snapshot-requires-clause-runs c = λ path.
    let legend = legend_by c.args.test.now in
    let component = component_by legend c.args.component.now in
    subst (λ (items : List (Bor Path)). list_any (λ other. (equality.ghosts).eq path other.now) items ≡ runs_in (snapshot_of (going_by legend c.args.going.now) component) path) (sym c.deref.ensures.value)
    (c.in_ok-running.ensures legend component c.requires.ordered path)

pub returns-clause-asks : goal.returns-clause-asks
returns-clause-asks c =
    let s = c.new-snapshot.result in
    asked-for s.test.now c.args.test.now s.going.now c.args.going.now s.component.now c.args.component.now c.act-asked.result c.new-snapshot.ensures.test c.new-snapshot.ensures.going c.new-snapshot.ensures.component c.act-asked.ensures.asks
