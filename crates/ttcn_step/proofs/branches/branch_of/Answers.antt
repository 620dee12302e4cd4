use Rattle.std.proofs.Common.{◌≡◌, Bor, List, subst, sym, ◌∙◌}
use Rattle.std.specs.List.{list_any}
use Rattle.semantics.specs.Snapshots.{runs_in, snapshot_of}
use Rattle.step_snapshot.specs.Tests.{legend_by}
use Rattle.config_parts.specs.Legend.{component_by, going_by}
use Rattle.ttcn_step.proofs.Branching.{branch-taken}
use Rattle.value_types.specs.contracts.path.PathPartialEq.TheImpl as equality
use Rattle.value_types.specs.declared.path.Path.{Path}
use Rattle.ttcn_step.proofs.branches.branch_of.Goals as goal

pub new-snapshot-requires-clause-runs : goal.new-snapshot-requires-clause-runs
new-snapshot-requires-clause-runs c = λ path.
    let legend = legend_by c.args.test.now in
    let component = component_by legend c.args.component.now in
    subst (λ (items : List (Bor Path)). list_any (λ other. (equality.ghosts).eq path other.now) items ≡ runs_in (snapshot_of (going_by legend c.args.going.now) component) path) (sym c.deref.ensures.value)
    (c.in_ok-running.ensures legend component c.requires.ordered path)

pub returns : goal.returns
returns c =
    let s = c.new-snapshot.result in
    branch-taken s.test.now c.args.test.now s.going.now c.args.going.now s.component.now c.args.component.now c.branch-place.result c.new-snapshot.ensures.test c.new-snapshot.ensures.going c.new-snapshot.ensures.component
    (sym c.is_running.ensures ∙ c.if-not-is_running.false) c.branch-place.ensures
