use Rattle.std.proofs.Common.{length, ap, ◌∙◌}
use Rattle.std.proofs.Common.{drop}
use Rattle.std.specs.List.{slice_get, zip}
use Rattle.semantics.specs.Branches.{with_arguments}
use Rattle.semantics.specs.Snapshots.{view_of_arguments}
use Rattle.step_snapshot.proofs.Argued.{argument-taken, first-view, first-whole, lent-at, one-known, still-whole}
use Rattle.step_snapshot.proofs.arguments.with_arguments.Goals as goal
use Rattle.step_snapshot.proofs.Framed.{none-within}
use Rattle.step_snapshot.specs.Tests.{legend_by}

pub loop-value-init : goal.loop-value-init
loop-value-init c = record {
  within = none-within (length c.args.test.now.names) c.new-cells.result c.new-cells.ensures;
  said = first-view (legend_by c.args.test.now) c.new-cells.result c.args.parameters.now c.args.values c.into_vec-values.result.items c.new-cells.ensures c.into_vec-values.ensures;
  whole = first-whole c.args.values c.into_vec-values.result.items c.into_vec-values.ensures;
}

pub with_argument-requires : goal.with_argument-requires
with_argument-requires c =
    one-known c.args.test.now.names c.args.parameters.now c.len.result c.get.result (lent-at c.args.parameters.now c.len.result c.get.result c.get.ensures.lookup) c.requires

pub loop-value-preserved : goal.loop-value-preserved
loop-value-preserved c =
    let all = c.args.values in
    let items = c.loop-value.values.items in
    let left = c.pop.new.self.items in
    record {
      within = c.in_ok-cells.ensures.within c.loop-value.invariant.within;
      said = c.in_ok-cells.ensures.said (with_arguments (zip (drop (length items) c.args.parameters.now) (drop (length items) all))) c.loop-value.invariant.said
          ∙ ap view_of_arguments (argument-taken c.args.parameters.now all items left c.in-Some.value _ c.loop-value.invariant.whole c.in-Some.ensures.items
          (lent-at c.args.parameters.now c.len.result c.get.result c.get.ensures.lookup ∙ ap (slice_get c.args.parameters.now) (c.len.ensures ∙ c.pop.new.self.ok.0)));
      whole = still-whole all items left c.in-Some.value c.loop-value.invariant.whole c.in-Some.ensures.items;
    }
