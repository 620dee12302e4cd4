use Rattle.std.proofs.Common.{List, Option, IfSome, ap, map, refl, subst, sym, ◌∙◌}
use Rattle.std.specs.List.{All}
use Rattle.std.proofs.lemmas.List.Elements.{All-nil}
use Rattle.laws_fine.specs.Holding.{hold_run}
use Rattle.semantics.specs.Runs.{start}
use Rattle.step_snapshot.specs.Tests.{test_by}
use Rattle.config_parts.specs.declared.config.Config.TheVariants as config
use Rattle.ttcn_step.proofs.FineRuns.{begins, goes-on}
use Rattle.ttcn_step.proofs.coarsen.follow.Goals as goal
use Rattle.ttcn_step.specs.Machines.{Fits, legend, machine_of}
use Rattle.ttcn_step.specs.declared.fine.FineStep.{FineStep}
use Rattle.ttcn_step.specs.declared.fine.Stored.{Stored}
use Rattle.step_coarse.specs.Fates.{told_by}
use Rattle.ttcn_step.specs.internal.Fine.{IsWellBehind, Leads, held_by, holding_of}

pub loop-place-init : goal.loop-place-init
loop-place-init c =
    let t = c.args.test.now in
    let machine = machine_of t in
    record {
      leads = begins (test_by t) c.args.labels.now (holding_of machine c.in_ok-now.now c.new.result.items) (map told_by c.new-told.result.items)
          (ap (λ n. record { now = n; held = map (held_by (legend machine)) c.new.result.items }) c.in_ok-now.ensures.start
          ∙ ap (λ (stored : List Stored). record { now = start (test_by t); held = map (held_by (legend machine)) stored }) c.new.ensures.items)
          (ap (map told_by) c.new-told.ensures.items);
      well = record {
        now = c.in_ok-now.ensures.fits;
        taken = subst (All (λ (entry : Stored). Fits machine (config.Going entry.taken))) (sym c.new.ensures.items) (All-nil (λ (entry : Stored). Fits machine (config.Going entry.taken)));
      };
    }

pub loop-place-preserved : goal.loop-place-preserved
loop-place-preserved c =
    let t = c.args.test.now in
    let machine = machine_of t in
    let labels = c.args.labels.now in
    let fine = c.loop-place.fine in
    let label = c.index-labels-place.result in
    let leads = (let P : Option FineStep → Type 0 = λ o. Leads machine fine.now fine.stored.items label o in subst P c.in-Some.is c.in_ok-step.ensures.leads) in
    record {
      leads = goes-on (test_by t) labels c.loop-place.place label (holding_of machine fine.now fine.stored.items) (holding_of machine c.in-Some.step.fine.now c.in-Some.step.fine.stored.items) c.loop-place.told.items c.push.new.self.items _
          (hold_run (test_by t) labels) c.loop-place-test.true c.index-labels-place.is leads.0 c.in_ok-push.ensures.items refl leads.1 c.loop-place.invariant.leads;
      well = subst (λ o. IfSome o (IsWellBehind machine)) c.in-Some.is c.in_ok-step.ensures.well;
    }
