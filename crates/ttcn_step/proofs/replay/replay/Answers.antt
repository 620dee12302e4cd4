use Rattle.semantics.specs.Runs as runs
use Rattle.step_snapshot.specs.Tests.{test_by}
use Rattle.ttcn_step.proofs.Replaying.{run-goes-on}
use Rattle.ttcn_step.specs.Machines.{machine_of, said}
use Rattle.ttcn_step.proofs.replay.replay.Goals as goal

pub loop-place-preserved : goal.loop-place-preserved
loop-place-preserved c =
    let t = c.args.test.now in
    let machine = machine_of t in
    let run = c.args.run.now in
    record {
      leads = run-goes-on (test_by t) run c.loop-place.place c.index-run-place.result (said machine c.loop-place.config) (said machine c.in_ok-config-2.config) (runs.replay (test_by t) run)
          c.loop-place-test.true c.index-run-place.is c.in_ok-config-2.ensures.follows c.loop-place.invariant.leads;
      fits = c.in_ok-config-2.ensures.fits;
    }
