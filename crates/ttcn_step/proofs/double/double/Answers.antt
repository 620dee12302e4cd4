use Rattle.laws_fine.specs.Doubling.{doubled}
use Rattle.semantics.specs.Runs as runs
use Rattle.step_snapshot.specs.Tests.{test_by}
use Rattle.ttcn_step.proofs.Doubling.{as-error, double-refused, doubled-end, doubled-more, led-end}
use Rattle.ttcn_step.proofs.Replaying.{run-goes-on}
use Rattle.ttcn_step.proofs.double.double.Goals as goal
use Rattle.ttcn_step.specs.FineAnswers.{Doubles}
use Rattle.ttcn_step.specs.Machines.{machine_of, said}

pub loop-place-preserved : goal.loop-place-preserved
loop-place-preserved c =
    let t = c.args.test.now in
    let machine = machine_of t in
    let run = c.args.run.now in
    record {
      leads = run-goes-on (test_by t) run c.loop-place.place c.index-run-place.result (said machine c.loop-place.config) (said machine c.in_ok-config-2.config) (runs.replay (test_by t) run)
          c.loop-place-test.true c.index-run-place.is c.in_ok-config-2.ensures.follows c.loop-place.invariant.leads;
      fits = c.in_ok-config-2.ensures.fits;
      doubles = doubled-more (test_by t) run c.loop-place.place c.index-run-place.result (said machine c.loop-place.config) (said machine c.in_ok-config-2.config)
          c.loop-place.labels.items c.push_doubled.new.labels.items (doubled (test_by t) run)
          c.loop-place-test.true c.index-run-place.is c.in_ok-config-2.ensures.follows c.in_ok-push_doubled.ensures c.loop-place.invariant.doubles;
    }

pub returns-in_err-config-2 : goal.returns-in_err-config-2
returns-in_err-config-2 c =
    let machine = machine_of c.args.test.now in
    let run = c.args.run.now in
    as-error c.from_residual-in_err-config-2.result c.in_err-config-2.field-0.0 (Doubles machine run) c.from_residual-in_err-config-2.ensures.0 c.from_residual-in_err-config-2.ensures.1
    (double-refused machine run c.loop-place.place c.index-run-place.result (said machine c.loop-place.config) c.in_err-config-2.field-0.0 c.loop-place-test.true c.index-run-place.is
    c.in_err-config-2.ensures.follows c.loop-place.invariant.leads)

pub returns : goal.returns
returns c =
    let t = c.args.test.now in
    let run = c.args.run.now in (
      led-end (test_by t) run c.loop-place.place (said (machine_of t) c.loop-place.config) c.loop-place-test.false c.loop-place.invariant.leads,
      doubled-end (test_by t) run c.loop-place.place (said (machine_of t) c.loop-place.config) c.loop-place.labels.items (doubled (test_by t) run) c.loop-place-test.false c.loop-place.invariant.doubles,
    )
