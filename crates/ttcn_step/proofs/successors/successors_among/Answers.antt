use Rattle.semantics.specs.Configurations as rules
use Rattle.step_snapshot.specs.Tests.{legend_by, test_by}
use Rattle.config_parts.specs.Legend.{going_by}
use Rattle.ttcn_step.proofs.Succeeding.{leads-more}
use Rattle.ttcn_step.specs.Machines.{machine_of}
use Rattle.ttcn_step.specs.internal.Successors.{pairs_by}
use Rattle.ttcn_step.proofs.successors.successors_among.Goals as goal

pub loop-label-preserved : goal.loop-label-preserved
loop-label-preserved c =
    let t = c.args.test.now in
    let machine = machine_of t in
    record {
      pairs = leads-more (test_by t) (rules.Goes (going_by (legend_by t) c.args.going.now)) c.loop-label.yielded c.in-Some.label (pairs_by machine c.loop-label.found.items) (pairs_by machine c.push_successor.new.found.items)
          c.in_ok-push_successor.ensures.pairs c.loop-label.invariant.pairs;
      fits = c.in_ok-push_successor.ensures.fits c.loop-label.invariant.fits;
    }
