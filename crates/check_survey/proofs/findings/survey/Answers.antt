use Rattle.check_survey.proofs.Ends.{all-weigh, no_circle, too_heavy, too_long}
use Rattle.check_survey.proofs.findings.survey.Goals as goal

pub returns-clause-no_circle : goal.returns-clause-no_circle
returns-clause-no_circle c =
    no_circle c.args.things.now c.loop-start.search.states.items c.loop-start.invariant.searched c.loop-start.start c.loop-start.invariant.begun c.loop-start-test.false

pub returns-clause-too_long : goal.returns-clause-too_long
returns-clause-too_long c =
    too_long c.args.things.now c.loop-start.search.states.items c.loop-start.invariant.searched c.loop-start.start c.loop-start.invariant.begun c.loop-start-test.false
    c.args.longest c.ranges.longest.fits c.deref.result.now c.deref.ensures.value c.first_longer.result c.first_longer.ensures

pub returns-clause-weigh : goal.returns-clause-weigh
returns-clause-weigh c =
    all-weigh c.args.things.now c.loop-start.search.states.items c.loop-start.invariant.searched c.loop-start.start c.loop-start.invariant.begun c.loop-start-test.false

pub returns-clause-too_heavy : goal.returns-clause-too_heavy
returns-clause-too_heavy c =
    too_heavy c.args.things.now c.loop-start.search.states.items c.loop-start.invariant.searched c.loop-start.start c.loop-start.invariant.begun c.loop-start-test.false
    c.args.heaviest c.ranges.heaviest.fits c.deref-2.result.now c.deref-2.ensures.value c.first_heavier.result c.first_heavier.ensures
