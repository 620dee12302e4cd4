use Rattle.ttcn_types.proofs.SurveyLemmas.{circle-least, circle-within, nothing-breaks, size-least, size-within}
use Rattle.ttcn_types.proofs.checker.check_survey.Goals as goal

pub returns-in-Circle-clause-least : goal.returns-in-Circle-clause-least
returns-in-Circle-clause-least c =
    circle-least c.args.things.now c.args.heaviest c.args.circle c.in_ok-thing.field-0 c.in-Circle.thing c.requires.before_size c.in-Circle.is c.in_ok-thing.ensures.circle

pub returns-in-Circle-clause-within : goal.returns-in-Circle-clause-within
returns-in-Circle-clause-within c = circle-within c.args.things.now c.args.heaviest c.args.circle c.in_ok-thing.field-0 c.in-Circle.thing c.in-Circle.is c.in_ok-thing.ensures.circle

pub returns-in-Some-clause-least : goal.returns-in-Some-clause-least
returns-in-Some-clause-least c =
    size-least c.args.things.now c.args.heaviest c.args.circle c.in_ok-thing.field-0 c.in-Sizes.too_long c.in-Sizes.too_heavy c.in-Sizes.is
    c.in_ok-thing.ensures.no_circle c.in_ok-thing.ensures.too_long c.in_ok-thing.ensures.too_heavy c.or.result c.in-Some.thing c.in-Some.is c.or.ensures

pub returns-in-Some-clause-within : goal.returns-in-Some-clause-within
returns-in-Some-clause-within c =
    size-within c.args.things.now c.args.heaviest c.args.circle c.in_ok-thing.field-0 c.in-Sizes.too_long c.in-Sizes.too_heavy c.in-Sizes.is
    c.in_ok-thing.ensures.no_circle c.in_ok-thing.ensures.too_long c.in_ok-thing.ensures.too_heavy c.or.result c.in-Some.thing c.in-Some.is c.or.ensures

pub returns-in-None-clause-least : goal.returns-in-None-clause-least
returns-in-None-clause-least c =
    nothing-breaks c.args.things.now c.args.heaviest c.args.circle c.in_ok-thing.field-0 c.in-Sizes.too_long c.in-Sizes.too_heavy c.in-Sizes.is
    c.in_ok-thing.ensures.no_circle c.in_ok-thing.ensures.too_long c.in_ok-thing.ensures.too_heavy c.or.result c.in-None.is c.or.ensures
