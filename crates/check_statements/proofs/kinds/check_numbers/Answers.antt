use Rattle.check_statements.proofs.Insides.{numbered-end, numbered-first, numbered-next}
use Rattle.check_statements.proofs.kinds.check_numbers.Goals as goal

pub loop-enumerator-init : goal.loop-enumerator-init
loop-enumerator-init c = numbered-first c.new-numbers.result c.args.enumerators.now c.nothing-broken.result c.new-numbers.ensures c.nothing-broken.ensures

pub loop-enumerator-preserved : goal.loop-enumerator-preserved
loop-enumerator-preserved c =
    numbered-next c.loop-enumerator.numbers c.add_number.new.numbers c.args.enumerators.now c.loop-enumerator.enumerator-index c.enumerator-item.result
    c.loop-enumerator.broken c.in_ok-more.more c.and-broken.result _
    c.loop-enumerator-test.true c.enumerator-item.is c.in_ok-more.ensures.broken c.in_ok-more.ensures.given c.and-broken.ensures c.loop-enumerator.invariant

pub returns : goal.returns
returns c =
    numbered-end c.loop-enumerator.numbers c.args.enumerators.now c.loop-enumerator.enumerator-index c.loop-enumerator.broken _ c.loop-enumerator-test.false c.loop-enumerator.invariant
