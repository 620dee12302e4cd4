use Rattle.std.proofs.Common.{ap, ◌∙◌, get_or}
use Rattle.std.specs.FinSet.{insert}
use Rattle.summary.specs.NumberSet.{number_set}
use Rattle.summary.proofs.NumberSetLemmas.{union-none, union-more}
use Rattle.summary.proofs.small_set.add_all.Goals as goal

pub loop-number-init : goal.loop-number-init
loop-number-init c = union-none (number_set c.args.numbers.now.items)

pub loop-number-preserved : goal.loop-number-preserved
loop-number-preserved c =
    c.in_ok-add.ensures ∙ ap (λ s. insert s (get_or c.args.more.now c.loop-number.number-index 0)) c.loop-number.invariant
    ∙ union-more (number_set c.args.numbers.now.items) c.args.more.now c.loop-number.number-index 0 c.loop-number-test.true
