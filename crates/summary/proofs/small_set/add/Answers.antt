use Rattle.std.proofs.Common.{ap, sym, ◌∙◌, nat_eq}
use Rattle.std.specs.List.{list_any}
use Rattle.summary.specs.NumberSet.{number_set}
use Rattle.summary.proofs.NumberSetLemmas.{pushed, again}
use Rattle.summary.proofs.small_set.add.Goals as goal

pub returns-in_ok-push : goal.returns-in_ok-push
returns-in_ok-push c = ap number_set c.in_ok-push.ensures.items ∙ pushed _ _

pub returns-else-not-contains : goal.returns-else-not-contains
returns-else-not-contains c =
    again c.args.numbers.now.items c.args.number
    (ap (list_any (λ y. nat_eq y c.args.number)) (sym c.deref.ensures.value) ∙ (sym c.contains.ensures.value ∙ c.if-not-contains.false))
