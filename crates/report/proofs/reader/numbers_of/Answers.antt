use Rattle.std.proofs.Common.{eqb, rules, length}
use Rattle.std.proofs.lemmas.Iterator.Consumers.{YieldsList-end, YieldsList-turn}
use Rattle.std.proofs.lemmas.Iterator.Splits.{YieldsList-from_slice_split}
use Rattle.std.proofs.lemmas.List.{length_push}
use Rattle.report.proofs.Cuts.{no-path-from-first, numbers-all, numbers-end, numbers-more}
use Rattle.report.proofs.reader.numbers_of.Goals as goal

pub returns-then-first-ne46 : goal.returns-then-first-ne46
returns-then-first-ne46 c = no-path-from-first c.args.text.now c.in-Some.others.now c.in-Some.first.now (search rules) (search rules)

pub returns-in_default-number_of : goal.returns-in_default-number_of
returns-in_default-number_of c =
    let turn = YieldsList-turn (YieldsList-from_slice_split _ (λ b. eqb b 46) c.in-Some.others.now (cc) (cc) (cc) (λ x b q k. search rules)) c.loop-digits.yielded _ c.loop-digits.yielded_by _ _ c.in-Some-digits.digits c.in-Some-digits.is c.next.ensures.steps in
    numbers-end c.args.text.now c.in-Some.others.now c.in-Some.first.now (length c.loop-digits.yielded) c.in-Some-digits.digits.now (search rules) (search rules) turn (search rules)

pub loop-digits-preserved : goal.loop-digits-preserved
loop-digits-preserved c =
    let turn = YieldsList-turn (YieldsList-from_slice_split _ (λ b. eqb b 46) c.in-Some.others.now (cc) (cc) (cc) (λ x b q k. search rules)) c.loop-digits.yielded _ c.loop-digits.yielded_by _ _ c.in-Some-digits.digits c.in-Some-digits.is c.next.ensures.steps in
    numbers-more c.args.text.now c.in-Some.others.now c.in-Some.first.now (length c.loop-digits.yielded) _ c.in-Some-digits.digits.now c.in-Some-number_of.number c.loop-digits.numbers.items _
    (search rules) (length_push c.loop-digits.yielded c.in-Some-digits.digits) turn c.loop-digits.invariant (search rules) (search rules)

pub returns : goal.returns
returns c =
    let end = YieldsList-end (YieldsList-from_slice_split _ (λ b. eqb b 46) c.in-Some.others.now (cc) (cc) (cc) (λ x b q k. search rules)) c.loop-digits.yielded _ c.loop-digits.yielded_by _ _ c.in-None.is c.next.ensures.steps in
    numbers-all c.args.text.now c.in-Some.others.now c.in-Some.first.now (length c.loop-digits.yielded) c.loop-digits.numbers.items (search rules) (search rules) end.1 c.loop-digits.invariant
