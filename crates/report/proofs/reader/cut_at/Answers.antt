use Rattle.std.proofs.Common.{rules, ◌≡◌, ◌+◌, eqb, false}
use borrow.Author.Tests.{tests}
use Rattle.std.proofs.lemmas.Iterator.{IsFirst-from_position, YieldsList-from_slice}
use Rattle.std.proofs.lemmas.List.{take_rest}
use Rattle.report.proofs.Cuts.{first-mark}
use Rattle.report.proofs.reader.cut_at.Goals as goal

pub returns-in_default : goal.returns-in_default
returns-in_default c =
    rw c.in_default.is at (first-mark c.args.mark c.args.bytes.now c.position.result
    (IsFirst-from_position _ _ c.position.result (λ b. b ≡ c.args.mark) (λ b. eqb b c.args.mark ≡ false) c.position.ensures.ran (YieldsList-from_slice c.args.bytes.now (cc))
    (λ x q k. search (rules, tests)) (λ x q k. search (rules, tests))))

pub returns : goal.returns
returns c =
    let found = rw c.in-Some.is at (first-mark c.args.mark c.args.bytes.now c.position.result
    (IsFirst-from_position _ _ c.position.result (λ b. b ≡ c.args.mark) (λ b. eqb b c.args.mark ≡ false) c.position.ensures.ran (YieldsList-from_slice c.args.bytes.now (cc))
    (λ x q k. search (rules, tests)) (λ x q k. search (rules, tests)))) in
    rw (take_rest c.args.bytes.now (c.in-Some.at + 1)) found.1
