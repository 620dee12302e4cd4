use Rattle.std.proofs.Common.{rules}
use Rattle.report.proofs.Digits.{no-number-empty, no_number_from_utf8, no-number-plus-first, no-number-zero-first, number-read-first, zero-number}
use Rattle.report.proofs.reader.number_of.Goals as goal

pub returns-in_default : goal.returns-in_default
returns-in_default c = no-number-empty c.args.digits.now (search rules)

pub returns-then-first-eq43 : goal.returns-then-first-eq43
returns-then-first-eq43 c = no-number-plus-first c.args.digits.now c.in-Some.others.now (search rules)

pub returns-in-Err : goal.returns-in-Err
returns-in-Err c = no_number_from_utf8 c.args.digits.now (search rules)

pub returns-in-Ok : goal.returns-in-Ok
returns-in-Ok c = number-read-first c.args.digits.now c.in-Ok.text.now c.in-Some.others.now c.in-Some.first.now c.parse.result c.ok.result (search rules) (search rules) c.parse.ensures.value.0 c.ok.ensures.value (search rules) (search rules)

pub returns-then-is_empty : goal.returns-then-is_empty
returns-then-is_empty c = zero-number c.args.digits.now c.in-Some.others.now (search rules) (search rules)

pub returns-else-is_empty : goal.returns-else-is_empty
returns-else-is_empty c = no-number-zero-first c.args.digits.now c.in-Some.others.now (search rules) (search rules)
