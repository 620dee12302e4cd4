use Rattle.std.proofs.Common.{rules}
use Rattle.report.proofs.Wholes.{expiry-none-name, expiry-none-number}
use Rattle.report.proofs.reader.expiry_of.Goals as goal

pub returns-in_default-number_of : goal.returns-in_default-number_of
returns-in_default-number_of c = expiry-none-number c.args.text.now c.in-Some.frame.now c.in-Some.timer.now (search rules) (search rules)

pub returns-in_default-2 : goal.returns-in_default-2
returns-in_default-2 c = expiry-none-name c.args.text.now c.in-Some.frame.now c.in-Some.timer.now (search rules) (search rules)
