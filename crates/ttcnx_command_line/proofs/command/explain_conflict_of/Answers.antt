use Rattle.std.proofs.Common.{ap, is_some}
use Rattle.ttcnx_command_line.proofs.Lines.{explain-refused}
use Rattle.ttcnx_command_line.proofs.command.explain_conflict_of.Goals as goal

pub returns-in-Some : goal.returns-in-Some
returns-in-Some c = explain-refused c.args.explain (is_some c.args.about_expiries) c.if-explain.true (ap (λ o. is_some o) c.in-Some.is)
