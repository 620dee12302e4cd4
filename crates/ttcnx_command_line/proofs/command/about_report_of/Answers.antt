use Rattle.std.proofs.Common.{◌∙◌, ◌||◌, ap, codes, sym}
use Rattle.clap.specs.Words.{found_of, rows_of}
use Rattle.ttcnx_command_line.specs.Command.{is_about_telling}
use Rattle.ttcnx_command_line.proofs.Getters.{flag-set}
use Rattle.ttcnx_command_line.proofs.command.about_report_of.Goals as goal

pub returns-then-few_expiries : goal.returns-then-few_expiries
returns-then-few_expiries c =
    let rows = rows_of (found_of c.args.given.now) in
    sym (ap (λ x. x || is_about_telling rows) (flag-set rows (codes "few-expiries") c.flag_of-few_expiries.result c.flag_of-few_expiries.ensures ∙ c.if-few_expiries.true))

pub returns-else-few_expiries : goal.returns-else-few_expiries
returns-else-few_expiries c =
    let rows = rows_of (found_of c.args.given.now) in
    c.about_telling_of-about_telling.ensures
    ∙ sym (ap (λ x. x || is_about_telling rows) (flag-set rows (codes "few-expiries") c.flag_of-few_expiries.result c.flag_of-few_expiries.ensures ∙ c.if-few_expiries.false))
