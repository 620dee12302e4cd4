use Rattle.std.proofs.Common.{rules}
use Rattle.report.proofs.Readings.{content-bad, content-label, no-content}
use Rattle.report.proofs.run.content_of.Goals as goal

pub returns-then-is_empty : goal.returns-then-is_empty
returns-then-is_empty g c = no-content c.args.line.now c.without_blanks_behind-text.result.now (cc) (search rules)

pub returns-in-Some : goal.returns-in-Some
returns-in-Some g c =
    let made = rw c.in-Some.is at c.in_ok-label.ensures.label in
    content-label _ g.T.Written.text_of g.T.Written.is_held c.args.line.now c.without_blanks_behind-text.result.now c.in-Some.label (cc) (search rules) made

pub returns-in-None : goal.returns-in-None
returns-in-None g c =
    let bad = rw c.in-None.is at c.in_ok-label.ensures.label in
    content-bad _ g.T.Written.text_of g.T.Written.is_held c.in_ok-label.ensures.bare c.args.line.now c.without_blanks_behind-text.result.now (cc) (search rules) bad
