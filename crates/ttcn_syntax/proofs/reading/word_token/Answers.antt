use Rattle.std.proofs.Common.{sym, ◌∙◌}
use Rattle.ttcn_syntax.proofs.Readings.{word-read, left-out-read, name-read, no-word-found}
use Rattle.ttcn_syntax.proofs.reading.word_token.Goals as goal

pub returns-in-Some : goal.returns-in-Some
returns-in-Some c = word-read c.args.bytes.now c.in-Some.word (sym c.used_word.ensures ∙ c.in-Some.is)

pub returns-then-is_some : goal.returns-then-is_some
returns-then-is_some c = left-out-read c.args.bytes.now (cc (c.left_out_word.ensures, c.is_some.ensures, c.if-is_some.true))

pub returns : goal.returns
returns c =
    name-read c.args.bytes.now c.in_ok-name.name
    (sym c.used_word.ensures ∙ no-word-found c.used_word.result c.in_default.not-Some)
    (cc (c.left_out_word.ensures, c.is_some.ensures, c.if-is_some.false))
    c.in_ok-name.ensures
