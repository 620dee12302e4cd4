use Rattle.std.proofs.Common.{◌≡◌, ◌∙◌, ◌||◌, codes, is_some, sym}
use Rattle.clap.specs.Words.{found_of, rows_of}
use Rattle.ttcnx_command_line.specs.Command.{is_about_telling}
use Rattle.ttcnx_command_line.proofs.Lines.{about-is, fourth-of-five, last-of-five, value-is}
use Rattle.ttcnx_command_line.proofs.command.about_telling_of.Goals as goal

pub returns-then-first : goal.returns-then-first
returns-then-first c =
    let f = found_of c.args.given.now in
    let bounded = is_some c.about_expiries_of-about_expiries.result in
    let first = value-is f (codes "first") c.get_str.result c.is_some-first.result c.get_str.ensures c.is_some-first.ensures in
    let is : is_about_telling (rows_of f) ≡ (c.flag_of-json.result || c.flag_of-explain.result || c.flag_of-partial.result || c.is_some-first.result || bounded) =
    about-is f c.flag_of-json.result c.flag_of-explain.result c.flag_of-partial.result c.is_some-first.result bounded c.flag_of-json.ensures c.flag_of-explain.ensures c.flag_of-partial.ensures first
    (sym c.about_expiries_of-about_expiries.ensures) in
    sym (is ∙ fourth-of-five _ _ _ _ bounded c.if-json.false c.if-explain.false c.if-partial.false c.if-first.true)

pub returns-else-first : goal.returns-else-first
returns-else-first c =
    let f = found_of c.args.given.now in
    let bounded = is_some c.about_expiries_of-about_expiries.result in
    let first = value-is f (codes "first") c.get_str.result c.is_some-first.result c.get_str.ensures c.is_some-first.ensures in
    let is : is_about_telling (rows_of f) ≡ (c.flag_of-json.result || c.flag_of-explain.result || c.flag_of-partial.result || c.is_some-first.result || bounded) =
    about-is f c.flag_of-json.result c.flag_of-explain.result c.flag_of-partial.result c.is_some-first.result bounded c.flag_of-json.ensures c.flag_of-explain.ensures c.flag_of-partial.ensures first
    (sym c.about_expiries_of-about_expiries.ensures) in
    sym (is ∙ last-of-five _ _ _ _ bounded c.if-json.false c.if-explain.false c.if-partial.false c.if-first.false)
