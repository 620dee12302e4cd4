use Rattle.std.proofs.Common.{rules}
use borrow.Author.Tests.{tests}
use Rattle.std.proofs.lemmas.Iterator.{YieldsList-from_slice}
use Rattle.std.proofs.lemmas.Iterator.Search.{all_from_yields_List}
use Rattle.report.proofs.Wholes.{identifier-read}
use Rattle.ttcn_syntax.specs.Characters.{is_word_byte}
use Rattle.report.proofs.reader.is_identifier.Goals as goal

pub returns-then-is_letter : goal.returns-then-is_letter
returns-then-is_letter c =
    identifier-read c.args.name.now c.in-Some.others.now c.in-Some.first.now c.all.result (search rules) (search rules)
    (all_from_yields_List is_word_byte _ _ c.all.result c.all.ensures.ran (YieldsList-from_slice c.in-Some.others.now (cc)) (λ x b q k. search (rules, tests)))
