use Rattle.std.proofs.Common.{◌∙◌, sym, Some, codes, rules}
use Rattle.std.proofs.lemmas.Str.Pattern.{split_text_parts}
use Rattle.test_corpus.proofs.repeat.expand_repeats.Goals as goal

-- in a text without a repeat there is no turn
pub loop-before-preserved : goal.loop-before-preserved
loop-before-preserved c =
    let parts = split_text_parts (codes "<<") _ (Some (c.in-Some.before, c.in-Some.behind)) c.in-Some.ensures.cases in
    (search rules, λ none. absurd (none (c.in-Some.before.now, c.in-Some.behind.now, sym (c.loop-before.invariant.1 none).1 ∙ parts)))
