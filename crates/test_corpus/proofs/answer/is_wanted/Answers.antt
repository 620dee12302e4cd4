use Rattle.test_corpus.proofs.Texts.{no-prefix}
use Rattle.test_corpus.proofs.answer.is_wanted.Goals as goal

pub returns-in-None : goal.returns-in-None
returns-in-None c = (λ t. absurd (cc t), λ w. absurd (no-prefix _ _ c.in-None.ensures.cases w))
