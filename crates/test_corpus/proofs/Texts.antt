-- Texts that begin with a text, or have it in them.
use Rattle.std.proofs.Common.{ℕ, List, [], ◌++◌, ⊎_elim, ◌∙◌, sym, append-nil, codes}
use Rattle.std.specs.Str.Pattern.{LacksTextAt}
use Rattle.test_corpus.specs.Answer.{IsWanted}

-- an answer that doesn't begin with what is wanted isn't wanted
pub no-prefix : (answer wanted : List ℕ) → LacksTextAt wanted answer 0 → ¬ (IsWanted answer wanted)
no-prefix answer wanted lacks = ⊎_elim (λ e. lacks [] (e ∙ sym (append-nil wanted))) (λ p. lacks (codes " at " ++ p.0) p.1)
