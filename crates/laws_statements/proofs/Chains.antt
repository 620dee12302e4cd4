-- Altsteps that are branches of one another make no long chains.
use Rattle.std.proofs.Common.{◌≤◌, List, [], ◌∷◌, length, inl, inr}
use Rattle.std.proofs.lemmas.Bool.{cases_lt}
use Rattle.ttcn_syntax.specs.declared.tree.definition.Definition.{Definition}
use Rattle.check_survey.specs.Graphs.{AllChainsWithin}
use Rattle.check_rules.specs.Limits.{longest_chain}
use Rattle.check_rules.specs.Parts.{altsteps}
use Rattle.check_rules.specs.Rules.{AreWellTyped}
use Rattle.check_rules.specs.Rules.Breaks.{altstep_size}
use Rattle.check_scope.specs.declared.rule.Rule.TheVariants as rule

pub chains_short : (definitions : List Definition) → AreWellTyped definitions → AllChainsWithin (altsteps definitions) longest_chain
chains_short definitions well [] chain = absurd chain
chains_short definitions well (i ∷ rest) chain = elim (cases_lt longest_chain (length (i ∷ rest))) as (λ _. length (i ∷ rest) ≤ longest_chain)
    [ inl longer ↦ absurd (well rule.Size (altstep_size (inl (i, (rest, chain, longer))))) | inr within ↦ within ]
