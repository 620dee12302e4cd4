-- What is seen of configurations that are kept as bytes.
use Rattle.std.specs.Prelude.{◌≡◌, ℕ, Bool, true, List, [], ◌∷◌, Option, Some, None, bytes_eq}
use Rattle.std.proofs.Common.{ap, sym}
use Rattle.std.specs.Cmp.{IsEquivalence, IsPartialEquivalence, partial_equiv_from_equiv}
use Rattle.std.specs.Cmp.Lexicographic.{on_texts_equal, same_text}
use Rattle.std.specs.Hash.{HashWrites}
use Rattle.config_packed.specs.Spelling.{spell_config}
use Rattle.ttcn_syntax.specs.declared.tree.statement.Verdict.{Verdict}
use Rattle.config_parts.specs.declared.config.Config.{Config}
use Rattle.config_parts.specs.declared.config.Config.TheVariants as config

-- the same bytes spell two configurations
abbrev pub same_bytes : Config → Config → Bool
same_bytes a b = bytes_eq (spell_config a) (spell_config b)

pub same_bytes_equiv : IsEquivalence same_bytes
same_bytes_equiv = on_texts_equal spell_config

pub same_bytes_laws : IsPartialEquivalence same_bytes
same_bytes_laws = partial_equiv_from_equiv same_bytes_equiv

-- a hasher is fed the bytes at once
abbrev pub fed : Config → HashWrites
fed c = spell_config c ∷ []

pub fed_alike : (a b : Config) → same_bytes a b ≡ true → fed a ≡ fed b
fed_alike a b same = ap (λ (bytes : List ℕ). bytes ∷ []) (same_text (spell_config a) (spell_config b) (sym same))

-- the verdict, where the test case has ended
abbrev pub verdict_in : Config → Option Verdict
verdict_in (config.Ended v) = Some v
verdict_in (config.Going going) = None
