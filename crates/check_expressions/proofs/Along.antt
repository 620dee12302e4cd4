-- Fields of fields, one by one.
use Rattle.std.proofs.Common.{◌≡◌, ◌≤◌, ℕ, ◌+◌, ◌<◌, Bool, List, length, get_or, drop, sym, ap, ◌∙◌}
use Rattle.std.proofs.lemmas.List.{drop_all}
use Rattle.ttcn_syntax.specs.declared.tree.definition.Definition.{Definition}
use Rattle.check_scope.specs.internal.Checking.{least}
use Rattle.check_rules.specs.internal.Findings.{finding, with_before}
use Rattle.check_rules.specs.Expressions.{along, within}
use Rattle.check_rules.specs.Targets.{last_optional, optional_in}
use Rattle.check_rules.specs.declared.finding.Finding.{Finding}
use Rattle.check_scope.specs.declared.types.Typing.{Typing}
use Rattle.check_scope.proofs.Leasts.{both-assoc, both-nothing}
use Rattle.check_rules.proofs.Findings.{finding_after}
use Rattle.check_scope.proofs.Lookups.{drop-next}

-- what was found of the fields so far, with those that are left
abbrev pub left : List Definition → Finding → List (List ℕ) → Finding
left definitions found names = with_before found.broken (finding (along definitions found.typing names))

pub along-next : (definitions : List Definition) (names : List (List ℕ)) (i : ℕ) (name : List ℕ) (found next : Finding) → i < length names → name ≡ get_or names i name
    → next ≡ with_before found.broken (finding (within definitions found.typing name)) → left definitions found (drop i names) ≡ left definitions next (drop (i + 1) names)
along-next definitions names i name found next inside is next_is =
    ap (left definitions found) (drop-next names i name inside is)
    ∙ ap (with_before found.broken) (finding_after (within definitions found.typing name).broken (along definitions (within definitions found.typing name).typing (drop (i + 1) names)))
    ∙ ap (λ b. record { typing = (along definitions (within definitions found.typing name).typing (drop (i + 1) names)).typing; broken = b })
    (sym (both-assoc found.broken (least (within definitions found.typing name).broken) (least (along definitions (within definitions found.typing name).typing (drop (i + 1) names)).broken)))
    ∙ sym (ap (λ n. left definitions n (drop (i + 1) names)) next_is)

pub along-end : (definitions : List Definition) (names : List (List ℕ)) (i : ℕ) (found : Finding) → length names ≤ i → left definitions found (drop i names) ≡ found
along-end definitions names i found past = ap (left definitions found) (drop_all i names past) ∙ ap (λ b. record { typing = found.typing; broken = b }) (both-nothing found.broken)

-- whether the last may be omitted, where there is one more
pub optional-next : (definitions : List Definition) (names : List (List ℕ)) (i : ℕ) (name : List ℕ) (t next : Typing) (optional next_optional : Bool)
    → i < length names → name ≡ get_or names i name → next ≡ (within definitions t name).typing → next_optional ≡ optional_in definitions t name
    → last_optional definitions t optional (drop i names) ≡ last_optional definitions next next_optional (drop (i + 1) names)
optional-next definitions names i name t next optional next_optional inside is next_is optional_is =
    ap (last_optional definitions t optional) (drop-next names i name inside is)
    ∙ ap (λ u. last_optional definitions u (optional_in definitions t name) (drop (i + 1) names)) (sym next_is)
    ∙ ap (λ o. last_optional definitions next o (drop (i + 1) names)) (sym optional_is)

pub optional-end : (definitions : List Definition) (names : List (List ℕ)) (i : ℕ) (t : Typing) (optional : Bool) → length names ≤ i
    → last_optional definitions t optional (drop i names) ≡ optional
optional-end definitions names i t optional past = ap (last_optional definitions t optional) (drop_all i names past)
