-- What definitions break, part by part.
use Rattle.std.proofs.Common.{◌≡◌, ◌≤◌, ℕ, ◌+◌, ◌<◌, List, [], ◌++◌, length, get_or, drop, refl, sym, ap, ◌∙◌}
use Rattle.std.proofs.lemmas.List.{drop_all}
use Rattle.ttcn_syntax.specs.declared.tree.definition.Definition.{Definition}
use Rattle.check_scope.specs.internal.Checking.{both, least}
use Rattle.check_rules.specs.Definitions.{check_definition, check_definitions}
use Rattle.check_scope.specs.declared.broken.Broken.{Broken}
use Rattle.check_scope.specs.declared.rule.Rule.{Rule}
use Rattle.check_scope.proofs.Leasts.{both-assoc, both-nothing, least_append}
use Rattle.check_scope.proofs.Lookups.{drop-next}

-- what was noted, and what is behind it
pub noted-before : (found part next : Broken) (rules more : List Rule) → part ≡ least rules → next ≡ both found part
    → both next (least more) ≡ both found (least (rules ++ more))
noted-before found part next rules more part-is next_is =
    ap (λ b. both b (least more)) (next_is ∙ ap (both found) part-is)
    ∙ both-assoc found (least rules) (least more)
    ∙ ap (both found) (sym (least_append rules more))

-- the head of a function, which has a part of its own for the result
pub function-noted : (found head result whole next : Broken) (named parameters typed more : List Rule) → head ≡ least (named ++ parameters) → result ≡ least typed
    → whole ≡ both head result → next ≡ both found whole → both next (least more) ≡ both found (least (named ++ parameters ++ typed ++ more))
function-noted found head result whole next named parameters typed more head-is result_is whole-is next_is =
    noted-before found whole next (named ++ parameters ++ typed) more
    (whole-is ∙ ap (λ b. both b result) head-is ∙ ap (both (least (named ++ parameters))) result_is ∙ sym (least_append (named ++ parameters) typed)) next_is

-- the head of a test case, which has no parameters
pub testcase-noted : (found head system whole next : Broken) (named others more : List Rule) → head ≡ least (named ++ []) → system ≡ least others
    → whole ≡ both head system → next ≡ both found whole → both next (least more) ≡ both found (least (named ++ others ++ more))
testcase-noted found head system whole next named others more head-is system_is whole-is next_is =
    noted-before found whole next (named ++ others) more
    (whole-is ∙ ap (λ b. both b system) (head-is ∙ least_append named [] ∙ both-nothing (least named)) ∙ ap (both (least named)) system_is ∙ sym (least_append named others)) next_is

-- ---- all definitions

-- what was found so far, with what the definitions that are left break
abbrev pub rest_of_definitions : List Definition → ℕ → List Definition → Broken → Broken
rest_of_definitions all at definitions found = both found (least (check_definitions all at definitions))

-- one definition more
pub check_definitions-next : (all : List Definition) (definitions : List Definition) (i : ℕ) (definition : Definition) (found next : Broken)
    → i < length definitions → definition ≡ get_or definitions i definition → next ≡ both found (least (check_definition all i definition.kind))
    → rest_of_definitions all i (drop i definitions) found ≡ rest_of_definitions all (i + 1) (drop (i + 1) definitions) next
check_definitions-next all definitions i definition found next inside is next_is =
    let rules : List Rule = check_definition all i definition.kind in
    ap (λ others. rest_of_definitions all i others found) (drop-next definitions i definition inside is)
    ∙ sym (noted-before found (least rules) next rules (check_definitions all (i + 1) (drop (i + 1) definitions)) refl next_is)

-- none is left
pub check_definitions-end : (all : List Definition) (definitions : List Definition) (i : ℕ) (found : Broken) → length definitions ≤ i
    → rest_of_definitions all i (drop i definitions) found ≡ found
check_definitions-end all definitions i found past = ap (λ others. rest_of_definitions all i others found) (drop_all i definitions past) ∙ both-nothing found
