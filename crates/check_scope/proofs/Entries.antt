-- Names that are declared one by one.
use mathlib.Core.Path.{fun_ext}
use Rattle.std.proofs.Common.{◌≡◌, ◌≤◌, ℕ, ◌+◌, ◌<◌, List, [], ◌∷◌, ◌++◌, length, get_or, drop, map, Bool, true, false, None, is_none, refl, sym, ap, ◌∙◌}
use Rattle.std.proofs.lemmas.List.{drop_all}
use Rattle.std.specs.Option.{option_or}
use Rattle.ttcn_syntax.specs.declared.tree.definition.Definition.{Definition}
use Rattle.ttcn_syntax.specs.declared.tree.statement.Constant.{Constant}
use Rattle.check_scope.specs.internal.Checking.{both, least}
use Rattle.check_scope.specs.Scopes.{check_new_entries}
use Rattle.check_scope.specs.Names.{Entry, Names, behind, constant_entries, entries_at, entries_from, listed}
use Rattle.check_scope.specs.internal.Tables.{either}
use Rattle.check_scope.specs.Typings.{unless}
use Rattle.check_scope.specs.declared.broken.Broken.{Broken}
use Rattle.check_scope.specs.declared.names.Meaning.TheVariants as meaning
use Rattle.check_scope.specs.declared.rule.Rule.{Rule}
use Rattle.check_scope.specs.declared.rule.Rule.TheVariants as rule
use Rattle.check_scope.proofs.Leasts.{both-assoc, both-nothing, least_append}
use Rattle.check_scope.proofs.Lookups.{drop-next, or-None, or-assoc}

-- what was broken and declared so far, with the names that are left, are those of the beginning
pub record Left (broken : Broken) (names : Names) (entries : List Entry) (start : Broken) (first : Names) (all : List Entry) : Type 0 where
  pub rules : both broken (least (check_new_entries names entries)) ≡ both start (least (check_new_entries first all))
  pub declared : behind names entries ≡ behind first all

pub left-first : (start : Broken) (names : Names) (entries : List Entry) → Left start names entries start names entries
left-first start names entries = record { rules = refl; declared = refl }

-- one name, and those behind it
one-first : (b : Bool) (rules : List Rule) → unless b rule.DuplicateName ++ rules ≡ (unless b rule.DuplicateName ++ []) ++ rules
one-first true rules = refl
one-first false rules = refl

new-split : (names : Names) (entry : Entry) (entries : List Entry)
    → least (check_new_entries names (entry ∷ entries)) ≡ both (least (check_new_entries names (entry ∷ []))) (least (check_new_entries (behind names (entry ∷ [])) entries))
new-split names entry entries =
    ap least (one-first (is_none (names entry.0)) (check_new_entries (behind names (entry ∷ [])) entries))
    ∙ least_append (check_new_entries names (entry ∷ [])) (check_new_entries (behind names (entry ∷ [])) entries)

behind-split : (names : Names) (entry : Entry) (entries : List Entry) → behind names (entry ∷ entries) ≡ behind (behind names (entry ∷ [])) entries
behind-split names entry entries = fun_ext (λ name. or-assoc (listed entries name) (listed (entry ∷ []) name) (names name))

-- several names, and those behind them
pub news-split : (names : Names) (entries more : List Entry)
    → least (check_new_entries names (entries ++ more)) ≡ both (least (check_new_entries names entries)) (least (check_new_entries (behind names entries) more))
news-split names [] more = refl
news-split names (entry ∷ entries) more =
    new-split names entry (entries ++ more)
    ∙ ap (both (least (check_new_entries names (entry ∷ [])))) (news-split (behind names (entry ∷ [])) entries more)
    ∙ sym (both-assoc (least (check_new_entries names (entry ∷ []))) (least (check_new_entries (behind names (entry ∷ [])) entries)) (least (check_new_entries (behind (behind names (entry ∷ [])) entries) more)))
    ∙ ap (λ b. both b (least (check_new_entries (behind (behind names (entry ∷ [])) entries) more))) (sym (new-split names entry entries))
    ∙ ap (λ n. both (least (check_new_entries names (entry ∷ entries))) (least (check_new_entries n more))) (sym (behind-split names entry entries))

listed-append : (entries more : List Entry) (name : List ℕ) → listed (entries ++ more) name ≡ option_or (listed more name) (listed entries name)
listed-append [] more name = sym (or-None (listed more name))
listed-append (entry ∷ entries) more name =
    ap (λ o. option_or o (listed (entry ∷ []) name)) (listed-append entries more name) ∙ or-assoc (listed more name) (listed entries name) (listed (entry ∷ []) name)

pub behinds-split : (names : Names) (entries more : List Entry) → behind names (entries ++ more) ≡ behind (behind names entries) more
behinds-split names entries more = fun_ext (λ name.
    ap (λ o. option_or o (names name)) (listed-append entries more name) ∙ or-assoc (listed more name) (listed entries name) (names name))

-- some of the names that are left are declared
pub left-more : (broken more next start : Broken) (names next_names first : Names) (entries others all : List Entry) → Left broken names (entries ++ others) start first all
    → more ≡ least (check_new_entries names entries) → next_names ≡ behind names entries → next ≡ both broken more → Left next next_names others start first all
left-more broken more next start names next_names first entries others all left more_is names_is next_is = record {
  rules =
      ap (λ n. both next (least (check_new_entries n others))) names_is
      ∙ ap (λ b. both b (least (check_new_entries (behind names entries) others))) (next_is ∙ ap (both broken) more_is)
      ∙ both-assoc broken (least (check_new_entries names entries)) (least (check_new_entries (behind names entries) others))
      ∙ ap (both broken) (sym (news-split names entries others))
      ∙ left.rules;
  declared = ap (λ n. behind n others) names_is ∙ sym (behinds-split names entries others) ∙ left.declared;
}

-- one of them
pub left-next : (broken more next start : Broken) (names next_names first : Names) (entry : Entry) (entries all : List Entry) → Left broken names (entry ∷ entries) start first all
    → more ≡ least (check_new_entries names (entry ∷ [])) → next_names ≡ behind names (entry ∷ []) → next ≡ both broken more → Left next next_names entries start first all
left-next broken more next start names next_names first entry entries all = left-more broken more next start names next_names first (entry ∷ []) entries all

pub rules-end : (broken start : Broken) (names first : Names) (all : List Entry) → Left broken names [] start first all → broken ≡ both start (least (check_new_entries first all))
rules-end broken start names first all left = sym (both-nothing broken) ∙ left.rules

pub declared-end : (broken start : Broken) (names first : Names) (all : List Entry) → Left broken names [] start first all → names ≡ behind first all
declared-end broken start names first all left = left.declared

-- a name, and those behind it
pub new-rules : (one more : Broken) (names next : Names) (entry : Entry) (entries : List Entry) → one ≡ least (check_new_entries names (entry ∷ [])) → next ≡ behind names (entry ∷ [])
    → more ≡ least (check_new_entries next entries) → both one more ≡ least (check_new_entries names (entry ∷ entries))
new-rules one more names next entry entries one_is next_is more_is =
    ap (both one) (more_is ∙ ap (λ n. least (check_new_entries n entries)) next_is) ∙ ap (λ b. both b (least (check_new_entries (behind names (entry ∷ [])) entries))) one_is
    ∙ sym (new-split names entry entries)

pub new-names : (names next last : Names) (entry : Entry) (entries : List Entry) → next ≡ behind names (entry ∷ []) → last ≡ behind next entries → last ≡ behind names (entry ∷ entries)
new-names names next last entry entries next_is last-is = last-is ∙ ap (λ n. behind n entries) next_is ∙ sym (behind-split names entry entries)

-- ---- constants

pub constants-next : (at : ℕ) (constants : List Constant) (i : ℕ) (constant : Constant) → i < length constants → constant ≡ get_or constants i constant
    → constant_entries at i (drop i constants) ≡ (constant.name, meaning.ModuleConstant at i) ∷ constant_entries at (i + 1) (drop (i + 1) constants)
constants-next at constants i constant inside is = ap (constant_entries at i) (drop-next constants i constant inside is)

pub constants-end : (at : ℕ) (constants : List Constant) (i : ℕ) → length constants ≤ i → constant_entries at i (drop i constants) ≡ []
constants-end at constants i past = ap (constant_entries at i) (drop_all i constants past)

-- ---- definitions

pub definitions-next : (definitions : List Definition) (i : ℕ) (definition : Definition) → i < length definitions → definition ≡ get_or definitions i definition
    → entries_from i (drop i definitions) ≡ entries_at i definition.kind ++ entries_from (i + 1) (drop (i + 1) definitions)
definitions-next definitions i definition inside is = ap (entries_from i) (drop-next definitions i definition inside is)

pub definitions-end : (definitions : List Definition) (i : ℕ) → length definitions ≤ i → entries_from i (drop i definitions) ≡ []
definitions-end definitions i past = ap (entries_from i) (drop_all i definitions past)

-- ---- names by a rule

pub names-next : {A : Type 0} (entry : A → Entry) (items : List A) (i : ℕ) (item : A) → i < length items → item ≡ get_or items i item
    → map entry (drop i items) ≡ entry item ∷ map entry (drop (i + 1) items)
names-next entry items i item inside is = ap (map entry) (drop-next items i item inside is)

pub names-end : {A : Type 0} (entry : A → Entry) (items : List A) (i : ℕ) → length items ≤ i → map entry (drop i items) ≡ []
names-end entry items i past = ap (map entry) (drop_all i items past)

-- behind nothing stand the names alone
pub behind-nothing : (entries : List Entry) → behind (λ name. None) entries ≡ listed entries
behind-nothing entries = fun_ext (λ name. or-None (listed entries name))

-- ---- names without rules

-- the names that are left are declared behind those so far
pub behind-next : (names next first : Names) (entry : Entry) (entries all : List Entry) → behind names (entry ∷ entries) ≡ behind first all → next ≡ behind names (entry ∷ [])
    → behind next entries ≡ behind first all
behind-next names next first entry entries all left next_is = ap (λ n. behind n entries) next_is ∙ sym (behind-split names entry entries) ∙ left

-- names that are declared within others
pub either_behind : (inner next outer : Names) (entries : List Entry) → next ≡ behind inner entries → either next outer ≡ behind (either inner outer) entries
either_behind inner next outer entries is = ap (λ n. either n outer) is ∙ fun_ext (λ name. or-assoc (listed entries name) (inner name) (outer name))
