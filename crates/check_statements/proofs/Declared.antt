-- Names that are declared one behind the other, item by item.
use Rattle.std.proofs.Common.{◌≡◌, ◌≤◌, ℕ, ◌+◌, ◌<◌, List, [], ◌∷◌, ◌++◌, length, get_or, drop, refl, sym, ap, ◌∙◌}
use Rattle.std.proofs.lemmas.List.{drop_all}
use Rattle.check_scope.specs.internal.Checking.{both, least}
use Rattle.check_rules.specs.Declarations.{behind_all, one_by_one}
use Rattle.check_scope.specs.Names.{Entry, Scope, declaring}
use Rattle.check_scope.specs.declared.broken.Broken.{Broken}
use Rattle.check_scope.specs.declared.rule.Rule.{Rule}
use Rattle.check_scope.proofs.Leasts.{both-assoc, both-nothing, least_append}
use Rattle.check_scope.proofs.Lookups.{drop-next}

module _ {A : Type 0} (rules : Scope → A → List Rule) (entry : Scope → A → Entry) where
  -- what was broken and declared so far, with the items that are left, are those of the beginning
  pub record Walked (broken : Broken) (scope : Scope) (items : List A) (first : Scope) (all : List A) : Type 0 where
    pub rules_are : both broken (least (one_by_one rules entry scope items)) ≡ least (one_by_one rules entry first all)
    pub scope_is : behind_all entry scope items ≡ behind_all entry first all

  pub walked-first : (scope : Scope) (items : List A) → Walked (least []) scope items scope items
  walked-first scope items = record { rules_are = refl; scope_is = refl }

  walked-item : (broken more next : Broken) (scope behind first : Scope) (item : A) (items all : List A) → Walked broken scope (item ∷ items) first all
      → more ≡ least (rules scope item) → behind ≡ declaring scope (entry scope item ∷ []) → next ≡ both broken more → Walked next behind items first all
  walked-item broken more next scope behind first item items all walked more_is behind_is next_is = record {
    rules_are =
        ap (λ s. both next (least (one_by_one rules entry s items))) behind_is
        ∙ ap (λ b. both b (least (one_by_one rules entry (declaring scope (entry scope item ∷ [])) items))) (next_is ∙ ap (both broken) more_is)
        ∙ both-assoc broken (least (rules scope item)) (least (one_by_one rules entry (declaring scope (entry scope item ∷ [])) items))
        ∙ ap (both broken) (sym (least_append (rules scope item) (one_by_one rules entry (declaring scope (entry scope item ∷ [])) items)))
        ∙ walked.rules_are;
    scope_is = ap (λ s. behind_all entry s items) behind_is ∙ walked.scope_is;
  }

  -- one item more
  pub walked-next : (broken more next : Broken) (scope behind first : Scope) (items : List A) (i : ℕ) (item : A) → i < length items → item ≡ get_or items i item
      → Walked broken scope (drop i items) first items → more ≡ least (rules scope item) → behind ≡ declaring scope (entry scope item ∷ []) → next ≡ both broken more
      → Walked next behind (drop (i + 1) items) first items
  walked-next broken more next scope behind first items i item inside is walked =
      walked-item broken more next scope behind first item (drop (i + 1) items) items (rw (drop-next items i item inside is) at walked)

  -- none is left
  pub walked-last : (broken : Broken) (scope first : Scope) (items : List A) (i : ℕ) → length items ≤ i → Walked broken scope (drop i items) first items
      → Walked broken scope [] first items
  walked-last broken scope first items i past walked = rw (drop_all i items past) at walked

  pub walked-rules : (broken : Broken) (scope first : Scope) (items : List A) → Walked broken scope [] first items → broken ≡ least (one_by_one rules entry first items)
  walked-rules broken scope first items walked = sym (both-nothing broken) ∙ walked.rules_are

-- what two parts break, one behind the other
pub in-both : (one other whole : Broken) (rules more : List Rule) → one ≡ least rules → other ≡ least more → whole ≡ both one other → whole ≡ least (rules ++ more)
in-both one other whole rules more one_is other_is whole-is =
    whole-is ∙ ap (λ b. both b other) one_is ∙ ap (both (least rules)) other_is ∙ sym (least_append rules more)
