-- The elements of literals, one by one.
use Rattle.std.proofs.Common.{◌≡◌, ℕ, ◌+◌, ◌<◌, ◌≤◌, Bool, true, false, not, ◌&&◌, ◌||◌, if◌then◌else◌, List, [], ◌∷◌, ◌++◌, map, length, get_or, drop, Option, bytes_eq, refl, sym, ap, ◌∙◌}
use Rattle.std.proofs.lemmas.Cmp.{nat_list_eq_equiv}
use Rattle.std.proofs.lemmas.List.{drop_all}
use Rattle.std.proofs.lemmas.List.Folds.{list_any-append}
use Rattle.std.specs.List.{list_all, list_any}
use Rattle.ttcn_syntax.specs.declared.tree.definition.Field.{Field}
use Rattle.check_scope.proofs.Leasts.{both-assoc, both-nothing, least_append}
use Rattle.check_scope.proofs.Lookups.{drop-next}
use Rattle.check_scope.specs.internal.Checking.{both, least}
use Rattle.check_scope.specs.Names.{Scope}
use Rattle.check_scope.specs.internal.Tables.{has}
use Rattle.check_scope.specs.Typings.{unless}
use Rattle.check_rules.specs.Values.{AtTarget, by_name, first_target, in_order, is_field, next_fields, target_named}
use Rattle.check_scope.specs.declared.broken.Broken.{Broken}
use Rattle.check_scope.specs.declared.name_set.NameSet.{NameSet}
use Rattle.check_scope.specs.declared.rule.Rule.TheVariants as rule

-- ---- by the order of the fields

-- what was found so far, with what the elements that are left break
abbrev pub rest_in_order : Scope → Option (List Field) → List AtTarget → Broken → Broken
rest_in_order scope fields elements found = both found (least (in_order fields elements scope))

pub in_order-next : {A : Type 0} (f : A → AtTarget) (scope : Scope) (fields left : Option (List Field)) (elements : List A) (i : ℕ) (element : A) (found part next : Broken)
    → i < length elements → element ≡ get_or elements i element → left ≡ next_fields fields
    → part ≡ least (f element scope (first_target scope.definitions fields)) → next ≡ both found part
    → rest_in_order scope fields (map f (drop i elements)) found ≡ rest_in_order scope left (map f (drop (i + 1) elements)) next
in_order-next f scope fields left elements i element found part next inside is left_is part-is next_is =
    ap (λ es. rest_in_order scope fields (map f es) found) (drop-next elements i element inside is)
    ∙ ap (both found) (least_append (f element scope (first_target scope.definitions fields)) (in_order (next_fields fields) (map f (drop (i + 1) elements)) scope))
    ∙ sym (both-assoc found (least (f element scope (first_target scope.definitions fields))) (least (in_order (next_fields fields) (map f (drop (i + 1) elements)) scope)))
    ∙ ap (λ b. rest_in_order scope (next_fields fields) (map f (drop (i + 1) elements)) b) (sym (next_is ∙ ap (both found) part-is))
    ∙ ap (λ fs. rest_in_order scope fs (map f (drop (i + 1) elements)) next) (sym left_is)

pub in_order-end : {A : Type 0} (f : A → AtTarget) (scope : Scope) (fields : Option (List Field)) (elements : List A) (i : ℕ) (found : Broken) → length elements ≤ i
    → rest_in_order scope fields (map f (drop i elements)) found ≡ found
in_order-end f scope fields elements i found past = ap (λ es. rest_in_order scope fields (map f es) found) (drop_all i elements past) ∙ both-nothing found

-- ---- by the names of the fields

-- the names that were met are those before, and what was found so far with what the elements that are left break is the whole
pub record Named (scope : Scope) (fields : Option (List Field)) (names : NameSet) (elements : List (List ℕ × AtTarget)) (found whole : Broken) : Type 0 where
  pub before : List (List ℕ)
  pub same : (name : List ℕ) → has names name ≡ list_any (bytes_eq name) before
  pub sum : both found (least (by_name fields before elements scope)) ≡ whole

pub one-more : (name other : List ℕ) (had : Bool) → (if bytes_eq name other then true else had) ≡ (had || (bytes_eq other name || false))
one-more name other had = rw (nat_list_eq_equiv.symm name other)
    (elim (bytes_eq other name) as (λ b. (if b then true else had) ≡ (had || (b || false))) [
      | true ↦ elim had as (λ h. true ≡ (h || true)) [ true ↦ refl | false ↦ refl ]
      | false ↦ elim had as (λ h. h ≡ (h || false)) [ true ↦ refl | false ↦ refl ]
    ])

pub regroup : (found u a r : Broken) → both found (both (both u a) r) ≡ both (both (both found u) a) r
regroup found u a r = sym (both-assoc found (both u a) r) ∙ ap (λ b. both b r) (sym (both-assoc found u a))

pub named-first : (scope : Scope) (fields : Option (List Field)) (names : NameSet) (elements : List (List ℕ × AtTarget)) (found : Broken)
    → ((name : List ℕ) → has names name ≡ false) → found ≡ least [] → Named scope fields names elements found (least (by_name fields [] elements scope))
named-first scope fields names elements found none found_is = record {
  before = [];
  same = none;
  sum = ap (λ b. both b (least (by_name fields [] elements scope))) found_is;
}

pub named-next : {A : Type 0} (f : A → List ℕ × AtTarget) (scope : Scope) (fields : Option (List Field)) (names next_names : NameSet) (elements : List A) (i : ℕ) (element : A)
    (name : List ℕ) (at : AtTarget) (is_new : Bool) (found named part next whole : Broken)
    → i < length elements → element ≡ get_or elements i element → f element ≡ (name, at) → is_new ≡ not (has names name)
    → ((other : List ℕ) → has next_names other ≡ (if bytes_eq name other then true else has names other))
    → named ≡ least (unless (is_field fields name && is_new) rule.Fields) → part ≡ least (at scope (target_named scope.definitions fields name))
    → next ≡ both (both found named) part
    → Named scope fields names (map f (drop i elements)) found whole → Named scope fields next_names (map f (drop (i + 1) elements)) next whole
named-next f scope fields names next_names elements i element name at is_new found named part next whole inside is f_is new_is behind named_is part-is next_is so_far =
    let others : List (List ℕ × AtTarget) = map f (drop (i + 1) elements) in
    let named_now : named ≡ least (unless (is_field fields name && not (list_any (bytes_eq name) so_far.before)) rule.Fields) =
    named_is ∙ ap (λ b. least (unless (is_field fields name && b) rule.Fields)) (new_is ∙ ap not (so_far.same name)) in
    record {
      before = so_far.before ++ name ∷ [];
      same = λ other. behind other ∙ one-more name other (has names other) ∙ ap (λ b. b || (bytes_eq other name || false)) (so_far.same other)
          ∙ sym (list_any-append (bytes_eq other) so_far.before (name ∷ []));
      sum = ap (λ b. both b (least (by_name fields (so_far.before ++ name ∷ []) others scope))) (next_is ∙ ap (λ b. both (both found b) part) named_now ∙ ap (both (both found (least (unless (is_field fields name && not (list_any (bytes_eq name) so_far.before)) rule.Fields)))) part-is)
          ∙ sym (regroup found (least (unless (is_field fields name && not (list_any (bytes_eq name) so_far.before)) rule.Fields)) (least (at scope (target_named scope.definitions fields name))) (least (by_name fields (so_far.before ++ name ∷ []) others scope)))
          ∙ ap (λ b. both found (both b (least (by_name fields (so_far.before ++ name ∷ []) others scope))))
          (sym (least_append (unless (is_field fields name && not (list_any (bytes_eq name) so_far.before)) rule.Fields) (at scope (target_named scope.definitions fields name))))
          ∙ ap (both found) (sym (least_append (unless (is_field fields name && not (list_any (bytes_eq name) so_far.before)) rule.Fields ++ at scope (target_named scope.definitions fields name)) (by_name fields (so_far.before ++ name ∷ []) others scope)))
          ∙ ap (λ e. both found (least (by_name fields so_far.before (e ∷ others) scope))) (sym f_is)
          ∙ ap (λ es. both found (least (by_name fields so_far.before (map f es) scope))) (sym (drop-next elements i element inside is))
          ∙ so_far.sum;
    }

pub named-end : {A : Type 0} (f : A → List ℕ × AtTarget) (scope : Scope) (fields : Option (List Field)) (names : NameSet) (elements : List A) (i : ℕ) (found whole : Broken)
    → length elements ≤ i → Named scope fields names (map f (drop i elements)) found whole → found ≡ whole
named-end f scope fields names elements i found whole past so_far =
    sym (both-nothing found) ∙ ap (λ es. both found (least (by_name fields so_far.before (map f es) scope))) (sym (drop_all i elements past)) ∙ so_far.sum

-- ---- names alone

shifted : (b h r : Bool) → ((if b then true else h) || r) ≡ (h || (b || r))
shifted true true r = refl
shifted true false r = refl
shifted false h r = refl

or-false : (b : Bool) → (b || false) ≡ b
or-false true = refl
or-false false = refl

-- a name was met, or is one of those that are left
abbrev pub met_or_left : {A : Type 0} → (A → List ℕ) → NameSet → List A → List ℕ → Bool
met_or_left f names elements name = has names name || list_any (bytes_eq name) (map f elements)

pub met-next : {A : Type 0} (f : A → List ℕ) (names next_names : NameSet) (elements : List A) (i : ℕ) (element : A) → i < length elements → element ≡ get_or elements i element
    → ((other : List ℕ) → has next_names other ≡ (if bytes_eq (f element) other then true else has names other))
    → (name : List ℕ) → met_or_left f next_names (drop (i + 1) elements) name ≡ met_or_left f names (drop i elements) name
met-next f names next_names elements i element inside is behind name =
    ap (λ b. b || list_any (bytes_eq name) (map f (drop (i + 1) elements))) (behind name)
    ∙ shifted (bytes_eq (f element) name) (has names name) (list_any (bytes_eq name) (map f (drop (i + 1) elements)))
    ∙ ap (λ b. has names name || (b || list_any (bytes_eq name) (map f (drop (i + 1) elements)))) (nat_list_eq_equiv.symm (f element) name)
    ∙ ap (λ es. met_or_left f names es name) (sym (drop-next elements i element inside is))

pub met-end : {A : Type 0} (f : A → List ℕ) (names : NameSet) (elements : List A) (i : ℕ) → length elements ≤ i → (name : List ℕ)
    → has names name ≡ met_or_left f names (drop i elements) name
met-end f names elements i past name = sym (or-false (has names name)) ∙ ap (λ es. met_or_left f names es name) (sym (drop_all i elements past))

-- each field has an element, by a set of the names
pub each-has : (names : NameSet) (fields : List Field) (known : List (List ℕ)) (all : Bool) → all ≡ list_all (λ field. has names field.name) fields
    → ((name : List ℕ) → has names name ≡ list_any (bytes_eq name) known) → all ≡ list_all (λ field. list_any (bytes_eq field.name) known) fields
each-has names fields known all all_is same = all_is ∙ (λ i. list_all (λ field. same field.name i) fields)
