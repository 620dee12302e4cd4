-- What definitions break inside, part by part.
use Rattle.std.proofs.Common.{◌≡◌, ℕ, ◌+◌, ◌<◌, ◌≤◌, Bool, true, false, not, ◌&&◌, ◌||◌, if◌then◌else◌, List, [], ◌∷◌, ◌++◌, length, get_or, drop, bytes_eq, nat_eq, arith, sym, ap, ◌∙◌}
use Rattle.std.proofs.lemmas.Bool.Decides.{nat_tests}
use Rattle.std.proofs.lemmas.List.{drop_all}
use Rattle.std.proofs.lemmas.List.Folds.{list_any-append}
use Rattle.std.specs.Bool.{beq}
use Rattle.std.specs.List.{flat_map, list_any}
use Rattle.ttcn_syntax.specs.declared.tree.definition.EnumNumber.{EnumNumber}
use Rattle.ttcn_syntax.specs.declared.tree.definition.Enumerator.{Enumerator}
use Rattle.ttcn_syntax.specs.declared.tree.definition.Field.{Field}
use Rattle.check_expressions.proofs.Elements.{one-more, regroup}
use Rattle.check_scope.proofs.Leasts.{both-assoc, both-nothing, least_append}
use Rattle.check_scope.proofs.Lookups.{drop-next}
use Rattle.check_scope.specs.internal.Checking.{both, least}
use Rattle.check_rules.specs.Definitions.{and_number, check_number, check_part, check_fields, check_numbers, same_number, same_sign}
use Rattle.check_scope.specs.Names.{Names}
use Rattle.check_statements.specs.internal.Places.{AreGiven, given, is_negative}
use Rattle.check_scope.specs.internal.Tables.{has}
use Rattle.check_scope.specs.Typings.{unless}
use Rattle.check_scope.specs.declared.broken.Broken.{Broken}
use Rattle.check_scope.specs.declared.name_set.NameSet.{NameSet}
use Rattle.check_statements.specs.declared.number_set.NumberSet.{NumberSet}
use Rattle.check_scope.specs.declared.rule.Rule.{Rule}
use Rattle.check_scope.specs.declared.rule.Rule.TheVariants as rule

-- ---- parts that are judged by themselves

-- what was found so far, with what the parts that are left break
abbrev pub rest_of_parts : {A : Type 0} → (A → List Rule) → List A → Broken → Broken
rest_of_parts rules parts found = both found (least (flat_map rules parts))

module _ {A : Type 0} (rules : A → List Rule) (parts : List A) (i : ℕ) where
  pub parts-next : (x : A) (found part next : Broken) → i < length parts → x ≡ get_or parts i x → part ≡ least (rules x) → next ≡ both found part
      → rest_of_parts rules (drop i parts) found ≡ rest_of_parts rules (drop (i + 1) parts) next
  parts-next x found part next inside is part-is next_is =
      ap (λ others. rest_of_parts rules others found) (drop-next parts i x inside is)
      ∙ ap (both found) (least_append (rules x) (flat_map rules (drop (i + 1) parts)))
      ∙ sym (both-assoc found (least (rules x)) (least (flat_map rules (drop (i + 1) parts))))
      ∙ ap (rest_of_parts rules (drop (i + 1) parts)) (sym (next_is ∙ ap (both found) part-is))

  pub parts-end : (found : Broken) → length parts ≤ i → rest_of_parts rules (drop i parts) found ≡ found
  parts-end found past = ap (λ others. rest_of_parts rules others found) (drop_all i parts past) ∙ both-nothing found

-- ---- fields

-- the names that were met are those before, and what was found so far with what the fields that are left break is the whole
pub record Fielded (names : Names) (set : NameSet) (fields : List Field) (found whole : Broken) : Type 0 where
  pub before : List (List ℕ)
  pub same : (name : List ℕ) → has set name ≡ list_any (bytes_eq name) before
  pub sum : both found (least (check_fields names before fields)) ≡ whole

pub fielded-first : (names : Names) (set : NameSet) (fields : List Field) (found : Broken) → ((name : List ℕ) → has set name ≡ false) → found ≡ least []
    → Fielded names set fields found (least (check_fields names [] fields))
fielded-first names set fields found none found_is = record {
  before = [];
  same = none;
  sum = ap (λ b. both b (least (check_fields names [] fields))) found_is;
}

pub fielded-next : (names : Names) (set next_set : NameSet) (fields : List Field) (i : ℕ) (field : Field) (is_new : Bool) (found named part next whole : Broken)
    → i < length fields → field ≡ get_or fields i field → is_new ≡ not (has set field.name)
    → ((other : List ℕ) → has next_set other ≡ (if bytes_eq field.name other then true else has set other))
    → named ≡ least (unless is_new rule.DuplicateName) → part ≡ least (check_part names field.type_name) → next ≡ both (both found named) part
    → Fielded names set (drop i fields) found whole → Fielded names next_set (drop (i + 1) fields) next whole
fielded-next names set next_set fields i field is_new found named part next whole inside is new_is behind named_is part-is next_is so_far =
    let rules : List Rule = unless (not (list_any (bytes_eq field.name) so_far.before)) rule.DuplicateName in
    let named_now : named ≡ least rules = named_is ∙ ap (λ b. least (unless b rule.DuplicateName)) (new_is ∙ ap not (so_far.same field.name)) in
    let rest : List Rule = check_fields names (so_far.before ++ field.name ∷ []) (drop (i + 1) fields) in
    record {
      before = so_far.before ++ field.name ∷ [];
      same = λ other. behind other ∙ one-more field.name other (has set other) ∙ ap (λ b. b || (bytes_eq other field.name || false)) (so_far.same other)
          ∙ sym (list_any-append (bytes_eq other) so_far.before (field.name ∷ []));
      sum = ap (λ b. both b (least rest)) (next_is ∙ ap (λ b. both (both found b) part) named_now ∙ ap (both (both found (least rules))) part-is)
          ∙ sym (regroup found (least rules) (least (check_part names field.type_name)) (least rest))
          ∙ ap (λ b. both found (both b (least rest))) (sym (least_append rules (check_part names field.type_name)))
          ∙ ap (both found) (sym (least_append (rules ++ check_part names field.type_name) rest))
          ∙ ap (λ fs. both found (least (check_fields names so_far.before fs))) (sym (drop-next fields i field inside is))
          ∙ so_far.sum;
    }

pub fielded-end : (names : Names) (set : NameSet) (fields : List Field) (i : ℕ) (found whole : Broken) → length fields ≤ i → Fielded names set (drop i fields) found whole
    → found ≡ whole
fielded-end names set fields i found whole past so_far =
    sym (both-nothing found) ∙ ap (λ fs. both found (least (check_fields names so_far.before fs))) (sym (drop_all i fields past)) ∙ so_far.sum

-- ---- numbers

same-key : (s t : Bool) (a b : ℕ) → (beq (s && not (nat_eq a 0)) (t && not (nat_eq b 0)) && nat_eq a b) ≡ (nat_eq b a && (nat_eq b 0 || same_sign t s))
same-key true true a b = grind (arith, nat_tests)
same-key true false a b = grind (arith, nat_tests)
same-key false true a b = grind (arith, nat_tests)
same-key false false a b = grind (arith, nat_tests)

-- numbers are told apart by their magnitudes, and by whether they are below zero
pub same-number-key : (n m : EnumNumber) → (beq (is_negative n) (is_negative m) && nat_eq n.magnitude m.magnitude) ≡ same_number m n
same-number-key n m = same-key n.minus m.minus n.magnitude m.magnitude

-- the numbers so far are those before, and what was found so far with what the names that are left break is the whole
pub record Numbered (set : NumberSet) (enumerators : List Enumerator) (found whole : Broken) : Type 0 where
  pub before : List EnumNumber
  pub same : AreGiven set before
  pub sum : both found (least (check_numbers before enumerators)) ≡ whole

pub numbered-first : (set : NumberSet) (enumerators : List Enumerator) (found : Broken) → ((n : EnumNumber) → given set n ≡ false) → found ≡ least []
    → Numbered set enumerators found (least (check_numbers [] enumerators))
numbered-first set enumerators found none found_is = record {
  before = [];
  same = none;
  sum = ap (λ b. both b (least (check_numbers [] enumerators))) found_is;
}

pub numbered-next : (set next_set : NumberSet) (enumerators : List Enumerator) (i : ℕ) (enumerator : Enumerator) (found part next whole : Broken)
    → i < length enumerators → enumerator ≡ get_or enumerators i enumerator
    → ((before : List EnumNumber) → AreGiven set before → part ≡ least (check_number before enumerator.number))
    → ((before : List EnumNumber) → AreGiven set before → AreGiven next_set (and_number before enumerator.number))
    → next ≡ both found part → Numbered set (drop i enumerators) found whole → Numbered next_set (drop (i + 1) enumerators) next whole
numbered-next set next_set enumerators i enumerator found part next whole inside is part-is behind next_is so_far =
    let rules : List Rule = check_number so_far.before enumerator.number in
    let rest : List Rule = check_numbers (and_number so_far.before enumerator.number) (drop (i + 1) enumerators) in
    record {
      before = and_number so_far.before enumerator.number;
      same = behind so_far.before so_far.same;
      sum = ap (λ b. both b (least rest)) (next_is ∙ ap (both found) (part-is so_far.before so_far.same))
          ∙ both-assoc found (least rules) (least rest)
          ∙ ap (both found) (sym (least_append rules rest))
          ∙ ap (λ es. both found (least (check_numbers so_far.before es))) (sym (drop-next enumerators i enumerator inside is))
          ∙ so_far.sum;
    }

pub numbered-end : (set : NumberSet) (enumerators : List Enumerator) (i : ℕ) (found whole : Broken) → length enumerators ≤ i → Numbered set (drop i enumerators) found whole
    → found ≡ whole
numbered-end set enumerators i found whole past so_far =
    sym (both-nothing found) ∙ ap (λ es. both found (least (check_numbers so_far.before es))) (sym (drop_all i enumerators past)) ∙ so_far.sum
