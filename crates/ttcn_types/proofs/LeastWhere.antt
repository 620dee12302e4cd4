-- The least of what is broken, from the least of its parts.
use Rattle.std.proofs.Common.{◌≡◌, zero, suc, ◌≤◌, ◌⊎◌, Bool, true, false, nat_lt, if◌then◌else◌, List, [], ◌∷◌, Option, Some, None, refl, sym, ap, subst, ◌∙◌, arith, inl, inr}
use Rattle.std.proofs.lemmas.Bool.Decides.{nat_tests}
use Rattle.std.proofs.lemmas.List.Elements.{Contains-append_cases, Contains-append_left, Contains-append_right}
use Rattle.std.specs.List.{Contains}
use Rattle.ttcn_syntax.specs.declared.tree.definition.Definition.{Definition}
use Rattle.check_scope.specs.internal.Checking.{both, least, lesser_of}
use Rattle.check_scope.specs.Scopes.{check_module_names, module_scope}
use Rattle.check_rules.specs.Definitions.{check_definitions}
use Rattle.check_scope.specs.Names.{Scope}
use Rattle.check_scope.specs.Numbers.{lesser, number_of}
use Rattle.check_rules.specs.Rules.{Breaks}
use Rattle.check_rules.specs.Rules.Breaks.{site, in_itself, circle, altstep_circle, record_size, size, altstep_size}
use Rattle.ttcn_types.specs.internal.Surveys.{BreaksBySurvey, BreaksInAltsteps, BreaksInRecords, BreaksWritten, IsLeastWhere}
use Rattle.ttcn_types.specs.internal.Surveys.BreaksAmong.{in_circle, too_large}
use Rattle.check_scope.specs.declared.broken.Broken.{Broken}
use Rattle.check_scope.specs.declared.rule.Rule.{Rule}

lesser-le : (r other : Rule) → (number_of (lesser r other) ≤ number_of r) × (number_of (lesser r other) ≤ number_of other)
lesser-le r other = grind (arith, nat_tests)

-- the lesser of two is one of them
one-of-two : (P : Rule → Type 0) (r other : Rule) → P r → P other → P (lesser r other)
one-of-two P r other here there = go (nat_lt (number_of other) (number_of r))
  where
    go : (t : Bool) → P (if t then other else r)
    go true = there
    go false = here

-- what is known where the same holds of the same rules
pub where-same : (P Q : Rule → Type 0) (found : Option Rule) → ((r : Rule) → P r → Q r) → ((r : Rule) → Q r → P r) → IsLeastWhere P found → IsLeastWhere Q found
where-same P Q None there back least = λ r q. least r (back r q)
where-same P Q (Some r) there back least = (there r least.0, λ other q. least.1 other (back other q))

-- the least of two kinds of rules
pub where_either : (P Q : Rule → Type 0) (one other : Option Rule) → IsLeastWhere P one → IsLeastWhere Q other → IsLeastWhere (λ r. P r ⊎ Q r) (lesser_of one other)
where_either P Q None None p q = λ r either. elim either [ inl here ↦ p r here | inr there ↦ q r there ]
where_either P Q None (Some s) p q = (inr q.0, λ r either. elim either [ inl here ↦ absurd (p r here) | inr there ↦ q.1 r there ])
where_either P Q (Some s) None p q = (inl p.0, λ r either. elim either [ inl here ↦ p.1 r here | inr there ↦ absurd (q r there) ])
where_either P Q (Some a) (Some b) p q =
    let low = lesser-le a b in (
      one-of-two (λ r. P r ⊎ Q r) a b (inl p.0) (inr q.0),
      λ r either. elim either [
        | inl here ↦ (let bound = p.1 r here in omega (arith, low.0, bound))
        | inr there ↦ (let bound = q.1 r there in omega (arith, low.1, bound))
      ],
    )

contains-first : (r other : Rule) (rules : List Rule) → (r ≡ other) ⊎ Contains rules other → Contains (r ∷ rules) other
contains-first r other rules (inl is) = (0, omega arith, is)
contains-first r other rules (inr (k, within, is)) = (suc k, omega arith, is)

first-or-more : (r other : Rule) (rules : List Rule) → Contains (r ∷ rules) other → (r ≡ other) ⊎ Contains rules other
first-or-more r other rules (zero, within, is) = inl is
first-or-more r other rules (suc k, within, is) = inr (k, omega arith, is)

-- the least of a list
pub where-listed : (rules : List Rule) → IsLeastWhere (Contains rules) (least rules).least
where-listed [] = λ r contains. absurd (let within = contains.1 in omega (arith, within))
where-listed (r ∷ rules) =
    where-same (λ other. (r ≡ other) ⊎ Contains rules other) (Contains (r ∷ rules)) (lesser_of (Some r) (least rules).least) (λ other. contains-first r other rules)
    (λ other. first-or-more r other rules)
    (where_either (λ other. r ≡ other) (Contains rules) (Some r) (least rules).least (refl, λ other is. subst (λ s. number_of r ≤ number_of s) is (omega arith)) (where-listed rules))

-- ---- a module

module _ (definitions : List Definition) where
  record-breaks : (r : Rule) → BreaksInRecords definitions r → Breaks definitions r
  record-breaks _ (in_circle has) = in_itself has
  record-breaks _ (too_large large) = record_size large

  written-breaks : (r : Rule) → BreaksWritten definitions r → Breaks definitions r
  written-breaks _ (in_circle has) = circle has
  written-breaks _ (too_large large) = size large

  altstep-breaks : (r : Rule) → BreaksInAltsteps definitions r → Breaks definitions r
  altstep-breaks _ (in_circle has) = altstep_circle has
  altstep-breaks _ (too_large large) = altstep_size large

  abbrev Judgement : Rule → Type 0
  Judgement r = (Contains (check_module_names definitions) r ⊎ BreaksBySurvey definitions r) ⊎ Contains (check_definitions definitions 0 definitions) r

  breaks-judged : (r : Rule) → Judgement r → Breaks definitions r
  breaks-judged r (inl (inl contains)) = site (Contains-append_left (check_module_names definitions) (check_definitions definitions 0 definitions) r contains)
  breaks-judged r (inl (inr (inl (inl breaks)))) = record-breaks r breaks
  breaks-judged r (inl (inr (inl (inr breaks)))) = written-breaks r breaks
  breaks-judged r (inl (inr (inr breaks))) = altstep-breaks r breaks
  breaks-judged r (inr contains) = site (Contains-append_right (check_module_names definitions) (check_definitions definitions 0 definitions) r contains)

  at-site : (r : Rule) → Contains (check_module_names definitions) r ⊎ Contains (check_definitions definitions 0 definitions) r → Judgement r
  at-site r (inl contains) = inl (inl contains)
  at-site r (inr contains) = inr contains

  judged-breaks : (r : Rule) → Breaks definitions r → Judgement r
  judged-breaks r (site contains) = at-site r (Contains-append_cases (check_module_names definitions) (check_definitions definitions 0 definitions) r contains)
  judged-breaks _ (in_itself has) = inl (inr (inl (inl (in_circle has))))
  judged-breaks _ (circle has) = inl (inr (inl (inr (in_circle has))))
  judged-breaks _ (altstep_circle has) = inl (inr (inr (in_circle has)))
  judged-breaks _ (record_size large) = inl (inr (inl (inl (too_large large))))
  judged-breaks _ (size large) = inl (inr (inl (inr (too_large large))))
  judged-breaks _ (altstep_size large) = inl (inr (inr (too_large large)))

  -- the least of the names, of what is surveyed, and of what is inside the definitions
  pub least_broken : (surveyed : Broken) → IsLeastWhere (BreaksBySurvey definitions) surveyed.least
      → IsLeastWhere (Breaks definitions) (both (both (least (check_module_names definitions)) surveyed) (least (check_definitions definitions 0 definitions))).least
  least_broken surveyed found =
      let names = least (check_module_names definitions) in
      let inner = least (check_definitions definitions 0 definitions) in
      where-same Judgement (Breaks definitions) (both (both names surveyed) inner).least breaks-judged judged-breaks
      (where_either (λ r. Contains (check_module_names definitions) r ⊎ BreaksBySurvey definitions r) (Contains (check_definitions definitions 0 definitions)) (both names surveyed).least inner.least
      (where_either (Contains (check_module_names definitions)) (BreaksBySurvey definitions) names.least surveyed.least (where-listed (check_module_names definitions)) found) (where-listed (check_definitions definitions 0 definitions)))

  -- the same, as it is found step by step
  pub found-broken : (scope : Scope) (surveyed first next last : Broken) → scope ≡ module_scope definitions → first ≡ both (least []) (least (check_module_names definitions))
      → IsLeastWhere (BreaksBySurvey scope.definitions) surveyed.least → next ≡ both first surveyed
      → last ≡ both next (least (check_definitions scope.definitions 0 definitions)) → IsLeastWhere (Breaks definitions) last.least
  found-broken scope surveyed first next last scope_is first_is found next_is last-is =
      let same : scope.definitions ≡ definitions = ap (λ (s : Scope). s.definitions) scope_is in
      let last_now : last ≡ both (both (least (check_module_names definitions)) surveyed) (least (check_definitions definitions 0 definitions)) =
      last-is ∙ ap (λ ds. both next (least (check_definitions ds 0 definitions))) same
      ∙ ap (λ b. both b (least (check_definitions definitions 0 definitions))) (next_is ∙ ap (λ b. both b surveyed) first_is) in
      subst (λ (b : Broken). IsLeastWhere (Breaks definitions) b.least) (sym last_now)
      (least_broken surveyed (subst (λ ds. IsLeastWhere (BreaksBySurvey ds) surveyed.least) same found))
