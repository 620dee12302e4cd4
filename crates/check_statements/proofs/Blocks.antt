-- Statements, branches and conditions one behind the other.
use Rattle.std.proofs.Common.{◌≡◌, ◌≤◌, ℕ, ◌+◌, ◌<◌, List, length, get_or, drop, Option, Some, None, sym, ap, ◌∙◌}
use Rattle.std.specs.List.{flat_map}
use Rattle.std.proofs.lemmas.List.{drop_all}
use Rattle.ttcn_syntax.specs.declared.tree.expression.Expr.{Expr}
use Rattle.ttcn_syntax.specs.declared.tree.statement.Action.{Action}
use Rattle.ttcn_syntax.specs.declared.tree.statement.Action.TheVariants as form
use Rattle.ttcn_syntax.specs.declared.tree.statement.Alternative.{Alternative}
use Rattle.ttcn_syntax.specs.declared.tree.statement.Alternative.TheVariants as alternative_form
use Rattle.ttcn_syntax.specs.declared.tree.statement.Assignment.{Assignment}
use Rattle.ttcn_syntax.specs.declared.tree.statement.Branch.{Branch, out-Branch}
use Rattle.ttcn_syntax.specs.declared.tree.statement.Conditional.{Conditional, out-Conditional}
use Rattle.ttcn_syntax.specs.declared.tree.statement.Event.{Event}
use Rattle.ttcn_syntax.specs.declared.tree.statement.ForStart.{ForStart}
use Rattle.ttcn_syntax.specs.declared.tree.statement.Statement.{Statement, out-Statement}
use Rattle.ttcn_syntax.specs.declared.tree.value.Call.{Call}
use Rattle.check_statements.proofs.Insides.{parts-next, rest_of_parts}
use Rattle.check_scope.proofs.Leasts.{both-assoc, both-nothing, least_append}
use Rattle.check_scope.proofs.Lookups.{drop-next}
use Rattle.check_rules.proofs.StatementForms.{behind-for, branch-out, conditional-least, of-alt, of-call-block, of-do-while, of-else, of-event-block, of-for, of-if, of-if-else, of-while, statement-out}
use Rattle.check_scope.specs.internal.Checking.{around, both, least, view, view_in}
use Rattle.check_statements.specs.internal.Places.{place_with}
use Rattle.check_scope.specs.Names.{Scope}
use Rattle.check_rules.specs.Statements as spec
use Rattle.check_rules.specs.Statements.{Check, StatementRules, action, alternative, check_condition, check_for_head, check_guarded_call, check_guarded_event, behind_for_start, branch, conditional, inside_branch, statement, statements, with_scope}
use Rattle.check_scope.specs.declared.broken.Broken.{Broken}
use Rattle.check_statements.specs.declared.place.Place.{Place}
use Rattle.check_scope.specs.declared.scope.Scope as code

-- what was found so far, with what the statements that are left break in their scope
abbrev pub rest_of_block : Place → Scope → List Statement → Broken → Broken
rest_of_block place scope body found = both found (least (statements body (place_with scope place)))

-- one statement more
pub block-next : (place : Place) (scope behind : Scope) (body : List Statement) (i : ℕ) (s : Statement) (found next : Broken) → i < length body → s ≡ get_or body i s
    → next ≡ both found (least ((statement s).broken (place_with scope place))) → behind ≡ (statement s).scope_behind scope
    → rest_of_block place behind (drop (i + 1) body) next ≡ rest_of_block place scope (drop i body) found
block-next place scope behind body i s found next inside is next_is behind_is =
    let rest = drop (i + 1) body in
    let broken = (statement s).broken (place_with scope place) in
    let others = statements rest (place_with ((statement s).scope_behind scope) place) in
    ap (λ sc. rest_of_block place sc rest next) behind_is
    ∙ ap (λ b. both b (least others)) next_is
    ∙ both-assoc found (least broken) (least others)
    ∙ ap (both found) (sym (least_append broken others))
    ∙ ap (λ all. rest_of_block place scope all found) (sym (drop-next body i s inside is))

-- none is left
pub block-end : (place : Place) (scope : Scope) (body : List Statement) (i : ℕ) (found : Broken) → length body ≤ i → rest_of_block place scope (drop i body) found ≡ found
block-end place scope body i found past = ap (λ all. rest_of_block place scope all found) (drop_all i body past) ∙ both-nothing found

-- one condition with its block more
pub conditional-next : (place : Place) (scope : Scope) (all : List Conditional) (i : ℕ) (c : Conditional) (found noted next condition : Broken) → i < length all → c ≡ get_or all i c
    → condition ≡ least (check_condition scope (out-Conditional c).condition) → noted ≡ both found condition
    → next ≡ both noted (least (statements (out-Conditional c).block (place_with scope place)))
    → rest_of_parts (λ c. conditional c (place_with scope place)) (drop i all) found ≡ rest_of_parts (λ c. conditional c (place_with scope place)) (drop (i + 1) all) next
conditional-next place scope all i c found noted next condition inside is condition_is noted_is next_is =
    parts-next (λ c. conditional c (place_with scope place)) all i c found (both condition (least (statements (out-Conditional c).block (place_with scope place)))) next inside is
    (ap (λ b. both b (least (statements (out-Conditional c).block (place_with scope place)))) condition_is ∙ sym (conditional-least c (place_with scope place)))
    (next_is ∙ ap (λ b. both b (least (statements (out-Conditional c).block (place_with scope place)))) noted_is
    ∙ both-assoc found condition (least (statements (out-Conditional c).block (place_with scope place))))

-- a block has ended: what is seen is what was seen round it
pub left-seen : (before after : code.Scope) → around after ≡ around before → after.locals ≡ before.locals → view after ≡ view before
left-seen before after around_is locals_is = ap (λ a. view_in a after.locals) around_is ∙ ap (view_in (around before)) locals_is

-- ---- statements with blocks, with what was found before them

-- what was found, with what the first part breaks, and what the second one breaks
in-turn : (old first second noted : Broken) → noted ≡ both old first → both old (both first second) ≡ both noted second
in-turn old first second noted noted_is = sym (both-assoc old first second) ∙ ap (λ b. both b second) (sym noted_is)

module _ (s : Statement) (place : spec.Place) (old : Broken) where
  broken-of : (a : Action) → (out-Statement s).action ≡ a → least ((statement s).broken place) ≡ least ((action a).broken place)
  broken-of a is = ap (λ (said : StatementRules). least (said.broken place)) (statement-out s ∙ ap action is)

  pub alt-whole : (branches : List Branch) → (out-Statement s).action ≡ form.Alt branches
      → both old (least ((statement s).broken place)) ≡ both old (least (flat_map (λ b. branch b place) branches))
  alt-whole branches is = ap (both old) (broken-of (form.Alt branches) is ∙ of-alt place branches)

  pub if-whole : (conditionals : List Conditional) (last : Option (List Statement)) → (out-Statement s).action ≡ form.If conditionals last → last ≡ None
      → both old (least ((statement s).broken place)) ≡ both old (least (flat_map (λ c. conditional c place) conditionals))
  if-whole conditionals last is none = ap (both old) (broken-of (form.If conditionals None) (is ∙ ap (form.If conditionals) none) ∙ of-if place conditionals)

  pub if-rest : (conditionals : List Conditional) (last : Option (List Statement)) (body : List Statement) (noted : Broken)
      → (out-Statement s).action ≡ form.If conditionals last → last ≡ Some body
      → noted ≡ both old (least (flat_map (λ c. conditional c place) conditionals)) → both old (least ((statement s).broken place)) ≡ both noted (least (statements body place))
  if-rest conditionals last body noted is some noted_is =
      ap (both old) (broken-of (form.If conditionals (Some body)) (is ∙ ap (form.If conditionals) some) ∙ of-if-else place conditionals body)
      ∙ in-turn old (least (flat_map (λ c. conditional c place) conditionals)) (least (statements body place)) noted noted_is

  pub while-rest : (condition : Expr) (body : List Statement) (tested noted : Broken) → (out-Statement s).action ≡ form.While condition body
      → tested ≡ least (check_condition place.scope condition) → noted ≡ both old tested → both old (least ((statement s).broken place)) ≡ both noted (least (statements body place))
  while-rest condition body tested noted is tested_is noted_is =
      ap (both old) (broken-of (form.While condition body) is ∙ of-while place condition body)
      ∙ in-turn old (least (check_condition place.scope condition)) (least (statements body place)) noted (noted_is ∙ ap (both old) tested_is)

  pub do_while-rest : (body : List Statement) (condition : Expr) (blocked : Broken) → (out-Statement s).action ≡ form.DoWhile body condition
      → blocked ≡ both old (least (statements body place)) → both old (least ((statement s).broken place)) ≡ both blocked (least (check_condition place.scope condition))
  do_while-rest body condition blocked is blocked_is =
      ap (both old) (broken-of (form.DoWhile body condition) is ∙ of-do-while place body condition)
      ∙ in-turn old (least (statements body place)) (least (check_condition place.scope condition)) blocked blocked_is

  pub for-rest : (start : ForStart) (condition : Expr) (step : Assignment) (body : List Statement) (head noted : Broken) → (out-Statement s).action ≡ form.For start condition step body
      → head ≡ least (check_for_head place.scope start condition step) → noted ≡ both old head
      → both old (least ((statement s).broken place)) ≡ both noted (least (statements body (with_scope place (behind_for_start place.scope start))))
  for-rest start condition step body head noted is head-is noted_is =
      ap (both old) (broken-of (form.For start condition step body) is ∙ of-for place start condition step body)
      ∙ in-turn old (least (check_for_head place.scope start condition step)) (least (statements body (with_scope place (behind_for_start place.scope start)))) noted (noted_is ∙ ap (both old) head-is)

pub behind-is-for : (s : Statement) (start : ForStart) (condition : Expr) (step : Assignment) (body : List Statement) → (out-Statement s).action ≡ form.For start condition step body
    → (statement s).scope_behind ≡ (λ scope. scope)
behind-is-for s start condition step body is = ap (λ (said : StatementRules). said.scope_behind) (statement-out s ∙ ap action is) ∙ behind-for start condition step body

-- ---- branches, with what was found before them

module _ (b : Branch) (place : spec.Place) (old : Broken) where
  waiting-for : (a : Alternative) → (out-Branch b).alternative ≡ a → least (branch b place) ≡ least (alternative a place)
  waiting-for a is = ap (λ (f : Check). least (f place)) (branch-out b ∙ ap alternative is)

  pub event-rest : (guard : Option Expr) (event : Event) (block : Option (List Statement)) (body : List Statement) (head noted : Broken) (inside : spec.Place)
      → (out-Branch b).alternative ≡ alternative_form.Event guard event block → block ≡ Some body → head ≡ least (check_guarded_event place.scope guard event) → noted ≡ both old head
      → inside ≡ inside_branch place → both old (least (branch b place)) ≡ both noted (least (statements body inside))
  event-rest guard event block body head noted inside is some head-is noted_is inside_is =
      ap (both old) (waiting-for (alternative_form.Event guard event (Some body)) (is ∙ ap (alternative_form.Event guard event) some) ∙ of-event-block place guard event body)
      ∙ in-turn old (least (check_guarded_event place.scope guard event)) (least (statements body (inside_branch place))) noted (noted_is ∙ ap (both old) head-is)
      ∙ ap (λ p. both noted (least (statements body p))) (sym inside_is)

  pub call-rest : (guard : Option Expr) (call : Call) (block : Option (List Statement)) (body : List Statement) (head noted : Broken) (inside : spec.Place)
      → (out-Branch b).alternative ≡ alternative_form.Call guard call block → block ≡ Some body → head ≡ least (check_guarded_call place.scope guard call) → noted ≡ both old head
      → inside ≡ inside_branch place → both old (least (branch b place)) ≡ both noted (least (statements body inside))
  call-rest guard call block body head noted inside is some head-is noted_is inside_is =
      ap (both old) (waiting-for (alternative_form.Call guard call (Some body)) (is ∙ ap (alternative_form.Call guard call) some) ∙ of-call-block place guard call body)
      ∙ in-turn old (least (check_guarded_call place.scope guard call)) (least (statements body (inside_branch place))) noted (noted_is ∙ ap (both old) head-is)
      ∙ ap (λ p. both noted (least (statements body p))) (sym inside_is)

  pub else-whole : (body : List Statement) (inside : spec.Place) → (out-Branch b).alternative ≡ alternative_form.Else body → inside ≡ inside_branch place
      → both old (least (branch b place)) ≡ both old (least (statements body inside))
  else-whole body inside is inside_is =
      ap (both old) (waiting-for (alternative_form.Else body) is ∙ ap least (of-else place body) ∙ ap (λ p. least (statements body p)) (sym inside_is))
