-- What remains of blocks that break no rule.
use Rattle.std.proofs.Common.{◌≡◌, ℕ, List, [], ◌∷◌, ◌++◌, Option, Some, None, refl, sym, ap, subst, ◌∙◌}
use Rattle.std.specs.List.{All}
use Rattle.std.proofs.lemmas.List.Elements.{All-append, All-cons, All-nil}
use Rattle.ttcn_syntax.specs.declared.tree.definition.Definition.{Definition}
use Rattle.ttcn_syntax.specs.declared.tree.definition.DefinitionKind.{DefinitionKind}
use Rattle.ttcn_syntax.specs.declared.tree.definition.DefinitionKind.TheVariants as kind
use Rattle.ttcn_syntax.specs.declared.tree.expression.Expr.{Expr}
use Rattle.ttcn_syntax.specs.declared.tree.statement.Action.{Action, fold_out-Action}
use Rattle.ttcn_syntax.specs.declared.tree.statement.Action.TheFolds.{map-Action}
use Rattle.ttcn_syntax.specs.declared.tree.statement.Action.TheOpen.{Action-F}
use Rattle.ttcn_syntax.specs.declared.tree.statement.Alternative.{Alternative}
use Rattle.ttcn_syntax.specs.declared.tree.statement.Assignment.{Assignment}
use Rattle.ttcn_syntax.specs.declared.tree.statement.Branch.{Branch}
use Rattle.ttcn_syntax.specs.declared.tree.statement.Conditional.{Conditional}
use Rattle.ttcn_syntax.specs.declared.tree.statement.Constant.{Constant}
use Rattle.ttcn_syntax.specs.declared.tree.statement.ForStart.{ForStart}
use Rattle.ttcn_syntax.specs.declared.tree.statement.ForStart.TheVariants as for_start
use Rattle.ttcn_syntax.specs.declared.tree.statement.Statement.{Statement, out-Statement}
use Rattle.ttcn_syntax.specs.declared.tree.statement.Timer.{Timer}
use Rattle.ttcn_syntax.specs.declared.tree.statement.Variable.{Variable}
use Rattle.check_scope.specs.Names.{kind_at, resolved}
use Rattle.check_scope.specs.declared.names.Meaning.TheVariants as meaning
use Rattle.check_rules.proofs.StatementForms.{statement-out}
use Rattle.check_rules.specs.Statements.{Check, Place, StatementRules, action, action_step, alternative, alternative_step, behind_for_start, branch, inside_branch, branch_step, conditional, conditional_step, statement, statement_step, statements}
use Rattle.laws_checker.proofs.Descent.{first_fine, others_fine}
use Rattle.laws_sites.proofs.Sites.{behind-constants-fine, behind-scope, behind-timers-fine, behind-variables-fine, constants-fine, timers-fine, variables-fine}
use Rattle.laws_sites.specs.Standing.{BeginsByAssignment, IsFineItem, IsFineLoop, IsFineName, IsFineSite, IsNoDeclaration, MayReturn, PlaceIn, place_at}
use Rattle.laws_statements.proofs.Descent.{statement_fine}
use Rattle.laws_statements.specs.Parts.{HasFineParts, IsFineIfAny}
use Rattle.semantics.specs.Items.{Does, Doing, Item, Loop, Start, Whole, action_of, items, items_if_any, items_of_action, items_of_statement, site_after, site_in_for, start_items}
use Rattle.semantics.specs.Sites.{Site, entries_of, scope_at, site_behind}

-- what is said of one level of a statement
abbrev told : Does → StatementRules
told x = action_step (map-Action Action Alternative Branch Conditional Statement StatementRules Check Check Check StatementRules action alternative branch conditional statement x)

told-is : (s : Statement) → statement s ≡ told (action_of s)
told-is s = statement-out s ∙ fold_out-Action StatementRules Check Check Check StatementRules action_step alternative_step branch_step conditional_step statement_step (out-Statement s).action

module _ (definitions : List Definition) (at : ℕ) where
  abbrev pub place : Site → PlaceIn definitions at → Place
  place site inside = place_at definitions at (scope_at definitions site) inside

  pub parts-of : (site : Site) (s : Statement) (inside : PlaceIn definitions at) → IsFineSite definitions at site → (statement s).broken (place site inside) ≡ [] → HasFineParts (place site inside) (action_of s)
  parts-of site s inside fine nothing = statement_fine s (place site inside) fine.whole nothing

  -- a place in the block of a branch
  pub may-inside : (k : Option DefinitionKind) (inside : Place) → MayReturn definitions k inside → MayReturn definitions k (inside_branch inside)
  may-inside (Some (kind.Function f)) inside may = may
  may-inside _ inside may = may

  abbrev pub in-branch : PlaceIn definitions at → PlaceIn definitions at
  in-branch inside = record { place = inside_branch inside.place; returns = may-inside (kind_at definitions at) inside.place inside.returns }

  -- ---- the site behind a statement

  after-of : (site : Site) (inside : PlaceIn definitions at) (x : Does) → IsFineSite definitions at site → HasFineParts (place site inside) x → IsFineSite definitions at (site_behind site (entries_of (scope_at definitions site) x))
  after-of site inside (Action-F.Variables vs) fine parts = behind-variables-fine definitions at site fine vs parts
  after-of site inside (Action-F.Constants cs) fine parts = behind-constants-fine definitions at site fine cs parts
  after-of site inside (Action-F.Timers timers) fine parts = behind-timers-fine definitions at site fine timers parts
  after-of site inside _ fine parts = fine

  after-fine : (site : Site) (s : Statement) (inside : PlaceIn definitions at) → IsFineSite definitions at site → (statement s).broken (place site inside) ≡ [] → IsFineSite definitions at (site_after definitions site s)
  after-fine site s inside fine nothing = after-of site inside (action_of s) fine (parts-of site s inside fine nothing)

  scope-of : (site : Site) (x : Does) → scope_at definitions (site_behind site (entries_of (scope_at definitions site) x)) ≡ (told x).scope_behind (scope_at definitions site)
  scope-of site (Action-F.Variables vs) = behind-scope definitions (λ (v : Variable). v.name) (meaning.Variable (resolved (scope_at definitions site).names vs.type_name)) site vs.variables
  scope-of site (Action-F.Constants cs) = behind-scope definitions (λ (c : Constant). c.name) (meaning.Constant (resolved (scope_at definitions site).names cs.type_name)) site cs.constants
  scope-of site (Action-F.Timers timers) = behind-scope definitions (λ (t : Timer). t.name) meaning.Timer site timers
  scope-of site _ = refl

  pub scope-after : (site : Site) (s : Statement) → scope_at definitions (site_after definitions site s) ≡ (statement s).scope_behind (scope_at definitions site)
  scope-after site s = scope-of site (action_of s) ∙ ap (λ (said : StatementRules). said.scope_behind (scope_at definitions site)) (sym (told-is s))

  -- ---- statements and blocks

  one-item : (x : Item) → IsFineItem definitions at x → All (IsFineItem definitions at) (x ∷ [])
  one-item x is = All-cons (IsFineItem definitions at) x [] is (All-nil (IsFineItem definitions at))

  action-fine : (site : Site) (s : Statement) (inside : PlaceIn definitions at) (x : Does) → action_of s ≡ x → IsFineSite definitions at site → (statement s).broken (place site inside) ≡ [] → HasFineParts (place site inside) x
      → All (IsFineItem definitions at) (items_of_action definitions site s x)
  action-fine site s inside (Action-F.Variables vs) e fine nothing parts = variables-fine definitions at site fine vs parts s (λ scope k is. subst (IsFineName scope k) (sym e) is)
  action-fine site s inside (Action-F.Constants cs) e fine nothing parts = constants-fine definitions at site fine cs parts s (λ scope k is. subst (IsFineName scope k) (sym e) is)
  action-fine site s inside (Action-F.Timers timers) e fine nothing parts = timers-fine definitions at site fine timers parts s (λ scope k is. subst (IsFineName scope k) (sym e) is)
  action-fine site s inside _ e fine nothing parts = one-item (Doing site s Whole) (fine, (subst IsNoDeclaration (sym e) tt, (inside, nothing)))

  pub block-fine : (block : List Statement) (site : Site) (inside : PlaceIn definitions at) → IsFineSite definitions at site → statements block (place site inside) ≡ [] → All (IsFineItem definitions at) (items definitions site block)
  block-fine [] site inside fine nothing = All-nil (IsFineItem definitions at)
  block-fine (s ∷ block) site inside fine nothing =
      let here = first_fine s block (place site inside) nothing in
      All-append (IsFineItem definitions at) (items_of_statement definitions site s) (items definitions (site_after definitions site s) block)
      (action-fine site s inside (action_of s) refl fine here (parts-of site s inside fine here))
      (block-fine block (site_after definitions site s) inside (after-fine site s inside fine here)
      (subst (λ scope. statements block (place_at definitions at scope inside) ≡ []) (sym (scope-after site s)) (others_fine s block (place site inside) nothing)))

  pub block-fine-if : (block : Option (List Statement)) (site : Site) (inside : PlaceIn definitions at) → IsFineSite definitions at site → IsFineIfAny (place site inside) block
      → All (IsFineItem definitions at) (items_if_any definitions site block)
  block-fine-if None site inside fine is = All-nil (IsFineItem definitions at)
  block-fine-if (Some block) site inside fine is = block-fine block site inside fine is

  -- ---- loops

  start-site : (site : Site) (inside : PlaceIn definitions at) (start : ForStart) (condition : Expr) (step : Assignment) (block : List Statement) → IsFineSite definitions at site
      → HasFineParts (place site inside) (Action-F.For start condition step block) → IsFineSite definitions at (site_in_for definitions site start)
  start-site site inside (for_start.Variables vs) condition step block fine parts = behind-variables-fine definitions at site fine vs parts.0
  start-site site inside (for_start.Assign a) condition step block fine parts = fine

  start-scope : (site : Site) (start : ForStart) → behind_for_start (scope_at definitions site) start ≡ scope_at definitions (site_in_for definitions site start)
  start-scope site (for_start.Variables vs) =
      sym (behind-scope definitions (λ (v : Variable). v.name) (meaning.Variable (resolved (scope_at definitions site).names vs.type_name)) site vs.variables)
  start-scope site (for_start.Assign a) = refl

  start-items : (site : Site) (s : Statement) (inside : PlaceIn definitions at) (start : ForStart) (condition : Expr) (step : Assignment) (block : List Statement) → action_of s ≡ Action-F.For start condition step block
      → IsFineSite definitions at site → (statement s).broken (place site inside) ≡ [] → HasFineParts (place site inside) (Action-F.For start condition step block)
      → All (IsFineItem definitions at) (start_items definitions site s start)
  start-items site s inside (for_start.Variables vs) condition step block e fine nothing parts =
      variables-fine definitions at site fine vs parts.0 s (λ scope k is. subst (IsFineName scope k) (sym e) is)
  start-items site s inside (for_start.Assign a) condition step block e fine nothing parts = one-item (Doing site s Start) (fine, (subst BeginsByAssignment (sym e) tt, (inside, nothing)))

  -- what remains of a `for`
  pub for-fine : (site : Site) (s : Statement) (inside : PlaceIn definitions at) (start : ForStart) (condition : Expr) (step : Assignment) (block : List Statement) (rest : List Item)
      → action_of s ≡ Action-F.For start condition step block → IsFineSite definitions at site → (statement s).broken (place site inside) ≡ []
      → HasFineParts (place site inside) (Action-F.For start condition step block) → All (IsFineItem definitions at) rest
      → All (IsFineItem definitions at) (start_items definitions site s start ++ Doing (site_in_for definitions site start) s Loop ∷ rest)
  for-fine site s inside start condition step block rest e fine nothing parts all =
      All-append (IsFineItem definitions at) (start_items definitions site s start) (Doing (site_in_for definitions site start) s Loop ∷ rest)
      (start-items site s inside start condition step block e fine nothing parts)
      (All-cons (IsFineItem definitions at) (Doing (site_in_for definitions site start) s Loop) rest (
        start-site site inside start condition step block fine parts,
        subst (IsFineLoop definitions at (scope_at definitions (site_in_for definitions site start))) (sym e)
            (subst (λ scope. IsFineLoop definitions at scope (Action-F.For start condition step block)) (start-scope site start) (inside, parts.3, parts.1, parts.2)),
      )
      all)
