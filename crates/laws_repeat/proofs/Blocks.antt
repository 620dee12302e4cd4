-- What remains of blocks stands at their site or further in, and is closed where they break no rule outside of branches.
use Rattle.std.proofs.Common.{◌≡◌, ℕ, ◌+◌, false, List, [], ◌∷◌, ◌++◌, Option, Some, None, IfSome, slice_get, subst}
use Rattle.std.specs.List.{All}
use Rattle.std.proofs.lemmas.List.Elements.{All-append, All-cons, All-nil}
use Rattle.ttcn_syntax.specs.declared.tree.definition.Definition.{Definition}
use Rattle.ttcn_syntax.specs.declared.tree.expression.Expr.{Expr}
use Rattle.ttcn_syntax.specs.declared.tree.statement.Action.TheOpen.{Action-F}
use Rattle.ttcn_syntax.specs.declared.tree.statement.Assignment.{Assignment}
use Rattle.ttcn_syntax.specs.declared.tree.statement.Conditional.{Conditional, out-Conditional}
use Rattle.ttcn_syntax.specs.declared.tree.statement.ForStart.{ForStart}
use Rattle.ttcn_syntax.specs.declared.tree.statement.ForStart.TheVariants as for_start
use Rattle.ttcn_syntax.specs.declared.tree.statement.Statement.{Statement}
use Rattle.check_scope.specs.Names.{Entry, Scope}
use Rattle.check_rules.specs.Statements.{Place, behind_for_start, check_for_start, statement, statements, with_scope}
use Rattle.laws_checker.proofs.Descent.{first_fine, others_fine, statement_whole}
use Rattle.laws_checker.proofs.Whole.{variables-whole}
use Rattle.laws_checker.specs.Laws.{IsWhole}
use Rattle.laws_repeat.proofs.Outside.{outside-behind, outside-both, outside-itself, outside-one}
use Rattle.laws_repeat.specs.Following.{IsClosed, IsClosedItem, IsInside, IsMade, IsOutside}
use Rattle.laws_statements.proofs.Descent.{statement_fine}
use Rattle.laws_statements.specs.Parts.{HasFineParts, IsFineConditional, IsFineIfAny}
use Rattle.laws_steps.proofs.Found.{get-each}
use Rattle.semantics.proofs.Pairs.{All-more}
use Rattle.semantics.specs.Items.{Does, Doing, Item, Loop, Mark, Name, Part, Start, Target, Waiting, Whole, action_of, declarations, items, items_if_any, items_of_action, items_of_statement, site_after, site_in_for, start_items}
use Rattle.semantics.specs.Sites.{Site, constant_entries, entries_of, entries_of_start, scope_at, site_with, timer_entries, variable_entries}

-- ---- at a site or further in

inside-wider : (site inner : Site) → IsOutside site.declared inner.declared → (x : Item) → IsInside inner x → IsInside site x
inside-wider site inner out (Doing deep s part) is = outside-both site.declared inner.declared deep.declared out is
inside-wider site inner out (Mark deep s) is = absurd is
inside-wider site inner out (Waiting target) is = tt

all-wider : (site inner : Site) → IsOutside site.declared inner.declared → (xs : List Item) → All (IsInside inner) xs → All (IsInside site) xs
all-wider site inner out xs all = All-more (IsInside inner) (IsInside site) (inside-wider site inner out) xs all

pub one-inside : (site : Site) (s : Statement) (part : Part) → All (IsInside site) (Doing site s part ∷ [])
one-inside site s part = All-cons (IsInside site) (Doing site s part) [] (outside-itself site.declared) (All-nil (IsInside site))

declarations-inside : (site : Site) (s : Statement) (at : ℕ) (entries : List Entry) → All (IsInside site) (declarations site s at entries)
declarations-inside site s at [] = All-nil (IsInside site)
declarations-inside site s at (entry ∷ entries) =
    All-cons (IsInside site) (Doing site s (Name at)) (declarations (site_with site entry) s (at + 1) entries) (outside-itself site.declared)
    (all-wider site (site_with site entry) (outside-one site.declared entry) (declarations (site_with site entry) s (at + 1) entries) (declarations-inside (site_with site entry) s (at + 1) entries))

module _ (definitions : List Definition) where
  action-inside : (site : Site) (s : Statement) (x : Does) → All (IsInside site) (items_of_action definitions site s x)
  action-inside site s (Action-F.Variables vs) = declarations-inside site s 0 (variable_entries (scope_at definitions site) vs)
  action-inside site s (Action-F.Constants cs) = declarations-inside site s 0 (constant_entries (scope_at definitions site) cs)
  action-inside site s (Action-F.Timers timers) = declarations-inside site s 0 (timer_entries timers)
  action-inside site s _ = one-inside site s Whole

  pub block-inside : (site : Site) (block : List Statement) → All (IsInside site) (items definitions site block)
  block-inside site [] = All-nil (IsInside site)
  block-inside site (s ∷ block) =
      All-append (IsInside site) (items_of_statement definitions site s) (items definitions (site_after definitions site s) block) (action-inside site s (action_of s))
      (all-wider site (site_after definitions site s) (outside-behind site (entries_of (scope_at definitions site) (action_of s))) (items definitions (site_after definitions site s) block)
      (block-inside (site_after definitions site s) block))

  pub block-inside-if : (site : Site) (block : Option (List Statement)) → All (IsInside site) (items_if_any definitions site block)
  block-inside-if site None = All-nil (IsInside site)
  block-inside-if site (Some block) = block-inside site block

  -- ---- closed

  -- a block breaks no rule where no branch is around it
  abbrev pub IsClosedBlock : List Statement → Type 0
  IsClosedBlock block = (place : Place) × IsWhole place.scope × (place.in_branch ≡ false) × (statements block place ≡ [])

  declarations-closed : (site : Site) (s : Statement) (at : ℕ) (entries : List Entry) → IsClosed s → All IsClosedItem (declarations site s at entries)
  declarations-closed site s at [] is = All-nil IsClosedItem
  declarations-closed site s at (entry ∷ entries) is =
      All-cons IsClosedItem (Doing site s (Name at)) (declarations (site_with site entry) s (at + 1) entries) is (declarations-closed (site_with site entry) s (at + 1) entries is)

  pub one-closed : (site : Site) (s : Statement) (part : Part) → IsClosed s → All IsClosedItem (Doing site s part ∷ [])
  one-closed site s part is = All-cons IsClosedItem (Doing site s part) [] is (All-nil IsClosedItem)

  action-closed : (site : Site) (s : Statement) (x : Does) → IsClosed s → All IsClosedItem (items_of_action definitions site s x)
  action-closed site s (Action-F.Variables vs) is = declarations-closed site s 0 (variable_entries (scope_at definitions site) vs) is
  action-closed site s (Action-F.Constants cs) is = declarations-closed site s 0 (constant_entries (scope_at definitions site) cs) is
  action-closed site s (Action-F.Timers timers) is = declarations-closed site s 0 (timer_entries timers) is
  action-closed site s _ is = one-closed site s Whole is

  closed-from : (site : Site) (block : List Statement) (place : Place) → IsWhole place.scope → place.in_branch ≡ false → statements block place ≡ [] → All IsClosedItem (items definitions site block)
  closed-from site [] place whole lone nothing = All-nil IsClosedItem
  closed-from site (s ∷ block) place whole lone nothing =
      let here : (statement s).broken place ≡ [] = first_fine s block place nothing in
      All-append IsClosedItem (items_of_statement definitions site s) (items definitions (site_after definitions site s) block)
      (action-closed site s (action_of s) (place, whole, lone, here))
      (closed-from (site_after definitions site s) block (with_scope place ((statement s).scope_behind place.scope)) (statement_whole s place whole here) lone (others_fine s block place nothing))

  pub block-closed : (site : Site) (block : List Statement) → IsClosedBlock block → All IsClosedItem (items definitions site block)
  block-closed site block is = closed-from site block is.0 is.1 is.2 is.3

  abbrev pub IfClosedBlock : Option (List Statement) → Type 0
  IfClosedBlock block = IfSome block IsClosedBlock

  -- ---- what statements make

  closed-parts : (s : Statement) (x : Does) → action_of s ≡ x → IsClosed s → (place : Place) × IsWhole place.scope × (place.in_branch ≡ false) × HasFineParts place x
  closed-parts s x e is = (is.0, is.1, is.2, subst (HasFineParts is.0) e (statement_fine s is.0 is.1 is.3))

  module _ (site : Site) (s : Statement) where
    pub made-none : IsMade site s []
    made-none = record { inside = All-nil (IsInside site); closed = λ is. All-nil IsClosedItem }

    pub made-waiting : (target : Target) → IsMade site s (Waiting target ∷ [])
    made-waiting target = record {
      inside = All-cons (IsInside site) (Waiting target) [] tt (All-nil (IsInside site));
      closed = λ is. All-cons IsClosedItem (Waiting target) [] tt (All-nil IsClosedItem);
    }

    pub made-part : (part : Part) → IsMade site s (Doing site s part ∷ [])
    made-part part = record { inside = one-inside site s part; closed = one-closed site s part }

    pub made-both : (xs ys : List Item) → IsMade site s xs → IsMade site s ys → IsMade site s (xs ++ ys)
    made-both xs ys one other = record {
      inside = All-append (IsInside site) xs ys one.inside other.inside;
      closed = λ is. All-append IsClosedItem xs ys (one.closed is) (other.closed is);
    }

    pub made-block : (block : List Statement) → (IsClosed s → IsClosedBlock block) → IsMade site s (items definitions site block)
    made-block block closes = record { inside = block-inside site block; closed = λ is. block-closed site block (closes is) }

    pub made-block-if : (block : Option (List Statement)) → (IsClosed s → IfClosedBlock block) → IsMade site s (items_if_any definitions site block)
    made-block-if None closes = made-none
    made-block-if (Some block) closes = made-block block closes

    -- ---- conditionals

    closed-conditional : (place : Place) → IsWhole place.scope → place.in_branch ≡ false → (c : Option Conditional) → IfSome c (IsFineConditional place) → IfSome c (λ c. IsClosedBlock (out-Conditional c).block)
    closed-conditional place whole lone None fine = tt
    closed-conditional place whole lone (Some c) fine = (place, whole, lone, fine.block)

    pub conditional-closed : (conditionals : List Conditional) (last : Option (List Statement)) (k : ℕ) → action_of s ≡ Action-F.If conditionals last → IsClosed s
        → IfSome (slice_get conditionals k) (λ c. IsClosedBlock (out-Conditional c).block)
    conditional-closed conditionals last k e is =
        let parts = closed-parts s (Action-F.If conditionals last) e is in
        closed-conditional parts.0 parts.1 parts.2 (slice_get conditionals k) (get-each (IsFineConditional parts.0) conditionals k parts.3.0)

    closed-last : (place : Place) → IsWhole place.scope → place.in_branch ≡ false → (last : Option (List Statement)) → IsFineIfAny place last → IfClosedBlock last
    closed-last place whole lone None fine = tt
    closed-last place whole lone (Some block) fine = (place, whole, lone, fine)

    pub last-closed : (conditionals : List Conditional) (last : Option (List Statement)) → action_of s ≡ Action-F.If conditionals last → IsClosed s → IfClosedBlock last
    last-closed conditionals last e is =
        let parts = closed-parts s (Action-F.If conditionals last) e is in
        closed-last parts.0 parts.1 parts.2 last parts.3.1

    -- ---- loops

    pub while-closed : (condition : Expr) (block : List Statement) → action_of s ≡ Action-F.While condition block → IsClosed s → IsClosedBlock block
    while-closed condition block e is =
        let parts = closed-parts s (Action-F.While condition block) e is in
        (parts.0, parts.1, parts.2, parts.3.1)

    pub do-closed : (block : List Statement) (condition : Expr) → action_of s ≡ Action-F.DoWhile block condition → IsClosed s → IsClosedBlock block
    do-closed block condition e is =
        let parts = closed-parts s (Action-F.DoWhile block condition) e is in
        (parts.0, parts.1, parts.2, parts.3.0)

    start-whole : (scope : Scope) (start : ForStart) → check_for_start scope start ≡ [] → IsWhole scope → IsWhole (behind_for_start scope start)
    start-whole scope (for_start.Variables vs) nothing whole = variables-whole scope vs nothing whole
    start-whole scope (for_start.Assign a) nothing whole = whole

    pub for-closed : (start : ForStart) (condition : Expr) (step : Assignment) (block : List Statement) → action_of s ≡ Action-F.For start condition step block → IsClosed s → IsClosedBlock block
    for-closed start condition step block e is =
        let parts = closed-parts s (Action-F.For start condition step block) e is in
        (with_scope parts.0 (behind_for_start parts.0.scope start), start-whole parts.0.scope start parts.3.0 parts.1, parts.2, parts.3.3)

    start-made : (start : ForStart) → IsMade site s (start_items definitions site s start)
    start-made (for_start.Variables vs) = record {
      inside = declarations-inside site s 0 (entries_of_start (scope_at definitions site) (for_start.Variables vs));
      closed = declarations-closed site s 0 (entries_of_start (scope_at definitions site) (for_start.Variables vs));
    }
    start-made (for_start.Assign a) = made-part Start

    -- what remains of a `for`
    pub for-made : (start : ForStart) → IsMade site s (start_items definitions site s start ++ Doing (site_in_for definitions site start) s Loop ∷ [])
    for-made start =
        made-both (start_items definitions site s start) (Doing (site_in_for definitions site start) s Loop ∷ []) (start-made start)
        (record {
          inside = All-cons (IsInside site) (Doing (site_in_for definitions site start) s Loop) [] (outside-behind site (entries_of_start (scope_at definitions site) start)) (All-nil (IsInside site));
          closed = one-closed (site_in_for definitions site start) s Loop;
        })
