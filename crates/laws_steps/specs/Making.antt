-- What a part of a statement leaves to be done in its place (ES 201 873-1, 19).
use Rattle.std.specs.Prelude.{◌≡◌, ℕ, List, [], ◌∷◌, ◌++◌, Option, Some, slice_get}
use Rattle.ttcn_syntax.specs.declared.tree.definition.Definition.{Definition}
use Rattle.ttcn_syntax.specs.declared.tree.expression.Expr.{Expr}
use Rattle.ttcn_syntax.specs.declared.tree.statement.Action.TheOpen.{Action-F}
use Rattle.ttcn_syntax.specs.declared.tree.statement.Assignment.{Assignment}
use Rattle.ttcn_syntax.specs.declared.tree.statement.Conditional.{Conditional, out-Conditional}
use Rattle.ttcn_syntax.specs.declared.tree.statement.ForStart.{ForStart}
use Rattle.ttcn_syntax.specs.declared.tree.statement.Statement.{Statement}
use Rattle.semantics.specs.Items.{Doing, From, Item, Last, Loop, Part, Whole, action_of, items, items_if_any, site_in_for, start_items}
use Rattle.semantics.specs.Sites.{Site}

-- the part of an `if` that tests conditions
abbrev pub IsTest : Part → Type 0
IsTest Whole = Unit {0}
IsTest (From k) = Unit {0}
IsTest _ = ⊥

-- a part of a statement at a site leaves these items in its place
pub data Makes (definitions : List Definition) (site : Site) (s : Statement) (part : Part) : List Item → Type 0 where
  -- the block behind a condition of an `if`
  MakesBlock : (k : ℕ) (conditionals : List Conditional) (last : Option (List Statement)) (c : Conditional) → IsTest part → action_of s ≡ Action-F.If conditionals last → slice_get conditionals k ≡ Some c
      → Makes definitions site s part (items definitions site (out-Conditional c).block)
  -- the conditions of an `if` from a later one on
  MakesTest : (k : ℕ) (conditionals : List Conditional) (last : Option (List Statement)) → IsTest part → action_of s ≡ Action-F.If conditionals last → Makes definitions site s part (Doing site s (From k) ∷ [])
  -- the block of `else`
  MakesElse : (conditionals : List Conditional) (last : Option (List Statement)) → IsTest part → action_of s ≡ Action-F.If conditionals last → Makes definitions site s part (items_if_any definitions site last)
  -- the block of a `while`, and the `while` again
  MakesWhile : (condition : Expr) (block : List Statement) → part ≡ Whole → action_of s ≡ Action-F.While condition block → Makes definitions site s part (items definitions site block ++ Doing site s Whole ∷ [])
  -- the block of a `do`, and then its `while`
  MakesDo : (block : List Statement) (condition : Expr) → part ≡ Whole → action_of s ≡ Action-F.DoWhile block condition → Makes definitions site s part (items definitions site block ++ Doing site s Loop ∷ [])
  -- once more
  MakesDoAgain : (block : List Statement) (condition : Expr) → part ≡ Loop → action_of s ≡ Action-F.DoWhile block condition → Makes definitions site s part (items definitions site block ++ Doing site s Loop ∷ [])
  -- what a `for` begins with, and then its `while`
  MakesFor : (start : ForStart) (condition : Expr) (step : Assignment) (block : List Statement) → part ≡ Whole → action_of s ≡ Action-F.For start condition step block
      → Makes definitions site s part (start_items definitions site s start ++ Doing (site_in_for definitions site start) s Loop ∷ [])
  -- the block of a `for`, its step, and the `while` again
  MakesForAgain : (start : ForStart) (condition : Expr) (step : Assignment) (block : List Statement) → part ≡ Loop → action_of s ≡ Action-F.For start condition step block
      → Makes definitions site s part (items definitions site block ++ Doing site s Last ∷ Doing site s Loop ∷ [])
