-- What remains to be done in a frame: parts of statements, alts to which `repeat` leads back, and a target that waits for a result (ES 201 873-1, 16 and 19 to 22).
use Rattle.std.specs.Prelude.{ℕ, ◌+◌, Bool, List, [], ◌∷◌, ◌++◌, Option, Some, None}
use Rattle.ttcn_syntax.specs.declared.tree.definition.Definition.{Definition}
use Rattle.ttcn_syntax.specs.declared.tree.expression.Reference.{Reference}
use Rattle.ttcn_syntax.specs.declared.tree.statement.Action.{Action, out-Action}
use Rattle.ttcn_syntax.specs.declared.tree.statement.Action.TheOpen.{Action-F}
use Rattle.ttcn_syntax.specs.declared.tree.statement.Alternative.{Alternative}
use Rattle.ttcn_syntax.specs.declared.tree.statement.Branch.{Branch}
use Rattle.ttcn_syntax.specs.declared.tree.statement.Conditional.{Conditional}
use Rattle.ttcn_syntax.specs.declared.tree.statement.ForStart.{ForStart}
use Rattle.ttcn_syntax.specs.declared.tree.statement.ForStart.TheVariants as for_start
use Rattle.ttcn_syntax.specs.declared.tree.statement.Statement.{Statement, out-Statement}
use Rattle.check_scope.specs.Names.{Entry}
use Rattle.check_scope.specs.declared.types.DataType.{DataType}
use Rattle.semantics.specs.Sites.{Site, constant_entries, entries_of, entries_of_start, scope_at, site_behind, site_with, timer_entries, variable_entries}

-- what of a statement is to be done
pub data Part : Type 0 where
  -- the whole of it
  Whole : Part
  -- the declaration of one of the names that it declares
  Name : ℕ → Part
  -- the conditions of an `if` from one on
  From : ℕ → Part
  -- the assignment that a `for` begins with
  Start : Part
  -- the `while` that a `do` or a `for` becomes
  Loop : Part
  -- the assignment behind the block of a `for`
  Last : Part

-- a name that waits for a result, and whether it is the frame's own or the component's; with fields behind it, its type too
pub record Target : Type 0 where
  pub own : Bool
  pub reference : Reference
  pub data_type : Option DataType

-- one item of what remains to be done in a frame
pub data Item : Type 0 where
  -- a part of a statement, which stands at a site
  Doing : Site → Statement → Part → Item
  -- behind the block of a branch: the `alt`, or the statement that stands for one, to which `repeat` leads back
  Mark : Site → Statement → Item
  -- a call's result goes there
  Waiting : Target → Item

-- what a statement does
abbrev pub Does : Type 0
Does = Action-F Action Alternative Branch Conditional Statement

-- what a statement does, without its place
abbrev pub action_of : Statement → Does
action_of s = out-Action (out-Statement s).action

-- the names that a statement declares, one after the other: each is declared behind those before it
abbrev pub declarations : Site → Statement → ℕ → List Entry → List Item
declarations site s at [] = []
declarations site s at (entry ∷ entries) = Doing site s (Name at) ∷ declarations (site_with site entry) s (at + 1) entries

-- a statement that does this, as what remains: a declaration name by name, anything else as a whole
abbrev pub items_of_action : List Definition → Site → Statement → Does → List Item
items_of_action definitions site s (Action-F.Variables vs) = declarations site s 0 (variable_entries (scope_at definitions site) vs)
items_of_action definitions site s (Action-F.Constants cs) = declarations site s 0 (constant_entries (scope_at definitions site) cs)
items_of_action definitions site s (Action-F.Timers timers) = declarations site s 0 (timer_entries timers)
items_of_action definitions site s _ = Doing site s Whole ∷ []

-- a statement, as what remains: a declaration of several names is several declarations
abbrev pub items_of_statement : List Definition → Site → Statement → List Item
items_of_statement definitions site s = items_of_action definitions site s (action_of s)

-- the site behind a statement
abbrev pub site_after : List Definition → Site → Statement → Site
site_after definitions site s = site_behind site (entries_of (scope_at definitions site) (action_of s))

-- a block, as what remains
abbrev pub items : List Definition → Site → List Statement → List Item
items definitions site [] = []
items definitions site (s ∷ block) = items_of_statement definitions site s ++ items definitions (site_after definitions site s) block

-- a block, where there is one
abbrev pub items_if_any : List Definition → Site → Option (List Statement) → List Item
items_if_any definitions site None = []
items_if_any definitions site (Some block) = items definitions site block

-- ---- the parts of a `for`

-- the site behind what a `for` begins with
abbrev pub site_in_for : List Definition → Site → ForStart → Site
site_in_for definitions site start = site_behind site (entries_of_start (scope_at definitions site) start)

-- what a `for` begins with
abbrev pub start_items : List Definition → Site → Statement → ForStart → List Item
start_items definitions site s (for_start.Variables vs) = declarations site s 0 (entries_of_start (scope_at definitions site) (for_start.Variables vs))
start_items definitions site s (for_start.Assign assignment) = Doing site s Start ∷ []
