-- What may come to stand in the place of remaining items by the step of the first of them, other than those behind it (ES 201 873-1, 16, 19 and 20).
use Rattle.std.specs.Prelude.{ℕ, ◌+◌, List, [], ◌∷◌, ◌++◌, length, map, nat_lt, Option, Some, None, if◌then◌else◌}
use Rattle.std.specs.List.{slice_get}
use Rattle.ttcn_syntax.specs.declared.tree.definition.Definition.{Definition}
use Rattle.ttcn_syntax.specs.declared.tree.statement.Action.{Action}
use Rattle.ttcn_syntax.specs.declared.tree.statement.Action.TheOpen.{Action-F, Alternative-F}
use Rattle.ttcn_syntax.specs.declared.tree.statement.Alternative.{Alternative, out-Alternative}
use Rattle.ttcn_syntax.specs.declared.tree.statement.Assignment.{Assignment}
use Rattle.ttcn_syntax.specs.declared.tree.statement.Branch.{Branch, out-Branch}
use Rattle.ttcn_syntax.specs.declared.tree.statement.Conditional.{Conditional, out-Conditional}
use Rattle.ttcn_syntax.specs.declared.tree.statement.ForStart.{ForStart}
use Rattle.ttcn_syntax.specs.declared.tree.statement.ForStart.TheVariants as for_start
use Rattle.ttcn_syntax.specs.declared.tree.statement.Statement.{Statement}
use Rattle.ttcn_syntax.specs.declared.tree.statement.Variable.{Variable}
use Rattle.ttcn_syntax.specs.declared.tree.value.Rhs.{Rhs}
use Rattle.ttcn_syntax.specs.declared.tree.value.Rhs.TheVariants as rhs
use Rattle.check_rules.specs.Calls.{altstep_meant}
use Rattle.check_scope.specs.Names.{module_names}
use Rattle.semantics.specs.Items.{Does, Doing, From, Item, Last, Loop, Mark, Name, Part, Start, Target, Waiting, Whole, action_of, items, items_if_any, site_in_for, start_items}
use Rattle.semantics.specs.Sites.{Site}
use Rattle.semantics.specs.Statements.{declared_target}
use Rattle.graph_sites.specs.Facts.{target_in}

-- lists of what remains
abbrev pub Lists : Type 0
Lists = List (List Item)

-- ---- assignments: a call on the right leaves its target waiting for the result

-- a right side: a call leaves the target waiting in front of the rest, and any other leaves nothing
abbrev pub ways_of_right : Target → List Item → Rhs → Lists
ways_of_right target rest (rhs.Value v) = []
ways_of_right target rest (rhs.Create name) = []
ways_of_right target rest (rhs.Call call) = (Waiting target ∷ rest) ∷ []
ways_of_right target rest (rhs.Activate call) = []

-- an assignment at a site, in front of the rest
abbrev pub ways_of_assignment : List Definition → Site → List Item → Assignment → Lists
ways_of_assignment definitions site rest a = ways_of_right (target_in definitions site a.target) rest a.value

-- the declaration of a name, with its initial value where one is given
abbrev pub ways_of_initial : List ℕ → List Item → Option Rhs → Lists
ways_of_initial name rest None = []
ways_of_initial name rest (Some right) = ways_of_right (declared_target name) rest right

-- the declaration of a variable, where there is one
abbrev pub ways_of_variable : List Item → Option Variable → Lists
ways_of_variable rest None = []
ways_of_variable rest (Some v) = ways_of_initial v.name rest v.value

-- ---- parts of statements

-- the lists, where the part is the whole
abbrev pub for_whole : Part → Lists → Lists
for_whole Whole ways = ways
for_whole (Name k) ways = []
for_whole (From k) ways = []
for_whole Start ways = []
for_whole Loop ways = []
for_whole Last ways = []

-- the declaration of one of the variables
abbrev pub ways_of_variables : List Item → List Variable → Part → Lists
ways_of_variables rest variables (Name k) = ways_of_variable rest (slice_get variables k)
ways_of_variables rest variables Whole = []
ways_of_variables rest variables (From k) = []
ways_of_variables rest variables Start = []
ways_of_variables rest variables Loop = []
ways_of_variables rest variables Last = []

-- a lone call: that of an altstep is an `alt` of its own
abbrev pub ways_of_call : List Item → Option ℕ → Lists
ways_of_call marked None = []
ways_of_call marked (Some at) = marked ∷ []

-- the block of a branch, as what remains
abbrev pub items_of_alternative : List Definition → Site → Alternative-F Action Alternative Branch Conditional Statement → List Item
items_of_alternative definitions site (Alternative-F.«Alternative::Event» guard event block) = items_if_any definitions site block
items_of_alternative definitions site (Alternative-F.«Alternative::Call» guard call block) = items_if_any definitions site block
items_of_alternative definitions site (Alternative-F.Else block) = items definitions site block

-- the block of a branch's alternative, as what remains
abbrev pub items_of_branch : List Definition → Site → Branch → List Item
items_of_branch definitions site b = items_of_alternative definitions site (out-Alternative (out-Branch b).alternative)

-- branches: the block of each, and last what remains where a branch without block is taken
abbrev pub ways_of_branches : List Definition → Site → List Item → List Branch → Lists
ways_of_branches definitions site marked branches = map (λ b. items_of_branch definitions site b ++ marked) branches ++ marked ∷ []

-- what follows a false condition of an `if`: the rest of the chain, or the block of its `else`
abbrev pub items_otherwise : List Definition → Site → Statement → List Item → ℕ → List Conditional → Option (List Statement) → List Item
items_otherwise definitions site s rest next conditionals last =
    if nat_lt next (length conditionals) then Doing site s (From next) ∷ rest else (items_if_any definitions site last ++ rest)

-- the conditions of an `if` from one on: its block, and what follows where it is false. Without any, the block of its `else`
abbrev pub ways_of_conditional : List Definition → Site → Statement → List Item → ℕ → List Conditional → Option (List Statement) → Option Conditional → Lists
ways_of_conditional definitions site s rest k conditionals last None = (items_if_any definitions site last ++ rest) ∷ []
ways_of_conditional definitions site s rest k conditionals last (Some c) =
    (items definitions site (out-Conditional c).block ++ rest) ∷ items_otherwise definitions site s rest (k + 1) conditionals last ∷ []

-- the conditions of an `if` from that of a number on
abbrev pub ways_from : List Definition → Site → Statement → List Item → ℕ → List Conditional → Option (List Statement) → Lists
ways_from definitions site s rest k conditionals last = ways_of_conditional definitions site s rest k conditionals last (slice_get conditionals k)

-- an `if`: all its conditions, or those from the one on at which a part of it begins
abbrev pub ways_of_if : List Definition → Site → Statement → List Item → List Conditional → Option (List Statement) → Part → Lists
ways_of_if definitions site s rest conditionals last Whole = ways_from definitions site s rest 0 conditionals last
ways_of_if definitions site s rest conditionals last (From k) = ways_from definitions site s rest k conditionals last
ways_of_if definitions site s rest conditionals last (Name k) = []
ways_of_if definitions site s rest conditionals last Start = []
ways_of_if definitions site s rest conditionals last Loop = []
ways_of_if definitions site s rest conditionals last Last = []

-- a `do`: its block and then the `while` that it becomes, at first and where the condition holds
abbrev pub ways_of_do : List Definition → Site → Statement → List Item → List Statement → Part → Lists
ways_of_do definitions site s rest block Whole = (items definitions site block ++ Doing site s Loop ∷ rest) ∷ []
ways_of_do definitions site s rest block Loop = (items definitions site block ++ Doing site s Loop ∷ rest) ∷ []
ways_of_do definitions site s rest block (Name k) = []
ways_of_do definitions site s rest block (From k) = []
ways_of_do definitions site s rest block Start = []
ways_of_do definitions site s rest block Last = []

-- the declaration of one of the variables that a `for` begins with
abbrev pub ways_of_start_name : List Item → ℕ → ForStart → Lists
ways_of_start_name rest k (for_start.Variables vs) = ways_of_variable rest (slice_get vs.variables k)
ways_of_start_name rest k (for_start.Assign a) = []

-- the assignment that a `for` begins with: variables are declared one by one
abbrev pub ways_of_start : List Definition → Site → List Item → ForStart → Lists
ways_of_start definitions site rest (for_start.Variables vs) = []
ways_of_start definitions site rest (for_start.Assign a) = ways_of_assignment definitions site rest a

-- a `for`: what it begins with and then the `while` that it becomes, and in that the block, its last assignment and the `while`
abbrev pub ways_of_for : List Definition → Site → Statement → List Item → ForStart → Assignment → List Statement → Part → Lists
ways_of_for definitions site s rest start step block Whole = (start_items definitions site s start ++ Doing (site_in_for definitions site start) s Loop ∷ rest) ∷ []
ways_of_for definitions site s rest start step block (Name k) = ways_of_start_name rest k start
ways_of_for definitions site s rest start step block (From k) = []
ways_of_for definitions site s rest start step block Start = ways_of_start definitions site rest start
ways_of_for definitions site s rest start step block Loop = (items definitions site block ++ Doing site s Last ∷ Doing site s Loop ∷ rest) ∷ []
ways_of_for definitions site s rest start step block Last = ways_of_assignment definitions site rest step

-- ---- items

-- a part of a statement, in front of the rest
abbrev pub ways_of_part : List Definition → Site → Statement → List Item → Part → Does → Lists
ways_of_part definitions site s rest part (Action-F.Variables vs) = ways_of_variables rest vs.variables part
ways_of_part definitions site s rest part (Action-F.Constants cs) = []
ways_of_part definitions site s rest part (Action-F.Timers timers) = []
ways_of_part definitions site s rest part (Action-F.Assign a) = for_whole part (ways_of_assignment definitions site rest a)
ways_of_part definitions site s rest part (Action-F.«Action::Call» call) =
    for_whole part (ways_of_call (Mark site s ∷ rest) (altstep_meant (module_names definitions call.name)))
ways_of_part definitions site s rest part (Action-F.«Action::Event» event) = for_whole part ((Mark site s ∷ rest) ∷ [])
ways_of_part definitions site s rest part (Action-F.Alt branches) = for_whole part (ways_of_branches definitions site (Mark site s ∷ rest) branches)
ways_of_part definitions site s rest part Action-F.Repeat = []
ways_of_part definitions site s rest part (Action-F.If conditionals last) = ways_of_if definitions site s rest conditionals last part
ways_of_part definitions site s rest part (Action-F.While condition block) =
    for_whole part ((items definitions site block ++ Doing site s Whole ∷ rest) ∷ [])
ways_of_part definitions site s rest part (Action-F.DoWhile block condition) = ways_of_do definitions site s rest block part
ways_of_part definitions site s rest part (Action-F.For start condition step block) = ways_of_for definitions site s rest start step block part
ways_of_part definitions site s rest part (Action-F.Return v) = []
ways_of_part definitions site s rest part Action-F.Stop = []
ways_of_part definitions site s rest part (Action-F.Log logged) = []
ways_of_part definitions site s rest part (Action-F.Setverdict verdict reasons) = []
ways_of_part definitions site s rest part (Action-F.Connect one other) = []
ways_of_part definitions site s rest part (Action-F.Map m) = []
ways_of_part definitions site s rest part (Action-F.Send send) = []
ways_of_part definitions site s rest part (Action-F.StartComponent reference call) = []
ways_of_part definitions site s rest part (Action-F.StartTimer timer) = []
ways_of_part definitions site s rest part (Action-F.StopOf reference) = []
ways_of_part definitions site s rest part (Action-F.Activate call) = []
ways_of_part definitions site s rest part (Action-F.Deactivate reference) = []

-- the lists that may come of what remains: of a mark, the `alt` put back
abbrev pub ways_of : List Definition → List Item → Lists
ways_of definitions [] = []
ways_of definitions (Doing site s part ∷ rest) = ways_of_part definitions site s rest part (action_of s)
ways_of definitions (Mark site s ∷ rest) = (Doing site s Whole ∷ rest) ∷ []
ways_of definitions (Waiting target ∷ rest) = []
