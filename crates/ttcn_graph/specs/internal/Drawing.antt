-- Sites and lists as they are drawn: the last name, and the last statement, first.
use Rattle.std.specs.Prelude.{◌≡◌, ℕ, zero, suc, List, [], ◌∷◌, ◌++◌, Option, Some, None}
use Rattle.std.specs.List.{slice_get}
use Rattle.ttcn_syntax.specs.declared.tree.definition.Definition.{Definition}
use Rattle.ttcn_syntax.specs.declared.tree.statement.Action.{Action}
use Rattle.ttcn_syntax.specs.declared.tree.statement.Conditional.{Conditional, out-Conditional}
use Rattle.ttcn_syntax.specs.declared.tree.statement.Statement.{Statement, out-Statement}
use Rattle.ttcn_syntax.specs.declared.tree.statement.Variable.{Variable}
use Rattle.semantics.specs.Items.{Doing, Item, Name, items, site_after}
use Rattle.semantics.specs.Sites.{Site}
use Rattle.graph_sites.specs.internal.OwnNames.{retracted}
use Rattle.ttcn_graph.specs.Ways.{Lists, ways_of, ways_of_variable}

-- what a statement does
abbrev pub Does : Statement → Action → Type 0
Does s action = (out-Statement s).action ≡ action

-- the site behind statements
abbrev pub site_behind_all : List Definition → Site → List Statement → Site
site_behind_all definitions site [] = site
site_behind_all definitions site (s ∷ block) = site_behind_all definitions (site_after definitions site s) block

-- the site before so many of the names that were declared last
abbrev pub site_before : ℕ → Site → Site
site_before zero site = site
site_before (suc n) site = site_before n (retracted site)

-- the declarations of so many of these names, in front of other items
abbrev pub declared_before : Site → Statement → ℕ → List Item → List Item
declared_before site s zero rest = rest
declared_before site s (suc n) rest = declared_before (retracted site) s n (Doing (retracted site) s (Name n) ∷ rest)

-- these variables are what a statement declares with a value that a call may give
abbrev pub AreNames : List Definition → Statement → List Variable → Type 0
AreNames definitions s variables = (site : Site) (rest : List Item) (k : ℕ) → ways_of definitions (Doing site s (Name k) ∷ rest) ≡ ways_of_variable rest (slice_get variables k)

-- what may come of a condition of an `if`, where these items follow it when it is false
abbrev pub ways_of_condition : List Definition → Site → List Item → List Item → Option Conditional → Lists
ways_of_condition definitions site rest failed None = failed ∷ []
ways_of_condition definitions site rest failed (Some c) = (items definitions site (out-Conditional c).block ++ rest) ∷ failed ∷ []
