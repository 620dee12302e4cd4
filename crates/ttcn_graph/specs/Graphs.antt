-- The graphs of a module: what its behaviours begin with, and all that may come of it.
use Rattle.std.specs.Prelude.{◌≡◌, ℕ, ◌<◌, List, [], ◌∷◌, map, get_or, Option, Some, length}
use Rattle.std.specs.List.{slice_get}
use Rattle.ttcn_syntax.specs.declared.tree.definition.Definition.{Definition}
use Rattle.ttcn_syntax.specs.declared.tree.definition.DefinitionKind.{DefinitionKind}
use Rattle.ttcn_syntax.specs.declared.tree.definition.DefinitionKind.TheVariants as kind
use Rattle.ttcn_syntax.specs.declared.tree.statement.Statement.{Statement}
use Rattle.check_scope.specs.Names.{kind_at}
use Rattle.semantics.specs.Items.{items}
use Rattle.semantics.specs.Sites.{Site, beginning}
use Rattle.graph_names.specs.Known.{Known}
use Rattle.ttcn_graph.specs.Drafts.{Draft, HasWays}
use Rattle.ttcn_graph.specs.Ways.{Lists, items_of_branch}

-- the module, the lists by their positions, for each position those of the lists that may come of it, for each definition those of what it begins with, and names that are known
pub record Graphs : Type 0 where
  pub definitions : List Definition
  pub lists : Lists
  pub ways : List (List ℕ)
  pub starts : List (List ℕ)
  pub names : Known

-- the one list of a block
abbrev pub body_alone : List Definition → Site → List Statement → Lists
body_alone definitions site body = items definitions site body ∷ []

-- what a definition begins with, at its site: the block of a function or a test case, and for an altstep the block of each branch
abbrev pub beginnings : List Definition → Site → Option DefinitionKind → Lists
beginnings definitions site (Some (kind.Function f)) = body_alone definitions site f.body
beginnings definitions site (Some (kind.Testcase t)) = body_alone definitions site t.body
beginnings definitions site (Some (kind.Altstep a)) = map (λ branch. items_of_branch definitions site branch) a.branches
beginnings definitions site _ = []

-- what the definition at a position begins with
abbrev pub beginnings_at : List Definition → ℕ → Lists
beginnings_at definitions at = beginnings definitions (beginning at) (kind_at definitions at)

-- the graphs that are drawn with these beginnings, and these names
abbrev pub graphs_of : Draft → List (List ℕ) → Known → Graphs
graphs_of d starts names = record { definitions = d.definitions; lists = d.lists; ways = d.ways; starts = starts; names = names }

-- what may come of each list has its positions
abbrev pub AllHaveWays : Draft → Type 0
AllHaveWays d = (p : ℕ) → p < length d.lists → HasWays d p

-- a position stands for the list that comes at a place among these
pub record IsAt (graphs : Graphs) (at place : ℕ) (among : Lists) : Type 0 where
  pub within : at < length graphs.lists
  pub stands : slice_get among place ≡ Some (get_or graphs.lists at [])
