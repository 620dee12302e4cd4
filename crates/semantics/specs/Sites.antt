-- Where a statement stands: its behaviour, and the names that are declared in it before (ES 201 873-1, 5.2 and 16).
use Rattle.std.specs.Prelude.{ℕ, Bool, ◌||◌, List, [], ◌∷◌, map, Option, Some, bytes_eq}
use Rattle.std.specs.List.{list_any}
use Rattle.ttcn_syntax.specs.declared.tree.definition.Definition.{Definition}
use Rattle.ttcn_syntax.specs.declared.tree.definition.DefinitionKind.{DefinitionKind}
use Rattle.ttcn_syntax.specs.declared.tree.definition.DefinitionKind.TheVariants as kind
use Rattle.ttcn_syntax.specs.declared.tree.statement.Action.TheOpen.{Action-F}
use Rattle.ttcn_syntax.specs.declared.tree.statement.ForStart.{ForStart}
use Rattle.ttcn_syntax.specs.declared.tree.statement.ForStart.TheVariants as for_start
use Rattle.ttcn_syntax.specs.declared.tree.statement.Constants.{Constants}
use Rattle.ttcn_syntax.specs.declared.tree.statement.Timer.{Timer}
use Rattle.ttcn_syntax.specs.declared.tree.statement.Variables.{Variables}
use Rattle.check_rules.specs.Calls.{component_named, parameters_of, runs_on_of}
use Rattle.check_scope.specs.Names.{Entry, Scope, declaring, kind_at, resolved}
use Rattle.check_scope.specs.Scopes.{scope_on}
use Rattle.check_scope.specs.declared.names.Meaning.TheVariants as meaning
use Rattle.check_rules.specs.Definitions.{with_parameters}
use Rattle.semantics.specs.Entries.{Identifier}

-- a place in the behaviour at a position, behind the declarations of these names, the last one first
pub record Site : Type 0 where
  pub behaviour : ℕ
  pub declared : List Entry

-- the beginning of a behaviour
abbrev pub beginning : ℕ → Site
beginning at = record { behaviour = at; declared = [] }

-- a site behind the declaration of one more name
abbrev pub site_with : Site → Entry → Site
site_with site entry = record { behaviour = site.behaviour; declared = entry ∷ site.declared }

-- a site behind declarations
abbrev pub site_behind : Site → List Entry → Site
site_behind site [] = site
site_behind site (entry ∷ entries) = site_behind (site_with site entry) entries

-- ---- behaviours

-- the name of the component type that a behaviour runs on, where it says so
abbrev pub component_name : Option DefinitionKind → Option Identifier
component_name (Some (kind.Testcase t)) = Some t.runs_on
component_name other = runs_on_of other

-- the component type that the behaviour at a position runs on
abbrev pub runs_on : List Definition → ℕ → Option ℕ
runs_on definitions at = component_named definitions (component_name (kind_at definitions at))

-- the scope at the beginning of the behaviour at a position: it has the parameters, and the members of the component type
abbrev pub behaviour_scope : List Definition → ℕ → Scope
behaviour_scope definitions at = with_parameters (scope_on definitions (runs_on definitions at)) (parameters_of (kind_at definitions at))

-- a scope with names that are declared in it, the last one first
abbrev pub scope_with : Scope → List Entry → Scope
scope_with scope [] = scope
scope_with scope (entry ∷ entries) = declaring (scope_with scope entries) (entry ∷ [])

-- the scope at a site
abbrev pub scope_at : List Definition → Site → Scope
scope_at definitions site = scope_with (behaviour_scope definitions site.behaviour) site.declared

-- a name at a site is the behaviour's own, not the component's: that of a parameter, or declared before
abbrev pub is_own : List Definition → Site → Identifier → Bool
is_own definitions site name =
    list_any (λ parameter. bytes_eq parameter.name name) (parameters_of (kind_at definitions site.behaviour)) ||
    list_any (λ entry. bytes_eq entry.0 name) site.declared

-- ---- declarations

-- the names that a declaration of variables declares, in a scope
abbrev pub variable_entries : Scope → Variables → List Entry
variable_entries scope vs = map (λ v. (v.name, meaning.Variable (resolved scope.names vs.type_name))) vs.variables

-- the names that a declaration of constants declares, in a scope
abbrev pub constant_entries : Scope → Constants → List Entry
constant_entries scope cs = map (λ c. (c.name, meaning.Constant (resolved scope.names cs.type_name))) cs.constants

-- the names that a declaration of timers declares
abbrev pub timer_entries : List Timer → List Entry
timer_entries timers = map (λ t. (t.name, meaning.Timer)) timers

-- the names that a `for` declares, where it begins with variables
abbrev pub entries_of_start : Scope → ForStart → List Entry
entries_of_start scope (for_start.Variables vs) = variable_entries scope vs
entries_of_start scope (for_start.Assign assignment) = []

-- the names that what a statement does declares for those behind it
abbrev pub entries_of : {A B C D E : Type 0} → Scope → Action-F A B C D E → List Entry
entries_of scope (Action-F.Variables vs) = variable_entries scope vs
entries_of scope (Action-F.Constants cs) = constant_entries scope cs
entries_of scope (Action-F.Timers timers) = timer_entries timers
entries_of scope (Action-F.Assign assignment) = []
entries_of scope (Action-F.«Action::Call» call) = []
entries_of scope (Action-F.«Action::Event» event) = []
entries_of scope (Action-F.Alt branches) = []
entries_of scope Action-F.Repeat = []
entries_of scope (Action-F.If conditionals last) = []
entries_of scope (Action-F.While condition block) = []
entries_of scope (Action-F.DoWhile block condition) = []
entries_of scope (Action-F.For start condition step block) = []
entries_of scope (Action-F.Return v) = []
entries_of scope Action-F.Stop = []
entries_of scope (Action-F.Log logged) = []
entries_of scope (Action-F.Setverdict verdict reasons) = []
entries_of scope (Action-F.Connect one other) = []
entries_of scope (Action-F.Map m) = []
entries_of scope (Action-F.Send send) = []
entries_of scope (Action-F.StartComponent reference call) = []
entries_of scope (Action-F.StartTimer timer) = []
entries_of scope (Action-F.StopOf reference) = []
entries_of scope (Action-F.Activate call) = []
entries_of scope (Action-F.Deactivate reference) = []
