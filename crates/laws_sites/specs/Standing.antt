-- What remains to be done in each frame breaks no rule of the checker where it stands, as in all runs of modules that break none.
use Rattle.std.specs.Prelude.{◌≡◌, ◌≢◌, ℕ, false, List, [], Option, Some, None, AllPairs, IsSomeAnd, bytes_eq, slice_get}
use Rattle.std.specs.List.{All}
use Rattle.ttcn_syntax.specs.declared.tree.definition.Definition.{Definition}
use Rattle.ttcn_syntax.specs.declared.tree.definition.DefinitionKind.{DefinitionKind}
use Rattle.ttcn_syntax.specs.declared.tree.definition.DefinitionKind.TheVariants as kind
use Rattle.ttcn_syntax.specs.declared.tree.statement.Action.TheOpen.{Action-F}
use Rattle.ttcn_syntax.specs.declared.tree.statement.ForStart.TheVariants as for_start
use Rattle.ttcn_syntax.specs.declared.tree.statement.Statement.{Statement}
use Rattle.ttcn_syntax.specs.declared.tree.statement.Variable.{Variable}
use Rattle.ttcn_syntax.specs.declared.tree.value.Value.{Value}
use Rattle.check_rules.specs.Targets.{check_assignment, check_constant, check_timer_name, check_variable}
use Rattle.check_scope.specs.Names.{Scope, kind_at, resolved}
use Rattle.check_scope.specs.Scopes.{outer_names}
use Rattle.check_scope.specs.declared.types.DataType.{DataType}
use Rattle.check_rules.specs.Definitions.{returns_of}
use Rattle.check_rules.specs.Statements.{Place, check_return, statement, with_scope}
use Rattle.laws_checker.specs.Laws.{IsWhole}
use Rattle.laws_statements.specs.Parts.{IsCondition, IsFine}
use Rattle.semantics.specs.Configurations.{Component, Configuration, Ended, Frame, Goes, Queue}
use Rattle.semantics.specs.Items.{Does, Doing, From, Item, Last, Loop, Mark, Name, Part, Start, Waiting, Whole, action_of}
use Rattle.semantics.specs.Sites.{Site, runs_on, scope_at}
use Rattle.semantics.specs.Snapshots.{Test}

-- ---- sites

-- a name is that of nothing in the module, nor of a member of the component type that the behaviour at a position runs on
abbrev pub IsFree : List Definition → ℕ → List ℕ → Type 0
IsFree definitions behaviour name = outer_names definitions (runs_on definitions behaviour) name ≡ None

-- a site in the behaviour at a position: the names that are declared before it are free there, and what is visible is known
pub record IsFineSite (definitions : List Definition) (behaviour : ℕ) (site : Site) : Type 0 where
  pub within : site.behaviour ≡ behaviour
  pub declared : All (λ entry. IsFree definitions behaviour entry.0) site.declared
  pub whole : IsWhole (scope_at definitions site)

-- what may be returned at a place is what a behaviour says of its result: in an altstep or a test case, nothing may
abbrev pub MayReturn : List Definition → Option DefinitionKind → Place → Type 0
MayReturn definitions (Some (kind.Function f)) place = place.returns ≡ returns_of definitions f.returns
MayReturn definitions _ place = (scope : Scope) (given : Option Value) → check_return scope place.returns given ≢ []

-- a place in the behaviour at a position, in whatever scope, inside the block of a branch or not
pub record PlaceIn (definitions : List Definition) (behaviour : ℕ) : Type 0 where
  pub place : Place
  pub returns : MayReturn definitions (kind_at definitions behaviour) place

-- a place in the behaviour at a position, with a scope
abbrev pub place_at : (definitions : List Definition) (behaviour : ℕ) → Scope → PlaceIn definitions behaviour → Place
place_at definitions behaviour scope inside = with_scope inside.place scope

-- ---- parts of statements

-- a statement breaks no rule in a scope of a behaviour
abbrev pub BreaksNone : List Definition → ℕ → Scope → Statement → Type 0
BreaksNone definitions behaviour scope s = (inside : PlaceIn definitions behaviour) × ((statement s).broken (place_at definitions behaviour scope inside) ≡ [])

-- a variable of a declaration of this type is there, its name is new, and its initial value goes to the type
abbrev pub IsFineVariable : Scope → Option DataType → Option Variable → Type 0
IsFineVariable scope of found = IsSomeAnd found (λ v. check_variable of scope v ≡ [])

-- one of the names that a statement declares, in the scope behind those before it
abbrev pub IsFineName : Scope → ℕ → Does → Type 0
IsFineName scope k (Action-F.Variables vs) = IsFineVariable scope (resolved scope.names vs.type_name) (slice_get vs.variables k)
IsFineName scope k (Action-F.For (for_start.Variables vs) condition step block) = IsFineVariable scope (resolved scope.names vs.type_name) (slice_get vs.variables k)
IsFineName scope k (Action-F.Constants cs) = IsSomeAnd (slice_get cs.constants k) (λ c. check_constant (resolved scope.names cs.type_name) scope c ≡ [])
IsFineName scope k (Action-F.Timers timers) = IsSomeAnd (slice_get timers k) (λ t. check_timer_name scope t ≡ [])
IsFineName scope k _ = ⊥

-- the `while` that a `do` or a `for` becomes: its condition, its block, and what a `for` does behind the block
abbrev pub IsFineLoop : List Definition → ℕ → Scope → Does → Type 0
IsFineLoop definitions behaviour scope (Action-F.DoWhile block condition) =
    (inside : PlaceIn definitions behaviour) × IsFine (place_at definitions behaviour scope inside) block × IsCondition scope condition
IsFineLoop definitions behaviour scope (Action-F.For start condition step block) =
    (inside : PlaceIn definitions behaviour) × IsFine (place_at definitions behaviour scope inside) block × IsCondition scope condition × (check_assignment scope step ≡ [])
IsFineLoop definitions behaviour scope _ = ⊥

-- the assignment behind the block of a `for`
abbrev pub IsFineStep : Scope → Does → Type 0
IsFineStep scope (Action-F.For start condition step block) = check_assignment scope step ≡ []
IsFineStep scope _ = ⊥

-- a statement that is done as a whole: it declares no names
abbrev pub IsNoDeclaration : Does → Type 0
IsNoDeclaration (Action-F.Variables vs) = ⊥
IsNoDeclaration (Action-F.Constants cs) = ⊥
IsNoDeclaration (Action-F.Timers timers) = ⊥
IsNoDeclaration _ = Unit {0}

-- an `if`
abbrev pub IsIf : Does → Type 0
IsIf (Action-F.If conditionals last) = Unit {0}
IsIf _ = ⊥

-- a `for` that begins with an assignment
abbrev pub BeginsByAssignment : Does → Type 0
BeginsByAssignment (Action-F.For (for_start.Assign assignment) condition step block) = Unit {0}
BeginsByAssignment _ = ⊥

-- a part is one that the statement has, and breaks no rule in the scope in which it stands
abbrev pub IsFinePart : List Definition → ℕ → Scope → Statement → Part → Type 0
IsFinePart definitions behaviour scope s Whole = IsNoDeclaration (action_of s) × BreaksNone definitions behaviour scope s
IsFinePart definitions behaviour scope s (Name k) = IsFineName scope k (action_of s)
IsFinePart definitions behaviour scope s (From k) = IsIf (action_of s) × BreaksNone definitions behaviour scope s
IsFinePart definitions behaviour scope s Start = BeginsByAssignment (action_of s) × BreaksNone definitions behaviour scope s
IsFinePart definitions behaviour scope s Loop = IsFineLoop definitions behaviour scope (action_of s)
IsFinePart definitions behaviour scope s Last = IsFineStep scope (action_of s)

-- ---- frames

-- an item of what remains in a frame of the behaviour at a position
abbrev pub IsFineItem : List Definition → ℕ → Item → Type 0
IsFineItem definitions behaviour (Doing site s part) = IsFineSite definitions behaviour site × IsFinePart definitions behaviour (scope_at definitions site) s part
IsFineItem definitions behaviour (Mark site s) = IsFineSite definitions behaviour site × IsFinePart definitions behaviour (scope_at definitions site) s Whole
IsFineItem definitions behaviour (Waiting target) = Unit {0}

-- a frame of the behaviour at a position: what remains in it is fine there, and the names of its timers are free
pub record IsFrameOf (definitions : List Definition) (behaviour : ℕ) (frame : Frame) : Type 0 where
  pub items : All (IsFineItem definitions behaviour) frame.remaining
  pub timers : All (λ e. IsFree definitions behaviour e.0) frame.timers

-- a frame of some behaviour
abbrev pub IsFineFrame : List Definition → Frame → Type 0
IsFineFrame definitions frame = (behaviour : ℕ) × IsFrameOf definitions behaviour frame

-- ---- configurations

-- no two ports have one name
abbrev pub HasQueuesByName : List Queue → Type 0
HasQueuesByName queues = AllPairs (λ q r. bytes_eq q.0 r.0 ≡ false) queues

-- a component: each frame above frame 0 is one of a behaviour, and no two of its ports have one name
pub record IsFineComponent (definitions : List Definition) (component : Component) : Type 0 where
  pub calls : All (IsFineFrame definitions) component.own.calls
  pub queues : HasQueuesByName component.queues

-- the components of a test case that goes on stand by the rules of its module; one that ended has none
abbrev pub StandsByRules : Test → Configuration → Type 0
StandsByRules test (Ended v) = Unit {0}
StandsByRules test (Goes c) = All (IsFineComponent test.definitions) c.components
