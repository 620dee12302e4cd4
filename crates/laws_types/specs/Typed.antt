-- Configurations in which each value is of the type that the checker gives its name, as in all runs of modules that are accepted (ES 201 873-1, 5.2, 6, 16, 20.5 and 22).
use Rattle.std.specs.Prelude.{◌≡◌, ℕ, true, List, [], ◌∷◌, map, Option, Some, None, IsSomeAnd, slice_get}
use Rattle.std.specs.List.{All, flat_map}
use Rattle.std.specs.Option.{option_and_then}
use Rattle.ttcn_syntax.specs.declared.tree.definition.Definition.{Definition}
use Rattle.ttcn_syntax.specs.declared.tree.statement.Action.TheOpen.{Action-F}
use Rattle.ttcn_syntax.specs.declared.tree.statement.ForStart.TheVariants as for_start
use Rattle.ttcn_syntax.specs.declared.tree.statement.Statement.{Statement}
use Rattle.ttcn_syntax.specs.declared.tree.statement.Variables.{Variables}
use Rattle.check_rules.specs.Calls.{is_altstep, parameters_of, result_type_of}
use Rattle.check_rules.specs.Expressions.{along}
use Rattle.check_scope.specs.Names.{Entry, Scope, kind_at, members_of, module_names, resolved}
use Rattle.check_scope.specs.declared.names.Meaning.TheVariants as meaning
use Rattle.check_scope.specs.declared.types.DataType.{DataType}
use Rattle.check_scope.specs.declared.types.Typing.TheVariants as typing
use Rattle.laws_checker.specs.Laws.{IsKnown}
use Rattle.laws_evaluation.specs.Types.{AreGiven, is_of}
use Rattle.laws_repeat.specs.Following.{IsOutside}
use Rattle.semantics.specs.Configurations.{ActiveDefault, Component, Configuration, Data, Ended, Frame, Goes, Message, Queue, is_running_state}
use Rattle.semantics.specs.Creating.{ports_of}
use Rattle.semantics.specs.Events.{type_of}
use Rattle.semantics.specs.Items.{Does, Doing, Item, Mark, Name, Part, Target, Waiting, action_of}
use Rattle.semantics.specs.Sites.{Site, is_own, scope_at}
use Rattle.semantics.specs.Snapshots.{Test}
use Rattle.semantics.specs.Storing.{type_for}
use Rattle.value_types.specs.Values.{is_complete}
use Rattle.laws_types.specs.Fitting.{FitsMembers, FitsSite, IsLocal, RunsOn, view_of}

-- ---- what is declared in a frame

-- the site in the behaviour at a position where these names are declared
abbrev pub site_of : ℕ → List Entry → Site
site_of at declared = record { behaviour = at; declared = declared }

-- names that are declared one behind the other, the last one first: each is new, and its type is known
abbrev pub AreDeclared : List Definition → ℕ → List Entry → Type 0
AreDeclared definitions at [] = Unit {0}
AreDeclared definitions at (e ∷ entries) =
    IsLocal e.1 × IsKnown definitions e.1 × ((scope_at definitions (site_of at entries)).names e.0 ≡ None) × AreDeclared definitions at entries

-- one of the names that a declaration of variables declares
abbrev pub DeclaresVariable : Scope → Variables → ℕ → Entry → Type 0
DeclaresVariable scope vs k entry = IsSomeAnd (slice_get vs.variables k) (λ v. entry ≡ (v.name, meaning.Variable (resolved scope.names vs.type_name)))

-- one of the names that a statement declares, with what it stands for
abbrev pub Declares : Scope → ℕ → Does → Entry → Type 0
Declares scope k (Action-F.Variables vs) entry = DeclaresVariable scope vs k entry
Declares scope k (Action-F.For (for_start.Variables vs) condition step block) entry = DeclaresVariable scope vs k entry
Declares scope k (Action-F.Constants cs) entry = IsSomeAnd (slice_get cs.constants k) (λ c. entry ≡ (c.name, meaning.Constant (resolved scope.names cs.type_name)))
Declares scope k (Action-F.Timers timers) entry = IsSomeAnd (slice_get timers k) (λ t. entry ≡ (t.name, meaning.Timer))
Declares scope k _ entry = ⊥

-- ---- what remains in a frame

-- what is declared where the item behind a part of a statement stands, or further in
abbrev pub Leaves : List Definition → Site → Statement → Part → List Entry → Type 0
Leaves definitions site s (Name k) next =
    (entry : Entry) × Declares (scope_at definitions site) k (action_of s) entry × IsKnown definitions entry.1 × (next ≡ entry ∷ site.declared)
Leaves definitions site s _ next = next ≡ site.declared

-- a site in the behaviour at a position, where nothing is declared but these names, or not all of them
abbrev pub StandsIn : ℕ → List Entry → Site → Type 0
StandsIn at declared site = (site.behaviour ≡ at) × IsOutside site.declared declared

-- items that remain where these names are declared: each stands where no others are declared but those that the items before it declare
abbrev pub Nest : List Definition → ℕ → List Entry → List Item → Type 0
Nest definitions at declared [] = Unit {0}
Nest definitions at declared (Doing site s part ∷ items) =
    StandsIn at declared site × ((next : List Entry) × Leaves definitions site s part next × Nest definitions at next items)
Nest definitions at declared (Mark site s ∷ items) = StandsIn at declared site × Nest definitions at site.declared items
Nest definitions at declared (Waiting target ∷ items) = ⊥

-- ---- results

-- a target at a site for values of a type: a variable or a field in one
pub record IsTarget (definitions : List Definition) (site : Site) (target : Target) (t : DataType) : Type 0 where
  pub own : target.own ≡ is_own definitions site target.reference.name
  pub of : DataType
  pub variable : (scope_at definitions site).names target.reference.name ≡ Some (meaning.Variable (Some of))
  pub fields : (along definitions (typing.Known of) target.reference.fields).broken ≡ []
  pub is : (along definitions (typing.Known of) target.reference.fields).typing ≡ typing.Known t
  pub data_type : target.data_type ≡ type_for target.reference.fields (Some of)

-- the type of the result of the behaviour at a position, where it has one
abbrev pub result_of : List Definition → ℕ → Option DataType
result_of definitions at = option_and_then (resolved (module_names definitions)) (result_type_of (kind_at definitions at))

-- what remains in a frame below one that gives this result: where a target waits, the result goes there
abbrev pub Awaits : List Definition → ℕ → Option DataType → List Entry → List Item → Type 0
Awaits definitions at result declared (Waiting target ∷ items) =
    (site : Site) × (t : DataType) × StandsIn at declared site × IsTarget definitions site target t × (result ≡ Some t) × Nest definitions at site.declared items
Awaits definitions at result declared [] = Unit {0}
Awaits definitions at result declared (Doing site s part ∷ items) = Nest definitions at declared (Doing site s part ∷ items)
Awaits definitions at result declared (Mark site s ∷ items) = Nest definitions at declared (Mark site s ∷ items)

-- ---- frames

-- a frame of the behaviour at a position, where these names are declared, on a component of a type: its values and timers are as declared
pub record FitsFrame (definitions : List Definition) (component_type : ℕ) (at : ℕ) (declared : List Entry) (frame : Frame) : Type 0 where
  pub on : RunsOn definitions at component_type
  pub names : AreDeclared definitions at declared
  pub seen : FitsSite definitions (site_of at declared) (view_of frame)

-- the frames below one that gives this result
abbrev pub FitBelow : List Definition → ℕ → Option DataType → List Frame → Type 0
FitBelow definitions component_type result [] = Unit {0}
FitBelow definitions component_type result (frame ∷ frames) =
    (at : ℕ) × (declared : List Entry) × FitsFrame definitions component_type at declared frame × Awaits definitions at result declared frame.remaining × FitBelow definitions component_type (result_of definitions at) frames

-- all frames above frame 0
abbrev pub FitCalls : List Definition → ℕ → List Frame → Type 0
FitCalls definitions component_type [] = Unit {0}
FitCalls definitions component_type (frame ∷ frames) =
    (at : ℕ) × (declared : List Entry) × FitsFrame definitions component_type at declared frame × Nest definitions at declared frame.remaining × FitBelow definitions component_type (result_of definitions at) frames

-- ---- components

-- a default: an altstep that may run on components of this type, with arguments of its parameters' types
pub record FitsDefault (definitions : List Definition) (component_type : ℕ) (d : ActiveDefault) : Type 0 where
  pub kind : is_altstep (kind_at definitions d.altstep) ≡ true
  pub on : RunsOn definitions d.altstep component_type
  pub arguments : AreGiven definitions (parameters_of (kind_at definitions d.altstep)) d.arguments

-- there is a frame above frame 0
abbrev pub HasFrames : List Frame → Type 0
HasFrames [] = ⊥
HasFrames (frame ∷ frames) = Unit {0}

-- the data of a component of a type
pub record FitsOwn (definitions : List Definition) (component_type : ℕ) (own : Data) : Type 0 where
  pub members : FitsMembers definitions component_type (view_of own.members)
  pub calls : FitCalls definitions component_type own.calls
  pub defaults : All (FitsDefault definitions component_type) own.defaults

-- the data of a component of a type, where the component runs: it has a frame above frame 0
pub record FitsData (definitions : List Definition) (component_type : ℕ) (own : Data) : Type 0 where
  pub members : FitsMembers definitions component_type (view_of own.members)
  pub calls : FitCalls definitions component_type own.calls
  pub defaults : All (FitsDefault definitions component_type) own.defaults
  pub frames : HasFrames own.calls

-- a message: its value has a type by itself, is of it and lacks nothing
pub record FitsMessage (definitions : List Definition) (message : Message) : Type 0 where
  pub data_type : DataType
  pub is_typed : type_of message.value ≡ Some data_type
  pub goes : is_of definitions data_type message.value ≡ true
  pub is_whole : is_complete message.value ≡ true

-- the ports are those of the component's type, and the messages that wait fit
pub record FitQueues (definitions : List Definition) (component_type : ℕ) (queues : List Queue) : Type 0 where
  pub ports : map (λ queue. queue.0) queues ≡ flat_map ports_of (members_of (kind_at definitions component_type))
  pub messages : All (λ queue. All (FitsMessage definitions) queue.1) queues

-- a component
pub record FitsComponent (definitions : List Definition) (component : Component) : Type 0 where
  pub own : FitsOwn definitions component.itself.component_type component.own
  pub running : is_running_state component.state ≡ true → HasFrames component.own.calls
  pub queues : FitQueues definitions component.itself.component_type component.queues

-- the values of a test case that goes on are of their types; one that ended has none
abbrev pub FitsTypes : Test → Configuration → Type 0
FitsTypes test (Ended v) = Unit {0}
FitsTypes test (Goes c) = All (FitsComponent test.definitions) c.components
