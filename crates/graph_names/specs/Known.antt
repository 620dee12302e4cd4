-- The names that steps change or declare, and those of ports that they name: code gives each of them a slot.
use Rattle.std.specs.Prelude.{ℕ, List, [], ◌∷◌, ◌++◌, map, Option, Some, None, Contains}
use Rattle.std.specs.List.{flat_map, slice_get}
use Rattle.std.specs.Option.{option_map}
use Rattle.ttcn_syntax.specs.declared.tree.definition.DefinitionKind.{DefinitionKind}
use Rattle.ttcn_syntax.specs.declared.tree.definition.DefinitionKind.TheVariants as kind
use Rattle.ttcn_syntax.specs.declared.tree.definition.Member.{Member}
use Rattle.ttcn_syntax.specs.declared.tree.definition.Member.TheVariants as member
use Rattle.ttcn_syntax.specs.declared.tree.expression.ComponentRef.{ComponentRef}
use Rattle.ttcn_syntax.specs.declared.tree.expression.ComponentRef.TheVariants as component
use Rattle.ttcn_syntax.specs.declared.tree.expression.Reference.{Reference}
use Rattle.ttcn_syntax.specs.declared.tree.statement.Action.{Action}
use Rattle.ttcn_syntax.specs.declared.tree.statement.Action.TheOpen.{Action-F, Alternative-F}
use Rattle.ttcn_syntax.specs.declared.tree.statement.Alternative.{Alternative, out-Alternative}
use Rattle.ttcn_syntax.specs.declared.tree.statement.Assignment.{Assignment}
use Rattle.ttcn_syntax.specs.declared.tree.statement.Branch.{Branch, out-Branch}
use Rattle.ttcn_syntax.specs.declared.tree.statement.Conditional.{Conditional}
use Rattle.ttcn_syntax.specs.declared.tree.statement.Event.{Event}
use Rattle.ttcn_syntax.specs.declared.tree.statement.Event.TheVariants as event
use Rattle.ttcn_syntax.specs.declared.tree.statement.ForStart.{ForStart}
use Rattle.ttcn_syntax.specs.declared.tree.statement.ForStart.TheVariants as for_start
use Rattle.ttcn_syntax.specs.declared.tree.statement.Statement.{Statement}
use Rattle.semantics.specs.Items.{Does, Doing, From, Item, Last, Loop, Mark, Name, Part, Start, Waiting, Whole, action_of}

-- names
abbrev pub Known : Type 0
Known = List (List ℕ)

-- ---- statements

-- the name of a reference, where there is one
abbrev pub names_of_reference : Option Reference → Known
names_of_reference None = []
names_of_reference (Some reference) = reference.name ∷ []

-- the names in an event: those that the redirects of a receive store to, or the timer of a timeout
abbrev pub names_of_event : Event → Known
names_of_event (event.Receive receive) = names_of_reference receive.value ++ names_of_reference receive.sender
names_of_event (event.Timeout name) = name ∷ []
names_of_event (event.Done reference) = []
names_of_event event.AllDone = []

-- the names in the event of an alternative: a call and `else` have none
abbrev pub names_of_alternative : Alternative-F Action Alternative Branch Conditional Statement → Known
names_of_alternative (Alternative-F.«Alternative::Event» guard event block) = names_of_event event
names_of_alternative (Alternative-F.«Alternative::Call» guard call block) = []
names_of_alternative (Alternative-F.Else block) = []

-- the names in the event of a branch
abbrev pub names_of_branch : Branch → Known
names_of_branch b = names_of_alternative (out-Alternative (out-Branch b).alternative)

-- the name in a reference to a component: `self` and `mtc` have none
abbrev pub names_of_component : ComponentRef → Known
names_of_component component.Itself = []
names_of_component component.Mtc = []
names_of_component (component.Named reference) = reference.name ∷ []

-- the names that a whole statement stores to, sets as a timer or names as a port: a declaration is done name by name, and a `for` part by part
abbrev pub names_of_whole : Does → Known
names_of_whole (Action-F.Variables vs) = []
names_of_whole (Action-F.Constants cs) = []
names_of_whole (Action-F.Timers timers) = []
names_of_whole (Action-F.Assign a) = a.target.name ∷ []
names_of_whole (Action-F.«Action::Call» call) = []
names_of_whole (Action-F.«Action::Event» event) = names_of_event event
names_of_whole (Action-F.Alt branches) = flat_map names_of_branch branches
names_of_whole Action-F.Repeat = []
names_of_whole (Action-F.If conditionals last) = []
names_of_whole (Action-F.While condition block) = []
names_of_whole (Action-F.DoWhile block condition) = []
names_of_whole (Action-F.For start condition step block) = []
names_of_whole (Action-F.Return v) = []
names_of_whole Action-F.Stop = []
names_of_whole (Action-F.Log logged) = []
names_of_whole (Action-F.Setverdict verdict reasons) = []
names_of_whole (Action-F.Connect one other) = one.port ∷ other.port ∷ []
names_of_whole (Action-F.Map m) = m.port.port ∷ m.system_port ∷ []
names_of_whole (Action-F.Send send) = send.port ∷ []
names_of_whole (Action-F.StartComponent reference call) = []
names_of_whole (Action-F.StartTimer name) = name ∷ []
names_of_whole (Action-F.StopOf reference) = names_of_component reference
names_of_whole (Action-F.Activate call) = []
names_of_whole (Action-F.Deactivate reference) = []

-- the name that a `for` declares at a place, where it begins with variables
abbrev pub name_at_start : ForStart → ℕ → Option (List ℕ)
name_at_start (for_start.Variables vs) k = option_map (λ v. v.name) (slice_get vs.variables k)
name_at_start (for_start.Assign a) k = None

-- the name that a statement declares at a place
abbrev pub name_declared : Does → ℕ → Option (List ℕ)
name_declared (Action-F.Variables vs) k = option_map (λ v. v.name) (slice_get vs.variables k)
name_declared (Action-F.Constants cs) k = option_map (λ c. c.name) (slice_get cs.constants k)
name_declared (Action-F.Timers timers) k = option_map (λ t. t.name) (slice_get timers k)
name_declared (Action-F.For start condition step block) k = name_at_start start k
name_declared _ k = None

-- the assignment that a `for` begins with, if it begins with one
abbrev pub assignment_at_start : ForStart → Option Assignment
assignment_at_start (for_start.Variables vs) = None
assignment_at_start (for_start.Assign a) = Some a

-- the assignment that a statement begins with, where it is a `for` that begins with one
abbrev pub first_assignment : Does → Option Assignment
first_assignment (Action-F.For start condition step block) = assignment_at_start start
first_assignment _ = None

-- the one behind the block of a `for`
abbrev pub last_assignment : Does → Option Assignment
last_assignment (Action-F.For start condition step block) = Some step
last_assignment _ = None

-- a name, where there is one
abbrev pub names_if_any : Option (List ℕ) → Known
names_if_any None = []
names_if_any (Some name) = name ∷ []

-- the name that an assignment stores to, where there is one
abbrev pub names_of_assignment : Option Assignment → Known
names_of_assignment None = []
names_of_assignment (Some a) = a.target.name ∷ []

-- the names in a part of a statement
abbrev pub names_of_part : Does → Part → Known
names_of_part does Whole = names_of_whole does
names_of_part does (Name k) = names_if_any (name_declared does k)
names_of_part does (From k) = []
names_of_part does Start = names_of_assignment (first_assignment does)
names_of_part does Loop = []
names_of_part does Last = names_of_assignment (last_assignment does)

-- the names in the first of remaining items
abbrev pub names_of : List Item → Known
names_of [] = []
names_of (Doing site s part ∷ rest) = names_of_part (action_of s) part
names_of (Mark site s ∷ rest) = []
names_of (Waiting target ∷ rest) = target.reference.name ∷ []

-- ---- definitions

-- the names that a member of a component type declares
abbrev pub names_of_member : Member → Known
names_of_member (member.Ports port_type ports) = ports
names_of_member (member.Constants cs) = map (λ c. c.name) cs.constants
names_of_member (member.Variables of variables) = map (λ v. v.name) variables
names_of_member (member.Timers timers) = map (λ t. t.name) timers

-- the parameters of a function or an altstep, what the branches of an altstep store to, and what a component type declares
abbrev pub names_of_kind : Option DefinitionKind → Known
names_of_kind (Some (kind.Function f)) = map (λ p. p.name) f.parameters
names_of_kind (Some (kind.Altstep a)) = map (λ p. p.name) a.parameters ++ flat_map names_of_branch a.branches
names_of_kind (Some (kind.Component c)) = flat_map names_of_member c.members
names_of_kind _ = []

-- each of these names is among the names that have slots
abbrev pub AreKnown : Known → Known → Type 0
AreKnown names of = (name : List ℕ) → Contains of name → Contains names name
