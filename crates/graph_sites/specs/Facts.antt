-- What is known of names where statements stand: what is stored in them, and types (ES 201 873-1, 5.2, 19.1 and 22.2).
use Rattle.std.specs.Prelude.{ℕ, Bool, false, List, [], ◌∷◌, map, Option, None}
use Rattle.std.specs.Option.{option_map}
use Rattle.ttcn_syntax.specs.declared.tree.definition.Definition.{Definition}
use Rattle.ttcn_syntax.specs.declared.tree.expression.Reference.{Reference}
use Rattle.ttcn_syntax.specs.declared.tree.statement.Action.{Action}
use Rattle.ttcn_syntax.specs.declared.tree.statement.Action.TheOpen.{Action-F, Alternative-F}
use Rattle.ttcn_syntax.specs.declared.tree.statement.Alternative.{Alternative, out-Alternative}
use Rattle.ttcn_syntax.specs.declared.tree.statement.Assignment.{Assignment}
use Rattle.ttcn_syntax.specs.declared.tree.statement.Branch.{Branch, out-Branch}
use Rattle.ttcn_syntax.specs.declared.tree.statement.Conditional.{Conditional}
use Rattle.ttcn_syntax.specs.declared.tree.statement.Event.{Event}
use Rattle.ttcn_syntax.specs.declared.tree.statement.Event.TheVariants as event
use Rattle.ttcn_syntax.specs.declared.tree.statement.ForStart.{ForStart}
use Rattle.ttcn_syntax.specs.declared.tree.statement.ForStart.TheVariants as for_start
use Rattle.ttcn_syntax.specs.declared.tree.statement.Statement.{Statement}
use Rattle.check_rules.specs.Targets.{target_at}
use Rattle.check_scope.specs.Names.{kind_at, resolved}
use Rattle.check_scope.specs.declared.types.DataType.{DataType}
use Rattle.check_rules.specs.Messages.{incoming, received_type}
use Rattle.semantics.specs.Branches.{branches_of}
use Rattle.semantics.specs.Items.{Does, Doing, From, Item, Last, Loop, Mark, Name, Part, Start, Target, Waiting, Whole, action_of}
use Rattle.semantics.specs.Sites.{Site, beginning, is_own, scope_at}
use Rattle.semantics.specs.Statements.{name_in, sent_type}
use Rattle.semantics.specs.Storing.{type_for, type_of_name}
use Rattle.graph_items.specs.Standing.{target_of}
use Rattle.graph_sites.specs.declared.facts.EventFacts as code_event
use Rattle.graph_sites.specs.declared.facts.Facts as code_facts
use Rattle.graph_sites.specs.declared.facts.Facts.TheVariants as code
use Rattle.graph_sites.specs.declared.facts.Goal as code_goal

-- ---- what is known

-- where a value goes: what it is stored in, and the type that is wanted there
pub record Goal : Type 0 where
  pub target : Target
  pub wanted : Option DataType

-- what is known of an event: the type of the message received, where a template determines it; where value and sender go; whether its timer is the frame's own
pub record EventFacts : Type 0 where
  pub received : Option DataType
  pub value : Option Goal
  pub sender : Option Goal
  pub own : Bool

-- what is known where a part of a statement stands: where values go, of what type, and whose its timer is
pub data Facts : Type 0 where
  Nothing : Facts
  -- where an assignment stores a value
  Stores : Goal → Facts
  -- the type of what is declared
  Declares : Option DataType → Facts
  -- the type of the message that is sent
  Sends : Option DataType → Facts
  -- whether a timer is the frame's own
  Sets : Bool → Facts
  -- the events of the branches, in their order
  Waits : List EventFacts → Facts

-- ---- goals

-- what a reference at a site means as a target
abbrev pub target_in : List Definition → Site → Reference → Target
target_in definitions site reference = record {
  own = is_own definitions site reference.name;
  reference = reference;
  data_type = type_for reference.fields (type_of_name (scope_at definitions site) reference.name);
}

-- where a value goes that is stored in what a reference at a site means
abbrev pub goal_at : List Definition → Site → Reference → Goal
goal_at definitions site reference = record {
  target = target_in definitions site reference;
  wanted = (target_at (scope_at definitions site) reference).data_type;
}

-- where a redirect at a site stores to, where there is one
abbrev pub goal_if_any : List Definition → Site → Option Reference → Option Goal
goal_if_any definitions site reference = option_map (goal_at definitions site) reference

-- ---- events

-- nothing is known
abbrev pub no_event : EventFacts
no_event = record { received = None; value = None; sender = None; own = false }

-- what is known of an event at a site
abbrev pub event_facts : List Definition → Site → Event → EventFacts
event_facts definitions site (event.Receive receive) = record {
  received = received_type (scope_at definitions site) (incoming (scope_at definitions site) receive.port) receive.message;
  value = goal_if_any definitions site receive.value;
  sender = goal_if_any definitions site receive.sender;
  own = false;
}
event_facts definitions site (event.Timeout name) = record { received = None; value = None; sender = None; own = is_own definitions site name }
event_facts definitions site (event.Done reference) = no_event
event_facts definitions site event.AllDone = no_event

-- what is known of the event of an alternative: nothing of a call and of `else`, which have none
abbrev pub alternative_facts : List Definition → Site → Alternative-F Action Alternative Branch Conditional Statement → EventFacts
alternative_facts definitions site (Alternative-F.«Alternative::Event» guard event block) = event_facts definitions site event
alternative_facts definitions site (Alternative-F.«Alternative::Call» guard call block) = no_event
alternative_facts definitions site (Alternative-F.Else block) = no_event

-- what is known of the event of a branch at a site
abbrev pub branch_facts : List Definition → Site → Branch → EventFacts
branch_facts definitions site b = alternative_facts definitions site (out-Alternative (out-Branch b).alternative)

-- what is known of the events of the branches of the altstep at a position
abbrev pub altstep_facts : List Definition → ℕ → List EventFacts
altstep_facts definitions at = map (branch_facts definitions (beginning at)) (branches_of (kind_at definitions at))

-- ---- statements

-- what is known of the assignment that a `for` begins with: nothing where it begins with variables
abbrev pub start_facts : List Definition → Site → ForStart → Facts
start_facts definitions site (for_start.Variables vs) = Nothing
start_facts definitions site (for_start.Assign a) = Stores (goal_at definitions site a.target)

-- what is known of the variables that a `for` begins with: nothing where it begins with an assignment
abbrev pub start_name_facts : List Definition → Site → ForStart → Facts
start_name_facts definitions site (for_start.Variables vs) = Declares (resolved (scope_at definitions site).names vs.type_name)
start_name_facts definitions site (for_start.Assign a) = Nothing

-- what is known of a part of a `for`, by what it begins with and the assignment behind its block
abbrev pub for_facts : List Definition → Site → ForStart → Assignment → Part → Facts
for_facts definitions site start step Whole = Nothing
for_facts definitions site start step (Name k) = start_name_facts definitions site start
for_facts definitions site start step (From k) = Nothing
for_facts definitions site start step Start = start_facts definitions site start
for_facts definitions site start step Loop = Nothing
for_facts definitions site start step Last = Stores (goal_at definitions site step.target)

-- what is known of a part of a statement that does this
abbrev pub facts_of_part : List Definition → Site → Part → Does → Facts
facts_of_part definitions site part (Action-F.Variables vs) = Declares (resolved (scope_at definitions site).names vs.type_name)
facts_of_part definitions site part (Action-F.Constants cs) = Declares (resolved (scope_at definitions site).names cs.type_name)
facts_of_part definitions site part (Action-F.Timers timers) = Nothing
facts_of_part definitions site part (Action-F.Assign a) = Stores (goal_at definitions site a.target)
facts_of_part definitions site part (Action-F.«Action::Call» call) = Nothing
facts_of_part definitions site part (Action-F.«Action::Event» event) = Waits (event_facts definitions site event ∷ [])
facts_of_part definitions site part (Action-F.Alt branches) = Waits (map (branch_facts definitions site) branches)
facts_of_part definitions site part Action-F.Repeat = Nothing
facts_of_part definitions site part (Action-F.If conditionals last) = Nothing
facts_of_part definitions site part (Action-F.While condition block) = Nothing
facts_of_part definitions site part (Action-F.DoWhile block condition) = Nothing
facts_of_part definitions site part (Action-F.For start condition step block) = for_facts definitions site start step part
facts_of_part definitions site part (Action-F.Return v) = Nothing
facts_of_part definitions site part Action-F.Stop = Nothing
facts_of_part definitions site part (Action-F.Log logged) = Nothing
facts_of_part definitions site part (Action-F.Setverdict verdict reasons) = Nothing
facts_of_part definitions site part (Action-F.Connect one other) = Nothing
facts_of_part definitions site part (Action-F.Map m) = Nothing
facts_of_part definitions site part (Action-F.Send send) = Sends (sent_type (scope_at definitions site) send)
facts_of_part definitions site part (Action-F.StartComponent reference call) = Nothing
facts_of_part definitions site part (Action-F.StartTimer name) = Sets (is_own definitions site name)
facts_of_part definitions site part (Action-F.StopOf reference) = Sets (is_own definitions site (name_in reference))
facts_of_part definitions site part (Action-F.Activate call) = Nothing
facts_of_part definitions site part (Action-F.Deactivate reference) = Nothing

-- what is known where the first of remaining items stands
abbrev pub facts_of : List Definition → List Item → Facts
facts_of definitions [] = Nothing
facts_of definitions (Doing site s part ∷ rest) = facts_of_part definitions site part (action_of s)
facts_of definitions (Mark site s ∷ rest) = Nothing
facts_of definitions (Waiting target ∷ rest) = Nothing

-- ---- what code keeps of it

-- what a goal of the code stands for
abbrev pub goal_by : code_goal.Goal → Goal
goal_by goal = record { target = target_of goal.target; wanted = goal.wanted }

-- what the code's facts of an event stand for
abbrev pub event_by : code_event.EventFacts → EventFacts
event_by facts = record {
  received = facts.received;
  value = option_map goal_by facts.value;
  sender = option_map goal_by facts.sender;
  own = facts.own;
}

-- what the code's facts of a part of a statement stand for
abbrev pub facts_by : code_facts.Facts → Facts
facts_by code.Nothing = Nothing
facts_by (code.Stores goal) = Stores (goal_by goal)
facts_by (code.Declares of) = Declares of
facts_by (code.Sends of) = Sends of
facts_by (code.Sets own) = Sets own
facts_by (code.Waits events) = Waits (map event_by events)
