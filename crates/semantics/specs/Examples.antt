-- Worked examples of the rules: what single statements do, and where runs start.
use Rattle.std.specs.Prelude.{◌≡◌, ℕ, Bool, true, false, List, [], ◌∷◌, ◌++◌, Some, None, length, nat_lt, slice_get}
use Rattle.std.specs.List.{list_any}
use Rattle.ttcn_syntax.specs.declared.tree.definition.DefinitionKind.TheVariants as kind
use Rattle.ttcn_syntax.specs.declared.tree.definition.Member.TheVariants as member
use Rattle.ttcn_syntax.specs.declared.tree.definition.Testcase.{Testcase}
use Rattle.ttcn_syntax.specs.declared.tree.expression.ComponentRef.{ComponentRef}
use Rattle.ttcn_syntax.specs.declared.tree.statement.Action.TheOpen.{Action-F, Alternative-F}
use Rattle.ttcn_syntax.specs.declared.tree.statement.Alternative.{out-Alternative}
use Rattle.ttcn_syntax.specs.declared.tree.statement.Branch.{Branch, out-Branch}
use Rattle.ttcn_syntax.specs.declared.tree.statement.Event.TheVariants as event
use Rattle.ttcn_syntax.specs.declared.tree.statement.LogItem.{LogItem}
use Rattle.ttcn_syntax.specs.declared.tree.statement.PortRef.{PortRef}
use Rattle.ttcn_syntax.specs.declared.tree.statement.Send.{Send}
use Rattle.ttcn_syntax.specs.declared.tree.statement.Statement.{Statement}
use Rattle.ttcn_syntax.specs.declared.tree.statement.Variable.{Variable}
use Rattle.ttcn_syntax.specs.declared.tree.statement.Variables.{Variables}
use Rattle.ttcn_syntax.specs.declared.tree.value.Rhs.TheVariants as rhs
use Rattle.ttcn_syntax.specs.declared.tree.statement.Verdict.{Verdict}
use Rattle.ttcn_syntax.specs.declared.tree.statement.Verdict.TheVariants as verdict
use Rattle.check_scope.specs.Names.{component_meant, kind_at, members_of, module_names}
use Rattle.semantics.specs.Branches.{branches_of, frame_with}
use Rattle.semantics.specs.Configurations.{ActiveDefault, Component, Connection, Data, Frame, Goes, Going, Message, Running}
use Rattle.semantics.specs.Creating.{child_of, empty_frame, empty_queues, new_component}
use Rattle.semantics.specs.Entries.{put, without}
use Rattle.semantics.specs.Items.{Doing, Item, Mark, Name, Waiting, Whole, action_of, items}
use Rattle.semantics.specs.Runs.{start}
use Rattle.semantics.specs.Sites.{Site, beginning, scope_at}
use Rattle.semantics.specs.Snapshots.{Snapshot, Test, is_terminated_in, last_view, mtc_of, reading_in, snapshot_of}
use Rattle.semantics.specs.Statements.{Continues, Creates, Requests, Stand, Waits, Worsens, act, component_meant_at, may_connect, most, sent_type, sent_value, with_child}
use Rattle.semantics.specs.Steps.{Expiry, Statement as OfStatement, step}
use Rattle.semantics.specs.Storing.{with_calls, with_remaining, with_timers, with_values}
use Rattle.semantics.specs.Taking.{uncovered}
use Rattle.value_types.specs.Frames.{is_running}
use Rattle.value_types.specs.Outcomes.{Yields}
use Rattle.value_types.specs.Readings.{component_referred}
use Rattle.value_types.specs.declared.frame.TimerState.{TimerState}
use Rattle.value_types.specs.declared.frame.TimerState.TheVariants as timer
use Rattle.value_types.specs.declared.path.Path.{Path}
use Rattle.value_types.specs.declared.value.ComponentId.{ComponentId}
use Rattle.value_types.specs.declared.value.Value.{Value}
use Rattle.value_types.specs.declared.value.Value.TheVariants as value

-- a component's data with a frame as the last one, in which this remains
abbrev pub with_last : Data → Frame → List Frame → List Item → Data
with_last own frame below remaining = with_calls (with_remaining remaining frame ∷ below) own

-- `setverdict(v)`: the verdict gets no better, and the statement is done
abbrev pub SetsVerdict : Type 0
SetsVerdict = (test : Test) (snapshot : Snapshot) (own : Data) (frame : Frame) (below : List Frame)
    → (site : Site) (s : Statement) (rest : List Item) (v : Verdict) (reasons : List LogItem) → action_of s ≡ Action-F.Setverdict v reasons
    → act test snapshot (with_last own frame below (Doing site s Whole ∷ rest)) ≡ Requests (Worsens v) (with_last own frame below rest)

-- a branch with `else`: its block, and the mark behind it
abbrev pub TakesElse : Type 0
TakesElse = (test : Test) (snapshot : Snapshot) (own : Data) (frame : Frame) (below : List Frame)
    → (site : Site) (s : Statement) (rest : List Item) (b : Branch) (block : List Statement)
    → action_of s ≡ Action-F.Alt (b ∷ []) → out-Alternative (out-Branch b).alternative ≡ Alternative-F.Else block → nat_lt (length (frame ∷ below)) most ≡ true
    → act test snapshot (with_last own frame below (Doing site s Whole ∷ rest)) ≡ Requests Continues (with_last own frame below (items test.definitions site block ++ Mark site s ∷ rest))

-- an `alt` without branches, and one default with an `else`, where one more frame is allowed: its block in a frame of its own, the mark in the frame with the `alt`
abbrev pub TakesDefault : Type 0
TakesDefault = (test : Test) (snapshot : Snapshot) (own : Data) (frame : Frame) (below : List Frame)
    → (site : Site) (s : Statement) (rest : List Item) (d : ActiveDefault) (b : Branch) (block : List Statement)
    → action_of s ≡ Action-F.Alt [] → own.defaults ≡ d ∷ [] → branches_of (kind_at test.definitions d.altstep) ≡ b ∷ [] → out-Alternative (out-Branch b).alternative ≡ Alternative-F.Else block
    → nat_lt (length (frame ∷ frame ∷ below)) most ≡ true
    → act test snapshot (with_last own frame below (Doing site s Whole ∷ rest))
    ≡ Requests Continues (with_calls (frame_with test.definitions d.altstep d.arguments (items test.definitions (beginning d.altstep) block) ∷ with_remaining (Mark site s ∷ rest) frame ∷ below) own)

-- an item is a mark
abbrev pub is_mark : Item → Bool
is_mark (Doing site s part) = false
is_mark (Mark site s) = true
is_mark (Waiting target) = false

-- none of these items is a mark
abbrev pub HasNoMark : List Item → Type 0
HasNoMark items = list_any is_mark items ≡ false

-- `repeat` in the block of a branch: what stands in front of the mark is skipped, and the `alt` is put back
abbrev pub Repeats : Type 0
Repeats = (test : Test) (snapshot : Snapshot) (own : Data) (frame : Frame) (below : List Frame)
    → (site inner : Site) (s r : Statement) (between rest : List Item) → action_of r ≡ Action-F.Repeat → HasNoMark between
    → act test snapshot (with_last own frame below (Doing inner r Whole ∷ (between ++ Mark site s ∷ rest))) ≡ Requests Continues (with_last own frame below (Doing site s Whole ∷ rest))

-- `repeat` and one more statement, in an `alt` in the block of a branch of another `alt`: the statement is skipped, the inner `alt` is put back, and the mark of the outer one stays
abbrev pub RepeatsInner : Type 0
RepeatsInner = (test : Test) (snapshot : Snapshot) (own : Data) (frame : Frame) (below : List Frame)
    → (site inner outer : Site) (s r other around : Statement) (rest : List Item) → action_of r ≡ Action-F.Repeat
    → act test snapshot (with_last own frame below (Doing inner r Whole ∷ Doing inner other Whole ∷ Mark site s ∷ Mark outer around ∷ rest))
    ≡ Requests Continues (with_last own frame below (Doing site s Whole ∷ Mark outer around ∷ rest))

-- `repeat` in the block of an altstep's branch: the altstep's frame goes with what remains in it, what stands in front of the mark below is skipped, and the `alt` is put back in the frame that has its mark
abbrev pub RepeatsOutside : Type 0
RepeatsOutside = (test : Test) (snapshot : Snapshot) (own : Data) (frame : Frame) (below : List Frame)
    → (site inner : Site) (s r : Statement) (behind between rest : List Item) (outer : Frame) → action_of r ≡ Action-F.Repeat → HasNoMark behind → HasNoMark between
    → act test snapshot (with_calls (with_remaining (Doing inner r Whole ∷ behind) frame ∷ with_remaining (between ++ Mark site s ∷ rest) outer ∷ below) own)
    ≡ Requests Continues (with_calls (with_remaining (Doing site s Whole ∷ rest) outer ∷ below) own)

-- `c.done` outside of an `alt`, where the component is terminated: it is done and leaves a mark, which goes within the same step (`uncovered`)
abbrev pub TakesDone : Type 0
TakesDone = (test : Test) (snapshot : Snapshot) (own : Data) (frame : Frame) (below : List Frame)
    → (site : Site) (s : Statement) (rest : List Item) (reference : ComponentRef) (c : ComponentId) → action_of s ≡ Action-F.«Action::Event» (event.Done reference)
    → component_referred (reading_in test snapshot own site (last_view snapshot frame)) reference ≡ Yields c → is_terminated_in snapshot c.path ≡ true
    → nat_lt (length (frame ∷ below)) most ≡ true
    → act test snapshot (with_last own frame below (Doing site s Whole ∷ rest)) ≡ Requests Continues (with_last own frame below (Mark site s ∷ rest))

-- `c.done` outside of an `alt`, where the component is not terminated and no default is active: there is no step
abbrev pub AwaitsDone : Type 0
AwaitsDone = (test : Test) (snapshot : Snapshot) (own : Data) (frame : Frame) (below : List Frame)
    → (site : Site) (s : Statement) (rest : List Item) (reference : ComponentRef) (c : ComponentId) → action_of s ≡ Action-F.«Action::Event» (event.Done reference)
    → component_referred (reading_in test snapshot own site (last_view snapshot frame)) reference ≡ Yields c → is_terminated_in snapshot c.path ≡ false
    → own.defaults ≡ []
    → act test snapshot (with_last own frame below (Doing site s Whole ∷ rest)) ≡ Waits

-- `var C c := C.create`, of a type with nothing but ports: a created component, whose reference the name has
abbrev pub CreatesComponent : Type 0
CreatesComponent = (test : Test) (snapshot : Snapshot) (own : Data) (frame : Frame) (below : List Frame)
    → (site : Site) (s : Statement) (rest : List Item) (vs : Variables) (v : Variable) (name port_type : List ℕ) (ports : List (List ℕ)) (at : ℕ)
    → action_of s ≡ Action-F.Variables vs → slice_get vs.variables 0 ≡ Some v → v.value ≡ Some (rhs.Create name)
    → component_meant (module_names test.definitions name) ≡ Some at → nat_lt own.children most ≡ true
    → members_of (kind_at test.definitions at) ≡ member.Ports port_type ports ∷ []
    → act test snapshot (with_last own frame below (Doing site s (Name 0) ∷ rest))
    ≡ Requests (Creates (new_component test (record { path = child_of snapshot.itself own.children; component_type = at }) empty_frame))
    (with_child (with_calls (with_values (put v.name (value.Component (record { path = child_of snapshot.itself own.children; component_type = at })) (without v.name frame.values))
    (with_timers (without v.name frame.timers) (with_remaining rest frame)) ∷ below) own))

-- the start of a test case on a component type with nothing but ports: the MTC runs, with the body as frame 1
abbrev pub StartsTheTest : Type 0
StartsTheTest = (test : Test) (t : Testcase) (port_type : List ℕ) (ports : List (List ℕ)) → kind_at test.definitions test.testcase ≡ Some (kind.Testcase t)
    → members_of (kind_at test.definitions (mtc_of test).component_type) ≡ member.Ports port_type ports ∷ []
    → start test ≡ Goes (record {
      components = record {
        itself = mtc_of test;
        own = record { members = empty_frame; calls = record { remaining = items test.definitions (beginning test.testcase) t.body; values = []; timers = [] } ∷ []; defaults = []; activations = 0; children = 0 };
        state = Running;
        verdict = verdict.None;
        queues = empty_queues test.definitions (mtc_of test).component_type;
      } ∷ [];
      connections = [];
      mappings = [];
      delivered = [];
      forgotten = verdict.None;
    })

-- ---- two components

-- the path of the MTC
abbrev pub mtc_path : Path
mtc_path = record { numbers = [] }

-- the path of the first component that the MTC created
abbrev pub child_path : Path
child_path = record { numbers = 1 ∷ [] }

-- the port `p`
abbrev pub port_name : List ℕ
port_name = 112 ∷ []

-- the timer `t`
abbrev pub timer_name : List ℕ
timer_name = 116 ∷ []

-- a running component of a type with one port, at which these messages wait
abbrev pub running_at : Path → ℕ → Data → List Message → Component
running_at path of own waiting = record { itself = record { path = path; component_type = of }; own = own; state = Running; verdict = verdict.None; queues = (port_name, waiting) ∷ [] }

-- the MTC and the first component that it created, at whose port these messages wait, and connections
abbrev pub two_running : ℕ → Data → Data → List Message → List Connection → Going
two_running of own other waiting connections = record { components = running_at mtc_path of own [] ∷ running_at child_path of other waiting ∷ []; connections = connections; mappings = []; delivered = []; forgotten = verdict.None }

-- the ports of the MTC and of the first component that it created, connected
abbrev pub linked : Connection
linked = record { one = record { component = mtc_path; port = port_name }; other = record { component = child_path; port = port_name } }

-- where the MTC stands that has these data, with this last frame in which the rest remains behind the first item
abbrev pub mtc_stand : Test → Going → ℕ → Data → Frame → List Frame → Item → List Item → Stand
mtc_stand test c of own frame below item rest = record {
  test = test;
  snapshot = snapshot_of c (running_at mtc_path of (with_last own frame below (item ∷ rest)) []);
  own = with_last own frame below (item ∷ rest);
  frame = with_remaining (item ∷ rest) frame;
  below = below;
  rest = rest;
}

-- `p.send(v)` on the MTC, whose port is connected to that of the other component alone: the message goes behind those that wait there
abbrev pub SendsBehind : Type 0
SendsBehind = (test : Test) (of : ℕ) (own other : Data) (frame : Frame) (below : List Frame) (waiting : List Message)
    → (site : Site) (s : Statement) (rest : List Item) (send : Send) (v : Value) → action_of s ≡ Action-F.Send send → send.port ≡ port_name → send.to ≡ None
    → sent_value (mtc_stand test (two_running of (with_last own frame below (Doing site s Whole ∷ rest)) other waiting (linked ∷ [])) of own frame below (Doing site s Whole) rest) site send
    (sent_type (scope_at test.definitions site) send) ≡ Yields v
    → step test (Goes (two_running of (with_last own frame below (Doing site s Whole ∷ rest)) other waiting (linked ∷ []))) (OfStatement mtc_path)
    ≡ Some (Yields (Goes (two_running of (uncovered (with_last own frame below rest)) other (waiting ++ record { value = v; sender = Some (record { path = mtc_path; component_type = of }) } ∷ []) (linked ∷ []))))

-- `connect(c:p, self:p)` on the MTC, where the ports may be connected: they are, and the end at the MTC comes first
abbrev pub ConnectsPorts : Type 0
ConnectsPorts = (test : Test) (of : ℕ) (own other : Data) (frame : Frame) (below : List Frame) (waiting : List Message)
    → (site : Site) (s : Statement) (rest : List Item) (one two : PortRef) → action_of s ≡ Action-F.Connect one two → one.port ≡ port_name → two.port ≡ port_name
    → component_meant_at (mtc_stand test (two_running of (with_last own frame below (Doing site s Whole ∷ rest)) other waiting []) of own frame below (Doing site s Whole) rest) site one.component
    ≡ Yields (record { path = child_path; component_type = of })
    → component_meant_at (mtc_stand test (two_running of (with_last own frame below (Doing site s Whole ∷ rest)) other waiting []) of own frame below (Doing site s Whole) rest) site two.component
    ≡ Yields (record { path = mtc_path; component_type = of })
    → may_connect test.definitions (record { path = child_path; component_type = of }) port_name (record { path = mtc_path; component_type = of }) port_name ≡ true
    → step test (Goes (two_running of (with_last own frame below (Doing site s Whole ∷ rest)) other waiting [])) (OfStatement mtc_path)
    ≡ Some (Yields (Goes (two_running of (uncovered (with_last own frame below rest)) other waiting (linked ∷ []))))

-- the expiry of a timer that runs in frame 1, where frame 2 is the last: the timer is expired, and all else stays
abbrev pub Expires : Type 0
Expires = (test : Test) (of : ℕ) (own other : Data) (last first : Frame) (waiting : List Message) (connections : List Connection)
    → step test (Goes (two_running of (with_calls (last ∷ with_timers ((timer_name, timer.Running) ∷ []) first ∷ []) own) other waiting connections)) (Expiry mtc_path 1 timer_name)
    ≡ Some (Yields (Goes (two_running of (with_calls (last ∷ with_timers ((timer_name, timer.Expired) ∷ []) first ∷ []) own) other waiting connections)))

-- a timer that doesn't run has no expiry
abbrev pub StaysQuiet : Type 0
StaysQuiet = (test : Test) (of : ℕ) (own other : Data) (last first : Frame) (state : TimerState) (waiting : List Message) (connections : List Connection) → is_running state ≡ false
    → step test (Goes (two_running of (with_calls (last ∷ with_timers ((timer_name, state) ∷ []) first ∷ []) own) other waiting connections)) (Expiry mtc_path 1 timer_name) ≡ None
