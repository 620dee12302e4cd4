-- Worked examples of the rules: what single statements do.
use Rattle.std.proofs.Common.{◌≡◌, ℕ, true, false, List, [], ◌∷◌, ◌++◌, map, Some, None, option_map, refl, ap, ◌∙◌, length, nat_lt, if◌then◌else◌, slice_get}
use Rattle.std.specs.List.{flat_map}
use Rattle.ttcn_syntax.specs.declared.tree.definition.DefinitionKind.TheVariants as kind
use Rattle.ttcn_syntax.specs.declared.tree.definition.Member.TheVariants as member
use Rattle.ttcn_syntax.specs.declared.tree.definition.Testcase.{Testcase}
use Rattle.ttcn_syntax.specs.declared.tree.expression.ComponentRef.{ComponentRef}
use Rattle.ttcn_syntax.specs.declared.tree.statement.Action.TheOpen.{Action-F, Alternative-F}
use Rattle.ttcn_syntax.specs.declared.tree.statement.Alternative.{out-Alternative}
use Rattle.ttcn_syntax.specs.declared.tree.statement.Branch.{Branch, out-Branch}
use Rattle.ttcn_syntax.specs.declared.tree.statement.Event.TheVariants as event
use Rattle.ttcn_syntax.specs.declared.tree.statement.LogItem.{LogItem}
use Rattle.ttcn_syntax.specs.declared.tree.statement.PortRef.{PortRef}
use Rattle.ttcn_syntax.specs.declared.tree.statement.Send.{Send}
use Rattle.ttcn_syntax.specs.declared.tree.statement.Statement.{Statement, out-Statement}
use Rattle.ttcn_syntax.specs.declared.tree.statement.Variable.{Variable}
use Rattle.ttcn_syntax.specs.declared.tree.statement.Variables.{Variables}
use Rattle.ttcn_syntax.specs.declared.tree.value.Rhs.TheVariants as rhs
use Rattle.ttcn_syntax.specs.declared.tree.statement.Verdict.{Verdict}
use Rattle.ttcn_syntax.specs.declared.tree.statement.Verdict.TheVariants as verdict
use Rattle.check_scope.specs.Names.{component_meant, kind_at, members_of, module_names, resolved}
use Rattle.semantics.specs.Branches.{Chance, branches_of, written_default, written_defaults, written_within, frame_with, written_alt, written_alternative, write_altsteps, judge_in, through}
use Rattle.semantics.specs.Configurations.{ActiveDefault, Connection, Data, Frame, Goes, Going, Message, Running}
use Rattle.semantics.specs.Creating.{child_of, declared_in_turn, declared_member, empty_frame, empty_queues, new_component, new_members}
use Rattle.semantics.specs.Entries.{put, without}
use Rattle.semantics.specs.Events.{chosen_by, first_choice, happened_if, tried}
use Rattle.semantics.specs.Examples.{AwaitsDone, ConnectsPorts, CreatesComponent, Expires, HasNoMark, Repeats, RepeatsInner, RepeatsOutside, SendsBehind, SetsVerdict, StartsTheTest, StaysQuiet, TakesDefault, TakesDone, TakesElse, child_path, linked, mtc_path, mtc_stand, port_name, timer_name, two_running, with_last}
use Rattle.semantics.specs.Items.{Doing, Item, Mark, Name, Waiting, Whole, action_of, items}
use Rattle.semantics.specs.Runs.{first_snapshot, mtc_with, start, started, testcase_body}
use Rattle.semantics.specs.Sites.{Site, beginning, scope_at}
use Rattle.semantics.specs.Snapshots.{Snapshot, Test, is_terminated_in, last_view, mtc_of, reading_in}
use Rattle.semantics.specs.Statements.{Connects, Continues, Creates, Errs, Requests, Sends, Stand, Waits, Worsens, act, act_alt_or, act_choice, act_initial, act_name, act_port, act_variable, act_whole, acting, ask_connection, choose_from, component_meant_at, continuing, created, declared, declared_target, done, judge_at, may_connect, most, sent_to, sent_type, sent_value, with_child}
use Rattle.semantics.specs.Steps.{Expiry, Statement as OfStatement, apply, settled, step}
use Rattle.semantics.specs.Storing.{forget, store, with_calls, with_remaining, with_timers, with_values}
use Rattle.semantics.specs.Taking.{from_mark, repeat_in, repeated, uncovered}
use Rattle.value_types.specs.Frames.{is_running}
use Rattle.value_types.specs.Outcomes.{DynamicError, Unmet, Yields, dynamic_error, or_unmet, outcome_and_then, outcome_map}
use Rattle.value_types.specs.Readings.{component_referred}
use Rattle.value_types.specs.declared.frame.TimerState.{TimerState}
use Rattle.value_types.specs.declared.frame.TimerState.TheVariants as timer
use Rattle.value_types.specs.declared.value.ComponentId.{ComponentId}
use Rattle.value_types.specs.declared.value.Value.{Value}
use Rattle.value_types.specs.declared.value.Value.TheVariants as value

-- ---- marks

-- the first mark behind items that are none
first-mark : (between : List Item) → HasNoMark between → (site : Site) (s : Statement) (rest : List Item) → from_mark (between ++ Mark site s ∷ rest) ≡ Some (Doing site s Whole ∷ rest)
first-mark [] none site s rest = refl
first-mark (Doing here other part ∷ between) none site s rest = first-mark between none site s rest
first-mark (Mark here other ∷ between) none site s rest = absurd (let no = none in cc)
first-mark (Waiting target ∷ between) none site s rest = first-mark between none site s rest

no-mark : (items : List Item) → HasNoMark items → from_mark items ≡ None
no-mark [] none = refl
no-mark (Doing here other part ∷ items) none = no-mark items none
no-mark (Mark here other ∷ items) none = absurd (let no = none in cc)
no-mark (Waiting target ∷ items) none = no-mark items none

-- ---- single statements

module _ (test : Test) (snapshot : Snapshot) (own : Data) (frame : Frame) (below : List Frame) where
  -- `setverdict(v)`: the verdict gets no better, and the statement is done
  sets_verdict-holds : (site : Site) (s : Statement) (rest : List Item) (v : Verdict) (reasons : List LogItem) → action_of s ≡ Action-F.Setverdict v reasons
      → act test snapshot (with_last own frame below (Doing site s Whole ∷ rest)) ≡ Requests (Worsens v) (with_last own frame below rest)
  sets_verdict-holds site s rest v reasons is =
      ap (act_whole (record { test = test; snapshot = snapshot; own = with_last own frame below (Doing site s Whole ∷ rest); frame = with_remaining (Doing site s Whole ∷ rest) frame; below = below; rest = rest }) site s) is

  -- `repeat` in the block of a branch: what stands in front of the mark is skipped, and the `alt` is put back
  repeats-holds : (site inner : Site) (s r : Statement) (between rest : List Item) → action_of r ≡ Action-F.Repeat → HasNoMark between
      → act test snapshot (with_last own frame below (Doing inner r Whole ∷ (between ++ Mark site s ∷ rest))) ≡ Requests Continues (with_last own frame below (Doing site s Whole ∷ rest))
  repeats-holds site inner s r between rest is none =
      let remaining : List Item = Doing inner r Whole ∷ (between ++ Mark site s ∷ rest) in
      let held : Data = with_last own frame below remaining in
      ap (act_whole (record { test = test; snapshot = snapshot; own = held; frame = with_remaining remaining frame; below = below; rest = between ++ Mark site s ∷ rest }) inner r) is
      ∙ ap (λ found. continuing (outcome_map (λ calls. with_calls calls held) (or_unmet (repeat_in (with_remaining remaining frame) below found (repeated below))))) (first-mark between none site s rest)

  -- `repeat` and one more statement, in an `alt` in the block of a branch of another `alt`
  repeats_inner-holds : (site inner outer : Site) (s r other around : Statement) (rest : List Item) → action_of r ≡ Action-F.Repeat
      → act test snapshot (with_last own frame below (Doing inner r Whole ∷ Doing inner other Whole ∷ Mark site s ∷ Mark outer around ∷ rest))
      ≡ Requests Continues (with_last own frame below (Doing site s Whole ∷ Mark outer around ∷ rest))
  repeats_inner-holds site inner outer s r other around rest is = repeats-holds site inner s r (Doing inner other Whole ∷ []) (Mark outer around ∷ rest) is refl

  -- a branch with `else`: its block, and the mark behind it
  takes_else-holds : (site : Site) (s : Statement) (rest : List Item) (b : Branch) (block : List Statement)
      → action_of s ≡ Action-F.Alt (b ∷ []) → out-Alternative (out-Branch b).alternative ≡ Alternative-F.Else block → nat_lt (length (frame ∷ below)) most ≡ true
      → act test snapshot (with_last own frame below (Doing site s Whole ∷ rest)) ≡ Requests Continues (with_last own frame below (items test.definitions site block ++ Mark site s ∷ rest))
  takes_else-holds site s rest b block is alternative few =
      let here : Stand = record { test = test; snapshot = snapshot; own = with_last own frame below (Doing site s Whole ∷ rest); frame = with_remaining (Doing site s Whole ∷ rest) frame; below = below; rest = rest } in
      ap (act_whole here site s) is
      ∙ ap (λ does. act_alt_or (Errs Unmet) here site s (option_map (choose_from here) (written_alt test snapshot (with_last own frame below (Doing site s Whole ∷ rest)) (judge_at here site) (out-Statement s).place does))) is
      ∙ ap (λ found. act_alt_or (Errs Unmet) here site s (option_map (choose_from here) (Some (written_alternative (write_altsteps test snapshot (with_last own frame below (Doing site s Whole ∷ rest))) test snapshot (with_last own frame below (Doing site s Whole ∷ rest)) (judge_at here site) (out-Branch b).place found ++ [])))) alternative
      ∙ ap (λ allowed. acting (act_port None) (if allowed then Yields (with_last own frame below (items test.definitions site block ++ Mark site s ∷ rest)) else dynamic_error)) few

  -- an `alt` without branches, and one default with an `else`: the default's block in a frame of its own, and the mark in the frame with the `alt`
  takes_default-holds : (site : Site) (s : Statement) (rest : List Item) (d : ActiveDefault) (b : Branch) (block : List Statement)
      → action_of s ≡ Action-F.Alt [] → own.defaults ≡ d ∷ [] → branches_of (kind_at test.definitions d.altstep) ≡ b ∷ [] → out-Alternative (out-Branch b).alternative ≡ Alternative-F.Else block
      → nat_lt (length (frame ∷ frame ∷ below)) most ≡ true
      → act test snapshot (with_last own frame below (Doing site s Whole ∷ rest))
      ≡ Requests Continues (with_calls (frame_with test.definitions d.altstep d.arguments (items test.definitions (beginning d.altstep) block) ∷ with_remaining (Mark site s ∷ rest) frame ∷ below) own)
  takes_default-holds site s rest d b block is one branches alternative few =
      let here : Stand = record { test = test; snapshot = snapshot; own = with_last own frame below (Doing site s Whole ∷ rest); frame = with_remaining (Doing site s Whole ∷ rest) frame; below = below; rest = rest } in
      let held : Data = with_last own frame below (Doing site s Whole ∷ rest) in
      ap (act_whole here site s) is
      ∙ ap (λ does. act_alt_or (Errs Unmet) here site s (option_map (choose_from here) (written_alt test snapshot held (judge_at here site) (out-Statement s).place does))) is
      ∙ ap (λ ds. act_choice here site s (first_choice test snapshot held (flat_map (written_default test snapshot held) ds))) one
      ∙ ap (λ bs. act_choice here site s (first_choice test snapshot held (map (through test d.altstep d.arguments []) (write_altsteps test snapshot held (judge_in test d.altstep d.arguments) bs) ++ []))) branches
      ∙ ap (λ found. act_choice here site s (first_choice test snapshot held (map (through test d.altstep d.arguments []) (written_alternative (written_within 199 test snapshot held) test snapshot held (judge_in test d.altstep d.arguments) (out-Branch b).place found ++ []) ++ []))) alternative
      ∙ ap (λ allowed. acting (act_port None) (if allowed then Yields (with_calls (frame_with test.definitions d.altstep d.arguments (items test.definitions (beginning d.altstep) block) ∷ with_remaining (Mark site s ∷ rest) frame ∷ below) own) else dynamic_error)) few

  -- `repeat` in the block of an altstep's branch: the altstep's frame goes, and the `alt` is put back in the frame that has its mark
  repeats_outside-holds : (site inner : Site) (s r : Statement) (behind between rest : List Item) (outer : Frame) → action_of r ≡ Action-F.Repeat → HasNoMark behind → HasNoMark between
      → act test snapshot (with_calls (with_remaining (Doing inner r Whole ∷ behind) frame ∷ with_remaining (between ++ Mark site s ∷ rest) outer ∷ below) own)
      ≡ Requests Continues (with_calls (with_remaining (Doing site s Whole ∷ rest) outer ∷ below) own)
  repeats_outside-holds site inner s r behind between rest outer is none_behind none =
      let above : Frame = with_remaining (Doing inner r Whole ∷ behind) frame in
      let under : Frame = with_remaining (between ++ Mark site s ∷ rest) outer in
      let held : Data = with_calls (above ∷ under ∷ below) own in
      ap (act_whole (record { test = test; snapshot = snapshot; own = held; frame = above; below = under ∷ below; rest = behind }) inner r) is
      ∙ ap (λ found. continuing (outcome_map (λ calls. with_calls calls held) (or_unmet (repeat_in above (under ∷ below) found (repeated (under ∷ below)))))) (no-mark behind none_behind)
      ∙ ap (λ found. continuing (outcome_map (λ calls. with_calls calls held) (or_unmet (repeat_in under below found (repeated below))))) (first-mark between none site s rest)

  -- `c.done` outside of an `alt`, where the component is terminated
  takes_done-holds : (site : Site) (s : Statement) (rest : List Item) (reference : ComponentRef) (c : ComponentId) → action_of s ≡ Action-F.«Action::Event» (event.Done reference)
      → component_referred (reading_in test snapshot own site (last_view snapshot frame)) reference ≡ Yields c → is_terminated_in snapshot c.path ≡ true
      → nat_lt (length (frame ∷ below)) most ≡ true
      → act test snapshot (with_last own frame below (Doing site s Whole ∷ rest)) ≡ Requests Continues (with_last own frame below (Mark site s ∷ rest))
  takes_done-holds site s rest reference c is means over few =
      let held : Data = with_last own frame below (Doing site s Whole ∷ rest) in
      let here : Stand = record { test = test; snapshot = snapshot; own = held; frame = with_remaining (Doing site s Whole ∷ rest) frame; below = below; rest = rest } in
      let chance : Chance = record { place = (out-Statement s).place; judge = judge_at here site; event = Some (event.Done reference); way = record { block = []; frames = [] } } in
      ap (act_whole here site s) is
      ∙ ap (λ does. act_alt_or (Errs Unmet) here site s (option_map (choose_from here) (written_alt test snapshot held (judge_at here site) (out-Statement s).place does))) is
      ∙ ap (λ found. act_choice here site s (chosen_by chance (tried (λ d. happened_if (is_terminated_in snapshot d.path)) found) (first_choice test snapshot held (written_defaults test snapshot held)))) means
      ∙ ap (λ terminated. act_choice here site s (chosen_by chance (happened_if terminated) (first_choice test snapshot held (written_defaults test snapshot held)))) over
      ∙ ap (λ allowed. acting (act_port None) (if allowed then Yields (with_last own frame below (Mark site s ∷ rest)) else dynamic_error)) few

  -- `c.done` outside of an `alt`, where the component is not terminated, and no default is active
  awaits_done-holds : (site : Site) (s : Statement) (rest : List Item) (reference : ComponentRef) (c : ComponentId) → action_of s ≡ Action-F.«Action::Event» (event.Done reference)
      → component_referred (reading_in test snapshot own site (last_view snapshot frame)) reference ≡ Yields c → is_terminated_in snapshot c.path ≡ false
      → own.defaults ≡ []
      → act test snapshot (with_last own frame below (Doing site s Whole ∷ rest)) ≡ Waits
  awaits_done-holds site s rest reference c is means over no_defaults =
      let held : Data = with_last own frame below (Doing site s Whole ∷ rest) in
      let here : Stand = record { test = test; snapshot = snapshot; own = held; frame = with_remaining (Doing site s Whole ∷ rest) frame; below = below; rest = rest } in
      let chance : Chance = record { place = (out-Statement s).place; judge = judge_at here site; event = Some (event.Done reference); way = record { block = []; frames = [] } } in
      ap (act_whole here site s) is
      ∙ ap (λ does. act_alt_or (Errs Unmet) here site s (option_map (choose_from here) (written_alt test snapshot held (judge_at here site) (out-Statement s).place does))) is
      ∙ ap (λ found. act_choice here site s (chosen_by chance (tried (λ d. happened_if (is_terminated_in snapshot d.path)) found) (first_choice test snapshot held (written_defaults test snapshot held)))) means
      ∙ ap (λ terminated. act_choice here site s (chosen_by chance (happened_if terminated) (first_choice test snapshot held (written_defaults test snapshot held)))) over
      ∙ ap (λ ds. act_choice here site s (first_choice test snapshot held (flat_map (written_default test snapshot held) ds))) no_defaults

  -- `var C c := C.create`, of a type with nothing but ports: a created component, whose reference the name has
  creates-holds : (site : Site) (s : Statement) (rest : List Item) (vs : Variables) (v : Variable) (name port_type : List ℕ) (ports : List (List ℕ)) (at : ℕ)
      → action_of s ≡ Action-F.Variables vs → slice_get vs.variables 0 ≡ Some v → v.value ≡ Some (rhs.Create name)
      → component_meant (module_names test.definitions name) ≡ Some at → nat_lt own.children most ≡ true
      → members_of (kind_at test.definitions at) ≡ member.Ports port_type ports ∷ []
      → act test snapshot (with_last own frame below (Doing site s (Name 0) ∷ rest))
      ≡ Requests (Creates (new_component test (record { path = child_of snapshot.itself own.children; component_type = at }) empty_frame))
      (with_child (with_calls (with_values (put v.name (value.Component (record { path = child_of snapshot.itself own.children; component_type = at })) (without v.name frame.values))
      (with_timers (without v.name frame.timers) (with_remaining rest frame)) ∷ below) own))
  creates-holds site s rest vs v name port_type ports at is first right means few members =
      let here : Stand = record { test = test; snapshot = snapshot; own = with_last own frame below (Doing site s (Name 0) ∷ rest); frame = with_remaining (Doing site s (Name 0) ∷ rest) frame; below = below; rest = rest } in
      let new : ComponentId = record { path = child_of snapshot.itself own.children; component_type = at } in
      let of = resolved (scope_at test.definitions site).names vs.type_name in
      let held = declared here (forget v.name) in
      ap (act_name here site 0) is
      ∙ ap (act_variable here site of) first
      ∙ ap (act_initial here site of v.name) right
      ∙ ap (created here (declared_target v.name) held) means
      ∙ ap (λ allowed. acting (λ found. acting (λ changed. Requests (Creates (new_component test new found)) (with_child changed)) (store test (declared_target v.name) (value.Component new) held)) (if allowed then new_members test new snapshot else dynamic_error)) few
      ∙ ap (λ ms. acting (λ found. acting (λ changed. Requests (Creates (new_component test new found)) (with_child changed)) (store test (declared_target v.name) (value.Component new) held)) (declared_in_turn (declared_member test new snapshot) ms empty_frame)) members

-- the start of a test case on a component type with nothing but ports: the MTC runs, with the body as frame 1
starts-holds : (test : Test) (t : Testcase) (port_type : List ℕ) (ports : List (List ℕ)) → kind_at test.definitions test.testcase ≡ Some (kind.Testcase t)
    → members_of (kind_at test.definitions (mtc_of test).component_type) ≡ member.Ports port_type ports ∷ []
    → start test ≡ Goes (record {
      components = record {
        itself = mtc_of test;
        own = record { members = empty_frame; calls = record { remaining = items test.definitions (beginning test.testcase) t.body; values = []; timers = [] } ∷ []; defaults = []; activations = 0; children = 0 };
        state = Running;
        verdict = verdict.None;
        queues = empty_queues test.definitions (mtc_of test).component_type;
      } ∷ [];
      connections = [];
      mappings = [];
      delivered = [];
      forgotten = verdict.None;
    })
starts-holds test t port_type ports is members =
    ap (λ k. settled (outcome_and_then (started test) (or_unmet (testcase_body k)))) is
    ∙ ap (λ ms. settled (outcome_map (λ found. Goes (record { components = mtc_with test t.body found ∷ []; connections = []; mappings = []; delivered = []; forgotten = verdict.None })) (declared_in_turn (declared_member test (mtc_of test) (first_snapshot test)) ms empty_frame))) members

-- ---- two components

module _ (test : Test) (of : ℕ) (own other : Data) (frame : Frame) (below : List Frame) (waiting : List Message) (site : Site) (s : Statement) (rest : List Item) where
  -- `p.send(v)` on the MTC: the message goes behind those that wait at the other component
  sends_behind-holds : (send : Send) (v : Value) → action_of s ≡ Action-F.Send send → send.port ≡ port_name → send.to ≡ None
      → sent_value (mtc_stand test (two_running of (with_last own frame below (Doing site s Whole ∷ rest)) other waiting (linked ∷ [])) of own frame below (Doing site s Whole) rest) site send
      (sent_type (scope_at test.definitions site) send) ≡ Yields v
      → step test (Goes (two_running of (with_last own frame below (Doing site s Whole ∷ rest)) other waiting (linked ∷ []))) (OfStatement mtc_path)
      ≡ Some (Yields (Goes (two_running of (uncovered (with_last own frame below rest)) other (waiting ++ record { value = v; sender = Some (record { path = mtc_path; component_type = of }) } ∷ []) (linked ∷ []))))
  sends_behind-holds send v is port to sent =
      let now : Going = two_running of (with_last own frame below (Doing site s Whole ∷ rest)) other waiting (linked ∷ []) in
      let here : Stand = mtc_stand test now of own frame below (Doing site s Whole) rest in
      let itself : ComponentId = record { path = mtc_path; component_type = of } in
      ap (λ does. apply test now itself (act_whole here site s does)) is
      ∙ ap (λ found. apply test now itself (acting (λ u. acting (λ whom. Requests (Sends send.port whom u) (done here)) (sent_to here site send.to)) found)) sent
      ∙ ap (λ whom. apply test now itself (acting (λ found. Requests (Sends send.port found v) (done here)) (sent_to here site whom))) to
      ∙ ap (λ name. apply test now itself (Requests (Sends name None v) (done here))) port

  -- `connect(c:p, self:p)` on the MTC: the ports are connected
  connects_ports-holds : (one two : PortRef) → action_of s ≡ Action-F.Connect one two → one.port ≡ port_name → two.port ≡ port_name
      → component_meant_at (mtc_stand test (two_running of (with_last own frame below (Doing site s Whole ∷ rest)) other waiting []) of own frame below (Doing site s Whole) rest) site one.component
      ≡ Yields (record { path = child_path; component_type = of })
      → component_meant_at (mtc_stand test (two_running of (with_last own frame below (Doing site s Whole ∷ rest)) other waiting []) of own frame below (Doing site s Whole) rest) site two.component
      ≡ Yields (record { path = mtc_path; component_type = of })
      → may_connect test.definitions (record { path = child_path; component_type = of }) port_name (record { path = mtc_path; component_type = of }) port_name ≡ true
      → step test (Goes (two_running of (with_last own frame below (Doing site s Whole ∷ rest)) other waiting [])) (OfStatement mtc_path)
      ≡ Some (Yields (Goes (two_running of (uncovered (with_last own frame below rest)) other waiting (linked ∷ []))))
  connects_ports-holds one two is port other_port means other_means allowed =
      let now : Going = two_running of (with_last own frame below (Doing site s Whole ∷ rest)) other waiting [] in
      let here : Stand = mtc_stand test now of own frame below (Doing site s Whole) rest in
      let itself : ComponentId = record { path = mtc_path; component_type = of } in
      let child : ComponentId = record { path = child_path; component_type = of } in
      ap (λ does. apply test now itself (act_whole here site s does)) is
      ∙ ap (λ c. apply test now itself (acting (λ d. acting (λ e. ask_connection here d one.port e two.port) (component_meant_at here site two.component)) c)) means
      ∙ ap (λ c. apply test now itself (acting (λ e. ask_connection here child one.port e two.port) c)) other_means
      ∙ ap (λ name. apply test now itself (ask_connection here child name itself two.port)) port
      ∙ ap (λ name. apply test now itself (ask_connection here child port_name itself name)) other_port
      ∙ ap (λ may. apply test now itself (if may then Requests (Connects (record { component = child_path; port = port_name }) (record { component = mtc_path; port = port_name })) (done here) else Errs DynamicError)) allowed

-- the expiry of a timer that runs in frame 1, where frame 2 is the last
expires-holds : (test : Test) (of : ℕ) (own other : Data) (last first : Frame) (waiting : List Message) (connections : List Connection)
    → step test (Goes (two_running of (with_calls (last ∷ with_timers ((timer_name, timer.Running) ∷ []) first ∷ []) own) other waiting connections)) (Expiry mtc_path 1 timer_name)
    ≡ Some (Yields (Goes (two_running of (with_calls (last ∷ with_timers ((timer_name, timer.Expired) ∷ []) first ∷ []) own) other waiting connections)))
expires-holds test of own other last first waiting connections = refl

-- a timer that doesn't run has no expiry
stays_quiet-holds : (test : Test) (of : ℕ) (own other : Data) (last first : Frame) (state : TimerState) (waiting : List Message) (connections : List Connection) → is_running state ≡ false
    → step test (Goes (two_running of (with_calls (last ∷ with_timers ((timer_name, state) ∷ []) first ∷ []) own) other waiting connections)) (Expiry mtc_path 1 timer_name) ≡ None
stays_quiet-holds test of own other last first timer.Inactive waiting connections quiet = refl
stays_quiet-holds test of own other last first timer.Running waiting connections quiet = absurd (let no = quiet in cc)
stays_quiet-holds test of own other last first timer.Expired waiting connections quiet = refl

-- ---- as they stand among the definitions

pub sets_verdict : SetsVerdict
sets_verdict test snapshot own frame below = sets_verdict-holds test snapshot own frame below

pub repeats : Repeats
repeats test snapshot own frame below = repeats-holds test snapshot own frame below

pub takes_else : TakesElse
takes_else test snapshot own frame below = takes_else-holds test snapshot own frame below

pub takes_default : TakesDefault
takes_default test snapshot own frame below = takes_default-holds test snapshot own frame below

pub repeats_outside : RepeatsOutside
repeats_outside test snapshot own frame below = repeats_outside-holds test snapshot own frame below

pub creates : CreatesComponent
creates test snapshot own frame below = creates-holds test snapshot own frame below

pub starts : StartsTheTest
starts = starts-holds

pub repeats_inner : RepeatsInner
repeats_inner test snapshot own frame below = repeats_inner-holds test snapshot own frame below

pub takes-done : TakesDone
takes-done test snapshot own frame below = takes_done-holds test snapshot own frame below

pub awaits-done : AwaitsDone
awaits-done test snapshot own frame below = awaits_done-holds test snapshot own frame below

pub sends_behind : SendsBehind
sends_behind test of own other frame below waiting site s rest = sends_behind-holds test of own other frame below waiting site s rest

pub connects_ports : ConnectsPorts
connects_ports test of own other frame below waiting site s rest = connects_ports-holds test of own other frame below waiting site s rest

pub expires : Expires
expires = expires-holds

pub stays_quiet : StaysQuiet
stays_quiet = stays_quiet-holds
