-- One walk over all statements: a law says what each change of a component's data keeps, and the walk says it of what the component asks for.
use Rattle.std.proofs.Common.{◌≡◌, ℕ, ◌+◌, Bool, true, false, List, [], ◌∷◌, ◌++◌, append_assoc, length, Option, Some, None, nat_lt, slice_get, refl, subst, sym, if◌then◌else◌}
use Rattle.std.specs.List.{All, filter}
use Rattle.ttcn_syntax.specs.declared.tree.definition.Definition.{Definition}
use Rattle.ttcn_syntax.specs.declared.tree.expression.ComponentRef.{ComponentRef}
use Rattle.ttcn_syntax.specs.declared.tree.expression.Expr.{Expr}
use Rattle.ttcn_syntax.specs.declared.tree.expression.Reference.{Reference}
use Rattle.ttcn_syntax.specs.declared.tree.statement.Action.TheOpen.{Action-F}
use Rattle.ttcn_syntax.specs.declared.tree.statement.Assignment.{Assignment}
use Rattle.ttcn_syntax.specs.declared.tree.statement.Conditional.{Conditional, out-Conditional}
use Rattle.ttcn_syntax.specs.declared.tree.statement.Constant.{Constant}
use Rattle.ttcn_syntax.specs.declared.tree.statement.ForStart.TheVariants as for_start
use Rattle.ttcn_syntax.specs.declared.tree.statement.LogItem.{LogItem}
use Rattle.ttcn_syntax.specs.declared.tree.statement.MapOperation.{MapOperation}
use Rattle.ttcn_syntax.specs.declared.tree.statement.MapOperation.TheVariants as operation
use Rattle.ttcn_syntax.specs.declared.tree.statement.Mapping.{Mapping}
use Rattle.ttcn_syntax.specs.declared.tree.statement.PortRef.{PortRef}
use Rattle.ttcn_syntax.specs.declared.tree.statement.Send.{Send}
use Rattle.ttcn_syntax.specs.declared.tree.statement.Statement.{Statement}
use Rattle.ttcn_syntax.specs.declared.tree.statement.Timer.{Timer}
use Rattle.ttcn_syntax.specs.declared.tree.statement.Variable.{Variable}
use Rattle.ttcn_syntax.specs.declared.tree.statement.Verdict.{Verdict}
use Rattle.ttcn_syntax.specs.declared.tree.value.Call.{Call}
use Rattle.ttcn_syntax.specs.declared.tree.value.Rhs.{Rhs}
use Rattle.ttcn_syntax.specs.declared.tree.value.Rhs.TheVariants as rhs
use Rattle.ttcn_syntax.specs.declared.tree.value.Value as written
use Rattle.check_rules.specs.Calls.{altstep_meant, behaviour_meant, parameters_of}
use Rattle.check_rules.specs.Targets as checked
use Rattle.check_scope.specs.Names.{component_meant, kind_at, module_names, resolved}
use Rattle.check_scope.specs.declared.types.DataType.{DataType}
use Rattle.laws_steps.proofs.Outcomes.{map-yields, then-yields}
use Rattle.laws_steps.specs.Making.{IsTest, Makes, MakesBlock, MakesDo, MakesDoAgain, MakesElse, MakesFor, MakesForAgain, MakesTest, MakesWhile}
use Rattle.semantics.specs.Branches.{Chance}
use Rattle.semantics.specs.Configurations.{ActiveDefault, Data, Frame}
use Rattle.semantics.specs.Creating.{new_component, new_members}
use Rattle.semantics.specs.Events.{Choice, Effect, Nothing, Refused, Taken}
use Rattle.semantics.specs.Items.{Does, Doing, From, Item, Last, Loop, Mark, Name, Part, Start, Target, Waiting, Whole, action_of, items, items_if_any, site_in_for, start_items}
use Rattle.semantics.specs.Sites.{Site, scope_at}
use Rattle.semantics.specs.Snapshots.{Snapshot, Test}
use Rattle.semantics.specs.Statements.{Act, Connects, Continues, Creates, Errs, Maps, Removes, Requests, Sends, Stand, Starts, Stops, Unmaps, Waits, Worsens, act, act_alt_or, act_assignment, act_choice, act_conditional, act_connect, act_constant, act_deactivate, act_end, act_first, act_for_start, act_for_step, act_from, act_if, act_in, act_initial, act_loop, act_map, act_name, act_part, act_port, act_return, act_send, act_start, act_test, act_timer, act_variable, act_while, act_whole, acting, activate, activated, activated_at, ask_connection, ask_operation, assign, body_of, call_function, called_frame, choice_at, component_meant_at, continuing, created, declared, declared_target, done, enter, frame_at, frame_of_call, function_frame, give_back, go_either, leave, may_connect, may_map, most, name_in, new_id, otherwise, reads, remaining, result_at, sent_to, sent_type, sent_value, stop_meant, waits_first, with_child, with_defaults, with_frames, without_default}
use Rattle.semantics.specs.Storing.{declare, declare_timer, forget, going_on, set_timer, store, target_meant, with_calls}
use Rattle.semantics.specs.Taking.{port_taken, repeat_alt, repeated, taken}
use Rattle.value_types.specs.Evaluation.{condition_of}
use Rattle.value_types.specs.Literals.{value_wanted}
use Rattle.value_types.specs.Outcomes.{DynamicError, Failure, Fails, IfYields, Outcome, Unmet, Yields, dynamic_error, or_unmet, outcome_and_then, outcome_map}
use Rattle.value_types.specs.Readings.{referred, timer_at}
use Rattle.value_types.specs.Templates.{arguments}
use Rattle.value_types.specs.declared.frame.TimerState.{TimerState}
use Rattle.value_types.specs.declared.frame.TimerState.TheVariants as timer
use Rattle.value_types.specs.declared.path.Path.{Path}
use Rattle.value_types.specs.declared.value.ComponentId.{ComponentId}
use Rattle.value_types.specs.declared.value.Value.{Value, out-Value}
use Rattle.value_types.specs.declared.value.Value.TheOpen.{Value-F}
use Rattle.value_types.specs.declared.value.Value.TheVariants as value

-- ---- a part of a statement

-- What a law says of the step of a part of a statement. Of what is asked for, of the data where the part is done and nothing else (`Opened`), of the data
-- that are changed beside (`Changed`), of the data behind the step (`Left`), of values that are evaluated, and of frames of functions.
pub record Keeps (stand : Stand) (site : Site) (s : Statement) (part : Part) (Asks : Act → Type 0) (Opened Changed Left : Data → Type 0) (Given : Value → Type 0) (Begun : Frame → Type 0) : Type 0 where
  -- values: of an expression, arguments of a call, and the default of an activation
  pub evaluated : (v : written.Value) (wanted : Option DataType) → IfYields (value_wanted v (reads stand site) wanted) Given
  pub handed : (at : ℕ) (given : List written.Value) → IfYields (arguments (reads stand site) (parameters_of (kind_at stand.test.definitions at)) given) (All Given)
  pub default_given : (n : ℕ) → Given (value.Default n)
  -- the part is done; a name is declared besides, without value
  pub does : Opened (done stand)
  pub forgets : (name : List ℕ) → Opened (declared stand (forget name))
  pub opens : (own : Data) → Opened own → Changed own
  -- changes of data
  pub declares : (name : List ℕ) (v : Value) → Given v → Changed (declared stand (declare name v))
  pub declares_timer : (k : ℕ) (timers : List Timer) (t : Timer) → part ≡ Name k → action_of s ≡ Action-F.Timers timers → slice_get timers k ≡ Some t → Changed (declared stand (declare_timer t.name))
  pub stores : (target : Target) (v : Value) (own : Data) → Given v → Changed own → IfYields (store stand.test target v own) Changed
  pub sets_timer : (name : List ℕ) (state : TimerState) → Changed (set_timer stand.test site name state (done stand))
  pub activates : (at : ℕ) (values : List Value) (own : Data) → All Given values → Opened own → Changed (activate at own values)
  pub deactivates : (keeps : ActiveDefault → Bool) → Changed (with_defaults (filter keeps (done stand).defaults) (done stand))
  pub deactivates_all : Changed (with_defaults [] (done stand))
  pub ends : (own : Data) → Changed own → Left own
  -- items come in place of the part
  pub makes : (made : List Item) → Makes stand.test.definitions site s part made → Left (remaining stand (made ++ stand.rest))
  -- frames of functions come
  pub begins : (at : ℕ) (body : List Statement) (values : List Value) → body_of (kind_at stand.test.definitions at) ≡ Some body → All Given values → Begun (function_frame stand.test at values body)
  pub calls : (frame : Frame) → Begun frame → nat_lt (length (frame ∷ (done stand).calls)) most ≡ true → Left (with_calls (frame ∷ (done stand).calls) stand.own)
  pub awaits : (target : Target) (own : Data) (frame : Frame) → Opened own → Begun frame → nat_lt (length (frame ∷ (going_on (Waiting target ∷ stand.rest) own).calls)) most ≡ true
      → Left (with_calls (frame ∷ (going_on (Waiting target ∷ stand.rest) own).calls) own)
  -- the frame goes
  pub leaves : (frame : Frame) (frames : List Frame) → stand.below ≡ frame ∷ frames → Left (with_calls (frame ∷ frames) stand.own)
  pub gives_back : (frame : Frame) (frames : List Frame) (target : Target) (items : List Item) (v : Value) → stand.below ≡ frame ∷ frames → frame.remaining ≡ Waiting target ∷ items → Given v
      → IfYields (store stand.test target v (going_on items (with_calls (frame ∷ frames) stand.own))) Left
  -- an `alt` is put back, or a branch taken
  pub repeats : (calls : List Frame) → repeated stand.own.calls ≡ Some calls → Left (with_calls calls stand.own)
  pub takes : (chance : Chance) (effect : Effect) (own : Data) → part ≡ Whole → choice_at stand site s ≡ Some (Taken chance effect) → taken stand.test site s stand.rest chance effect stand.own ≡ Yields own
      → nat_lt (length own.calls) most ≡ true → Left (with_calls own.calls own)
  -- what is asked for
  pub fails : (why : Failure) → Asks (Errs why)
  pub waits : part ≡ Whole → choice_at stand site s ≡ Some Nothing → Asks Waits
  pub continues : (own : Data) → Left own → Asks (Requests Continues own)
  pub worsens : (v : Verdict) (reasons : List LogItem) → part ≡ Whole → action_of s ≡ Action-F.Setverdict v reasons → Asks (Requests (Worsens v) (done stand))
  pub removes : (port : List ℕ) (own : Data) → Left own → Asks (Requests (Removes port) own)
  pub sends : (send : Send) (v : Value) (to : Option Path) → sent_value stand site send (sent_type (scope_at stand.test.definitions site) send) ≡ Yields v → sent_to stand site send.to ≡ Yields to
      → Asks (Requests (Sends send.port to v) (done stand))
  pub creates : (target : Target) (own : Data) (at : ℕ) (members : Frame) (changed : Data) → Opened own → new_members stand.test (new_id stand own at) stand.snapshot ≡ Yields members
      → store stand.test target (value.Component (new_id stand own at)) own ≡ Yields changed → Asks (Requests (Creates (new_component stand.test (new_id stand own at) members)) (with_child changed))
  pub starts : (reference : ComponentRef) (c : ComponentId) (frame : Frame) → component_meant_at stand site reference ≡ Yields c → Begun frame → Asks (Requests (Starts c.path frame) (done stand))
  pub stops_itself : Asks (Requests (Stops stand.snapshot.itself.path) (done stand))
  pub stops_last : stand.below ≡ [] → Asks (Requests (Stops stand.snapshot.itself.path) (with_calls [] stand.own))
  pub stops : (reference : ComponentRef) (c : ComponentId) → component_meant_at stand site reference ≡ Yields c → Asks (Requests (Stops c.path) (done stand))
  pub connects : (one other : PortRef) (c d : ComponentId) → component_meant_at stand site one.component ≡ Yields c → component_meant_at stand site other.component ≡ Yields d
      → may_connect stand.test.definitions c one.port d other.port ≡ true
      → Asks (Requests (Connects (record { component = c.path; port = one.port }) (record { component = d.path; port = other.port })) (done stand))
  pub maps : (m : Mapping) (c : ComponentId) → component_meant_at stand site m.port.component ≡ Yields c → may_map stand.test c m.port.port m.system_port ≡ true
      → Asks (Requests (Maps (record { component = c.path; port = m.port.port }) m.system_port) (done stand))
  pub unmaps : (m : Mapping) (c : ComponentId) → component_meant_at stand site m.port.component ≡ Yields c
      → Asks (Requests (Unmaps (record { component = c.path; port = m.port.port }) m.system_port) (done stand))

module _ (stand : Stand) (site : Site) (s : Statement) (part : Part) (Asks : Act → Type 0) (Opened Changed Left : Data → Type 0) (Given : Value → Type 0) (Begun : Frame → Type 0)
    (keeps : Keeps stand site s part Asks Opened Changed Left Given Begun) where
  abbrev ds : List Definition
  ds = stand.test.definitions

  -- ---- what may fail

  acting-is : {A : Type 0} (f : A → Act) (o : Outcome A) → ((a : A) → o ≡ Yields a → Asks (f a)) → Asks (acting f o)
  acting-is f (Yields a) more = more a refl
  acting-is f (Fails why) more = keeps.fails why

  acting-of : {A : Type 0} (P : A → Type 0) (f : A → Act) (o : Outcome A) → ((a : A) → P a → Asks (f a)) → IfYields o P → Asks (acting f o)
  acting-of P f (Yields a) more is = more a is
  acting-of P f (Fails why) more is = keeps.fails why

  -- of what nothing is known
  acting-any : {A : Type 0} (f : A → Act) (o : Outcome A) → ((a : A) → Asks (f a)) → Asks (acting f o)
  acting-any f (Yields a) more = more a
  acting-any f (Fails why) more = keeps.fails why

  continuing-of : (o : Outcome Data) → IfYields o Left → Asks (continuing o)
  continuing-of o is = acting-of Left (Requests Continues) o keeps.continues is

  changed-left : (o : Outcome Data) → IfYields o Changed → IfYields o Left
  changed-left (Yields own) is = keeps.ends own is
  changed-left (Fails why) is = tt

  goes-on : (own : Data) → Changed own → Asks (Requests Continues own)
  goes-on own is = keeps.continues own (keeps.ends own is)

  done-changed : Changed (done stand)
  done-changed = keeps.opens (done stand) keeps.does

  done-asks : Asks (Requests Continues (done stand))
  done-asks = goes-on (done stand) done-changed

  -- ---- items

  goes-made : (made xs : List Item) → Makes ds site s part made → made ++ stand.rest ≡ xs → Asks (Requests Continues (remaining stand xs))
  goes-made made xs makes e = subst (λ ys. Asks (Requests Continues (remaining stand ys))) e (keeps.continues (remaining stand (made ++ stand.rest)) (keeps.makes made makes))

  -- ---- calls

  frame-at-is : (at : ℕ) (given : List written.Value) (body : Option (List Statement)) → body_of (kind_at ds at) ≡ body → IfYields (frame_at stand site at given body) Begun
  frame-at-is at given None is = tt
  frame-at-is at given (Some body) is =
      map-yields (All Given) Begun (λ values. function_frame stand.test at values body) (arguments (reads stand site) (parameters_of (kind_at ds at)) given)
      (λ values all. keeps.begins at body values is all) (keeps.handed at given)

  called-is : (call : Call) (at : Option ℕ) → IfYields (called_frame stand site call at) Begun
  called-is call None = tt
  called-is call (Some at) = frame-at-is at call.arguments (body_of (kind_at ds at)) refl

  frame-begun : (call : Call) → IfYields (frame_of_call stand site call) Begun
  frame-begun call = called-is call (behaviour_meant (module_names ds call.name))

  entering-if : (own : Data) (b : Bool) → (b ≡ true → Left own) → IfYields (if b then Yields own else dynamic_error) Left
  entering-if own true more = more refl
  entering-if own false more = tt

  call-asks : (call : Call) → Asks (call_function stand site call stand.own stand.rest)
  call-asks call =
      acting-of Begun (λ frame. continuing (enter stand.own stand.rest frame)) (frame_of_call stand site call)
      (λ frame begun. continuing-of (enter stand.own stand.rest frame)
      (entering-if (with_calls (frame ∷ (done stand).calls) stand.own) (nat_lt (length (frame ∷ (done stand).calls)) most) (λ fits. keeps.calls frame begun fits)))
      (frame-begun call)

  -- ---- right sides

  store-asks : (target : Target) (v : Value) (own : Data) → Given v → Changed own → Asks (continuing (store stand.test target v own))
  store-asks target v own given is = continuing-of (store stand.test target v own) (changed-left (store stand.test target v own) (keeps.stores target v own given is))

  activate-if : (at : ℕ) (own : Data) (values : List Value) (b : Bool) → All Given values → Opened own → IfYields (if b then Yields (activate at own values) else dynamic_error) Changed
  activate-if at own values true all is = keeps.activates at values own all is
  activate-if at own values false all is = tt

  activated-is-at : (call : Call) (own : Data) (at : Option ℕ) → Opened own → IfYields (activated_at stand site call own at) Changed
  activated-is-at call own None is = tt
  activated-is-at call own (Some at) is =
      then-yields (All Given) Changed (λ values. if nat_lt own.activations most then Yields (activate at own values) else dynamic_error)
      (arguments (reads stand site) (parameters_of (kind_at ds at)) call.arguments)
      (λ values all. activate-if at own values (nat_lt own.activations most) all is) (keeps.handed at call.arguments)

  activated-is : (call : Call) (own : Data) → Opened own → IfYields (activated stand site call own) Changed
  activated-is call own is = activated-is-at call own (altstep_meant (module_names ds call.name)) is

  create-of : (target : Target) (own : Data) (at : ℕ) → Opened own → (o : Outcome Frame) → ((members : Frame) → o ≡ Yields members → new_members stand.test (new_id stand own at) stand.snapshot ≡ Yields members)
      → Asks (acting (λ members. acting (λ changed. Requests (Creates (new_component stand.test (new_id stand own at) members)) (with_child changed)) (store stand.test target (value.Component (new_id stand own at)) own)) o)
  create-of target own at is o known =
      acting-is (λ members. acting (λ changed. Requests (Creates (new_component stand.test (new_id stand own at) members)) (with_child changed)) (store stand.test target (value.Component (new_id stand own at)) own)) o
      (λ members e. acting-is (λ changed. Requests (Creates (new_component stand.test (new_id stand own at) members)) (with_child changed)) (store stand.test target (value.Component (new_id stand own at)) own)
      (λ changed stored. keeps.creates target own at members changed is (known members e) stored))

  create-if : (target : Target) (own : Data) (at : ℕ) (b : Bool) → Opened own
      → Asks (acting (λ members. acting (λ changed. Requests (Creates (new_component stand.test (new_id stand own at) members)) (with_child changed)) (store stand.test target (value.Component (new_id stand own at)) own))
      (if b then new_members stand.test (new_id stand own at) stand.snapshot else dynamic_error))
  create-if target own at true is = create-of target own at is (new_members stand.test (new_id stand own at) stand.snapshot) (λ members e. e)
  create-if target own at false is = keeps.fails DynamicError

  created-asks : (target : Target) (own : Data) (at : Option ℕ) → Opened own → Asks (created stand target own at)
  created-asks target own None is = keeps.fails Unmet
  created-asks target own (Some at) is = create-if target own at (nat_lt own.children most) is

  assign-asks : (target : Target) (wanted : Option DataType) (own : Data) (right : Rhs) → Opened own → Asks (assign stand site target wanted own right)
  assign-asks target wanted own (rhs.Value v) is =
      acting-of Given (λ found. continuing (store stand.test target found own)) (value_wanted v (reads stand site) wanted)
      (λ found given. store-asks target found own given (keeps.opens own is)) (keeps.evaluated v wanted)
  assign-asks target wanted own (rhs.Create name) is = created-asks target own (component_meant (module_names ds name)) is
  assign-asks target wanted own (rhs.Call call) is =
      acting-of Begun (λ frame. continuing (enter own (Waiting target ∷ stand.rest) frame)) (frame_of_call stand site call)
      (λ frame begun. continuing-of (enter own (Waiting target ∷ stand.rest) frame)
      (entering-if (with_calls (frame ∷ (going_on (Waiting target ∷ stand.rest) own).calls) own) (nat_lt (length (frame ∷ (going_on (Waiting target ∷ stand.rest) own).calls)) most)
      (λ fits. keeps.awaits target own frame is begun fits)))
      (frame-begun call)
  assign-asks target wanted own (rhs.Activate call) is =
      acting-of Changed (λ changed. continuing (store stand.test target (value.Default changed.activations) changed)) (activated stand site call own)
      (λ changed also. store-asks target (value.Default changed.activations) changed (keeps.default_given changed.activations) also) (activated-is call own is)

  assignment-asks : (a : Assignment) → Asks (act_assignment stand site a)
  assignment-asks a = assign-asks (target_meant stand.test site a.target) (checked.target_at (scope_at ds site) a.target).data_type (done stand) a.value keeps.does

  -- ---- declarations

  initial-asks : (of : Option DataType) (name : List ℕ) (right : Option Rhs) → Asks (act_initial stand site of name right)
  initial-asks of name None = goes-on (declared stand (forget name)) (keeps.opens (declared stand (forget name)) (keeps.forgets name))
  initial-asks of name (Some right) = assign-asks (declared_target name) of (declared stand (forget name)) right (keeps.forgets name)

  variable-asks : (of : Option DataType) (v : Option Variable) → Asks (act_variable stand site of v)
  variable-asks of None = keeps.fails Unmet
  variable-asks of (Some v) = initial-asks of v.name v.value

  constant-asks : (of : Option DataType) (c : Option Constant) → Asks (act_constant stand site of c)
  constant-asks of None = keeps.fails Unmet
  constant-asks of (Some c) =
      acting-of Given (λ v. Requests Continues (declared stand (declare c.name v))) (value_wanted c.value (reads stand site) of)
      (λ v given. goes-on (declared stand (declare c.name v)) (keeps.declares c.name v given)) (keeps.evaluated c.value of)

  timer-asks : (k : ℕ) (timers : List Timer) (t : Option Timer) → part ≡ Name k → action_of s ≡ Action-F.Timers timers → slice_get timers k ≡ t → Asks (act_timer stand t)
  timer-asks k timers None named e is = keeps.fails Unmet
  timer-asks k timers (Some t) named e is = goes-on (declared stand (declare_timer t.name)) (keeps.declares_timer k timers t named e is)

  name-asks : (k : ℕ) (x : Does) → part ≡ Name k → action_of s ≡ x → Asks (act_name stand site k x)
  name-asks k (Action-F.Variables vs) named e = variable-asks (resolved (scope_at ds site).names vs.type_name) (slice_get vs.variables k)
  name-asks k (Action-F.For (for_start.Variables vs) condition step block) named e = variable-asks (resolved (scope_at ds site).names vs.type_name) (slice_get vs.variables k)
  name-asks k (Action-F.Constants cs) named e = constant-asks (resolved (scope_at ds site).names cs.type_name) (slice_get cs.constants k)
  name-asks k (Action-F.Timers timers) named e = timer-asks k timers (slice_get timers k) named e refl
  name-asks k _ named e = keeps.fails Unmet

  -- ---- conditions and loops

  either-asks : (held failed : List Item) → Asks (Requests Continues (remaining stand held)) → Asks (Requests Continues (remaining stand failed)) → (b : Bool) → Asks (go_either stand held failed b)
  either-asks held failed one other true = one
  either-asks held failed one other false = other

  test-asks : (e : Expr) (held failed : List Item) → Asks (Requests Continues (remaining stand held)) → Asks (Requests Continues (remaining stand failed)) → Asks (act_test stand site e held failed)
  test-asks e held failed one other = acting-any (go_either stand held failed) (condition_of e (reads stand site)) (either-asks held failed one other)

  loop-asks : (condition : Expr) (block : List Statement) (again : List Item) → Makes ds site s part (items ds site block ++ again) → Asks (act_loop stand site condition block again)
  loop-asks condition block again makes =
      test-asks condition (items ds site block ++ again ++ stand.rest) stand.rest
      (goes-made (items ds site block ++ again) (items ds site block ++ again ++ stand.rest) makes refl) done-asks

  otherwise-asks : (next : ℕ) (conditionals : List Conditional) (last : Option (List Statement)) (b : Bool) → IsTest part → action_of s ≡ Action-F.If conditionals last
      → Asks (Requests Continues (remaining stand (if b then Doing site s (From next) ∷ stand.rest else items_if_any ds site last ++ stand.rest)))
  otherwise-asks next conditionals last true tests e = goes-made (Doing site s (From next) ∷ []) (Doing site s (From next) ∷ stand.rest) (MakesTest next conditionals last tests e) refl
  otherwise-asks next conditionals last false tests e = goes-made (items_if_any ds site last) (items_if_any ds site last ++ stand.rest) (MakesElse conditionals last tests e) refl

  conditional-asks : (k : ℕ) (conditionals : List Conditional) (last : Option (List Statement)) (c : Option Conditional) → IsTest part → action_of s ≡ Action-F.If conditionals last → slice_get conditionals k ≡ c
      → Asks (act_conditional stand site s k conditionals last c)
  conditional-asks k conditionals last None tests e is = goes-made (items_if_any ds site last) (items_if_any ds site last ++ stand.rest) (MakesElse conditionals last tests e) refl
  conditional-asks k conditionals last (Some c) tests e is =
      test-asks (out-Conditional c).condition (items ds site (out-Conditional c).block ++ stand.rest) (otherwise stand site s (k + 1) conditionals last)
      (goes-made (items ds site (out-Conditional c).block) (items ds site (out-Conditional c).block ++ stand.rest) (MakesBlock k conditionals last c tests e is) refl)
      (otherwise-asks (k + 1) conditionals last (nat_lt (k + 1) (length conditionals)) tests e)

  if-asks : (k : ℕ) (conditionals : List Conditional) (last : Option (List Statement)) → IsTest part → action_of s ≡ Action-F.If conditionals last → Asks (act_if stand site s k conditionals last)
  if-asks k conditionals last tests e = conditional-asks k conditionals last (slice_get conditionals k) tests e refl

  -- ---- ends of frames

  back-asks : (frame : Frame) (frames : List Frame) (xs : List Item) (result : Option Value) → stand.below ≡ frame ∷ frames → frame.remaining ≡ xs → ((v : Value) → result ≡ Some v → Given v) → Asks (give_back stand frame frames xs result)
  back-asks frame frames (Waiting target ∷ xs) (Some v) below e given =
      continuing-of (store stand.test target v (going_on xs (with_calls (frame ∷ frames) stand.own))) (keeps.gives_back frame frames target xs v below e (given v refl))
  back-asks frame frames (Waiting target ∷ xs) None below e given = keeps.fails Unmet
  back-asks frame frames (Doing inner t p ∷ xs) result below e given = keeps.continues (with_calls (frame ∷ frames) stand.own) (keeps.leaves frame frames below)
  back-asks frame frames (Mark inner t ∷ xs) result below e given = keeps.continues (with_calls (frame ∷ frames) stand.own) (keeps.leaves frame frames below)
  back-asks frame frames [] result below e given = keeps.continues (with_calls (frame ∷ frames) stand.own) (keeps.leaves frame frames below)

  leave-asks : (frames : List Frame) (result : Option Value) → stand.below ≡ frames → ((v : Value) → result ≡ Some v → Given v) → Asks (leave stand frames result)
  leave-asks [] result below given = keeps.stops_last below
  leave-asks (frame ∷ frames) result below given = back-asks frame frames frame.remaining result below refl given

  same-value : {v w : Value} → Some v ≡ Some w → v ≡ w
  same-value e = cc

  return-asks : (v : Option written.Value) → Asks (act_return stand site v)
  return-asks None = leave-asks stand.below None refl (λ v e. absurd (let is = e in cc))
  return-asks (Some v) =
      acting-of Given (λ found. leave stand stand.below (Some found)) (value_wanted v (reads stand site) (result_at stand.test site))
      (λ found given. leave-asks stand.below (Some found) refl (λ w e. subst Given (same-value e) given)) (keeps.evaluated v (result_at stand.test site))

  -- ---- components, ports and sends

  ask-if : (one other : PortRef) (c d : ComponentId) (b : Bool) → component_meant_at stand site one.component ≡ Yields c → component_meant_at stand site other.component ≡ Yields d
      → (b ≡ true → may_connect ds c one.port d other.port ≡ true)
      → Asks (if b then Requests (Connects (record { component = c.path; port = one.port }) (record { component = d.path; port = other.port })) (done stand) else Errs DynamicError)
  ask-if one other c d true first second may = keeps.connects one other c d first second (may refl)
  ask-if one other c d false first second may = keeps.fails DynamicError

  connect-asks : (one other : PortRef) → Asks (act_connect stand site one other)
  connect-asks one other =
      acting-is (λ c. acting (λ d. ask_connection stand c one.port d other.port) (component_meant_at stand site other.component)) (component_meant_at stand site one.component)
      (λ c first. acting-is (λ d. ask_connection stand c one.port d other.port) (component_meant_at stand site other.component)
      (λ d second. ask-if one other c d (may_connect ds c one.port d other.port) first second (λ e. e)))

  map-if : (m : Mapping) (c : ComponentId) (b : Bool) → component_meant_at stand site m.port.component ≡ Yields c → (b ≡ true → may_map stand.test c m.port.port m.system_port ≡ true)
      → Asks (if b then Requests (Maps (record { component = c.path; port = m.port.port }) m.system_port) (done stand) else Errs DynamicError)
  map-if m c true meant may = keeps.maps m c meant (may refl)
  map-if m c false meant may = keeps.fails DynamicError

  operation-asks : (m : Mapping) (c : ComponentId) (o : MapOperation) → component_meant_at stand site m.port.component ≡ Yields c → Asks (ask_operation stand o c m.port.port m.system_port)
  operation-asks m c operation.Map meant = map-if m c (may_map stand.test c m.port.port m.system_port) meant (λ e. e)
  operation-asks m c operation.Unmap meant = keeps.unmaps m c meant

  map-asks : (m : Mapping) → Asks (act_map stand site m)
  map-asks m =
      acting-is (λ c. ask_operation stand m.operation c m.port.port m.system_port) (component_meant_at stand site m.port.component)
      (λ c meant. operation-asks m c m.operation meant)

  send-asks : (send : Send) → Asks (act_send stand site send)
  send-asks send =
      acting-is (λ v. acting (λ to. Requests (Sends send.port to v) (done stand)) (sent_to stand site send.to)) (sent_value stand site send (sent_type (scope_at ds site) send))
      (λ v of. acting-is (λ to. Requests (Sends send.port to v) (done stand)) (sent_to stand site send.to) (λ to meant. keeps.sends send v to of meant))

  start-asks : (reference : ComponentRef) (call : Call) → Asks (act_start stand site reference call)
  start-asks reference call =
      acting-is (λ c. acting (λ frame. Requests (Starts c.path frame) (done stand)) (frame_of_call stand site call)) (component_meant_at stand site reference)
      (λ c meant. acting-of Begun (λ frame. Requests (Starts c.path frame) (done stand)) (frame_of_call stand site call) (λ frame begun. keeps.starts reference c frame meant begun) (frame-begun call))

  stop-asks : (reference : ComponentRef) (o : Option Bool) → Asks (stop_meant stand site reference o)
  stop-asks reference (Some b) = goes-on (set_timer stand.test site (name_in reference) timer.Inactive (done stand)) (keeps.sets_timer (name_in reference) timer.Inactive)
  stop-asks reference None = acting-is (λ c. Requests (Stops c.path) (done stand)) (component_meant_at stand site reference) (λ c meant. keeps.stops reference c meant)

  -- ---- defaults

  without-default-is : (v : Value-F Value) → IfYields (without_default (done stand) v) Changed
  without-default-is (Value-F.Default n) = keeps.deactivates _
  without-default-is Value-F.Null = done-changed
  without-default-is (Value-F.Integer n) = tt
  without-default-is (Value-F.Boolean b) = tt
  without-default-is (Value-F.Enumerated at n) = tt
  without-default-is (Value-F.Record at fields) = tt
  without-default-is (Value-F.Component c) = tt
  without-default-is Value-F.Omit = tt

  deactivate-asks : (reference : Option Reference) → Asks (act_deactivate stand site reference)
  deactivate-asks None = goes-on (with_defaults [] (done stand)) keeps.deactivates_all
  deactivate-asks (Some reference) =
      continuing-of (outcome_and_then (λ v. without_default (done stand) (out-Value v)) (referred (reads stand site) reference))
      (changed-left (outcome_and_then (λ v. without_default (done stand) (out-Value v)) (referred (reads stand site) reference)) (then-any (referred (reads stand site) reference)))
    where
      then-any : (o : Outcome Value) → IfYields (outcome_and_then (λ v. without_default (done stand) (out-Value v)) o) Changed
      then-any (Yields v) = without-default-is (out-Value v)
      then-any (Fails why) = tt

  -- ---- alts

  port-asks : (port : Option (List ℕ)) (own : Data) → Left own → Asks (act_port port own)
  port-asks None own is = keeps.continues own is
  port-asks (Some port) own is = keeps.removes port own is

  taken-if : (chance : Chance) (effect : Effect) (own : Data) (b : Bool) → part ≡ Whole → choice_at stand site s ≡ Some (Taken chance effect) → taken stand.test site s stand.rest chance effect stand.own ≡ Yields own
      → (b ≡ true → nat_lt (length own.calls) most ≡ true) → Asks (acting (act_port (port_taken effect)) (if b then Yields (with_calls own.calls own) else dynamic_error))
  taken-if chance effect own true whole chosen is fits = port-asks (port_taken effect) (with_calls own.calls own) (keeps.takes chance effect own whole chosen is (fits refl))
  taken-if chance effect own false whole chosen is fits = keeps.fails DynamicError

  taken-of : (chance : Chance) (effect : Effect) (o : Outcome Data) → part ≡ Whole → choice_at stand site s ≡ Some (Taken chance effect) → taken stand.test site s stand.rest chance effect stand.own ≡ o
      → Asks (acting (act_port (port_taken effect)) (outcome_and_then (λ own. with_frames own.calls own) o))
  taken-of chance effect (Yields own) whole chosen is = taken-if chance effect own (nat_lt (length own.calls) most) whole chosen is (λ e. e)
  taken-of chance effect (Fails why) whole chosen is = keeps.fails why

  choice-asks : (choice : Choice) → part ≡ Whole → choice_at stand site s ≡ Some choice → Asks (act_choice stand site s choice)
  choice-asks Nothing whole is = keeps.waits whole is
  choice-asks (Refused why) whole is = keeps.fails why
  choice-asks (Taken chance effect) whole is = taken-of chance effect (taken stand.test site s stand.rest chance effect stand.own) whole is refl

  alt-or-asks : (other : Act) (o : Option Choice) → part ≡ Whole → choice_at stand site s ≡ o → Asks other → Asks (act_alt_or other stand site s o)
  alt-or-asks other None whole is asks = asks
  alt-or-asks other (Some choice) whole is asks = choice-asks choice whole is

  repeat-of : (o : Option (List Frame)) → repeated stand.own.calls ≡ o → IfYields (outcome_map (λ calls. with_calls calls stand.own) (or_unmet o)) Left
  repeat-of None is = tt
  repeat-of (Some calls) is = keeps.repeats calls is

  -- ---- statements

  whole-asks : part ≡ Whole → IsTest part → (x : Does) → action_of s ≡ x → Asks (act_whole stand site s x)
  whole-asks whole tests (Action-F.Variables vs) e = keeps.fails Unmet
  whole-asks whole tests (Action-F.Constants cs) e = keeps.fails Unmet
  whole-asks whole tests (Action-F.Timers timers) e = keeps.fails Unmet
  whole-asks whole tests (Action-F.Assign a) e = assignment-asks a
  whole-asks whole tests (Action-F.«Action::Call» call) e = alt-or-asks (call_function stand site call stand.own stand.rest) (choice_at stand site s) whole refl (call-asks call)
  whole-asks whole tests (Action-F.«Action::Event» event) e = alt-or-asks (Errs Unmet) (choice_at stand site s) whole refl (keeps.fails Unmet)
  whole-asks whole tests (Action-F.Alt branches) e = alt-or-asks (Errs Unmet) (choice_at stand site s) whole refl (keeps.fails Unmet)
  whole-asks whole tests Action-F.Repeat e = continuing-of (repeat_alt stand.own) (repeat-of (repeated stand.own.calls) refl)
  whole-asks whole tests (Action-F.If conditionals last) e = if-asks 0 conditionals last tests e
  whole-asks whole tests (Action-F.While condition block) e = loop-asks condition block (Doing site s Whole ∷ []) (MakesWhile condition block whole e)
  whole-asks whole tests (Action-F.DoWhile block condition) e =
      goes-made (items ds site block ++ Doing site s Loop ∷ []) (items ds site block ++ Doing site s Loop ∷ stand.rest) (MakesDo block condition whole e) (append_assoc (items ds site block) (Doing site s Loop ∷ []) stand.rest)
  whole-asks whole tests (Action-F.For start condition step block) e =
      goes-made (start_items ds site s start ++ Doing (site_in_for ds site start) s Loop ∷ []) (start_items ds site s start ++ Doing (site_in_for ds site start) s Loop ∷ stand.rest)
      (MakesFor start condition step block whole e) (append_assoc (start_items ds site s start) (Doing (site_in_for ds site start) s Loop ∷ []) stand.rest)
  whole-asks whole tests (Action-F.Return v) e = return-asks v
  whole-asks whole tests Action-F.Stop e = keeps.stops_itself
  whole-asks whole tests (Action-F.Log logged) e = done-asks
  whole-asks whole tests (Action-F.Setverdict v reasons) e = keeps.worsens v reasons whole e
  whole-asks whole tests (Action-F.Connect one other) e = connect-asks one other
  whole-asks whole tests (Action-F.Map m) e = map-asks m
  whole-asks whole tests (Action-F.Send send) e = send-asks send
  whole-asks whole tests (Action-F.StartComponent reference call) e = start-asks reference call
  whole-asks whole tests (Action-F.StartTimer name) e = goes-on (set_timer stand.test site name timer.Running (done stand)) (keeps.sets_timer name timer.Running)
  whole-asks whole tests (Action-F.StopOf reference) e = stop-asks reference (timer_at (reads stand site) reference)
  whole-asks whole tests (Action-F.Activate call) e = continuing-of (activated stand site call (done stand)) (changed-left (activated stand site call (done stand)) (activated-is call (done stand) keeps.does))
  whole-asks whole tests (Action-F.Deactivate reference) e = deactivate-asks reference

  for-start-asks : (x : Does) → Asks (act_for_start stand site x)
  for-start-asks (Action-F.For (for_start.Assign a) condition step block) = assignment-asks a
  for-start-asks _ = keeps.fails Unmet

  for-step-asks : (x : Does) → Asks (act_for_step stand site x)
  for-step-asks (Action-F.For start condition step block) = assignment-asks step
  for-step-asks _ = keeps.fails Unmet

  while-asks : part ≡ Loop → (x : Does) → action_of s ≡ x → Asks (act_while stand site s x)
  while-asks loop (Action-F.DoWhile block condition) e = loop-asks condition block (Doing site s Loop ∷ []) (MakesDoAgain block condition loop e)
  while-asks loop (Action-F.For start condition step block) e = loop-asks condition block (Doing site s Last ∷ Doing site s Loop ∷ []) (MakesForAgain start condition step block loop e)
  while-asks loop _ e = keeps.fails Unmet

  from-asks : (k : ℕ) → IsTest part → (x : Does) → action_of s ≡ x → Asks (act_from stand site s k x)
  from-asks k tests (Action-F.If conditionals last) e = if-asks k conditionals last tests e
  from-asks k tests _ e = keeps.fails Unmet

  part-is : (p : Part) → part ≡ p → Asks (act_part stand site s p)
  part-is Whole is = whole-asks is (subst IsTest (sym is) tt) (action_of s) refl
  part-is (Name k) is = name-asks k (action_of s) is refl
  part-is (From k) is = from-asks k (subst IsTest (sym is) tt) (action_of s) refl
  part-is Start is = for-start-asks (action_of s)
  part-is Loop is = while-asks is (action_of s) refl
  part-is Last is = for-step-asks (action_of s)

  -- what the part asks for
  pub part-asks : Asks (act_part stand site s part)
  part-asks = part-is part refl

-- ---- the step of a component

-- nothing remains in the last frame, which goes
pub end-asks : (stand : Stand) (Asks : Act → Type 0) → ((why : Failure) → Asks (Errs why)) → (stand.below ≡ [] → Asks (Requests (Stops stand.snapshot.itself.path) (with_calls [] stand.own)))
    → ((frame : Frame) (frames : List Frame) → stand.below ≡ frame ∷ frames → Asks (Requests Continues (with_calls (frame ∷ frames) stand.own))) → (frames : List Frame) → stand.below ≡ frames → Asks (act_end stand frames)
end-asks stand Asks fails last leaves [] is = last is
end-asks stand Asks fails last leaves (frame ∷ frames) is = end-if (waits_first frame.remaining)
  where
    end-if : (b : Bool) → Asks (if b then Errs DynamicError else Requests Continues (with_calls (frame ∷ frames) stand.own))
    end-if true = fails DynamicError
    end-if false = leaves frame frames is

module _ (test : Test) (snapshot : Snapshot) (own : Data) (Asks : Act → Type 0) (fails : (why : Failure) → Asks (Errs why))
    (ending : (frame : Frame) (below : List Frame) → own.calls ≡ frame ∷ below → frame.remaining ≡ [] → Asks (act_end (record { test = test; snapshot = snapshot; own = own; frame = frame; below = below; rest = [] }) below))
    (doing : (frame : Frame) (below : List Frame) (site : Site) (s : Statement) (part : Part) (rest : List Item) → own.calls ≡ frame ∷ below → frame.remaining ≡ Doing site s part ∷ rest
    → Asks (act_part (record { test = test; snapshot = snapshot; own = own; frame = frame; below = below; rest = rest }) site s part)) where
  first-asks : (frame : Frame) (below : List Frame) (xs : List Item) → own.calls ≡ frame ∷ below → frame.remaining ≡ xs → Asks (act_first test snapshot own frame below xs)
  first-asks frame below [] calls is = ending frame below calls is
  first-asks frame below (Doing site s part ∷ rest) calls is = doing frame below site s part rest calls is
  first-asks frame below (Mark site s ∷ rest) calls is = fails Unmet
  first-asks frame below (Waiting target ∷ rest) calls is = fails Unmet

  frames-ask : (calls : List Frame) → own.calls ≡ calls → Asks (act_in test snapshot own calls)
  frames-ask [] is = fails Unmet
  frames-ask (frame ∷ below) is = first-asks frame below frame.remaining is refl

  -- what a running component asks for: its last frame ends, or the first item that remains in it is a part of a statement
  pub act-asks : Asks (act test snapshot own)
  act-asks = frames-ask own.calls refl
