-- Configurations in which some components have already done what they will choose, and that the steps of others lead to such configurations again.
use Rattle.std.proofs.Common.{◌≡◌, ℕ, Bool, true, false, ◌||◌, List, [], ◌∷◌, ◌++◌, map, Option, Some, None, IfSome, is_some, option_map, bytes_eq, refl, sym, ap, subst, ◌∙◌, if◌then◌else◌}
use Rattle.std.specs.List.{All, filter, find, fold, list_any}
use Rattle.std.specs.Option.{option_and_then}
use Rattle.std.specs.Ordering.{is_lt}
use Rattle.std.proofs.lemmas.List.Elements.{All-cons, All-head, All-nil, All-tail}
use Rattle.ttcn_syntax.specs.declared.tree.statement.Verdict.{Verdict}
use Rattle.laws_fine.specs.Fine.{is_found}
use Rattle.laws_steps.proofs.Finding.{found-map, path-is}
use Rattle.semantics.proofs.Pairs.{All-more}
use Rattle.semantics.specs.Configurations.{Component, Configuration, Created, Data, End, Ended, Frame, Goes, Going, Message, Queue, Running, State, Terminated, component_at, is_running_state, is_terminated_state, overall, path_cmp, path_of, same_path, worse}
use Rattle.semantics.specs.Entries.{put}
use Rattle.semantics.specs.Snapshots.{Snapshot, Test, front_of, mtc_of, snapshot_of}
use Rattle.semantics.specs.Statements.{Act, Connects, Continues, Creates, Errs, Maps, Removes, Requests, Sends, Starts, Stops, Unmaps, Waits, Worsens, act}
use Rattle.semantics.specs.Steps.{Statement, addressed, apply, at_queue, begin, change_queue, connect, connection, deliver, ending, insert, is_before, is_connected, is_double, is_kept_apart, is_kept_unmapped, is_mapped, is_terminated_at, is_terminated_component, map_port, maps_otherwise, next, peers, send, send_out, send_to_peer, settle, settled, start_component, start_created, start_in, statement_step, stop, terminate, touch, unless_terminated, unmap_port, with_connection, with_data, with_mappings, with_new, with_state, with_verdict, without_component, without_first}
use Rattle.value_types.specs.Outcomes.{Fails, Outcome, Yields, dynamic_error, outcome_map}
use Rattle.value_types.specs.declared.path.Path.{Path}
use Rattle.value_types.specs.declared.value.ComponentId.{ComponentId}
use Rattle.value_types.specs.declared.value.Value.{Value}

-- ---- what a component does early

-- a component that has done what it asks for
abbrev pub made_by : Act → Component → Component
made_by (Requests Continues own) x = with_data own x
made_by (Requests (Removes port) own) x = at_queue port without_first (with_data own x)
made_by other x = x

-- a component that has chosen by a snapshot
abbrev pub made : Test → Snapshot → Component → Component
made test snapshot x = made_by (act test snapshot x.own) x

abbrev pub made_if : Test → Option Snapshot → Component → Component
made_if test None x = x
made_if test (Some snapshot) x = made test snapshot x

-- by which snapshots components have still to choose
abbrev pub Pending : Type 0
Pending = Path → Option Snapshot

-- a component that has chosen early if it has to choose
abbrev pub hastened : Test → Pending → Component → Component
hastened test pending x = made_if test (pending (path_of x)) x

-- the components that have to choose have chosen
abbrev pub early : Test → Pending → Going → Going
early test pending c = record { components = map (hastened test pending) c.components; connections = c.connections; mappings = c.mappings; delivered = c.delivered; forgotten = c.forgotten }

abbrev pub early_in : Test → Pending → Configuration → Configuration
early_in test pending (Ended v) = Ended v
early_in test pending (Goes c) = Goes (early test pending c)

made-itself : (a : Act) (x : Component) → (made_by a x).itself ≡ x.itself
made-itself Waits x = refl
made-itself (Errs why) x = refl
made-itself (Requests Continues own) x = refl
made-itself (Requests (Worsens v) own) x = refl
made-itself (Requests (Removes port) own) x = refl
made-itself (Requests (Sends port to v) own) x = refl
made-itself (Requests (Creates new) own) x = refl
made-itself (Requests (Starts path frame) own) x = refl
made-itself (Requests (Stops path) own) x = refl
made-itself (Requests (Connects d e) own) x = refl
made-itself (Requests (Maps d system_port) own) x = refl
made-itself (Requests (Unmaps d system_port) own) x = refl

pub made-state : (a : Act) (x : Component) → (made_by a x).state ≡ x.state
made-state Waits x = refl
made-state (Errs why) x = refl
made-state (Requests Continues own) x = refl
made-state (Requests (Worsens v) own) x = refl
made-state (Requests (Removes port) own) x = refl
made-state (Requests (Sends port to v) own) x = refl
made-state (Requests (Creates new) own) x = refl
made-state (Requests (Starts path frame) own) x = refl
made-state (Requests (Stops path) own) x = refl
made-state (Requests (Connects d e) own) x = refl
made-state (Requests (Maps d system_port) own) x = refl
made-state (Requests (Unmaps d system_port) own) x = refl

made-verdict : (a : Act) (x : Component) → (made_by a x).verdict ≡ x.verdict
made-verdict Waits x = refl
made-verdict (Errs why) x = refl
made-verdict (Requests Continues own) x = refl
made-verdict (Requests (Worsens v) own) x = refl
made-verdict (Requests (Removes port) own) x = refl
made-verdict (Requests (Sends port to v) own) x = refl
made-verdict (Requests (Creates new) own) x = refl
made-verdict (Requests (Starts path frame) own) x = refl
made-verdict (Requests (Stops path) own) x = refl
made-verdict (Requests (Connects d e) own) x = refl
made-verdict (Requests (Maps d system_port) own) x = refl
made-verdict (Requests (Unmaps d system_port) own) x = refl

if-itself : (test : Test) (o : Option Snapshot) (x : Component) → (made_if test o x).itself ≡ x.itself
if-itself test None x = refl
if-itself test (Some snapshot) x = made-itself (act test snapshot x.own) x

if-state : (test : Test) (o : Option Snapshot) (x : Component) → (made_if test o x).state ≡ x.state
if-state test None x = refl
if-state test (Some snapshot) x = made-state (act test snapshot x.own) x

if-verdict : (test : Test) (o : Option Snapshot) (x : Component) → (made_if test o x).verdict ≡ x.verdict
if-verdict test None x = refl
if-verdict test (Some snapshot) x = made-verdict (act test snapshot x.own) x

pub hastened-itself : (test : Test) (pending : Pending) (x : Component) → (hastened test pending x).itself ≡ x.itself
hastened-itself test pending x = if-itself test (pending (path_of x)) x

pub hastened-path : (test : Test) (pending : Pending) (x : Component) → path_of (hastened test pending x) ≡ path_of x
hastened-path test pending x = ap (λ (id : ComponentId). id.path) (hastened-itself test pending x)

pub hastened-state : (test : Test) (pending : Pending) (x : Component) → (hastened test pending x).state ≡ x.state
hastened-state test pending x = if-state test (pending (path_of x)) x

hastened-verdict : (test : Test) (pending : Pending) (x : Component) → (hastened test pending x).verdict ≡ x.verdict
hastened-verdict test pending x = if-verdict test (pending (path_of x)) x

-- ---- lists

pub map-all : {A B : Type 0} (f g : A → B) (xs : List A) → All (λ x. f x ≡ g x) xs → map f xs ≡ map g xs
map-all f g [] all = refl
map-all f g (x ∷ xs) all = ap (λ y. y ∷ map f xs) (All-head (λ y. f y ≡ g y) x xs all) ∙ ap (λ ys. g x ∷ ys) (map-all f g xs (All-tail (λ y. f y ≡ g y) x xs all))

pub map-map : {A B C : Type 0} (f : B → C) (g : A → B) (xs : List A) → map f (map g xs) ≡ map (λ x. f (g x)) xs
map-map f g [] = refl
map-map f g (x ∷ xs) = ap (λ ys. f (g x) ∷ ys) (map-map f g xs)

pub each-all : {A : Type 0} (P : A → Type 0) → ((x : A) → P x) → (xs : List A) → All P xs
each-all P is [] = All-nil P
each-all P is (x ∷ xs) = All-cons P x xs (is x) (each-all P is xs)

-- ---- finding

pub early-at : (test : Test) (pending : Pending) (c : Going) (p : Path) → component_at (early test pending c) p ≡ option_map (hastened test pending) (component_at c p)
early-at test pending c p = found-map (hastened test pending) (hastened-path test pending) p c.components

-- ---- changes of one component

touched-told : (h change other : Component → Component) (x : Component) (b t : Bool) → (b ≡ true → t ≡ false → other (h x) ≡ h (change x))
    → (if b then (if t then h x else other (h x)) else h x) ≡ h (if b then (if t then x else change x) else x)
touched-told h change other x true true same = refl
touched-told h change other x true false same = same refl refl
touched-told h change other x false t same = refl

-- a change behind what is done early does the same as a change before it
abbrev pub AgreesAt : Test → Pending → Path → (Component → Component) → (Component → Component) → Component → Type 0
AgreesAt test pending p change other x =
    same_path (path_of x) p ≡ true → is_terminated_state x.state ≡ false → other (hastened test pending x) ≡ hastened test pending (change x)

touched-one : (test : Test) (pending : Pending) (p : Path) (change other : Component → Component) (x : Component) → AgreesAt test pending p change other x
    → (if same_path (path_of (hastened test pending x)) p then unless_terminated other (hastened test pending x) else hastened test pending x)
    ≡ hastened test pending (if same_path (path_of x) p then unless_terminated change x else x)
touched-one test pending p change other x same =
    ap (λ q. if same_path q p then unless_terminated other (hastened test pending x) else hastened test pending x) (hastened-path test pending x)
    ∙ ap (λ st. if same_path (path_of x) p then (if is_terminated_state st then hastened test pending x else other (hastened test pending x)) else hastened test pending x) (hastened-state test pending x)
    ∙ touched-told (hastened test pending) change other x (same_path (path_of x) p) (is_terminated_state x.state) same

abbrev pub with_components : Going → List Component → Going
with_components c xs = record { components = xs; connections = c.connections; mappings = c.mappings; delivered = c.delivered; forgotten = c.forgotten }

pub touch-early : (test : Test) (pending : Pending) (c : Going) (p : Path) (change other : Component → Component) → All (AgreesAt test pending p change other) c.components
    → touch (early test pending c) p other ≡ early test pending (touch c p change)
touch-early test pending c p change other all =
    ap (with_components c)
    (map-map (λ x. if same_path (path_of x) p then unless_terminated other x else x) (hastened test pending) c.components
    ∙ map-all (λ x. if same_path (path_of (hastened test pending x)) p then unless_terminated other (hastened test pending x) else hastened test pending x)
    (λ x. hastened test pending (if same_path (path_of x) p then unless_terminated change x else x)) c.components
    (All-more (AgreesAt test pending p change other)
    (λ x. (if same_path (path_of (hastened test pending x)) p then unless_terminated other (hastened test pending x) else hastened test pending x)
    ≡ hastened test pending (if same_path (path_of x) p then unless_terminated change x else x))
    (touched-one test pending p change other) c.components all)
    ∙ sym (map-map (hastened test pending) (λ x. if same_path (path_of x) p then unless_terminated change x else x) c.components))

free-is : (test : Test) (pending : Pending) (p : Path) (x : Component) → pending p ≡ None → path_of x ≡ p → hastened test pending x ≡ x
free-is test pending p x none at = ap (λ o. made_if test o x) (ap pending at ∙ none)

-- a component that doesn't have to choose
free-agrees : (test : Test) (pending : Pending) (p : Path) (change : Component → Component) → ((x : Component) → path_of (change x) ≡ path_of x) → pending p ≡ None → (x : Component)
    → AgreesAt test pending p change change x
free-agrees test pending p change paths none x same alive =
    ap change (free-is test pending p x none (path-is (path_of x) p same)) ∙ sym (free-is test pending p (change x) none (paths x ∙ path-is (path_of x) p same))

pub touch-free : (test : Test) (pending : Pending) (c : Going) (p : Path) (change : Component → Component) → ((x : Component) → path_of (change x) ≡ path_of x) → pending p ≡ None
    → touch (early test pending c) p change ≡ early test pending (touch c p change)
touch-free test pending c p change paths none =
    touch-early test pending c p change change (each-all (AgreesAt test pending p change change) (free-agrees test pending p change paths none) c.components)

settle-free : (test : Test) (pending : Pending) (c : Going) (p : Path) (own : Data) → pending p ≡ None → settle (early test pending c) p own ≡ early test pending (settle c p own)
settle-free test pending c p own none = touch-free test pending c p (with_data own) (λ x. refl) none

-- ---- another state

state-made : (state : State) (a : Act) (x : Component) → with_state state (made_by a x) ≡ made_by a (with_state state x)
state-made state Waits x = refl
state-made state (Errs why) x = refl
state-made state (Requests Continues own) x = refl
state-made state (Requests (Worsens v) own) x = refl
state-made state (Requests (Removes port) own) x = refl
state-made state (Requests (Sends port to v) own) x = refl
state-made state (Requests (Creates new) own) x = refl
state-made state (Requests (Starts path frame) own) x = refl
state-made state (Requests (Stops path) own) x = refl
state-made state (Requests (Connects d e) own) x = refl
state-made state (Requests (Maps d system_port) own) x = refl
state-made state (Requests (Unmaps d system_port) own) x = refl

state-if : (test : Test) (state : State) (o : Option Snapshot) (x : Component) → with_state state (made_if test o x) ≡ made_if test o (with_state state x)
state-if test state None x = refl
state-if test state (Some snapshot) x = state-made state (act test snapshot x.own) x

touch-state : (test : Test) (pending : Pending) (c : Going) (p : Path) (state : State) → touch (early test pending c) p (with_state state) ≡ early test pending (touch c p (with_state state))
touch-state test pending c p state =
    touch-early test pending c p (with_state state) (with_state state)
    (each-all (AgreesAt test pending p (with_state state) (with_state state)) (λ x same alive. state-if test state (pending (path_of x)) x) c.components)

-- ---- messages

-- a message waits at a port, if the port is there
abbrev pub HasFront : List ℕ → List Queue → Type 0
HasFront port queues = IfSome (find (λ queue. bytes_eq queue.0 port) queues) (λ queue. is_some (front_of queue.1) ≡ true)

-- what is asked for finds the message that it removes
abbrev pub FindsFront : Act → List Queue → Type 0
FindsFront (Requests (Removes port) own) queues = HasFront port queues
FindsFront other queues = Unit {0}

abbrev behind_all : Message → List Message → List Message
behind_all message messages = messages ++ message ∷ []

removed-told : (message : Message) (messages : List Message) → is_some (front_of messages) ≡ true → behind_all message (without_first messages) ≡ without_first (behind_all message messages)
removed-told message [] is = absurd (let no = is in cc)
removed-told message (first ∷ others) is = refl

queues-told : (port to : List ℕ) (message : Message) (queue : Queue) (queues : List Queue) (a b : Bool) → bytes_eq queue.0 to ≡ a → bytes_eq queue.0 port ≡ b → HasFront port (queue ∷ queues)
    → (HasFront port queues → change_queue to (behind_all message) (change_queue port without_first queues) ≡ change_queue port without_first (change_queue to (behind_all message) queues))
    → change_queue to (behind_all message) (if b then (queue.0, without_first queue.1) ∷ queues else queue ∷ change_queue port without_first queues)
    ≡ change_queue port without_first (if a then (queue.0, behind_all message queue.1) ∷ queues else queue ∷ change_queue to (behind_all message) queues)
queues-told port to message queue queues true true is also front rest =
    ap (λ t. if t then (queue.0, behind_all message (without_first queue.1)) ∷ queues else (queue.0, without_first queue.1) ∷ change_queue to (behind_all message) queues) is
    ∙ ap (λ messages. (queue.0, messages) ∷ queues) (removed-told message queue.1 (subst (λ o. IfSome o (λ q. is_some (front_of q.1) ≡ true)) (ap (λ t. if t then Some queue else find (λ q. bytes_eq q.0 port) queues) also) front))
    ∙ sym (ap (λ t. if t then (queue.0, without_first (behind_all message queue.1)) ∷ queues else (queue.0, behind_all message queue.1) ∷ change_queue port without_first queues) also)
queues-told port to message queue queues true false is also front rest =
    ap (λ t. if t then (queue.0, behind_all message queue.1) ∷ change_queue port without_first queues else queue ∷ change_queue to (behind_all message) (change_queue port without_first queues)) is
    ∙ sym (ap (λ t. if t then (queue.0, without_first (behind_all message queue.1)) ∷ queues else (queue.0, behind_all message queue.1) ∷ change_queue port without_first queues) also)
queues-told port to message queue queues false true is also front rest =
    ap (λ t. if t then (queue.0, behind_all message (without_first queue.1)) ∷ queues else (queue.0, without_first queue.1) ∷ change_queue to (behind_all message) queues) is
    ∙ sym (ap (λ t. if t then (queue.0, without_first queue.1) ∷ change_queue to (behind_all message) queues else queue ∷ change_queue port without_first (change_queue to (behind_all message) queues)) also)
queues-told port to message queue queues false false is also front rest =
    ap (λ t. if t then (queue.0, behind_all message queue.1) ∷ change_queue port without_first queues else queue ∷ change_queue to (behind_all message) (change_queue port without_first queues)) is
    ∙ ap (λ more. queue ∷ more) (rest (subst (λ o. IfSome o (λ q. is_some (front_of q.1) ≡ true)) (ap (λ t. if t then Some queue else find (λ q. bytes_eq q.0 port) queues) also) front))
    ∙ sym (ap (λ t. if t then (queue.0, without_first queue.1) ∷ change_queue to (behind_all message) queues else queue ∷ change_queue port without_first (change_queue to (behind_all message) queues)) also)

-- a message that is there is removed before or behind the coming of another
queues-agree : (port to : List ℕ) (message : Message) (queues : List Queue) → HasFront port queues
    → change_queue to (behind_all message) (change_queue port without_first queues) ≡ change_queue port without_first (change_queue to (behind_all message) queues)
queues-agree port to message [] front = refl
queues-agree port to message (queue ∷ queues) front =
    queues-told port to message queue queues (bytes_eq queue.0 to) (bytes_eq queue.0 port) refl refl front (queues-agree port to message queues)

abbrev with_queues : Component → Data → List Queue → Component
with_queues x own queues = record { itself = x.itself; own = own; state = x.state; verdict = x.verdict; queues = queues }

queue-made : (to : List ℕ) (message : Message) (a : Act) (x : Component) → FindsFront a x.queues → at_queue to (behind_all message) (made_by a x) ≡ made_by a (at_queue to (behind_all message) x)
queue-made to message Waits x front = refl
queue-made to message (Errs why) x front = refl
queue-made to message (Requests Continues own) x front = refl
queue-made to message (Requests (Worsens v) own) x front = refl
queue-made to message (Requests (Removes port) own) x front = ap (with_queues x (with_data own x).own) (queues-agree port to message x.queues front)
queue-made to message (Requests (Sends port other v) own) x front = refl
queue-made to message (Requests (Creates new) own) x front = refl
queue-made to message (Requests (Starts path frame) own) x front = refl
queue-made to message (Requests (Stops path) own) x front = refl
queue-made to message (Requests (Connects d e) own) x front = refl
queue-made to message (Requests (Maps d system_port) own) x front = refl
queue-made to message (Requests (Unmaps d system_port) own) x front = refl

-- a component that has to choose finds the message that it will remove
abbrev pub IsReadyFor : Test → Option Snapshot → Component → Type 0
IsReadyFor test None x = Unit {0}
IsReadyFor test (Some snapshot) x = FindsFront (act test snapshot x.own) x.queues

abbrev pub IsReady : Test → Pending → Component → Type 0
IsReady test pending x = IsReadyFor test (pending (path_of x)) x

queue-if : (test : Test) (to : List ℕ) (message : Message) (o : Option Snapshot) (x : Component) → IsReadyFor test o x → at_queue to (behind_all message) (made_if test o x) ≡ made_if test o (at_queue to (behind_all message) x)
queue-if test to message None x ready = refl
queue-if test to message (Some snapshot) x ready = queue-made to message (act test snapshot x.own) x ready

pub touch-queue : (test : Test) (pending : Pending) (c : Going) (p : Path) (to : List ℕ) (message : Message) → All (IsReady test pending) c.components
    → touch (early test pending c) p (at_queue to (behind_all message)) ≡ early test pending (touch c p (at_queue to (behind_all message)))
touch-queue test pending c p to message all =
    touch-early test pending c p (at_queue to (behind_all message)) (at_queue to (behind_all message))
    (All-more (IsReady test pending) (AgreesAt test pending p (at_queue to (behind_all message)) (at_queue to (behind_all message)))
    (λ x ready same alive. queue-if test to message (pending (path_of x)) x ready) c.components all)

-- ---- what is asked for

-- a component that doesn't run has not to choose
abbrev pub Run : Going → Pending → Type 0
Run c pending = (p : Path) → is_found (λ x. is_running_state x.state) (component_at c p) ≡ false → pending p ≡ None

abbrev Becomes : Test → Pending → Option (Outcome Configuration) → Option (Outcome Configuration)
Becomes test pending o = option_map (outcome_map (early_in test pending)) o

ending-early : (test : Test) (pending : Pending) (o also : Outcome Going) → also ≡ outcome_map (early test pending) o → Some (ending also) ≡ Becomes test pending (Some (ending o))
ending-early test pending (Yields c) also e = ap (λ x. Some (ending x)) e
ending-early test pending (Fails why) also e = ap (λ x. Some (ending x)) e

deliver-early : (test : Test) (pending : Pending) (c : Going) (message : Message) (ends : List End) → All (IsReady test pending) c.components
    → deliver (early test pending c) message ends ≡ outcome_map (early test pending) (deliver c message ends)
deliver-early test pending c message [] ready = refl
deliver-early test pending c message (e ∷ []) ready = ap Yields (touch-queue test pending c e.component e.port message ready)
deliver-early test pending c message (d ∷ e ∷ ends) ready = refl

out-early : (test : Test) (pending : Pending) (c : Going) (to : Option Path) → send_out (early test pending c) to ≡ outcome_map (early test pending) (send_out c to)
out-early test pending c None = refl
out-early test pending c (Some path) = refl

send-early : (test : Test) (pending : Pending) (c : Going) (sender : ComponentId) (port : List ℕ) (to : Option Path) (v : Value) (b : Bool) → All (IsReady test pending) c.components
    → (if b then send_out (early test pending c) to else send_to_peer (early test pending c) sender port to v)
    ≡ outcome_map (early test pending) (if b then send_out c to else send_to_peer c sender port to v)
send-early test pending c sender port to v true ready = out-early test pending c to
send-early test pending c sender port to v false ready =
    deliver-early test pending c (record { value = v; sender = Some sender }) (filter (addressed to) (peers c (record { component = sender.path; port = port }))) ready

start-in-early : (test : Test) (pending : Pending) (c : Going) (p : Path) (frame : Frame) (state : State) → (is_running_state state ≡ false → pending p ≡ None)
    → start_in (early test pending c) p frame state ≡ outcome_map (early test pending) (start_in c p frame state)
start-in-early test pending c p frame Created run = ap Yields (touch-free test pending c p (begin frame) (λ x. refl) (run refl))
start-in-early test pending c p frame Running run = refl
start-in-early test pending c p frame Terminated run = refl

start-early : (test : Test) (pending : Pending) (c : Going) (p : Path) (frame : Frame) (o : Option Component) → (is_found (λ x. is_running_state x.state) o ≡ false → pending p ≡ None)
    → start_created (early test pending c) p frame (option_map (hastened test pending) o) ≡ outcome_map (early test pending) (start_created c p frame o)
start-early test pending c p frame None run = refl
start-early test pending c p frame (Some x) run =
    ap (start_in (early test pending c) p frame) (hastened-state test pending x) ∙ start-in-early test pending c p frame x.state run

overall-told : (test : Test) (pending : Pending) (v : Verdict) (xs : List Component)
    → fold (λ w component. worse w component.verdict) v (map (hastened test pending) xs) ≡ fold (λ w component. worse w component.verdict) v xs
overall-told test pending v [] = refl
overall-told test pending v (x ∷ xs) =
    ap (λ w. fold (λ u component. worse u component.verdict) (worse v w) (map (hastened test pending) xs)) (hastened-verdict test pending x) ∙ overall-told test pending (worse v x.verdict) xs

stop-told : (test : Test) (pending : Pending) (c : Going) (p : Path) (b : Bool)
    → (if b then Ended (overall (early test pending c)) else Goes (terminate p (early test pending c))) ≡ early_in test pending (if b then Ended (overall c) else Goes (terminate p c))
stop-told test pending c p true = ap Ended (overall-told test pending c.forgotten c.components)
stop-told test pending c p false = ap (λ d. Goes (with_mappings (without_component p c.mappings) d)) (touch-state test pending c p Terminated)

over-told : (test : Test) (pending : Pending) (o : Option Component) → is_terminated_component (option_map (hastened test pending) o) ≡ is_terminated_component o
over-told test pending None = refl
over-told test pending (Some x) = ap is_terminated_state (hastened-state test pending x)

over-early : (test : Test) (pending : Pending) (c : Going) (p : Path) → is_terminated_at (early test pending c) p ≡ is_terminated_at c p
over-early test pending c p = ap is_terminated_component (early-at test pending c p) ∙ over-told test pending (component_at c p)

connect-told : (test : Test) (pending : Pending) (c : Going) (d e : End) (b : Bool)
    → (if b then dynamic_error else Yields (with_connection (connection d e) (early test pending c))) ≡ outcome_map (early test pending) (if b then dynamic_error else Yields (with_connection (connection d e) c))
connect-told test pending c d e true = refl
connect-told test pending c d e false = refl

connect-early : (test : Test) (pending : Pending) (c : Going) (d e : End) → connect (early test pending c) d e ≡ outcome_map (early test pending) (connect c d e)
connect-early test pending c d e =
    ap (λ b. if b || is_terminated_at (early test pending c) e.component || is_mapped c d || is_mapped c e || is_double c d e || is_double c e d then dynamic_error else Yields (with_connection (connection d e) (early test pending c)))
    (over-early test pending c d.component)
    ∙ ap (λ b. if is_terminated_at c d.component || b || is_mapped c d || is_mapped c e || is_double c d e || is_double c e d then dynamic_error else Yields (with_connection (connection d e) (early test pending c)))
    (over-early test pending c e.component)
    ∙ connect-told test pending c d e (is_kept_apart c d e)

map-told : (test : Test) (pending : Pending) (c : Going) (d : End) (system_port : List ℕ) (b : Bool)
    → (if b then dynamic_error else Yields (with_mappings (put system_port d c.mappings) (early test pending c)))
    ≡ outcome_map (early test pending) (if b then dynamic_error else Yields (with_mappings (put system_port d c.mappings) c))
map-told test pending c d system_port true = refl
map-told test pending c d system_port false = refl

map-early : (test : Test) (pending : Pending) (c : Going) (d : End) (system_port : List ℕ) → map_port (early test pending c) d system_port ≡ outcome_map (early test pending) (map_port c d system_port)
map-early test pending c d system_port =
    ap (λ b. if b || is_connected c d || list_any (maps_otherwise d system_port) c.mappings then dynamic_error else Yields (with_mappings (put system_port d c.mappings) (early test pending c)))
    (over-early test pending c d.component)
    ∙ map-told test pending c d system_port (is_kept_unmapped c d system_port)

-- ---- new components

insert-told : (h : Component → Component) (new x : Component) (xs : List Component) (b : Bool) → h new ≡ new → insert new (map h xs) ≡ map h (insert new xs)
    → (if b then new ∷ h x ∷ map h xs else h x ∷ insert new (map h xs)) ≡ map h (if b then new ∷ x ∷ xs else x ∷ insert new xs)
insert-told h new x xs true free rest = ap (λ y. y ∷ h x ∷ map h xs) (sym free)
insert-told h new x xs false free rest = ap (λ more. h x ∷ more) rest

insert-early : (test : Test) (pending : Pending) (new : Component) → hastened test pending new ≡ new → (xs : List Component)
    → insert new (map (hastened test pending) xs) ≡ map (hastened test pending) (insert new xs)
insert-early test pending new free [] = ap (λ y. y ∷ []) (sym free)
insert-early test pending new free (x ∷ xs) =
    ap (λ p. if is_lt (path_cmp (path_of new) p) then new ∷ hastened test pending x ∷ map (hastened test pending) xs else hastened test pending x ∷ insert new (map (hastened test pending) xs)) (hastened-path test pending x)
    ∙ insert-told (hastened test pending) new x xs (is_before new x) free (insert-early test pending new free xs)

some-told : (test : Test) (pending : Pending) (o : Option Component) → is_some (option_map (hastened test pending) o) ≡ is_some o
some-told test pending None = refl
some-told test pending (Some x) = refl

absent : (o : Option Component) → is_some o ≡ false → is_found (λ x. is_running_state x.state) o ≡ false
absent None is = refl
absent (Some x) is = absurd (let no = is in cc)

new-told : (test : Test) (pending : Pending) (c : Going) (new : Component) (b : Bool) → is_some (component_at c (path_of new)) ≡ b → Run c pending
    → (if b then map (hastened test pending) c.components else insert new (map (hastened test pending) c.components)) ≡ map (hastened test pending) (if b then c.components else insert new c.components)
new-told test pending c new true is run = refl
new-told test pending c new false is run =
    insert-early test pending new (ap (λ o. made_if test o new) (run (path_of new) (absent (component_at c (path_of new)) is))) c.components

new-early : (test : Test) (pending : Pending) (c : Going) (new : Component) → Run c pending → with_new new (early test pending c) ≡ early test pending (with_new new c)
new-early test pending c new run =
    ap (λ b. with_components c (if b then map (hastened test pending) c.components else insert new (map (hastened test pending) c.components)))
    (ap is_some (early-at test pending c (path_of new)) ∙ some-told test pending (component_at c (path_of new)))
    ∙ ap (with_components c) (new-told test pending c new (is_some (component_at c (path_of new))) refl run)

-- ---- behind a change of the component's own data

settled-ready : (test : Test) (pending : Pending) (p : Path) (own : Data) → pending p ≡ None → (x : Component) → IsReady test pending x
    → IsReady test pending (if same_path (path_of x) p then unless_terminated (with_data own) x else x)
settled-ready test pending p own none x ready = told (same_path (path_of x) p) (is_terminated_state x.state) refl
  where
    told : (b t : Bool) → same_path (path_of x) p ≡ b → IsReady test pending (if b then (if t then x else with_data own x) else x)
    told true true is = ready
    told true false is = subst (λ o. IsReadyFor test o (with_data own x)) (sym (ap pending (path-is (path_of x) p is) ∙ none)) tt
    told false t is = ready

all-map : {A B : Type 0} (P : B → Type 0) (f : A → B) (xs : List A) → All (λ x. P (f x)) xs → All P (map f xs)
all-map P f [] all = All-nil P
all-map P f (x ∷ xs) all = All-cons P (f x) (map f xs) (All-head (λ y. P (f y)) x xs all) (all-map P f xs (All-tail (λ y. P (f y)) x xs all))

settle-ready : (test : Test) (pending : Pending) (c : Going) (p : Path) (own : Data) → pending p ≡ None → All (IsReady test pending) c.components → All (IsReady test pending) (settle c p own).components
settle-ready test pending c p own none all =
    all-map (IsReady test pending) (λ x. if same_path (path_of x) p then unless_terminated (with_data own) x else x) c.components
    (All-more (IsReady test pending) (λ x. IsReady test pending (if same_path (path_of x) p then unless_terminated (with_data own) x else x)) (settled-ready test pending p own none) c.components all)

settled-path : (p : Path) (own : Data) (x : Component) → path_of (if same_path (path_of x) p then unless_terminated (with_data own) x else x) ≡ path_of x
settled-path p own x = told (same_path (path_of x) p) (is_terminated_state x.state)
  where
    told : (b t : Bool) → path_of (if b then (if t then x else with_data own x) else x) ≡ path_of x
    told true true = refl
    told true false = refl
    told false t = refl

settled-state : (p : Path) (own : Data) (x : Component) → (if same_path (path_of x) p then unless_terminated (with_data own) x else x).state ≡ x.state
settled-state p own x = told (same_path (path_of x) p) (is_terminated_state x.state)
  where
    told : (b t : Bool) → (if b then (if t then x else with_data own x) else x).state ≡ x.state
    told true true = refl
    told true false = refl
    told false t = refl

found-runs : (g : Component → Component) → ((x : Component) → (g x).state ≡ x.state) → (o : Option Component) → is_found (λ x. is_running_state x.state) (option_map g o) ≡ is_found (λ x. is_running_state x.state) o
found-runs g states None = refl
found-runs g states (Some x) = ap is_running_state (states x)

settle-run : (pending : Pending) (c : Going) (p : Path) (own : Data) → Run c pending → Run (settle c p own) pending
settle-run pending c p own run q is =
    run q (sym (ap (is_found (λ x. is_running_state x.state))
    (found-map (λ x. if same_path (path_of x) p then unless_terminated (with_data own) x else x) (settled-path p own) q c.components)
    ∙ found-runs (λ x. if same_path (path_of x) p then unless_terminated (with_data own) x else x) (settled-state p own) (component_at c q)) ∙ is)

-- what a component asks for that doesn't have to choose is done alike before and behind what is done early
pub apply-early : (test : Test) (pending : Pending) (c : Going) (itself : ComponentId) (a : Act) → pending itself.path ≡ None → Run c pending → All (IsReady test pending) c.components
    → apply test (early test pending c) itself a ≡ option_map (outcome_map (early_in test pending)) (apply test c itself a)
apply-early test pending c itself Waits none run ready = refl
apply-early test pending c itself (Errs why) none run ready = refl
apply-early test pending c itself (Requests Continues own) none run ready = ap (λ d. Some (Yields (Goes d))) (settle-free test pending c itself.path own none)
apply-early test pending c itself (Requests (Worsens v) own) none run ready =
    ap (λ d. Some (Yields (Goes (touch d itself.path (with_verdict v))))) (settle-free test pending c itself.path own none)
    ∙ ap (λ d. Some (Yields (Goes d))) (touch-free test pending (settle c itself.path own) itself.path (with_verdict v) (λ x. refl) none)
apply-early test pending c itself (Requests (Removes port) own) none run ready =
    ap (λ d. Some (Yields (Goes (touch d itself.path (at_queue port without_first))))) (settle-free test pending c itself.path own none)
    ∙ ap (λ d. Some (Yields (Goes d))) (touch-free test pending (settle c itself.path own) itself.path (at_queue port without_first) (λ x. refl) none)
apply-early test pending c itself (Requests (Sends port to v) own) none run ready =
    ap (λ d. Some (ending (send d itself port to v))) (settle-free test pending c itself.path own none)
    ∙ ending-early test pending (send (settle c itself.path own) itself port to v) (send (early test pending (settle c itself.path own)) itself port to v)
    (send-early test pending (settle c itself.path own) itself port to v (is_mapped (settle c itself.path own) (record { component = itself.path; port = port }))
    (settle-ready test pending c itself.path own none ready))
apply-early test pending c itself (Requests (Creates new) own) none run ready =
    ap (λ d. Some (Yields (Goes (with_new new d)))) (settle-free test pending c itself.path own none)
    ∙ ap (λ d. Some (Yields (Goes d))) (new-early test pending (settle c itself.path own) new (settle-run pending c itself.path own run))
apply-early test pending c itself (Requests (Starts path frame) own) none run ready =
    ap (λ d. Some (ending (start_component d path frame))) (settle-free test pending c itself.path own none)
    ∙ ending-early test pending (start_component (settle c itself.path own) path frame) (start_component (early test pending (settle c itself.path own)) path frame)
    (ap (start_created (early test pending (settle c itself.path own)) path frame) (early-at test pending (settle c itself.path own) path)
    ∙ start-early test pending (settle c itself.path own) path frame (component_at (settle c itself.path own) path) (settle-run pending c itself.path own run path))
apply-early test pending c itself (Requests (Stops path) own) none run ready =
    ap (λ d. Some (Yields (stop test d path))) (settle-free test pending c itself.path own none)
    ∙ ap (λ d. Some (Yields d)) (stop-told test pending (settle c itself.path own) path (same_path path (mtc_of test).path))
apply-early test pending c itself (Requests (Connects d e) own) none run ready =
    ap (λ x. Some (ending (connect x d e))) (settle-free test pending c itself.path own none)
    ∙ ending-early test pending (connect (settle c itself.path own) d e) (connect (early test pending (settle c itself.path own)) d e) (connect-early test pending (settle c itself.path own) d e)
apply-early test pending c itself (Requests (Maps d system_port) own) none run ready =
    ap (λ x. Some (ending (map_port x d system_port))) (settle-free test pending c itself.path own none)
    ∙ ending-early test pending (map_port (settle c itself.path own) d system_port) (map_port (early test pending (settle c itself.path own)) d system_port)
    (map-early test pending (settle c itself.path own) d system_port)
apply-early test pending c itself (Requests (Unmaps d system_port) own) none run ready =
    ap (λ x. Some (Yields (Goes (unmap_port x d system_port)))) (settle-free test pending c itself.path own none)

-- ---- the step of a statement

abbrev state_entry : Component → Path × State
state_entry x = (path_of x, x.state)

entry-early : (test : Test) (pending : Pending) (x : Component) → state_entry (hastened test pending x) ≡ state_entry x
entry-early test pending x =
    ap (λ p. pair-of p (hastened test pending x).state) (hastened-path test pending x) ∙ ap (pair-of (path_of x)) (hastened-state test pending x)
  where
    pair-of : Path → State → Path × State
    pair-of p s = (p, s)

states-early : (test : Test) (pending : Pending) (xs : List Component) → map state_entry (map (hastened test pending) xs) ≡ map state_entry xs
states-early test pending xs =
    map-map state_entry (hastened test pending) xs
    ∙ map-all (λ x. state_entry (hastened test pending x)) state_entry xs (each-all (λ x. state_entry (hastened test pending x) ≡ state_entry x) (entry-early test pending) xs)

abbrev with_states : Snapshot → List (Path × State) → Snapshot
with_states snapshot states = record { itself = snapshot.itself; fronts = snapshot.fronts; timers = snapshot.timers; member_timers = snapshot.member_timers; states = states }

-- what a component sees
pub snapshot-early : (test : Test) (pending : Pending) (c : Going) (x : Component) → snapshot_of (early test pending c) x ≡ snapshot_of c x
snapshot-early test pending c x = ap (with_states (snapshot_of c x)) (states-early test pending c.components)

if-told : (test : Test) (pending : Pending) (b : Bool) (o also : Option (Outcome Configuration)) → also ≡ option_map (outcome_map (early_in test pending)) o
    → (if b then also else None) ≡ option_map (outcome_map (early_in test pending)) (if b then o else None)
if-told test pending true o also e = e
if-told test pending false o also e = refl

statement-early : (test : Test) (pending : Pending) (c : Going) (x : Component) → pending (path_of x) ≡ None → Run c pending → All (IsReady test pending) c.components
    → statement_step test (early test pending c) x ≡ option_map (outcome_map (early_in test pending)) (statement_step test c x)
statement-early test pending c x none run ready =
    if-told test pending (is_running_state x.state) (apply test c x.itself (act test (snapshot_of c x) x.own)) (apply test (early test pending c) x.itself (act test (snapshot_of (early test pending c) x) x.own))
    (ap (λ s. apply test (early test pending c) x.itself (act test s x.own)) (snapshot-early test pending c x)
    ∙ apply-early test pending c x.itself (act test (snapshot_of c x) x.own) none run ready)

found-early : (test : Test) (pending : Pending) (c : Going) (o : Option Component) → IfSome o (λ x. pending (path_of x) ≡ None) → Run c pending → All (IsReady test pending) c.components
    → option_and_then (statement_step test (early test pending c)) (option_map (hastened test pending) o) ≡ option_map (outcome_map (early_in test pending)) (option_and_then (statement_step test c) o)
found-early test pending c None none run ready = refl
found-early test pending c (Some x) none run ready =
    ap (statement_step test (early test pending c)) (ap (λ o. made_if test o x) none) ∙ statement-early test pending c x none run ready

settled-early : (test : Test) (pending : Pending) (o : Outcome Configuration) → settled (outcome_map (early_in test pending) o) ≡ early_in test pending (settled o)
settled-early test pending (Yields c) = refl
settled-early test pending (Fails why) = refl

settled-option : (test : Test) (pending : Pending) (o : Option (Outcome Configuration)) → option_map settled (option_map (outcome_map (early_in test pending)) o) ≡ option_map (early_in test pending) (option_map settled o)
settled-option test pending None = refl
settled-option test pending (Some o) = ap Some (settled-early test pending o)

-- the step of a statement of a component that doesn't have to choose
pub next-early : (test : Test) (pending : Pending) (c : Going) (p : Path) → IfSome (component_at c p) (λ x. pending (path_of x) ≡ None) → Run c pending → All (IsReady test pending) c.components
    → next test (Goes (early test pending c)) (Statement p) ≡ option_map (early_in test pending) (next test (Goes c) (Statement p))
next-early test pending c p none run ready =
    ap (λ o. option_map settled (option_and_then (statement_step test (early test pending c)) o)) (early-at test pending c p)
    ∙ ap (option_map settled) (found-early test pending c (component_at c p) none run ready)
    ∙ settled-option test pending (option_and_then (statement_step test c) (component_at c p))
