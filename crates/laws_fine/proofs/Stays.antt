-- A component stays as it is whatever others do, but for messages that come, and for its end; and paths stay in their order.
use Rattle.std.proofs.Common.{◌≡◌, ℕ, Bool, true, false, List, [], ◌∷◌, ◌++◌, map, Option, Some, None, IfSome, is_some, option_map, bytes_eq, get_or, refl, sym, ap, subst, ◌∙◌, if◌then◌else◌}
use Rattle.std.specs.List.{All, AllPairs, filter, find}
use Rattle.std.specs.declared.cmp.Ordering.TheVariants.{Less, Equal}
use Rattle.std.proofs.lemmas.Cmp.{nat_list_cmp_total, tied_itself}
use Rattle.std.proofs.lemmas.List.Elements.{All-cons, All-nil}
use Rattle.laws_fine.proofs.Early.{HasFront}
use Rattle.laws_steps.proofs.Finding.{insert-found, found-map, found-path, path-is, path-same, some-is}
use Rattle.laws_order.proofs.Changes.{Precedes, insert-ordered, none-found}
use Rattle.semantics.proofs.Pairs.{pairs-head, pairs-map, pairs-more, pairs-tail}
use Rattle.semantics.specs.Configurations.{Component, Configuration, Created, Data, End, Ended, Frame, Goes, Going, Message, Queue, Running, State, Terminated, component_at, is_running_state, is_terminated_state, overall, path_cmp, path_of, same_path}
use Rattle.semantics.specs.Entries.{put}
use Rattle.semantics.specs.Snapshots.{Test, front_of, mtc_of}
use Rattle.semantics.specs.Statements.{Act, Connects, Continues, Creates, Errs, Maps, Removes, Requests, Sends, Starts, Stops, Unmaps, Waits, Worsens}
use Rattle.semantics.specs.Steps.{addressed, apply, at_queue, begin, change_queue, come_in, connect, connection, deliver, ending, insert, is_kept_apart, is_kept_unmapped, is_mapped, map_port, peers, send, send_out, send_to_peer, settle, start_component, start_created, start_in, terminate, touch, unless_terminated, with_connection, with_data, with_mappings, with_new, with_state, with_verdict, without_first}
use Rattle.value_types.specs.Outcomes.{Fails, IfYields, Outcome, Yields, dynamic_error}
use Rattle.value_types.specs.declared.path.Path.{Path}
use Rattle.value_types.specs.declared.value.ComponentId.{ComponentId}
use Rattle.value_types.specs.declared.value.Value.{Value}

-- a component as it was, but for messages that came and for its state
pub record IsSteady (x y : Component) : Type 0 where
  pub path : path_of y ≡ path_of x
  pub own : y.own ≡ x.own
  pub fronts : (port : List ℕ) → HasFront port x.queues → HasFront port y.queues

-- it is there
pub record StaysIn (p : Path) (x : Component) (c : Going) : Type 0 where
  pub y : Component
  pub there : component_at c p ≡ Some y
  pub steady : IsSteady x y

abbrev pub Stays : Path → Component → Configuration → Type 0
Stays p x (Ended v) = Unit {0}
Stays p x (Goes c) = StaysIn p x c

as-it-is : (x : Component) → IsSteady x x
as-it-is x = record { path = refl; own = refl; fronts = λ port has. has }

-- ---- changes

abbrev KeepsPath : (Component → Component) → Type 0
KeepsPath change = (y : Component) → path_of (change y) ≡ path_of y

picked-path : (q : Path) (change : Component → Component) → KeepsPath change → KeepsPath (λ y. if same_path (path_of y) q then unless_terminated change y else y)
picked-path q change keeps y = told (same_path (path_of y) q) (is_terminated_state y.state)
  where
    told : (b t : Bool) → path_of (if b then (if t then y else change y) else y) ≡ path_of y
    told true true = refl
    told true false = keeps y
    told false t = refl

picked-steady : (q : Path) (change : Component → Component) (x : Component) → (same_path (path_of x) q ≡ true → is_terminated_state x.state ≡ false → IsSteady x (change x))
    → IsSteady x (if same_path (path_of x) q then unless_terminated change x else x)
picked-steady q change x is = told (same_path (path_of x) q) (is_terminated_state x.state) is
  where
    told : (b t : Bool) → (b ≡ true → t ≡ false → IsSteady x (change x)) → IsSteady x (if b then (if t then x else change x) else x)
    told true true steady = as-it-is x
    told true false steady = steady refl refl
    told false t steady = as-it-is x

pub touched-at : (c : Going) (q : Path) (change : Component → Component) → KeepsPath change → (p : Path) (x : Component) → component_at c p ≡ Some x
    → component_at (touch c q change) p ≡ Some (if same_path (path_of x) q then unless_terminated change x else x)
touched-at c q change keeps p x there =
    found-map (λ y. if same_path (path_of y) q then unless_terminated change y else y) (picked-path q change keeps) p c.components
    ∙ ap (option_map (λ y. if same_path (path_of y) q then unless_terminated change y else y)) there

touch-stays : (c : Going) (q : Path) (change : Component → Component) → KeepsPath change → (p : Path) (x : Component) → component_at c p ≡ Some x
    → (same_path (path_of x) q ≡ true → is_terminated_state x.state ≡ false → IsSteady x (change x)) → StaysIn p x (touch c q change)
touch-stays c q change keeps p x there is = record {
  y = if same_path (path_of x) q then unless_terminated change x else x;
  there = touched-at c q change keeps p x there;
  steady = picked-steady q change x is;
}

other-path : (c : Going) (q p : Path) (x : Component) → component_at c p ≡ Some x → (p ≡ q → ⊥) → same_path (path_of x) q ≡ false
other-path c q p x there other = told (same_path (path_of x) q) refl
  where
    told : (b : Bool) → same_path (path_of x) q ≡ b → b ≡ false
    told true is = absurd (other (sym (found-path c p x there) ∙ path-is (path_of x) q is))
    told false is = refl

-- a change of another component
other-touch : (c : Going) (q : Path) (change : Component → Component) → KeepsPath change → (p : Path) (x : Component) → component_at c p ≡ Some x → (p ≡ q → ⊥) → component_at (touch c q change) p ≡ Some x
other-touch c q change keeps p x there other =
    touched-at c q change keeps p x there ∙ ap (λ b. Some (if b then unless_terminated change x else x)) (other-path c q p x there other)

-- ---- messages

pushed-some : (message : Message) (messages : List Message) → is_some (front_of (messages ++ message ∷ [])) ≡ true
pushed-some message [] = refl
pushed-some message (first ∷ others) = refl

queue-told : (port to : List ℕ) (message : Message) (queue : Queue) (queues : List Queue) (a b : Bool) → bytes_eq queue.0 port ≡ b → HasFront port (queue ∷ queues)
    → (HasFront port queues → HasFront port (change_queue to (λ messages. messages ++ message ∷ []) queues))
    → HasFront port (if a then (queue.0, queue.1 ++ message ∷ []) ∷ queues else queue ∷ change_queue to (λ messages. messages ++ message ∷ []) queues)
queue-told port to message queue queues true true is front rest =
    subst (λ b. IfSome (if b then Some (queue.0, queue.1 ++ message ∷ []) else find (λ q. bytes_eq q.0 port) queues) (λ q. is_some (front_of q.1) ≡ true)) (sym is) (pushed-some message queue.1)
queue-told port to message queue queues true false is front rest =
    subst (λ b. IfSome (if b then Some (queue.0, queue.1 ++ message ∷ []) else find (λ q. bytes_eq q.0 port) queues) (λ q. is_some (front_of q.1) ≡ true)) (sym is)
    (subst (λ b. IfSome (if b then Some queue else find (λ q. bytes_eq q.0 port) queues) (λ q. is_some (front_of q.1) ≡ true)) is front)
queue-told port to message queue queues false true is front rest =
    subst (λ b. IfSome (if b then Some queue else find (λ q. bytes_eq q.0 port) (change_queue to (λ messages. messages ++ message ∷ []) queues)) (λ q. is_some (front_of q.1) ≡ true)) (sym is)
    (subst (λ b. IfSome (if b then Some queue else find (λ q. bytes_eq q.0 port) queues) (λ q. is_some (front_of q.1) ≡ true)) is front)
queue-told port to message queue queues false false is front rest =
    subst (λ b. IfSome (if b then Some queue else find (λ q. bytes_eq q.0 port) (change_queue to (λ messages. messages ++ message ∷ []) queues)) (λ q. is_some (front_of q.1) ≡ true)) (sym is)
    (rest (subst (λ b. IfSome (if b then Some queue else find (λ q. bytes_eq q.0 port) queues) (λ q. is_some (front_of q.1) ≡ true)) is front))

queue-keeps : (port to : List ℕ) (message : Message) (queues : List Queue) → HasFront port queues → HasFront port (change_queue to (λ messages. messages ++ message ∷ []) queues)
queue-keeps port to message [] front = tt
queue-keeps port to message (queue ∷ queues) front =
    queue-told port to message queue queues (bytes_eq queue.0 to) (bytes_eq queue.0 port) refl front (queue-keeps port to message queues)

queue-steady : (to : List ℕ) (message : Message) (x : Component) → IsSteady x (at_queue to (λ messages. messages ++ message ∷ []) x)
queue-steady to message x = record { path = refl; own = refl; fronts = λ port. queue-keeps port to message x.queues }

state-steady : (state : State) (x : Component) → IsSteady x (with_state state x)
state-steady state x = record { path = refl; own = refl; fronts = λ port has. has }

-- ---- new components

new-differs : (c : Going) (p : Path) (x new : Component) → component_at c p ≡ Some x → is_some (component_at c (path_of new)) ≡ false → same_path (path_of new) p ≡ false
new-differs c p x new there none = told (same_path (path_of new) p) refl
  where
    told : (b : Bool) → same_path (path_of new) p ≡ b → b ≡ false
    told true is = let no : true ≡ false = sym (ap is_some there) ∙ ap (λ q. is_some (component_at c q)) (sym (path-is (path_of new) p is)) ∙ none in no
    told false is = refl

new-at : (c : Going) (p : Path) (x new : Component) (b : Bool) → is_some (component_at c (path_of new)) ≡ b → component_at c p ≡ Some x
    → find (λ y. same_path (path_of y) p) (if b then c.components else insert new c.components) ≡ Some x
new-at c p x new true is there = there
new-at c p x new false is there = insert-found p new (new-differs c p x new there is) c.components ∙ there

new-stays : (c : Going) (p : Path) (x new : Component) → component_at c p ≡ Some x → StaysIn p x (with_new new c)
new-stays c p x new there = record { y = x; there = new-at c p x new (is_some (component_at c (path_of new))) refl there; steady = as-it-is x }

-- ---- what others ask for

abbrev pub StaysBehind : Path → Component → Option (Outcome Configuration) → Type 0
StaysBehind p x o = IfSome o (λ out. IfYields out (Stays p x))

ending-stays : (p : Path) (x : Component) (o : Outcome Going) → IfYields o (StaysIn p x) → IfYields (ending o) (Stays p x)
ending-stays p x (Yields c) is = is
ending-stays p x (Fails why) is = tt

deliver-stays : (c : Going) (p : Path) (x : Component) (message : Message) (ends : List End) → component_at c p ≡ Some x → IfYields (deliver c message ends) (StaysIn p x)
deliver-stays c p x message [] there = tt
deliver-stays c p x message (e ∷ []) there =
    touch-stays c e.component (at_queue e.port (λ messages. messages ++ message ∷ [])) (λ y. refl) p x there (λ at alive. queue-steady e.port message x)
deliver-stays c p x message (d ∷ e ∷ ends) there = tt

out-stays : (c : Going) (p : Path) (x : Component) (to : Option Path) → component_at c p ≡ Some x → IfYields (send_out c to) (StaysIn p x)
out-stays c p x None there = record { y = x; there = there; steady = as-it-is x }
out-stays c p x (Some path) there = tt

send-stays : (c : Going) (p : Path) (x : Component) (sender : ComponentId) (port : List ℕ) (to : Option Path) (v : Value) (b : Bool) → component_at c p ≡ Some x
    → IfYields (if b then send_out c to else send_to_peer c sender port to v) (StaysIn p x)
send-stays c p x sender port to v true there = out-stays c p x to there
send-stays c p x sender port to v false there =
    deliver-stays c p x (record { value = v; sender = Some sender }) (filter (addressed to) (peers c (record { component = sender.path; port = port }))) there

start-in-stays : (c : Going) (p q : Path) (x : Component) (frame : Frame) (state : State) → component_at c p ≡ Some x → (state ≡ Created → p ≡ q → ⊥) → IfYields (start_in c q frame state) (StaysIn p x)
start-in-stays c p q x frame Created there other =
    touch-stays c q (begin frame) (λ y. refl) p x there (λ at alive. absurd (other refl (sym (found-path c p x there) ∙ path-is (path_of x) q at)))
start-in-stays c p q x frame Running there other = tt
start-in-stays c p q x frame Terminated there other = tt

created-runs : (c : Going) (p q : Path) (x z : Component) → component_at c p ≡ Some x → component_at c q ≡ Some z → is_running_state x.state ≡ true → z.state ≡ Created → p ≡ q → ⊥
created-runs c p q x z there here runs created same =
    let one : z ≡ x = some-is z x (sym here ∙ ap (component_at c) (sym same) ∙ there) in
    let no : false ≡ true = sym (ap is_running_state created) ∙ ap (λ (y : Component). is_running_state y.state) one ∙ runs in cc

start-stays : (c : Going) (p q : Path) (x : Component) (frame : Frame) (o : Option Component) → component_at c p ≡ Some x → is_running_state x.state ≡ true → component_at c q ≡ o
    → IfYields (start_created c q frame o) (StaysIn p x)
start-stays c p q x frame None there runs here = tt
start-stays c p q x frame (Some z) there runs here = start-in-stays c p q x frame z.state there (λ created. created-runs c p q x z there here runs created)

stop-stays : (c : Going) (p q : Path) (x : Component) (b : Bool) → component_at c p ≡ Some x → Stays p x (if b then Ended (overall c) else Goes (terminate q c))
stop-stays c p q x true there = tt
stop-stays c p q x false there =
    let ended : StaysIn p x (touch c q (with_state Terminated)) = touch-stays c q (with_state Terminated) (λ y. refl) p x there (λ at alive. state-steady Terminated x) in
    record { y = ended.y; there = ended.there; steady = ended.steady }

connect-stays : (c : Going) (p : Path) (x : Component) (d e : End) (b : Bool) → component_at c p ≡ Some x → IfYields (if b then dynamic_error else Yields (with_connection (connection d e) c)) (StaysIn p x)
connect-stays c p x d e true there = tt
connect-stays c p x d e false there = record { y = x; there = there; steady = as-it-is x }

map-stays : (c : Going) (p : Path) (x : Component) (d : End) (system_port : List ℕ) (b : Bool) → component_at c p ≡ Some x
    → IfYields (if b then dynamic_error else Yields (with_mappings (put system_port d c.mappings) c)) (StaysIn p x)
map-stays c p x d system_port true there = tt
map-stays c p x d system_port false there = record { y = x; there = there; steady = as-it-is x }

-- a running component stays as it is behind the step of another
pub apply-stays : (test : Test) (c : Going) (itself : ComponentId) (a : Act) (p : Path) (x : Component) → component_at c p ≡ Some x → is_running_state x.state ≡ true → (p ≡ itself.path → ⊥)
    → StaysBehind p x (apply test c itself a)
apply-stays test c itself Waits p x there runs other = tt
apply-stays test c itself (Errs why) p x there runs other = tt
apply-stays test c itself (Requests Continues own) p x there runs other =
    record { y = x; there = other-touch c itself.path (with_data own) (λ y. refl) p x there other; steady = as-it-is x }
apply-stays test c itself (Requests (Worsens v) own) p x there runs other =
    let settled = other-touch c itself.path (with_data own) (λ y. refl) p x there other in
    record { y = x; there = other-touch (settle c itself.path own) itself.path (with_verdict v) (λ y. refl) p x settled other; steady = as-it-is x }
apply-stays test c itself (Requests (Removes port) own) p x there runs other =
    let settled = other-touch c itself.path (with_data own) (λ y. refl) p x there other in
    record { y = x; there = other-touch (settle c itself.path own) itself.path (at_queue port without_first) (λ y. refl) p x settled other; steady = as-it-is x }
apply-stays test c itself (Requests (Sends port to v) own) p x there runs other =
    ending-stays p x (send (settle c itself.path own) itself port to v)
    (send-stays (settle c itself.path own) p x itself port to v (is_mapped (settle c itself.path own) (record { component = itself.path; port = port }))
    (other-touch c itself.path (with_data own) (λ y. refl) p x there other))
apply-stays test c itself (Requests (Creates new) own) p x there runs other =
    new-stays (settle c itself.path own) p x new (other-touch c itself.path (with_data own) (λ y. refl) p x there other)
apply-stays test c itself (Requests (Starts path frame) own) p x there runs other =
    ending-stays p x (start_component (settle c itself.path own) path frame)
    (start-stays (settle c itself.path own) p path x frame (component_at (settle c itself.path own) path) (other-touch c itself.path (with_data own) (λ y. refl) p x there other) runs refl)
apply-stays test c itself (Requests (Stops path) own) p x there runs other =
    stop-stays (settle c itself.path own) p path x (same_path path (mtc_of test).path) (other-touch c itself.path (with_data own) (λ y. refl) p x there other)
apply-stays test c itself (Requests (Connects d e) own) p x there runs other =
    ending-stays p x (connect (settle c itself.path own) d e)
    (connect-stays (settle c itself.path own) p x d e (is_kept_apart (settle c itself.path own) d e) (other-touch c itself.path (with_data own) (λ y. refl) p x there other))
apply-stays test c itself (Requests (Maps d system_port) own) p x there runs other =
    ending-stays p x (map_port (settle c itself.path own) d system_port)
    (map-stays (settle c itself.path own) p x d system_port (is_kept_unmapped (settle c itself.path own) d system_port) (other-touch c itself.path (with_data own) (λ y. refl) p x there other))
apply-stays test c itself (Requests (Unmaps d system_port) own) p x there runs other =
    record { y = x; there = other-touch c itself.path (with_data own) (λ y. refl) p x there other; steady = as-it-is x }

-- it stays so where a message comes in
pub come-stays : (c : Going) (p : Path) (x : Component) (system_port : List ℕ) (e : End) (v : Value) → component_at c p ≡ Some x → StaysIn p x (come_in system_port e v c)
come-stays c p x system_port e v there =
    let message : Message = record { value = v; sender = None } in
    let sent : StaysIn p x (touch c e.component (at_queue e.port (λ messages. messages ++ message ∷ []))) =
    touch-stays c e.component (at_queue e.port (λ messages. messages ++ message ∷ [])) (λ y. refl) p x there (λ at alive. queue-steady e.port message x) in
    record { y = sent.y; there = sent.there; steady = sent.steady }

-- ---- paths in their order

abbrev pub Ascends : Going → Type 0
Ascends c = AllPairs Precedes c.components

abbrev pub AscendsIn : Configuration → Type 0
AscendsIn (Ended v) = Unit {0}
AscendsIn (Goes c) = Ascends c

abbrev pub AscendsBehind : Option (Outcome Configuration) → Type 0
AscendsBehind o = IfSome o (λ out. IfYields out AscendsIn)

map-ascends : (change : Component → Component) → KeepsPath change → (xs : List Component) → AllPairs Precedes xs → AllPairs Precedes (map change xs)
map-ascends change keeps xs ordered =
    pairs-map Precedes change xs
    (pairs-more Precedes (λ a b. Precedes (change a) (change b)) (λ a b less. ap (λ q. path_cmp q (path_of (change b))) (keeps a) ∙ ap (path_cmp (path_of a)) (keeps b) ∙ less) xs ordered)

pub touch-ascends : (c : Going) (q : Path) (change : Component → Component) → KeepsPath change → Ascends c → Ascends (touch c q change)
touch-ascends c q change keeps ordered = map-ascends (λ y. if same_path (path_of y) q then unless_terminated change y else y) (picked-path q change keeps) c.components ordered

settle-ascends : (c : Going) (q : Path) (own : Data) → Ascends c → Ascends (settle c q own)
settle-ascends c q own ordered = touch-ascends c q (with_data own) (λ y. refl) ordered

new-ascends : (c : Going) (new : Component) (b : Bool) → is_some (component_at c (path_of new)) ≡ b → Ascends c → AllPairs Precedes (if b then c.components else insert new c.components)
new-ascends c new true is ordered = ordered
new-ascends c new false is ordered = insert-ordered new c.components (none-found (λ x. same_path (path_of x) (path_of new)) c.components is) ordered

ending-ascends : (o : Outcome Going) → IfYields o Ascends → IfYields (ending o) AscendsIn
ending-ascends (Yields c) is = is
ending-ascends (Fails why) is = tt

deliver-ascends : (c : Going) (message : Message) (ends : List End) → Ascends c → IfYields (deliver c message ends) Ascends
deliver-ascends c message [] ordered = tt
deliver-ascends c message (e ∷ []) ordered = touch-ascends c e.component (at_queue e.port (λ messages. messages ++ message ∷ [])) (λ y. refl) ordered
deliver-ascends c message (d ∷ e ∷ ends) ordered = tt

out-ascends : (c : Going) (to : Option Path) → Ascends c → IfYields (send_out c to) Ascends
out-ascends c None ordered = ordered
out-ascends c (Some path) ordered = tt

send-ascends : (c : Going) (sender : ComponentId) (port : List ℕ) (to : Option Path) (v : Value) (b : Bool) → Ascends c → IfYields (if b then send_out c to else send_to_peer c sender port to v) Ascends
send-ascends c sender port to v true ordered = out-ascends c to ordered
send-ascends c sender port to v false ordered =
    deliver-ascends c (record { value = v; sender = Some sender }) (filter (addressed to) (peers c (record { component = sender.path; port = port }))) ordered

start-in-ascends : (c : Going) (q : Path) (frame : Frame) (state : State) → Ascends c → IfYields (start_in c q frame state) Ascends
start-in-ascends c q frame Created ordered = touch-ascends c q (begin frame) (λ y. refl) ordered
start-in-ascends c q frame Running ordered = tt
start-in-ascends c q frame Terminated ordered = tt

start-ascends : (c : Going) (q : Path) (frame : Frame) (o : Option Component) → Ascends c → IfYields (start_created c q frame o) Ascends
start-ascends c q frame None ordered = tt
start-ascends c q frame (Some z) ordered = start-in-ascends c q frame z.state ordered

stop-ascends : (c : Going) (q : Path) (b : Bool) → Ascends c → AscendsIn (if b then Ended (overall c) else Goes (terminate q c))
stop-ascends c q true ordered = tt
stop-ascends c q false ordered = touch-ascends c q (with_state Terminated) (λ y. refl) ordered

connect-ascends : (c : Going) (d e : End) (b : Bool) → Ascends c → IfYields (if b then dynamic_error else Yields (with_connection (connection d e) c)) Ascends
connect-ascends c d e true ordered = tt
connect-ascends c d e false ordered = ordered

map-ascends-in : (c : Going) (d : End) (system_port : List ℕ) (b : Bool) → Ascends c → IfYields (if b then dynamic_error else Yields (with_mappings (put system_port d c.mappings) c)) Ascends
map-ascends-in c d system_port true ordered = tt
map-ascends-in c d system_port false ordered = ordered

-- what is asked for leaves paths in their order
pub apply-ascends : (test : Test) (c : Going) (itself : ComponentId) (a : Act) → Ascends c → AscendsBehind (apply test c itself a)
apply-ascends test c itself Waits ordered = tt
apply-ascends test c itself (Errs why) ordered = tt
apply-ascends test c itself (Requests Continues own) ordered = settle-ascends c itself.path own ordered
apply-ascends test c itself (Requests (Worsens v) own) ordered = touch-ascends (settle c itself.path own) itself.path (with_verdict v) (λ y. refl) (settle-ascends c itself.path own ordered)
apply-ascends test c itself (Requests (Removes port) own) ordered = touch-ascends (settle c itself.path own) itself.path (at_queue port without_first) (λ y. refl) (settle-ascends c itself.path own ordered)
apply-ascends test c itself (Requests (Sends port to v) own) ordered =
    ending-ascends (send (settle c itself.path own) itself port to v)
    (send-ascends (settle c itself.path own) itself port to v (is_mapped (settle c itself.path own) (record { component = itself.path; port = port })) (settle-ascends c itself.path own ordered))
apply-ascends test c itself (Requests (Creates new) own) ordered =
    new-ascends (settle c itself.path own) new (is_some (component_at (settle c itself.path own) (path_of new))) refl (settle-ascends c itself.path own ordered)
apply-ascends test c itself (Requests (Starts path frame) own) ordered =
    ending-ascends (start_component (settle c itself.path own) path frame)
    (start-ascends (settle c itself.path own) path frame (component_at (settle c itself.path own) path) (settle-ascends c itself.path own ordered))
apply-ascends test c itself (Requests (Stops path) own) ordered = stop-ascends (settle c itself.path own) path (same_path path (mtc_of test).path) (settle-ascends c itself.path own ordered)
apply-ascends test c itself (Requests (Connects d e) own) ordered =
    ending-ascends (connect (settle c itself.path own) d e)
    (connect-ascends (settle c itself.path own) d e (is_kept_apart (settle c itself.path own) d e) (settle-ascends c itself.path own ordered))
apply-ascends test c itself (Requests (Maps d system_port) own) ordered =
    ending-ascends (map_port (settle c itself.path own) d system_port)
    (map-ascends-in (settle c itself.path own) d system_port (is_kept_unmapped (settle c itself.path own) d system_port) (settle-ascends c itself.path own ordered))
apply-ascends test c itself (Requests (Unmaps d system_port) own) ordered = settle-ascends c itself.path own ordered

-- what comes in does so too
pub come-ascends : (c : Going) (system_port : List ℕ) (e : End) (v : Value) → Ascends c → Ascends (come_in system_port e v c)
come-ascends c system_port e v ordered = touch-ascends c e.component (at_queue e.port (λ messages. messages ++ record { value = v; sender = None } ∷ [])) (λ y. refl) ordered

-- where paths ascend, each component is found by its own
finds-first : (x y : Component) (xs : List Component) → Precedes x y → find (λ z. same_path (path_of z) (path_of y)) xs ≡ Some y → find (λ z. same_path (path_of z) (path_of y)) (x ∷ xs) ≡ Some y
finds-first x y xs less found = told (same_path (path_of x) (path_of y)) refl
  where
    told : (b : Bool) → same_path (path_of x) (path_of y) ≡ b → (if b then Some x else find (λ z. same_path (path_of z) (path_of y)) xs) ≡ Some y
    told true is =
        absurd (let same : path_of x ≡ path_of y = path-is (path_of x) (path_of y) is in
        let no : Equal ≡ Less = sym (tied_itself nat_list_cmp_total (path_of y).numbers) ∙ ap (λ q. path_cmp q (path_of y)) (sym same) ∙ less in cc)
    told false is = found

pub each-found : (xs : List Component) → AllPairs Precedes xs → All (λ y. find (λ z. same_path (path_of z) (path_of y)) xs ≡ Some y) xs
each-found [] ordered = All-nil (λ y. find (λ z. same_path (path_of z) (path_of y)) [] ≡ Some y)
each-found (x ∷ xs) ordered =
    All-cons (λ y. find (λ z. same_path (path_of z) (path_of y)) (x ∷ xs) ≡ Some y) x xs
    (ap (λ b. if b then Some x else find (λ z. same_path (path_of z) (path_of x)) xs) (path-same (path_of x)))
    (both (each-found xs (pairs-tail Precedes x xs ordered)) (pairs-head Precedes x xs ordered))
  where
    both : All (λ y. find (λ z. same_path (path_of z) (path_of y)) xs ≡ Some y) xs → All (Precedes x) xs → All (λ y. find (λ z. same_path (path_of z) (path_of y)) (x ∷ xs) ≡ Some y) xs
    both found less k d lt = finds-first x (get_or xs k d) xs (less k d lt) (found k d lt)
