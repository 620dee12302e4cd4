-- What is done among the components leaves the order.
use Rattle.std.proofs.Common.{◌≡◌, ℕ, ◌+◌, Bool, true, false, ◌&&◌, not, List, [], ◌∷◌, ◌++◌, map, bytes_eq, Option, Some, None, IfSome, is_some, refl, sym, ap, subst, ◌∙◌, if◌then◌else◌}
use Rattle.std.specs.List.{All, AllPairs, filter, find}
use Rattle.std.specs.Ordering.{is_eq, is_lt, ordering_reverse}
use Rattle.std.specs.declared.cmp.Ordering.{Ordering}
use Rattle.std.specs.declared.cmp.Ordering.TheVariants.{Less, Equal, Greater}
use Rattle.std.proofs.lemmas.List.Elements.{All-cons, All-head, All-map, All-nil, All-same, All-tail, filter_passes}
use Rattle.std.proofs.lemmas.List.Kept.{AllPairs-cons, AllPairs-filter}
use Rattle.std.proofs.lemmas.Map.Text.{is_eq-slice_cmp}
use Rattle.ttcn_syntax.specs.declared.tree.statement.Verdict.{Verdict}
use Rattle.laws_order.proofs.Asked.{IsAskedInOrder, asked-ordered}
use Rattle.laws_steps.proofs.Applying.{Anyhow, Applies, IfGoes, Leads, applied}
use Rattle.laws_steps.proofs.Expiring.{KeepsTimers, calls-expire, data-expires, frame-expires, remains-expired}
use Rattle.laws_steps.proofs.Found.{found-each, insert-each, new-each, some-of}
use Rattle.laws_steps.proofs.Running.{Steps}
use Rattle.laws_order.proofs.Orders.{connection-total, path_total}
use Rattle.laws_order.proofs.Puts.{put-ordered}
use Rattle.laws_order.proofs.Stored.{IsDataInOrder, IsFrameInOrder, last-ordered}
use Rattle.laws_order.proofs.Unmarked.{HasNone, LastHasNone, none-uncovered}
use Rattle.semantics.proofs.Pairs.{All-more, pairs-append, pairs-head, pairs-map, pairs-more, pairs-nil, pairs-tail}
use Rattle.semantics.specs.Configurations.{Component, Configuration, Connection, Data, End, Frame, Going, Message, State, Terminated, component_at, is_terminated_state, path_cmp, path_of, same_end, same_path}
use Rattle.semantics.specs.Entries.{Entries, name_cmp, put}
use Rattle.semantics.specs.Order.{Ascends, HasNamesInOrder}
use Rattle.semantics.specs.Snapshots.{Snapshot, Test, snapshot_of}
use Rattle.semantics.specs.Statements.{act}
use Rattle.semantics.specs.Steps.{add_connection, apply, at_queue, begin, come_in, connection, connection_cmp, exchanged, expire_in, expired, expired_call, expired_frame, insert, put_behind, settle, touch, unless_terminated, with_connection, with_data, with_delivery, with_mappings, with_new, with_state, with_verdict, without_first}
use Rattle.semantics.specs.Storing.{with_remaining}
use Rattle.semantics.specs.Taking.{without_marks}
use Rattle.value_types.specs.Frames.{entry}
use Rattle.value_types.specs.declared.frame.TimerState.{TimerState}
use Rattle.value_types.specs.declared.frame.TimerState.TheVariants as timer
use Rattle.value_types.specs.declared.path.Path.{Path}
use Rattle.value_types.specs.declared.value.ComponentId.{ComponentId}
use Rattle.value_types.specs.declared.value.Value.{Value}

pub record IsComponentInOrder (component : Component) : Type 0 where
  pub own : IsDataInOrder component.own.children component.own
  pub marks : LastHasNone component.own.calls

abbrev pub Precedes : Component → Component → Type 0
Precedes one other = path_cmp (path_of one) (path_of other) ≡ Less

pub record IsGoingInOrder (c : Going) : Type 0 where
  pub components : AllPairs Precedes c.components
  pub within : All IsComponentInOrder c.components
  pub connections : Ascends connection_cmp c.connections
  pub mappings : HasNamesInOrder c.mappings

-- ---- changes of a component

pub record IsGentle (change : Component → Component) : Type 0 where
  pub path : (x : Component) → path_of (change x) ≡ path_of x
  pub within : (x : Component) → IsComponentInOrder x → IsComponentInOrder (change x)

pub unless-path : (b : Bool) (change : Component → Component) (x : Component) → path_of (change x) ≡ path_of x → path_of (if b then x else change x) ≡ path_of x
unless-path true change x e = refl
unless-path false change x e = e

unless-within : (b : Bool) (change : Component → Component) (x : Component) → IsComponentInOrder x → IsComponentInOrder (change x) → IsComponentInOrder (if b then x else change x)
unless-within true change x is also = is
unless-within false change x is also = also

pub if-path : (b : Bool) (change : Component → Component) (x : Component) → path_of (change x) ≡ path_of x → path_of (if b then change x else x) ≡ path_of x
if-path true change x e = e
if-path false change x e = refl

if-within : (b : Bool) (change : Component → Component) (x : Component) → IsComponentInOrder x → IsComponentInOrder (change x) → IsComponentInOrder (if b then change x else x)
if-within true change x is also = also
if-within false change x is also = is

unless-gentle : (change : Component → Component) → IsGentle change → IsGentle (unless_terminated change)
unless-gentle change gentle = record {
  path = λ x. unless-path (is_terminated_state x.state) change x (gentle.path x);
  within = λ x is. unless-within (is_terminated_state x.state) change x is (gentle.within x is);
}

-- a change of each component
pub each-ordered : (change : Component → Component) → IsGentle change → (c : Going) → IsGoingInOrder c → IsGoingInOrder (record { components = map change c.components; connections = c.connections; mappings = c.mappings; delivered = c.delivered; forgotten = c.forgotten })
each-ordered change gentle c is = record {
  components = pairs-map Precedes change c.components
      (pairs-more Precedes (λ a b. Precedes (change a) (change b)) (λ a b less. ap (λ p. path_cmp p (path_of (change b))) (gentle.path a) ∙ ap (path_cmp (path_of a)) (gentle.path b) ∙ less) c.components is.components);
  within = All-map IsComponentInOrder change c.components (All-more IsComponentInOrder (λ x. IsComponentInOrder (change x)) gentle.within c.components is.within);
  connections = is.connections;
  mappings = is.mappings;
}

pick-gentle : (path : Path) (change : Component → Component) → IsGentle change → IsGentle (λ component. if same_path (path_of component) path then change component else component)
pick-gentle path change gentle = record {
  path = λ x. if-path (same_path (path_of x) path) change x (gentle.path x);
  within = λ x is. if-within (same_path (path_of x) path) change x is (gentle.within x is);
}

touch-ordered : (c : Going) (path : Path) (change : Component → Component) → IsGentle change → IsGoingInOrder c → IsGoingInOrder (touch c path change)
touch-ordered c path change gentle is =
    each-ordered (λ component. if same_path (path_of component) path then unless_terminated change component else component)
    (pick-gentle path (unless_terminated change) (unless-gentle change gentle)) c is

data-gentle : (n : ℕ) (own : Data) → IsDataInOrder n own → IsGentle (with_data own)
data-gentle n own is = record {
  path = λ x. refl;
  within = λ x also. record {
    own = record {
      members = is.members;
      calls = last-ordered (λ frame. with_remaining (without_marks frame.remaining) frame) (λ frame fine. record { values = fine.values; timers = fine.timers }) own.calls is.calls;
      count = refl;
    };
    marks = none-uncovered own.calls;
  };
}

state-gentle : (state : State) → IsGentle (with_state state)
state-gentle state = record { path = λ x. refl; within = λ x is. record { own = is.own; marks = is.marks } }

verdict-gentle : (v : Verdict) → IsGentle (with_verdict v)
verdict-gentle v = record { path = λ x. refl; within = λ x is. record { own = is.own; marks = is.marks } }

queue-gentle : (port : List ℕ) (change : List Message → List Message) → IsGentle (at_queue port change)
queue-gentle port change = record { path = λ x. refl; within = λ x is. record { own = is.own; marks = is.marks } }

begin-gentle : (frame : Frame) → IsFrameInOrder frame → HasNone frame.remaining → IsGentle (begin frame)
begin-gentle frame fine none = record {
  path = λ x. refl;
  within = λ x is. record {
    own = record { members = is.own.members; calls = All-cons IsFrameInOrder frame [] fine (All-nil IsFrameInOrder); count = refl };
    marks = none;
  };
}

exchanged-gentle : (own : Data) → IsDataInOrder own.children own → LastHasNone own.calls → IsGentle (exchanged own)
exchanged-gentle own is marks = record { path = λ x. refl; within = λ x also. record { own = is; marks = marks } }

settle-ordered : (c : Going) (path : Path) (n : ℕ) (own : Data) → IsDataInOrder n own → IsGoingInOrder c → IsGoingInOrder (settle c path own)
settle-ordered c path n own is all = touch-ordered c path (with_data own) (data-gentle n own is) all

-- ---- new components

-- no other component has the path of the new one
abbrev Differs : Component → Component → Type 0
Differs new x = same_path (path_of x) (path_of new) ≡ false

insert-first : (new x : Component) (xs : List Component) (o : Ordering) → path_cmp (path_of new) (path_of x) ≡ o → Differs new x → AllPairs Precedes (x ∷ xs) → AllPairs Precedes (insert new xs)
    → AllPairs Precedes (if is_lt o then new ∷ x ∷ xs else x ∷ insert new xs)
insert-first new x xs Less is differs ordered others =
    AllPairs-cons Precedes new (x ∷ xs)
    (All-cons (Precedes new) x xs is (All-more (Precedes x) (Precedes new) (λ y less. path_total.trans (path_of new) (path_of x) (path_of y) is less) xs (pairs-head Precedes x xs ordered)))
    ordered
insert-first new x xs Equal is differs ordered others =
    absurd (let same : is_eq (path_cmp (path_of x) (path_of new)) ≡ true = ap is_eq (path_total.antisymm (path_of x) (path_of new) ∙ ap ordering_reverse is) in
    let no : true ≡ false = sym same ∙ is_eq-slice_cmp (path_of x).numbers (path_of new).numbers ∙ differs in cc)
insert-first new x xs Greater is differs ordered others =
    AllPairs-cons Precedes x (insert new xs)
    (insert-each (Precedes x) new (path_total.antisymm (path_of x) (path_of new) ∙ ap ordering_reverse is) xs (pairs-head Precedes x xs ordered))
    others

pub insert-ordered : (new : Component) (xs : List Component) → All (Differs new) xs → AllPairs Precedes xs → AllPairs Precedes (insert new xs)
insert-ordered new [] differ ordered = AllPairs-cons Precedes new [] (All-nil (Precedes new)) (pairs-nil Precedes)
insert-ordered new (x ∷ xs) differ ordered =
    insert-first new x xs (path_cmp (path_of new) (path_of x)) refl (All-head (Differs new) x xs differ) ordered
    (insert-ordered new xs (All-tail (Differs new) x xs differ) (pairs-tail Precedes x xs ordered))

-- where none is found, all fail the test
none-first : {A : Type 0} (p : A → Bool) (x : A) (xs : List A) (b : Bool) (o : Option A) → p x ≡ b → is_some (if b then Some x else o) ≡ false → (is_some o ≡ false → All (λ y. p y ≡ false) xs) → All (λ y. p y ≡ false) (x ∷ xs)
none-first p x xs true o is e others = absurd (let no = e in cc)
none-first p x xs false o is e others = All-cons (λ y. p y ≡ false) x xs is (others e)

pub none-found : {A : Type 0} (p : A → Bool) (xs : List A) → is_some (find p xs) ≡ false → All (λ y. p y ≡ false) xs
none-found p [] e = All-nil (λ y. p y ≡ false)
none-found p (x ∷ xs) e = none-first p x xs (p x) (find p xs) refl e (none-found p xs)

new-components : (new : Component) (c : Going) (b : Bool) → is_some (component_at c (path_of new)) ≡ b → AllPairs Precedes c.components → AllPairs Precedes (if b then c.components else insert new c.components)
new-components new c true is ordered = ordered
new-components new c false is ordered = insert-ordered new c.components (none-found (λ x. same_path (path_of x) (path_of new)) c.components is) ordered

new-ordered : (new : Component) (c : Going) → IsComponentInOrder new → IsGoingInOrder c → IsGoingInOrder (with_new new c)
new-ordered new c fine is = record {
  components = new-components new c (is_some (component_at c (path_of new))) refl is.components;
  within = new-each IsComponentInOrder new c (is_some (component_at c (path_of new))) fine is.within;
  connections = is.connections;
  mappings = is.mappings;
}

-- ---- connections

abbrev Before : Connection → Connection → Type 0
Before k l = connection_cmp k l ≡ Less

is-less : (o : Ordering) → is_lt o ≡ true → o ≡ Less
is-less Less e = refl
is-less Equal e = absurd (let no = e in cc)
is-less Greater e = absurd (let no = e in cc)

add-ordered : (new : Connection) (ks : List Connection) → AllPairs Before ks → AllPairs Before (add_connection new ks)
add-ordered new ks ordered =
    pairs-append Before (filter (λ k. is_lt (connection_cmp k new)) ks) (new ∷ filter (λ k. is_lt (connection_cmp new k)) ks)
    (AllPairs-filter Before (λ k. is_lt (connection_cmp k new)) ks ordered)
    (AllPairs-cons Before new (filter (λ k. is_lt (connection_cmp new k)) ks) behind (AllPairs-filter Before (λ k. is_lt (connection_cmp new k)) ks ordered))
    (All-more (λ k. Before k new) (λ k. All (Before k) (new ∷ filter (λ l. is_lt (connection_cmp new l)) ks))
    (λ k less. All-cons (Before k) new (filter (λ l. is_lt (connection_cmp new l)) ks) less
    (All-more (Before new) (Before k) (λ l more. connection-total.trans k new l less more) (filter (λ l. is_lt (connection_cmp new l)) ks) behind))
    (filter (λ k. is_lt (connection_cmp k new)) ks)
    (All-more (λ k. is_lt (connection_cmp k new) ≡ true) (λ k. Before k new) (λ k e. is-less (connection_cmp k new) e) (filter (λ k. is_lt (connection_cmp k new)) ks) (filter_passes (λ k. is_lt (connection_cmp k new)) ks)))
  where
    behind : All (Before new) (filter (λ k. is_lt (connection_cmp new k)) ks)
    behind = All-more (λ k. is_lt (connection_cmp new k) ≡ true) (Before new) (λ k e. is-less (connection_cmp new k) e) (filter (λ k. is_lt (connection_cmp new k)) ks) (filter_passes (λ k. is_lt (connection_cmp new k)) ks)

connection-ordered : (new : Connection) (c : Going) → IsGoingInOrder c → IsGoingInOrder (with_connection new c)
connection-ordered new c is = record { components = is.components; within = is.within; connections = add-ordered new c.connections is.connections; mappings = is.mappings }

-- ---- mappings

mapped-ordered : (mappings : Entries End) (c : Going) → HasNamesInOrder mappings → IsGoingInOrder c → IsGoingInOrder (with_mappings mappings c)
mapped-ordered mappings c ordered is = record { components = is.components; within = is.within; connections = is.connections; mappings = ordered }

-- some of them go
fewer-ordered : (stays : List ℕ × End → Bool) (c : Going) → IsGoingInOrder c → IsGoingInOrder (with_mappings (filter stays c.mappings) c)
fewer-ordered stays c is = mapped-ordered (filter stays c.mappings) c (AllPairs-filter (λ (d e : List ℕ × End). name_cmp d.0 e.0 ≡ Less) stays c.mappings is.mappings) is

-- ---- what a component asks for

abbrev pub IsConfigurationInOrder : Configuration → Type 0
IsConfigurationInOrder = IfGoes IsGoingInOrder

new-fine : (new : Component) → IsFrameInOrder new.own.members → new.own.calls ≡ [] → IsComponentInOrder new
new-fine new members calls = record {
  own = record { members = members; calls = All-same IsFrameInOrder new.own.calls [] calls (All-nil IsFrameInOrder); count = refl };
  marks = subst LastHasNone (sym calls) tt;
}

-- a component that has created so many others asks for it, by whatever snapshot
applies : (c : Going) (itself asking : ComponentId) (n : ℕ) → IsGoingInOrder c → Applies Anyhow (IsAskedInOrder asking n) IsGoingInOrder c itself
applies c itself asking n is = record {
  fails = λ why asks. tt;
  errs = tt;
  continues = λ own asks. settled n own asks;
  worsens = λ v own asks. touch-ordered (settle c itself.path own) itself.path (with_verdict v) (verdict-gentle v) (settled n own asks);
  removes = λ port own asks. touch-ordered (settle c itself.path own) itself.path (at_queue port without_first) (queue-gentle port without_first) (settled n own asks);
  delivers = λ port to v own e asks. touch-ordered (settle c itself.path own) e.component (at_queue e.port (λ messages. messages ++ record { value = v; sender = Some itself } ∷ []))
      (queue-gentle e.port (λ messages. messages ++ record { value = v; sender = Some itself } ∷ [])) (settled n own asks);
  sends_out = λ port to v own asks. settled n own asks;
  creates = λ new own asks. new-ordered new (settle c itself.path own) (new-fine new asks.1 asks.2) (settled (n + 1) own asks.4);
  starts = λ path frame own asks. touch-ordered (settle c itself.path own) path (begin frame) (begin-gentle frame asks.0 asks.1) (settled n own asks.2);
  lacks = λ path frame own asks found. tt;
  stops = λ path own asks. fewer-ordered (λ m. not (same_path m.1.component path)) (touch (settle c itself.path own) path (with_state Terminated))
      (touch-ordered (settle c itself.path own) path (with_state Terminated) (state-gentle Terminated) (settled n own asks));
  connects = λ d e own asks. connection-ordered (connection d e) (settle c itself.path own) (settled n own asks);
  maps = λ d system_port own asks. mapped-ordered (put system_port d c.mappings) (settle c itself.path own) (put-ordered system_port d c.mappings is.mappings) (settled n own asks);
  unmaps = λ d system_port own asks. fewer-ordered (λ m. not (same_end d m.1 && bytes_eq m.0 system_port)) (settle c itself.path own) (settled n own asks);
}
  where
    settled : (m : ℕ) (own : Data) → IsDataInOrder m own → IsGoingInOrder (settle c itself.path own)
    settled m own also = settle-ordered c itself.path m own also is

-- ---- timers

expire-ordered : (timers : Entries TimerState) (name : List ℕ) (o : Option TimerState) → HasNamesInOrder timers → IfSome (expire_in timers name o) HasNamesInOrder
expire-ordered timers name (Some timer.Running) ordered = put-ordered name timer.Expired timers ordered
expire-ordered timers name (Some timer.Inactive) ordered = tt
expire-ordered timers name (Some timer.Expired) ordered = tt
expire-ordered timers name None ordered = tt

frame-keeps : KeepsTimers IsFrameInOrder
frame-keeps name frame timers changed is = record {
  values = is.values;
  timers = some-of HasNamesInOrder (expire_in frame.timers name (entry frame.timers name)) timers changed (expire-ordered frame.timers name (entry frame.timers name) is.timers);
}

-- data of which one frame may have other timers
pub record AreDataExpired (n : ℕ) (new : Data) : Type 0 where
  pub own : IsDataInOrder n new
  pub marks : LastHasNone new.calls

pub expired-ordered : (n number : ℕ) (name : List ℕ) (own : Data) → IsDataInOrder n own → LastHasNone own.calls → IfSome (expired number name own) (AreDataExpired n)
expired-ordered n number name own is marks =
    data-expires (AreDataExpired n) number name own
    (λ members changed. record {
      own = record { members = some-of IsFrameInOrder (expired_frame name own.members) members changed (frame-expires IsFrameInOrder frame-keeps name own.members is.members); calls = is.calls; count = is.count };
      marks = marks;
    })
    (λ calls changed. record {
      own = record { members = is.members; calls = some-of (All IsFrameInOrder) (expired_call number name own.calls) calls changed (calls-expire IsFrameInOrder frame-keeps number name own.calls is.calls); count = is.count };
      marks = last-none own.calls calls (remains-expired number name own.calls calls changed) marks;
    })
  where
    last-none : (calls new : List Frame) → map (λ frame. frame.remaining) new ≡ map (λ frame. frame.remaining) calls → LastHasNone calls → LastHasNone new
    last-none [] [] same none = none
    last-none [] (frame ∷ frames) same none = absurd (let e = same in cc)
    last-none (frame ∷ frames) [] same none = tt
    last-none (frame ∷ frames) (other ∷ others) same none = subst HasNone (sym (first-same same)) none
      where
        first-same : other.remaining ∷ map (λ frame. frame.remaining) others ≡ frame.remaining ∷ map (λ frame. frame.remaining) frames → other.remaining ≡ frame.remaining
        first-same e = cc

-- ---- deliveries

-- nothing is said of how many messages came in
counted-ordered : (system_port : List ℕ) (c : Going) → IsGoingInOrder c → IsGoingInOrder (with_delivery system_port c)
counted-ordered system_port c is = record { components = is.components; within = is.within; connections = is.connections; mappings = is.mappings }

come-ordered : (system_port : List ℕ) (e : End) (v : Value) (c : Going) → IsGoingInOrder c → IsGoingInOrder (come_in system_port e v c)
come-ordered system_port e v c is =
    counted-ordered system_port (put_behind (record { value = v; sender = None }) e c)
    (touch-ordered c e.component (at_queue e.port (λ messages. messages ++ record { value = v; sender = None } ∷ []))
    (queue-gentle e.port (λ messages. messages ++ record { value = v; sender = None } ∷ [])) is)

-- ---- steps

pub component-ordered : (c : Going) (p : Path) (x : Component) → IsGoingInOrder c → component_at c p ≡ Some x → IsComponentInOrder x
component-ordered c p x is found = some-of IsComponentInOrder (component_at c p) x found (found-each IsComponentInOrder (λ component. same_path (path_of component) p) c.components is.within)

-- what a component asks for by a snapshot, as its data are in one configuration, is done in another
pub applied-ordered : (test : Test) (c old : Going) (itself : ComponentId) (p : Path) (x : Component) (snapshot : Snapshot) → IsGoingInOrder c → IsGoingInOrder old → component_at old p ≡ Some x
    → Leads Anyhow IsConfigurationInOrder (apply test c itself (act test snapshot x.own))
applied-ordered test c old itself p x snapshot is also there =
    let fine : IsComponentInOrder x = component-ordered old p x also there in
    applied test Anyhow (IsAskedInOrder snapshot.itself x.own.children) IsGoingInOrder c itself (applies c itself snapshot.itself x.own.children is) (act test snapshot x.own)
    (asked-ordered x.own.children test snapshot x.own fine.own)

pub steps-ordered : (test : Test) (c : Going) → IsGoingInOrder c → Steps test Anyhow IsGoingInOrder c
steps-ordered test c is = record {
  asked = λ p x found runs. applied-ordered test c c x.itself p x (snapshot_of c x) is is found;
  expires = λ p x number name own found runs changed.
      let fine : IsComponentInOrder x = component-ordered c p x is found in
      let new : AreDataExpired x.own.children own = some-of (AreDataExpired x.own.children) (expired number name x.own) own changed (expired-ordered x.own.children number name x.own fine.own fine.marks) in
      touch-ordered c (path_of x) (exchanged own) (exchanged-gentle own (record { members = new.own.members; calls = new.own.calls; count = refl }) new.marks) is;
  comes = λ system_port e v mapped found. come-ordered system_port e v c is;
}
