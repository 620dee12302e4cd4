-- What comes of judging an event: a message that is received waits in front of its port, and a timer that elapses was seen expired.
use Rattle.std.proofs.Common.{◌≡◌, ℕ, Bool, true, false, not, List, [], ◌∷◌, Option, Some, None, IfSome, is_some, bytes_eq, refl, sym, ap, subst, if◌then◌else◌}
use Rattle.std.specs.List.{All, AllPairs, find}
use Rattle.std.proofs.lemmas.List.Elements.{All-head, All-tail}
use Rattle.std.proofs.lemmas.Slice.Eq.{bytes_eq-Decides}
use Rattle.ttcn_syntax.specs.declared.tree.statement.Event.{Event}
use Rattle.ttcn_syntax.specs.declared.tree.statement.Event.TheVariants as event
use Rattle.ttcn_syntax.specs.declared.tree.statement.PortSelector.{PortSelector}
use Rattle.ttcn_syntax.specs.declared.tree.statement.PortSelector.TheVariants as selector
use Rattle.ttcn_syntax.specs.declared.tree.statement.Receive.{Receive}
use Rattle.ttcn_syntax.specs.declared.tree.template.MessageTemplate.{MessageTemplate}
use Rattle.check_scope.specs.Typings.{same_type}
use Rattle.check_scope.specs.declared.types.DataType.{DataType}
use Rattle.check_rules.specs.Messages.{incoming, received_type}
use Rattle.laws_steps.proofs.Finding.{find-passes}
use Rattle.semantics.proofs.Pairs.{pairs-head, pairs-tail}
use Rattle.semantics.specs.Branches.{Judge, read_by}
use Rattle.semantics.specs.Configurations.{Data, Message, same_path}
use Rattle.semantics.specs.Events.{Elapses, Faulty, Happened, Passed, Plain, Receives, Redirect, Trial, from_fits, happened_if, happened_or_passed, or_next, redirects, template_fits, timer_seen, tried, try_chance, try_event, try_front, try_fronts, try_port, try_receive, try_template, try_timeout, try_type, try_typed, type_of}
use Rattle.semantics.specs.Sites.{Site, scope_at}
use Rattle.semantics.specs.Snapshots.{Snapshot, Test, is_terminated_in, mtc_of, others_run}
use Rattle.value_types.specs.Outcomes.{DynamicError, Fails, Outcome, Yields}
use Rattle.value_types.specs.Readings.{Reading, component_referred}
use Rattle.value_types.specs.declared.frame.TimerState.{TimerState}
use Rattle.value_types.specs.declared.frame.TimerState.TheVariants as timer

abbrev pub Fronts : Type 0
Fronts = List (List ℕ × Option Message)

-- a message is in front of a port, if the port is there
abbrev pub HasMessage : List ℕ → Fronts → Type 0
HasMessage port fronts = IfSome (find (λ front. bytes_eq front.0 port) fronts) (λ front. is_some front.1 ≡ true)

-- no two ports have one name
abbrev pub PortsDiffer : Fronts → Type 0
PortsDiffer fronts = AllPairs (λ d e. bytes_eq d.0 e.0 ≡ false) fronts

-- ---- one port

-- if a message is received, it is at this port
abbrev IsAt : List ℕ → Trial → Type 0
IsAt port Passed = Unit {0}
IsAt port (Faulty why) = Unit {0}
IsAt port (Happened Plain) = ⊥
IsAt port (Happened (Receives other stored)) = other ≡ port
IsAt port (Happened (Elapses name)) = ⊥

tried-at : {A : Type 0} (port : List ℕ) (try : A → Trial) → ((a : A) → IsAt port (try a)) → (o : Outcome A) → IsAt port (tried try o)
tried-at port try each (Yields a) = each a
tried-at port try each (Fails why) = tt

matched-at : (stored : Outcome (List Redirect)) (port : List ℕ) (b : Bool) → IsAt port (happened_or_passed stored port b)
matched-at stored port false = tt
matched-at stored port true = tried-at port (λ found. Happened (Receives port found)) (λ found. refl) stored

template-at : (test : Test) (site : Site) (reading : Reading) (receive : Receive) (port : List ℕ) (message : Message) (of : DataType) (b : Bool)
    → IsAt port (try_template test site reading receive port message of b)
template-at test site reading receive port message of false = tt
template-at test site reading receive port message of true =
    tried-at port (happened_or_passed (redirects (scope_at test.definitions site) receive message) port) (matched-at (redirects (scope_at test.definitions site) receive message) port)
    (template_fits reading of receive.message message.value)

typed-at : (test : Test) (site : Site) (reading : Reading) (receive : Receive) (port : List ℕ) (message : Message) (of : DataType) → IsAt port (try_typed test site reading receive port message of)
typed-at test site reading receive port message of =
    tried-at port (try_template test site reading receive port message of) (template-at test site reading receive port message of) (from_fits reading receive.from message.sender)

if-at : (port : List ℕ) (trial : Trial) (b : Bool) → IsAt port trial → IsAt port (if b then trial else Passed)
if-at port trial true is = is
if-at port trial false is = tt

type-at : (test : Test) (site : Site) (reading : Reading) (receive : Receive) (port : List ℕ) (message : Message) (wanted found : Option DataType) (template : Option MessageTemplate)
    → IsAt port (try_type test site reading receive port message wanted found template)
type-at test site reading receive port message wanted None template = tt
type-at test site reading receive port message wanted (Some found) None = typed-at test site reading receive port message found
type-at test site reading receive port message None (Some found) (Some template) = tt
type-at test site reading receive port message (Some wanted) (Some found) (Some template) =
    if-at port (try_typed test site reading receive port message found) (same_type wanted found) (typed-at test site reading receive port message found)

front-at : (test : Test) (site : Site) (reading : Reading) (receive : Receive) (port : List ℕ) (o : Option Message) → IsAt port (try_front test site reading receive port o)
front-at test site reading receive port None = tt
front-at test site reading receive port (Some message) =
    type-at test site reading receive port message (received_type (scope_at test.definitions site) (incoming (scope_at test.definitions site) receive.port) receive.message)
    (type_of message.value) receive.message

-- ---- all ports

-- if a message is received, it waits in front
abbrev Finds : Fronts → Trial → Type 0
Finds fronts Passed = Unit {0}
Finds fronts (Faulty why) = Unit {0}
Finds fronts (Happened Plain) = ⊥
Finds fronts (Happened (Receives port stored)) = HasMessage port fronts
Finds fronts (Happened (Elapses name)) = ⊥

at-finds : (fronts : Fronts) (port : List ℕ) (trial : Trial) → HasMessage port fronts → IsAt port trial → Finds fronts trial
at-finds fronts port Passed has is = tt
at-finds fronts port (Faulty why) has is = tt
at-finds fronts port (Happened Plain) has is = absurd is
at-finds fronts port (Happened (Receives other stored)) has is = subst (λ p. HasMessage p fronts) (sym is) has
at-finds fronts port (Happened (Elapses name)) has is = absurd is

found-has : (fronts : Fronts) (port : List ℕ) (front : List ℕ × Option Message) → find (λ f. bytes_eq f.0 port) fronts ≡ Some front → is_some front.1 ≡ true → HasMessage front.0 fronts
found-has fronts port front found is =
    subst (λ p. HasMessage p fronts) (sym ((bytes_eq-Decides front.0 port).0 (find-passes (λ f. bytes_eq f.0 port) fronts front found)))
    (subst (λ o. IfSome o (λ f. is_some f.1 ≡ true)) (sym found) is)

front-finds : (fronts : Fronts) (test : Test) (site : Site) (reading : Reading) (receive : Receive) (port : List ℕ) (o : Option Message) → (is_some o ≡ true → HasMessage port fronts)
    → Finds fronts (try_front test site reading receive port o)
front-finds fronts test site reading receive port None has = tt
front-finds fronts test site reading receive port (Some message) has =
    at-finds fronts port (try_front test site reading receive port (Some message)) (has refl) (front-at test site reading receive port (Some message))

port-finds : (fronts : Fronts) (test : Test) (site : Site) (reading : Reading) (receive : Receive) (port : List ℕ) (o : Option (List ℕ × Option Message)) → find (λ f. bytes_eq f.0 port) fronts ≡ o
    → Finds fronts (try_port test site reading receive o)
port-finds fronts test site reading receive port None found = tt
port-finds fronts test site reading receive port (Some front) found =
    front-finds fronts test site reading receive front.0 front.1 (found-has fronts port front found)

-- if a message is received, this is true of its port
abbrev IsSo : (List ℕ → Type 0) → Trial → Type 0
IsSo P Passed = Unit {0}
IsSo P (Faulty why) = Unit {0}
IsSo P (Happened Plain) = ⊥
IsSo P (Happened (Receives port stored)) = P port
IsSo P (Happened (Elapses name)) = ⊥

at-so : (P : List ℕ → Type 0) (port : List ℕ) (trial : Trial) → P port → IsAt port trial → IsSo P trial
at-so P port Passed has is = tt
at-so P port (Faulty why) has is = tt
at-so P port (Happened Plain) has is = absurd is
at-so P port (Happened (Receives other stored)) has is = subst P (sym is) has
at-so P port (Happened (Elapses name)) has is = absurd is

next-so : (P : List ℕ → Type 0) (one next : Trial) → IsSo P one → IsSo P next → IsSo P (or_next one next)
next-so P Passed next one other = other
next-so P (Faulty why) next one other = tt
next-so P (Happened effect) next one other = one

fronts-so : (P : List ℕ → Type 0) (test : Test) (site : Site) (reading : Reading) (receive : Receive) (fronts : Fronts) → All (λ front. P front.0) fronts
    → IsSo P (try_fronts test site reading receive fronts)
fronts-so P test site reading receive [] all = tt
fronts-so P test site reading receive (front ∷ fronts) all =
    next-so P (try_front test site reading receive front.0 front.1) (try_fronts test site reading receive fronts)
    (at-so P front.0 (try_front test site reading receive front.0 front.1) (All-head (λ f. P f.0) front fronts all) (front-at test site reading receive front.0 front.1))
    (fronts-so P test site reading receive fronts (All-tail (λ f. P f.0) front fronts all))

-- a message behind a port of another name
more-finds : (front : List ℕ × Option Message) (fronts : Fronts) (trial : Trial) → IsSo (λ port. bytes_eq front.0 port ≡ false) trial → Finds fronts trial → Finds (front ∷ fronts) trial
more-finds front fronts Passed other finds = tt
more-finds front fronts (Faulty why) other finds = tt
more-finds front fronts (Happened Plain) other finds = finds
more-finds front fronts (Happened (Receives port stored)) other finds =
    subst (λ o. IfSome o (λ f. is_some f.1 ≡ true)) (sym (ap (λ b. if b then Some front else find (λ f. bytes_eq f.0 port) fronts) other)) finds
more-finds front fronts (Happened (Elapses name)) other finds = finds

next-finds : (fronts : Fronts) (one next : Trial) → Finds fronts one → Finds fronts next → Finds fronts (or_next one next)
next-finds fronts Passed next one other = other
next-finds fronts (Faulty why) next one other = tt
next-finds fronts (Happened effect) next one other = one

fronts-finds : (test : Test) (site : Site) (reading : Reading) (receive : Receive) (fronts : Fronts) → PortsDiffer fronts → Finds fronts (try_fronts test site reading receive fronts)
fronts-finds test site reading receive [] differ = tt
fronts-finds test site reading receive (front ∷ fronts) differ =
    next-finds (front ∷ fronts) (try_front test site reading receive front.0 front.1) (try_fronts test site reading receive fronts)
    (front-finds (front ∷ fronts) test site reading receive front.0 front.1
    (λ is. subst (λ o. IfSome o (λ f. is_some f.1 ≡ true)) (sym (ap (λ b. if b then Some front else find (λ f. bytes_eq f.0 front.0) fronts) ((bytes_eq-Decides front.0 front.0).1 refl))) is))
    (more-finds front fronts (try_fronts test site reading receive fronts)
    (fronts-so (λ port. bytes_eq front.0 port ≡ false) test site reading receive fronts (pairs-head (λ d e. bytes_eq d.0 e.0 ≡ false) front fronts differ))
    (fronts-finds test site reading receive fronts (pairs-tail (λ d e. bytes_eq d.0 e.0 ≡ false) front fronts differ)))

receive-finds : (test : Test) (snapshot : Snapshot) (site : Site) (reading : Reading) (receive : Receive) (port : PortSelector) → PortsDiffer snapshot.fronts
    → Finds snapshot.fronts (try_receive test snapshot site reading receive port)
receive-finds test snapshot site reading receive selector.Any differ = fronts-finds test site reading receive snapshot.fronts differ
receive-finds test snapshot site reading receive (selector.Named name) differ =
    port-finds snapshot.fronts test site reading receive name (find (λ front. bytes_eq front.0 name) snapshot.fronts) refl

-- ---- any event

-- what is known of an event that has happened
abbrev pub IsTold : Test → Snapshot → Data → Judge → Option Event → Trial → Type 0
IsTold test snapshot own judge e Passed = Unit {0}
IsTold test snapshot own judge e (Faulty why) = Unit {0}
IsTold test snapshot own judge e (Happened Plain) = Unit {0}
IsTold test snapshot own judge e (Happened (Receives port stored)) = HasMessage port snapshot.fronts
IsTold test snapshot own judge e (Happened (Elapses name)) = (e ≡ Some (event.Timeout name)) × (timer_seen test snapshot own judge name ≡ Some timer.Expired)

finds-told : (test : Test) (snapshot : Snapshot) (own : Data) (judge : Judge) (e : Option Event) (trial : Trial) → Finds snapshot.fronts trial → IsTold test snapshot own judge e trial
finds-told test snapshot own judge e Passed finds = tt
finds-told test snapshot own judge e (Faulty why) finds = tt
finds-told test snapshot own judge e (Happened Plain) finds = tt
finds-told test snapshot own judge e (Happened (Receives port stored)) finds = finds
finds-told test snapshot own judge e (Happened (Elapses name)) finds = absurd finds

timeout-told : (test : Test) (snapshot : Snapshot) (own : Data) (judge : Judge) (name : List ℕ) (o : Option TimerState) → timer_seen test snapshot own judge name ≡ o
    → IsTold test snapshot own judge (Some (event.Timeout name)) (try_timeout name o)
timeout-told test snapshot own judge name None seen = tt
timeout-told test snapshot own judge name (Some timer.Expired) seen = (refl, seen)
timeout-told test snapshot own judge name (Some timer.Running) seen = tt
timeout-told test snapshot own judge name (Some timer.Inactive) seen = tt

if-told : (test : Test) (snapshot : Snapshot) (own : Data) (judge : Judge) (e : Option Event) (b : Bool) → IsTold test snapshot own judge e (happened_if b)
if-told test snapshot own judge e true = tt
if-told test snapshot own judge e false = tt

tried-told : {A : Type 0} (test : Test) (snapshot : Snapshot) (own : Data) (judge : Judge) (e : Option Event) (try : A → Trial) → ((a : A) → IsTold test snapshot own judge e (try a)) → (o : Outcome A)
    → IsTold test snapshot own judge e (tried try o)
tried-told test snapshot own judge e try each (Yields a) = each a
tried-told test snapshot own judge e try each (Fails why) = tt

all-told : (test : Test) (snapshot : Snapshot) (own : Data) (judge : Judge) (e : Option Event) (b c : Bool) → IsTold test snapshot own judge e (if b then happened_if c else Faulty DynamicError)
all-told test snapshot own judge e true c = if-told test snapshot own judge e c
all-told test snapshot own judge e false c = tt

event-told : (test : Test) (snapshot : Snapshot) (own : Data) (judge : Judge) (e : Event) → PortsDiffer snapshot.fronts → IsTold test snapshot own judge (Some e) (try_event test snapshot own judge e)
event-told test snapshot own judge (event.Receive receive) differ =
    finds-told test snapshot own judge (Some (event.Receive receive)) (try_receive test snapshot judge.site (read_by test snapshot own judge) receive receive.port)
    (receive-finds test snapshot judge.site (read_by test snapshot own judge) receive receive.port differ)
event-told test snapshot own judge (event.Timeout name) differ = timeout-told test snapshot own judge name (timer_seen test snapshot own judge name) refl
event-told test snapshot own judge (event.Done reference) differ =
    tried-told test snapshot own judge (Some (event.Done reference)) (λ c. happened_if (is_terminated_in snapshot c.path))
    (λ c. if-told test snapshot own judge (Some (event.Done reference)) (is_terminated_in snapshot c.path)) (component_referred (read_by test snapshot own judge) reference)
event-told test snapshot own judge event.AllDone differ =
    all-told test snapshot own judge (Some event.AllDone) (same_path (read_by test snapshot own judge).itself.path (mtc_of test).path) (not (others_run snapshot (mtc_of test).path))

pub chance-told : (test : Test) (snapshot : Snapshot) (own : Data) (judge : Judge) (e : Option Event) → PortsDiffer snapshot.fronts → IsTold test snapshot own judge e (try_chance test snapshot own judge e)
chance-told test snapshot own judge None differ = tt
chance-told test snapshot own judge (Some e) differ = event-told test snapshot own judge e differ
