-- What a key of the code tells is what a component sees by the rules, and what is put in place of a component's bytes is what it becomes.
use Rattle.std.proofs.Common.{◌≡◌, ℕ, zero, suc, List, [], ◌∷◌, ◌++◌, get_or, map, Option, Some, None, option_map, refl, sym, ap, ◌∙◌}
use Rattle.std.specs.Prelude.{slice_get}
use Rattle.ttcn_syntax.specs.declared.tree.statement.Verdict.{Verdict}
use Rattle.semantics.proofs.LiveSteps.{map-twice}
use Rattle.semantics.specs.Configurations as rules
use Rattle.semantics.specs.Snapshots as snapshots
use Rattle.semantics.specs.Steps as steps
use Rattle.config_parts.proofs.Named.{queues-by}
use Rattle.config_parts.specs.Legend.{IsLegend, Legend, component_by, connection_by, data_by, entries_by, going_by, mapping_by, message_by, queue_by, state_by}
use Rattle.config_parts.specs.internal.Changes as kept
use Rattle.config_parts.specs.declared.component.Component.{Component}
use Rattle.config_parts.specs.declared.component.Message.{Message}
use Rattle.config_parts.specs.declared.component.Queue.{Queue}
use Rattle.config_parts.specs.declared.component.State.{State}
use Rattle.config_parts.specs.declared.component.State.TheVariants as state
use Rattle.config_parts.specs.declared.config.Going.{Going}
use Rattle.config_parts.specs.declared.connection.Links.{Links}
use Rattle.config_parts.specs.declared.frame.Data.{Data}
use Rattle.config_packed.specs.Pieces.{AreJoined, SeeTheSame, ShareOutline, changed_going, first_message, front_at, joined_going, with_verdict_and_own}
use Rattle.config_packed.specs.Spelling.{name_of}
use Rattle.laws_local.specs.Alone.{AllAlike, LinkAlike, LookAlike, SeeAlike, becoming, exchanged_at, joined_with, outside_of, receiving, with_component_at}
use Rattle.laws_local.specs.Alone as local
use Rattle.ttcnx_runs.specs.Remembered.{sent_going, without_front}
use Rattle.ttcnx_runs.specs.declared.outcome.Sending.{Sending}
use Rattle.value_types.specs.declared.value.ComponentId.{ComponentId}

-- ---- what is seen

abbrev named : ComponentId × State → ComponentId × rules.State
named name = (name.0, state_by name.1)

outside-by : (legend : Legend) (cs : List Component) → map outside_of (map (component_by legend) cs) ≡ map named (map name_of cs)
outside-by legend cs =
    map-over outside_of (component_by legend) cs ∙ sym (map-over named name_of cs)
  where
    map-over : {A B C : Type 0} (f : B → C) (g : A → B) (xs : List A) → map f (map g xs) ≡ map (λ x. f (g x)) xs
    map-over f g xs = map-twice f g (λ x. f (g x)) (λ x. refl) xs

pub look-alike : (legend : Legend) (g h : Going) → ShareOutline g h → LookAlike (going_by legend g) (going_by legend h)
look-alike legend g h share = outside-by legend g.components ∙ ap (map named) share.names ∙ sym (outside-by legend h.components)

front-first : (ms : List Message) → snapshots.front_of (map message_by ms) ≡ option_map message_by (first_message ms)
front-first [] = refl
front-first (m ∷ ms) = refl

abbrev front-said : Legend → ℕ × Option Message → List ℕ × Option rules.Message
front-said legend front = (legend.names front.0, option_map message_by front.1)

fronts-by : (legend : Legend) (qs : List Queue) → map snapshots.front_at (map (queue_by legend) qs) ≡ map (front-said legend) (map front_at qs)
fronts-by legend [] = refl
fronts-by legend (q ∷ qs) =
    ap (λ o. (legend.names q.port, o) ∷ map snapshots.front_at (map (queue_by legend) qs)) (front-first q.messages)
    ∙ ap (λ fs. front-said legend (front_at q) ∷ fs) (fronts-by legend qs)

some-is : {A : Type 0} {a b : A} → Some a ≡ Some b → a ≡ b
some-is e = cc

name-at : (cs : List Component) (at : ℕ) (c : Component) → slice_get cs at ≡ Some c → slice_get (map name_of cs) at ≡ Some (name_of c)
name-at [] at c found = absurd (let no = found in cc)
name-at (x ∷ xs) zero c found = ap (λ (y : Component). Some (name_of y)) (some-is found)
name-at (x ∷ xs) (suc at) c found = name-at xs at c found

pub same-name : (g h : Going) (at i : ℕ) (c d : Component) → SeeTheSame g h at i c d → slice_get g.components at ≡ Some c → slice_get h.components i ≡ Some d → name_of c ≡ name_of d
same-name g h at i c d see here there =
    some-is (sym (name-at g.components at c here) ∙ ap (λ names. slice_get names at) see.outline.names ∙ ap (slice_get (map name_of h.components)) see.place ∙ name-at h.components i d there)

pub see-alike : (legend : Legend) (g h : Going) (at i : ℕ) (c d : Component) → SeeTheSame g h at i c d → slice_get g.components at ≡ Some c → slice_get h.components i ≡ Some d
    → SeeAlike (component_by legend c) (component_by legend d)
see-alike legend g h at i c d see here there =
    let name : name_of c ≡ name_of d = same-name g h at i c d see here there in
    record {
      itself = ap (λ (n : ComponentId × State). n.0) name;
      own = ap (data_by legend) see.own;
      state = ap (λ (n : ComponentId × State). state_by n.1) name;
      verdict = see.verdict;
      fronts = fronts-by legend c.queues ∙ ap (map (front-said legend)) see.fronts ∙ sym (fronts-by legend d.queues);
    }

-- ---- what a component becomes

without-first : (ms : List Message) → map message_by (kept.without_first ms) ≡ steps.without_first (map message_by ms)
without-first [] = refl
without-first (m ∷ ms) = refl

fronts-gone : (legend : Legend) → IsLegend legend → (removed : Option ℕ) (qs : List Queue) → map (queue_by legend) (without_front removed qs) ≡ local.without_front (option_map legend.names removed) (map (queue_by legend) qs)
fronts-gone legend is None qs = refl
fronts-gone legend is (Some port) qs = queues-by legend is port kept.without_first steps.without_first without-first qs

abbrev become : Verdict → Data → List Queue → Component → Component
become v own queues c = record { itself = c.itself; own = own; state = c.state; verdict = v; queues = queues }

changed-list : (legend : Legend) (v : Verdict) (own : Data) (queues : List Queue) (at : ℕ) (cs : List Component) (c : Component) → slice_get cs at ≡ Some c
    → map (component_by legend) (kept.changed_at (kept.changed_at cs at (with_verdict_and_own v own)) at (kept.with_queues (λ old. queues)))
    ≡ exchanged_at at (component_by legend (become v own queues c)) (map (component_by legend) cs)
changed-list legend v own queues at [] c found = refl
changed-list legend v own queues zero (x ∷ xs) c found = ap (λ (y : Component). component_by legend (become v own queues y) ∷ map (component_by legend) xs) (some-is found)
changed-list legend v own queues (suc at) (x ∷ xs) c found = ap (λ ys. component_by legend x ∷ ys) (changed-list legend v own queues at xs c found)

pub changed-said : (legend : Legend) → IsLegend legend → (g : Going) (at : ℕ) (c : Component) (v : Verdict) (own : Data) (removed : Option ℕ) → slice_get g.components at ≡ Some c
    → going_by legend (changed_going g at v own at (without_front removed c.queues))
    ≡ with_component_at at (becoming (data_by legend own) v (option_map legend.names removed) (component_by legend c)) (going_by legend g)
changed-said legend is g at c v own removed found =
    ap (λ xs. record (going_by legend g) { components = xs }) (changed-list legend v own (without_front removed c.queues) at g.components c found)
    ∙ ap (λ qs. with_component_at at (record (component_by legend (become v own [] c)) { queues = qs }) (going_by legend g)) (fronts-gone legend is removed c.queues)

-- ---- a message that is sent

pub link-alike : (legend : Legend) (g h : Going) → ShareOutline g h → LinkAlike (going_by legend g) (going_by legend h)
link-alike legend g h share = record {
  connections = ap (λ (links : Links). map (connection_by legend) links.connections) share.links;
  mappings = ap (λ (links : Links). map (mapping_by legend) links.mappings) share.links;
}

some-named : (cs : List Component) (at : ℕ) (name : ComponentId × State) → slice_get (map name_of cs) at ≡ Some name → (c : Component) × (slice_get cs at ≡ Some c) × (name_of c ≡ name)
some-named [] at name found = absurd (let no = found in cc)
some-named (c ∷ cs) zero name found = (c, refl, some-is found)
some-named (c ∷ cs) (suc at) name found = some-named cs at name found

-- at the place of a component another configuration has one of the same name
pub other-there : (g h : Going) (to : ℕ) (w : Component) → ShareOutline g h → slice_get g.components to ≡ Some w → (u : Component) × (slice_get h.components to ≡ Some u) × (name_of u ≡ name_of w)
other-there g h to w share there = some-named h.components to (name_of w) (ap (λ names. slice_get names to) (sym share.names) ∙ name-at g.components to w there)

pub changed-none : {A : Type 0} (xs : List A) (to : ℕ) (f : A → A) → slice_get xs to ≡ None → kept.changed_at xs to f ≡ xs
changed-none [] to f none = refl
changed-none (x ∷ xs) zero f none = absurd (let no = none in cc)
changed-none (x ∷ xs) (suc to) f none = ap (λ ys. x ∷ ys) (changed-none xs to f none)

pub changed-found : {A : Type 0} (xs : List A) (at : ℕ) (f : A → A) (x : A) → slice_get xs at ≡ Some x → slice_get (kept.changed_at xs at f) at ≡ Some (f x)
changed-found [] at f x found = absurd (let no = found in cc)
changed-found (y ∷ ys) zero f x found = ap (λ z. Some (f z)) (some-is found)
changed-found (y ∷ ys) (suc at) f x found = changed-found ys at f x found

pub changed-other : {A : Type 0} (xs : List A) (at to : ℕ) (f : A → A) → (at ≡ to → ⊥) → slice_get (kept.changed_at xs at f) to ≡ slice_get xs to
changed-other [] at to f apart = refl
changed-other (x ∷ xs) zero zero f apart = absurd (apart refl)
changed-other (x ∷ xs) zero (suc to) f apart = refl
changed-other (x ∷ xs) (suc at) zero f apart = refl
changed-other (x ∷ xs) (suc at) (suc to) f apart = changed-other xs at to f (λ same. apart (ap suc same))

-- a list in which one component changes, as it is said
said-changed : (legend : Legend) (f : Component → Component) (z : rules.Component) (at : ℕ) (cs : List Component) (c : Component) → slice_get cs at ≡ Some c → component_by legend (f c) ≡ z
    → map (component_by legend) (kept.changed_at cs at f) ≡ exchanged_at at z (map (component_by legend) cs)
said-changed legend f z at [] c found is = refl
said-changed legend f z zero (x ∷ xs) c found is = ap (λ (y : rules.Component). y ∷ map (component_by legend) xs) (ap (λ (y : Component). component_by legend (f y)) (some-is found) ∙ is)
said-changed legend f z (suc at) (x ∷ xs) c found is = ap (λ ys. component_by legend x ∷ ys) (said-changed legend f z at xs c found is)

message-came : (ms : List Message) (m : Message) → map message_by (ms ++ m ∷ []) ≡ map message_by ms ++ message_by m ∷ []
message-came [] m = refl
message-came (x ∷ xs) m = ap (λ ys. message_by x ∷ ys) (message-came xs m)

queued : (legend : Legend) → IsLegend legend → (port : ℕ) (m : Message) (w : Component)
    → component_by legend (kept.with_queues (kept.with_message port m) w) ≡ receiving (legend.names port) (message_by m) (component_by legend w)
queued legend is port m w =
    ap (λ qs. record (component_by legend w) { queues = qs })
    (queues-by legend is port (λ ms. ms ++ m ∷ []) (λ ms. ms ++ message_by m ∷ []) (λ ms. message-came ms m) w.queues)

-- the first of two changes of a message that is sent: that of the sender
abbrev pub sender_changed : Going → ℕ → Verdict × Data → List Component
sender_changed g at own = kept.changed_at g.components at (with_verdict_and_own own.0 own.1)

pub sender-said : (legend : Legend) (g : Going) (at : ℕ) (c : Component) (own : Verdict × Data) → slice_get g.components at ≡ Some c
    → map (component_by legend) (sender_changed g at own) ≡ exchanged_at at (becoming (data_by legend own.1) own.0 None (component_by legend c)) (map (component_by legend) g.components)
sender-said legend g at c own found = said-changed legend (with_verdict_and_own own.0 own.1) _ at g.components c found refl

-- what a message makes of a configuration, where one of the changed components is the receiver
pub sent-said : (legend : Legend) → IsLegend legend → (g : Going) (at : ℕ) (c : Component) (own : Verdict × Data) (sending : Sending) (w : Component) → slice_get g.components at ≡ Some c
    → slice_get (sender_changed g at own) sending.to ≡ Some w
    → going_by legend (sent_going g at own sending)
    ≡ with_component_at sending.to (receiving (legend.names sending.port) (message_by sending.message) (component_by legend w))
    (with_component_at at (becoming (data_by legend own.1) own.0 None (component_by legend c)) (going_by legend g))
sent-said legend is g at c own sending w found there =
    ap (λ xs. record (going_by legend g) { components = xs })
    (said-changed legend (kept.with_queues (kept.with_message sending.port sending.message)) _ sending.to (sender_changed g at own) w there (queued legend is sending.port sending.message w)
    ∙ ap (exchanged_at sending.to (receiving (legend.names sending.port) (message_by sending.message) (component_by legend w))) (sender-said legend g at c own found))

-- where no component is at the place, nobody gets it
pub unsent-said : (legend : Legend) (g : Going) (at : ℕ) (c : Component) (own : Verdict × Data) (sending : Sending) → slice_get g.components at ≡ Some c
    → slice_get (sender_changed g at own) sending.to ≡ None
    → going_by legend (sent_going g at own sending) ≡ with_component_at at (becoming (data_by legend own.1) own.0 None (component_by legend c)) (going_by legend g)
unsent-said legend g at c own sending found none =
    ap (λ xs. record (going_by legend g) { components = xs })
    (ap (map (component_by legend)) (changed-none (sender_changed g at own) sending.to (kept.with_queues (kept.with_message sending.port sending.message)) none) ∙ sender-said legend g at c own found)

-- ---- a component that ends

pub all-alike : (legend : Legend) (g h : Going) → ShareOutline g h → AllAlike (going_by legend g) (going_by legend h)
all-alike legend g h share = record {
  connections = ap (λ (links : Links). map (connection_by legend) links.connections) share.links;
  mappings = ap (λ (links : Links). map (mapping_by legend) links.mappings) share.links;
  delivered = ap (λ (links : Links). entries_by legend links.delivered) share.links;
  forgotten = share.forgotten;
}

-- a component that is said to be at a place is the saying of one
pub some-said : (legend : Legend) (cs : List Component) (at : ℕ) (z : rules.Component) → slice_get (map (component_by legend) cs) at ≡ Some z → (c : Component) × (slice_get cs at ≡ Some c) × (component_by legend c ≡ z)
some-said legend [] at z found = absurd (let no = found in cc)
some-said legend (c ∷ cs) zero z found = (c, refl, some-is found)
some-said legend (c ∷ cs) (suc at) z found = some-said legend cs at z found

state-one : (s t : State) → state_by s ≡ state_by t → s ≡ t
state-one state.Created state.Created same = refl
state-one state.Created state.Running same = absurd (let no = same in cc)
state-one state.Created state.Terminated same = absurd (let no = same in cc)
state-one state.Running state.Created same = absurd (let no = same in cc)
state-one state.Running state.Running same = refl
state-one state.Running state.Terminated same = absurd (let no = same in cc)
state-one state.Terminated state.Created same = absurd (let no = same in cc)
state-one state.Terminated state.Running same = absurd (let no = same in cc)
state-one state.Terminated state.Terminated same = refl

name-one : (m n : ComponentId × State) → named m ≡ named n → m ≡ n
name-one m n same =
    let itself : m.0 ≡ n.0 = ap (λ (o : ComponentId × rules.State). o.0) same in
    let state : m.1 ≡ n.1 = state-one m.1 n.1 (ap (λ (o : ComponentId × rules.State). o.1) same) in
    λ i. (itself i, state i)

names-one : (ms ns : List (ComponentId × State)) → map named ms ≡ map named ns → ms ≡ ns
names-one [] [] same = refl
names-one [] (n ∷ ns) same = absurd (let no = same in cc)
names-one (m ∷ ms) [] same = absurd (let no = same in cc)
names-one (m ∷ ms) (n ∷ ns) same =
    let head : named m ≡ named n = (let both = same in cc) in
    let tail : map named ms ≡ map named ns = (let both = same in cc) in
    λ i. name-one m n head i ∷ names-one ms ns tail i

exchanged-map : {A B : Type 0} (f : A → B) (at : ℕ) (z : A) (xs : List A) → map f (exchanged_at at z xs) ≡ exchanged_at at (f z) (map f xs)
exchanged-map f at z [] = refl
exchanged-map f zero z (x ∷ xs) = refl
exchanged-map f (suc at) z (x ∷ xs) = ap (λ ys. f x ∷ ys) (exchanged-map f at z xs)

get-there : {A : Type 0} (xs : List A) (at : ℕ) (z d : A) → slice_get xs at ≡ Some z → get_or xs at d ≡ z
get-there [] at z d found = absurd (let no = found in cc)
get-there (x ∷ xs) zero z d found = some-is found
get-there (x ∷ xs) (suc at) z d found = get-there xs at z d found

changed-exchanged : (others : List Component) (at : ℕ) (z : Component) (from : ℕ) (cs : List Component) → slice_get others at ≡ Some z
    → kept.changed_at cs from (λ old. get_or others at old) ≡ exchanged_at from z cs
changed-exchanged others at z from [] there = refl
changed-exchanged others at z zero (c ∷ cs) there = ap (λ (y : Component). y ∷ cs) (get-there others at z c there)
changed-exchanged others at z (suc from) (c ∷ cs) there = ap (λ ys. c ∷ ys) (changed-exchanged others at z from cs there)

-- what a joined configuration stands for
pub joined-said : (legend : Legend) (g : Going) (at : ℕ) (other : Going) (z : Component) → slice_get other.components at ≡ Some z
    → going_by legend (joined_going g at other) ≡ joined_with at (component_by legend z) (going_by legend other) (going_by legend g)
joined-said legend g at other z there =
    ap (λ xs. record (going_by legend other) { components = xs })
    (ap (map (component_by legend)) (changed-exchanged other.components at z at g.components there) ∙ exchanged-map (component_by legend) at z g.components)

-- where all but one component is seen alike, it may be joined
pub are-joined : (legend : Legend) (going g : Going) (at : ℕ) (other : Going) (z : Component) → ShareOutline going g → slice_get other.components at ≡ Some z
    → (going_by legend other).components ≡ exchanged_at at (component_by legend z) (going_by legend going).components → AreJoined g at other
are-joined legend going g at other z share there same =
    ap (map name_of) (changed-exchanged other.components at z at g.components there)
    ∙ exchanged-map name_of at z g.components
    ∙ ap (exchanged_at at (name_of z)) (sym share.names)
    ∙ names-one (exchanged_at at (name_of z) (map name_of going.components)) (map name_of other.components)
    (exchanged-map named at (name_of z) (map name_of going.components)
    ∙ ap (exchanged_at at (named (name_of z))) (sym (outside-by legend going.components))
    ∙ sym (exchanged-map outside_of at (component_by legend z) (map (component_by legend) going.components))
    ∙ ap (map outside_of) (sym same)
    ∙ outside-by legend other.components)
