-- Changes keep slots that have names.
use Rattle.std.proofs.Common.{◌≡◌, ℕ, ◌+◌, ◌<◌, length, refl, IfOk, Bool, true, false, ◌&&◌, not, nat_eq, List, [], ◌∷◌, Option, None, Some, Result, Ok, Err, cond, is_some, sym, ap, subst, ◌∙◌, if◌then◌else◌}
use Rattle.std.specs.List.{All, find}
use Rattle.std.specs.Option.{option_map}
use Rattle.std.specs.Ordering.{match_ordering, nat_cmp}
use Rattle.std.specs.declared.cmp.Ordering.{Ordering}
use Rattle.std.specs.declared.cmp.Ordering.TheVariants.{Less, Equal, Greater}
use Rattle.std.proofs.lemmas.List.Elements.{All-cons, All-filter, All-head, All-nil, All-tail}
use Rattle.ttcn_syntax.specs.declared.tree.statement.Verdict.{Verdict}
use Rattle.config_parts.specs.Views.{AreAllWithin, AreWithin, Extent, HasSlotsWithin, IsActWithin, IsConfigWithin, IsFrameWithin, IsGoingWithin, IsRequestWithin, IsWithin}
use Rattle.config_parts.specs.internal.Changes as kept
use Rattle.config_parts.specs.internal.Done as done
use Rattle.config_parts.specs.internal.Ends as ends
use Rattle.config_parts.specs.internal.Mappings as mapped
use Rattle.config_parts.specs.internal.Expiries.{expired_above, expired_at, expired_found, expired_of, may_expire, with_expired}
use Rattle.config_parts.specs.internal.Stored.{cells_in, changed_in, declare, declare_timer, forget, in_last, last_cells, no_cells, put, with_cells, with_cells_in, with_members, with_position, with_timer, with_value, without}
use Rattle.config_parts.specs.declared.act.Act.{Act}
use Rattle.config_parts.specs.declared.act.Request.{Request}
use Rattle.config_parts.specs.declared.act.Request.TheVariants as request
use Rattle.config_parts.specs.declared.component.Component.{Component}
use Rattle.config_parts.specs.declared.component.Message.{Message}
use Rattle.config_parts.specs.declared.config.Config.{Config}
use Rattle.config_parts.specs.declared.config.Config.TheVariants as config
use Rattle.config_parts.specs.declared.config.Going.{Going}
use Rattle.config_parts.specs.declared.connection.End.{End}
use Rattle.config_parts.specs.declared.connection.Links.{Links}
use Rattle.config_parts.specs.declared.frame.Cells.{Cells}
use Rattle.config_parts.specs.declared.frame.Data.{Data}
use Rattle.config_parts.specs.declared.frame.Frame.{Frame}
use Rattle.value_types.specs.declared.fault.Fault.{Fault}
use Rattle.value_types.specs.declared.frame.TimerState.{TimerState}
use Rattle.value_types.specs.declared.frame.TimerState.TheVariants as timer
use Rattle.value_types.specs.declared.path.Path.{Path}
use Rattle.value_types.specs.declared.value.ComponentId.{ComponentId}
use Rattle.value_types.specs.declared.value.Value.{Value}

-- ---- entries

abbrev Slot : {A : Type 0} → ℕ → ℕ × A → Type 0
Slot size e = e.0 < size

put-first : {A : Type 0} (size : ℕ) (o : Ordering) (slot : ℕ) (a : A) (e : ℕ × A) (es said : List (ℕ × A)) → slot < size → AreWithin size (e ∷ es) → AreWithin size said
    → AreWithin size (match_ordering o ((slot, a) ∷ e ∷ es) ((slot, a) ∷ es) (e ∷ said))
put-first size Less slot a e es said one all rest = All-cons (Slot size) (slot, a) (e ∷ es) one all
put-first size Equal slot a e es said one all rest = All-cons (Slot size) (slot, a) es one (All-tail (Slot size) e es all)
put-first size Greater slot a e es said one all rest = All-cons (Slot size) e said (All-head (Slot size) e es all) rest

put-within : {A : Type 0} (size slot : ℕ) (a : A) (es : List (ℕ × A)) → slot < size → AreWithin size es → AreWithin size (put slot a es)
put-within size slot a [] one all = All-cons (Slot size) (slot, a) [] one all
put-within size slot a (e ∷ es) one all =
    put-first size (nat_cmp slot e.0) slot a e es (put slot a es) one all (put-within size slot a es one (All-tail (Slot size) e es all))

without-first : {A : Type 0} (size : ℕ) (b : Bool) (e : ℕ × A) (es said : List (ℕ × A)) → AreWithin size (e ∷ es) → AreWithin size said → AreWithin size (cond b (e ∷ said) said)
without-first size true e es said all rest = All-cons (Slot size) e said (All-head (Slot size) e es all) rest
without-first size false e es said all rest = rest

without-within : {A : Type 0} (size slot : ℕ) (es : List (ℕ × A)) → AreWithin size es → AreWithin size (without slot es)
without-within size slot [] all = all
without-within size slot (e ∷ es) all =
    without-first size (not (nat_eq e.0 slot)) e es (without slot es) all (without-within size slot es (All-tail (Slot size) e es all))

-- ---- the names of a frame

-- a change of names keeps slots that have names
abbrev pub Keeps : ℕ → (Cells → Cells) → Type 0
Keeps size f = (cells : Cells) → HasSlotsWithin size cells → HasSlotsWithin size (f cells)

pub value-keeps : (size slot : ℕ) (v : Value) → slot < size → Keeps size (with_value slot v)
value-keeps size slot v one cells all = record { values = put-within size slot v cells.values one all.values; timers = all.timers }

pub timer-keeps : (size slot : ℕ) (state : TimerState) → slot < size → Keeps size (with_timer slot state)
timer-keeps size slot state one cells all = record { values = all.values; timers = put-within size slot state cells.timers one all.timers }

pub forget-keeps : (size slot : ℕ) → Keeps size (forget slot)
forget-keeps size slot cells all = record { values = without-within size slot cells.values all.values; timers = without-within size slot cells.timers all.timers }

pub declare-keeps : (size slot : ℕ) (v : Value) → slot < size → Keeps size (declare slot v)
declare-keeps size slot v one cells all = record { values = put-within size slot v cells.values one all.values; timers = without-within size slot cells.timers all.timers }

pub timer-declared-keeps : (size slot : ℕ) → slot < size → Keeps size (declare_timer slot)
timer-declared-keeps size slot one cells all =
    record { values = without-within size slot cells.values all.values; timers = put-within size slot timer.Inactive cells.timers one all.timers }

-- ---- data

none-within : (size : ℕ) → HasSlotsWithin size no_cells
none-within size = record { values = All-nil (Slot size); timers = All-nil (Slot size) }

last-within : (size : Extent) (calls : List Frame) → All (IsFrameWithin size) calls → HasSlotsWithin size.names (last_cells calls)
last-within size [] all = none-within size.names
last-within size (frame ∷ frames) all = (All-head (IsFrameWithin size) frame frames all).cells

in-last-within : (size : Extent) (change : Frame → Frame) (calls : List Frame) → All (IsFrameWithin size) calls → ((frame : Frame) → IsFrameWithin size frame → IsFrameWithin size (change frame))
    → All (IsFrameWithin size) (in_last change calls)
in-last-within size change [] all keeps = all
in-last-within size change (frame ∷ frames) all keeps =
    All-cons (IsFrameWithin size) (change frame) frames (keeps frame (All-head (IsFrameWithin size) frame frames all)) (All-tail (IsFrameWithin size) frame frames all)

pub changed-within : (size : Extent) (f : Cells → Cells) → Keeps size.names f → (last : Bool) (own : Data) → IsWithin size own → IsWithin size (changed_in last f own)
changed-within size f keeps true own all = record {
  members = all.members;
  calls = in-last-within size (with_cells (f (last_cells own.calls))) own.calls all.calls (λ frame within. record { remaining = within.remaining; cells = keeps (last_cells own.calls) (last-within size own.calls all.calls) });
}
changed-within size f keeps false own all = record { members = keeps own.members all.members; calls = all.calls }

-- names that are taken out, changed and put back
pub stored-within : (size : Extent) (f : Cells → Cells) → Keeps size.names f → (last : Bool) (own bare new : Data) (taken cells : Cells)
    → taken ≡ cells_in last own → ((c : Cells) → with_cells_in last c bare ≡ with_cells_in last c own) → cells ≡ f taken → new ≡ with_cells_in last cells bare → IsWithin size own → IsWithin size new
stored-within size f keeps last own bare new taken cells took left changed is all =
    subst (IsWithin size)
    (sym (is ∙ left cells ∙ ap (λ c. with_cells_in last c own) (changed ∙ ap f took)))
    (changed-within size f keeps last own all)

pub position-within : (size : Extent) (at : ℕ) (calls : List Frame) → at < size.lists → All (IsFrameWithin size) calls → All (IsFrameWithin size) (in_last (with_position at) calls)
position-within size at calls there all = in-last-within size (with_position at) calls all (λ frame within. record { remaining = there; cells = within.cells })

-- ---- timers that expire

above-first : (size : Extent) (n slot : ℕ) (b : Bool) (frame : Frame) (frames : List Frame) → slot < size.names → All (IsFrameWithin size) (frame ∷ frames) → All (IsFrameWithin size) (expired_above n slot frames)
    → All (IsFrameWithin size) (if b then with_expired slot frame ∷ frames else frame ∷ expired_above n slot frames)
above-first size n slot true frame frames one all rest =
    All-cons (IsFrameWithin size) (with_expired slot frame) frames
    (let head = All-head (IsFrameWithin size) frame frames all in record { remaining = head.remaining; cells = timer-keeps size.names slot timer.Expired one frame.cells head.cells }) (All-tail (IsFrameWithin size) frame frames all)
above-first size n slot false frame frames one all rest = All-cons (IsFrameWithin size) frame (expired_above n slot frames) (All-head (IsFrameWithin size) frame frames all) rest

above-within : (size : Extent) (n slot : ℕ) (frames : List Frame) → slot < size.names → All (IsFrameWithin size) frames → All (IsFrameWithin size) (expired_above n slot frames)
above-within size n slot [] one all = all
above-within size n slot (frame ∷ frames) one all =
    above-first size n slot (nat_eq n (length frames + 1)) frame frames one all (above-within size n slot frames one (All-tail (IsFrameWithin size) frame frames all))

own-first : (size : Extent) (n slot : ℕ) (b : Bool) (own : Data) → slot < size.names → IsWithin size own
    → IsWithin size (if b then with_members (with_timer slot timer.Expired own.members) own else kept.with_calls (expired_above n slot own.calls) own)
own-first size n slot true own one all = record { members = timer-keeps size.names slot timer.Expired one own.members all.members; calls = all.calls }
own-first size n slot false own one all = record { members = all.members; calls = above-within size n slot own.calls one all.calls }

expired-within : (size : Extent) (n slot : ℕ) (own : Data) → slot < size.names → IsWithin size own → IsWithin size (expired_of n slot own)
expired-within size n slot own one all = own-first size n slot (nat_eq n 0) own one all

-- ---- components

abbrev ComponentWithin : Extent → Component → Type 0
ComponentWithin size c = IsWithin size c.own

-- a change of a component keeps slots that have names
abbrev Preserves : Extent → (Component → Component) → Type 0
Preserves size f = (c : Component) → ComponentWithin size c → ComponentWithin size (f c)

unless-first : (size : Extent) (f : Component → Component) → Preserves size f → (b : Bool) (c : Component) → ComponentWithin size c → ComponentWithin size (if b then c else f c)
unless-first size f keeps true c all = all
unless-first size f keeps false c all = keeps c all

touch-first : (size : Extent) (f : Component → Component) → Preserves size f → (p : Path) (b : Bool) (c : Component) (cs : List Component) → AreAllWithin size (c ∷ cs)
    → AreAllWithin size (kept.change_first (kept.is_of p) f cs) → AreAllWithin size (if b then f c ∷ cs else c ∷ kept.change_first (kept.is_of p) f cs)
touch-first size f keeps p true c cs all rest =
    All-cons (ComponentWithin size) (f c) cs (keeps c (All-head (ComponentWithin size) c cs all)) (All-tail (ComponentWithin size) c cs all)
touch-first size f keeps p false c cs all rest = All-cons (ComponentWithin size) c (kept.change_first (kept.is_of p) f cs) (All-head (ComponentWithin size) c cs all) rest

change-within : (size : Extent) (f : Component → Component) → Preserves size f → (p : Path) (cs : List Component) → AreAllWithin size cs → AreAllWithin size (kept.change_first (kept.is_of p) f cs)
change-within size f keeps p [] all = all
change-within size f keeps p (c ∷ cs) all =
    touch-first size f keeps p (kept.is_of p c) c cs all (change-within size f keeps p cs (All-tail (ComponentWithin size) c cs all))

touch-within : (size : Extent) (f : Component → Component) → Preserves size f → (p : Path) (cs : List Component) → AreAllWithin size cs → AreAllWithin size (kept.touch cs p f)
touch-within size f keeps p cs all =
    change-within size (kept.unless_terminated f) (λ c within. unless-first size f keeps (kept.is_terminated c.state) c within) p cs all

-- what is found is among the components
found-first : (size : Extent) (b : Bool) (c : Component) (o : Option Component) (d : Component) → ComponentWithin size c → cond b (Some c) o ≡ Some d → (o ≡ Some d → ComponentWithin size d) → ComponentWithin size d
found-first size true c o d within e below = subst (ComponentWithin size) (let same : c ≡ d = (let found = e in cc) in same) within
found-first size false c o d within e below = below e

found-within : (size : Extent) (p : Path) (cs : List Component) (d : Component) → AreAllWithin size cs → find (kept.is_of p) cs ≡ Some d → ComponentWithin size d
found-within size p [] d all e = absurd (let bad = e in cc)
found-within size p (c ∷ cs) d all e =
    found-first size (kept.is_of p c) c (find (kept.is_of p) cs) d (All-head (ComponentWithin size) c cs all) e (found-within size p cs d (All-tail (ComponentWithin size) c cs all))

expiring-within : (size : Extent) (n slot : ℕ) (p : Path) (cs left : List Component) (c : Component) (b : Bool) → slot < size.names → AreAllWithin size cs → ComponentWithin size c
    → (if b then Some (kept.touch cs p (kept.with_own (expired_of n slot c.own))) else None) ≡ Some left → AreAllWithin size left
expiring-within size n slot p cs left c true one all within e =
    subst (AreAllWithin size) (let same : kept.touch cs p (kept.with_own (expired_of n slot c.own)) ≡ left = (let found = e in cc) in same)
    (touch-within size (kept.with_own (expired_of n slot c.own)) (λ x before. expired-within size n slot c.own one within) p cs all)
expiring-within size n slot p cs left c false one all within e = absurd (let bad = e in cc)

found-expiring : (size : Extent) (n slot : ℕ) (p : Path) (cs left : List Component) (o : Option Component) → find (kept.is_of p) cs ≡ o → slot < size.names → AreAllWithin size cs
    → expired_found cs p n slot o ≡ Some left → AreAllWithin size left
found-expiring size n slot p cs left None is one all e = absurd (let bad = e in cc)
found-expiring size n slot p cs left (Some c) is one all e =
    expiring-within size n slot p cs left c (may_expire n slot c) one all (found-within size p cs c all is) e

pub expire-within : (size : Extent) (n slot : ℕ) (p : Path) (cs left : List Component) → slot < size.names → AreAllWithin size cs → expired_at cs p n slot ≡ Some left → AreAllWithin size left
expire-within size n slot p cs left one all e = found-expiring size n slot p cs left (find (kept.is_of p) cs) refl one all e

-- ---- what components ask for

-- in all frames of a configuration what remains has a position, and each slot a name
abbrev AreComponentsWithin : Extent → Config → Type 0
AreComponentsWithin size (config.Ended v) = Unit {0}
AreComponentsWithin size (config.Going going) = AreAllWithin size going.components

abbrev IfConfig : Extent → Option Config → Type 0
IfConfig size None = Unit {0}
IfConfig size (Some c) = AreComponentsWithin size c

settled-within : (size : Extent) (going : Going) (p : Path) (own : Data) → AreAllWithin size going.components → IsWithin size own → AreAllWithin size (done.settled going p own)
settled-within size going p own all within = touch-within size (kept.with_own own) (λ c before. within) p going.components all

sent-within : (size : Extent) (going : Going) (cs : List Component) (o : Option End) (m : Message) → AreAllWithin size cs
    → IfConfig size (option_map (λ components. done.going_with components going) (option_map (λ e. done.deliver cs e m) o))
sent-within size going cs None m all = tt
sent-within size going cs (Some e) m all = touch-within size (kept.with_queues (kept.with_message e.port m)) (λ c before. before) e.component cs all

out-within : (size : Extent) (going : Going) (cs : List Component) (to : Option Path) → AreAllWithin size cs → IfConfig size (option_map (λ components. done.going_with components going) (done.send_out cs to))
out-within size going cs None all = all
out-within size going cs (Some path) all = tt

send-first : (size : Extent) (going : Going) (cs : List Component) (b : Bool) (itself : ComponentId) (from : End) (to : Option Path) (v : Value) → AreAllWithin size cs
    → IfConfig size (option_map (λ components. done.going_with components going) (if b then done.send_out cs to else done.send_to_peer cs going.links.connections itself from to v))
send-first size going cs true itself from to v all = out-within size going cs to all
send-first size going cs false itself from to v all = sent-within size going cs (ends.peer going.links.connections from to) (record { value = v; sender = Some itself }) all

insert-first : (size : Extent) (b : Bool) (new c : Component) (cs said : List Component) → ComponentWithin size new → AreAllWithin size (c ∷ cs) → AreAllWithin size said
    → AreAllWithin size (if b then new ∷ c ∷ cs else c ∷ said)
insert-first size true new c cs said one all rest = All-cons (ComponentWithin size) new (c ∷ cs) one all
insert-first size false new c cs said one all rest = All-cons (ComponentWithin size) c said (All-head (ComponentWithin size) c cs all) rest

insert-within : (size : Extent) (new : Component) (cs : List Component) → ComponentWithin size new → AreAllWithin size cs → AreAllWithin size (done.insert new cs)
insert-within size new [] one all = All-cons (ComponentWithin size) new [] one all
insert-within size new (c ∷ cs) one all =
    insert-first size (done.is_before new c) new c cs (done.insert new cs) one all (insert-within size new cs one (All-tail (ComponentWithin size) c cs all))

create-first : (size : Extent) (b : Bool) (new : Component) (cs : List Component) → ComponentWithin size new → AreAllWithin size cs → AreAllWithin size (if b then cs else done.insert new cs)
create-first size true new cs one all = all
create-first size false new cs one all = insert-within size new cs one all

begun-keeps : (size : Extent) (frame : Frame) → IsFrameWithin size frame → Preserves size (kept.begun frame)
begun-keeps size frame one c all = record { members = all.members; calls = All-cons (IsFrameWithin size) frame [] one (All-nil (IsFrameWithin size)) }

start-first : (size : Extent) (going : Going) (cs : List Component) (p : Path) (frame : Frame) (b : Bool) → IsFrameWithin size frame → AreAllWithin size cs
    → IfConfig size (option_map (λ components. done.going_with components going) (if b then Some (kept.touch cs p (kept.begun frame)) else None))
start-first size going cs p frame true one all = touch-within size (kept.begun frame) (begun-keeps size frame one) p cs all
start-first size going cs p frame false one all = tt

start-within : (size : Extent) (going : Going) (cs : List Component) (p : Path) (frame : Frame) (o : Option Component) → IsFrameWithin size frame → AreAllWithin size cs
    → IfConfig size (option_map (λ components. done.going_with components going) (done.start_found cs p frame o))
start-within size going cs p frame None one all = tt
start-within size going cs p frame (Some c) one all = start-first size going cs p frame (done.is_created c.state) one all

stop-within : (size : Extent) (going : Going) (cs : List Component) (p : Path) (b : Bool) → AreAllWithin size cs
    → AreComponentsWithin size (if b then config.Ended (done.overall going.forgotten cs) else done.going_on (kept.touch cs p (kept.with_state kept.terminated)) (mapped.without_component p going.links) going.forgotten)
stop-within size going cs p true all = tt
stop-within size going cs p false all = touch-within size (kept.with_state kept.terminated) (λ c before. before) p cs all

linked-within : (size : Extent) (going : Going) (cs : List Component) (b : Bool) (links : Links) → AreAllWithin size cs
    → IfConfig size (option_map (done.going_linked cs going.forgotten) (if b then None else Some links))
linked-within size going cs true links all = tt
linked-within size going cs false links all = all

perform-within : (size : Extent) (going : Going) (cs : List Component) (itself : ComponentId) (asked : Request) → AreAllWithin size cs → IsRequestWithin size asked
    → IfConfig size (done.perform cs going.links going.forgotten itself asked)
perform-within size going cs itself request.Continues all within = all
perform-within size going cs itself (request.Worsens v) all within = touch-within size (kept.with_verdict v) (λ c before. before) itself.path cs all
perform-within size going cs itself (request.Removes port) all within = touch-within size (kept.with_queues (kept.without_message port)) (λ c before. before) itself.path cs all
perform-within size going cs itself (request.Sends port to v) all within =
    let from : End = record { component = itself.path; port = port } in
    send-first size going cs (mapped.is_mapped going.links.mappings from) itself from to v all
perform-within size going cs itself (request.Creates new) all within = create-first size (is_some (find (kept.is_of new.itself.path) cs)) new cs within all
perform-within size going cs itself (request.Starts path frame) all within = start-within size going cs path frame (find (kept.is_of path) cs) within all
perform-within size going cs itself (request.Stops path) all within = stop-within size going cs path (done.is_main path) all
perform-within size going cs itself (request.Connects d e) all within =
    linked-within size going cs (done.is_kept_apart cs going.links d e) (done.with_connection d e going.links) all
perform-within size going cs itself (request.Maps e system_port) all within =
    linked-within size going cs (done.is_kept_unmapped cs going.links e system_port) (mapped.with_mapping e system_port going.links) all
perform-within size going cs itself (request.Unmaps e system_port) all within = all

apply-within : (size : Extent) (going : Going) (itself : ComponentId) (asked : Act) → AreAllWithin size going.components → IsActWithin size asked → IfConfig size (done.apply going itself asked)
apply-within size going itself asked all within =
    perform-within size going (done.settled going itself.path asked.own) itself asked.request (settled-within size going itself.path asked.own all within.1) within.0

-- ---- the system ports that are mapped

-- each system port that is mapped in a configuration has a name
abbrev AreMappedWithin : Extent → Config → Type 0
AreMappedWithin size (config.Ended v) = Unit {0}
AreMappedWithin size (config.Going going) = AreWithin size.names going.links.mappings

abbrev IfMapped : Extent → Option Config → Type 0
IfMapped size None = Unit {0}
IfMapped size (Some c) = AreMappedWithin size c

kept-mapped : (size : Extent) (links : Links) (forgotten : Verdict) (o : Option (List Component)) → AreWithin size.names links.mappings
    → IfMapped size (option_map (λ components. done.going_on components links forgotten) o)
kept-mapped size links forgotten None all = tt
kept-mapped size links forgotten (Some components) all = all

stop-mapped : (size : Extent) (cs left : List Component) (links : Links) (forgotten v : Verdict) (p : Path) (b : Bool) → AreWithin size.names links.mappings
    → AreMappedWithin size (if b then config.Ended v else done.going_on left (mapped.without_component p links) forgotten)
stop-mapped size cs left links forgotten v p true all = tt
stop-mapped size cs left links forgotten v p false all = All-filter (λ m. not (mapped.is_of p m)) (Slot size.names) links.mappings all

linked-mapped : (size : Extent) (cs : List Component) (forgotten : Verdict) (b : Bool) (links : Links) → AreWithin size.names links.mappings
    → IfMapped size (option_map (done.going_linked cs forgotten) (if b then None else Some links))
linked-mapped size cs forgotten true links all = tt
linked-mapped size cs forgotten false links all = all

perform-mapped : (size : Extent) (cs : List Component) (links : Links) (forgotten : Verdict) (itself : ComponentId) (asked : Request) → AreWithin size.names links.mappings → IsRequestWithin size asked
    → IfMapped size (done.perform cs links forgotten itself asked)
perform-mapped size cs links forgotten itself request.Continues all within = all
perform-mapped size cs links forgotten itself (request.Worsens v) all within = all
perform-mapped size cs links forgotten itself (request.Removes port) all within = all
perform-mapped size cs links forgotten itself (request.Sends port to v) all within = kept-mapped size links forgotten (done.send cs links itself port to v) all
perform-mapped size cs links forgotten itself (request.Creates new) all within = all
perform-mapped size cs links forgotten itself (request.Starts path frame) all within = kept-mapped size links forgotten (done.start cs path frame) all
perform-mapped size cs links forgotten itself (request.Stops path) all within =
    stop-mapped size cs (kept.touch cs path (kept.with_state kept.terminated)) links forgotten (done.overall forgotten cs) path (done.is_main path) all
perform-mapped size cs links forgotten itself (request.Connects d e) all within = linked-mapped size cs forgotten (done.is_kept_apart cs links d e) (done.with_connection d e links) all
perform-mapped size cs links forgotten itself (request.Maps e system_port) all within =
    linked-mapped size cs forgotten (done.is_kept_unmapped cs links e system_port) (mapped.with_mapping e system_port links) (put-within size.names system_port e links.mappings within all)
perform-mapped size cs links forgotten itself (request.Unmaps e system_port) all within =
    All-filter (λ m. not (ends.same_end e m.1 && nat_eq m.0 system_port)) (Slot size.names) links.mappings all

-- ---- both

abbrev IfWithin : Extent → Option Config → Type 0
IfWithin size None = Unit {0}
IfWithin size (Some c) = IsConfigWithin size c

both-within : (size : Extent) (o : Option Config) → IfConfig size o → IfMapped size o → IfWithin size o
both-within size None components mappings = tt
both-within size (Some (config.Ended v)) components mappings = tt
both-within size (Some (config.Going going)) components mappings = record { components = components; mappings = mappings }

answered-within : (size : Extent) (wanted : Option Config) (result : Result Config Fault) → IfWithin size wanted → done.Answers wanted result → IfOk result (IsConfigWithin size)
answered-within size wanted (Ok c) within answers = subst (IfWithin size) answers within
answered-within size wanted (Err why) within answers = tt

pub applied-within : (size : Extent) (going : Going) (itself : ComponentId) (asked : Act) (result : Result Config Fault) → IsGoingWithin size going → IsActWithin size asked
    → done.Answers (done.apply going itself asked) result → IfOk result (IsConfigWithin size)
applied-within size going itself asked result all within answers =
    answered-within size (done.apply going itself asked) result
    (both-within size (done.apply going itself asked) (apply-within size going itself asked all.components within)
    (perform-mapped size (done.settled going itself.path asked.own) going.links going.forgotten itself asked.request all.mappings within.0)) answers

-- ---- messages that come in

pub delivered-within : (size : Extent) (e : End) (m : Message) (cs : List Component) → AreAllWithin size cs → AreAllWithin size (done.deliver cs e m)
delivered-within size e m cs all = touch-within size (kept.with_queues (kept.with_message e.port m)) (λ c before. before) e.component cs all
