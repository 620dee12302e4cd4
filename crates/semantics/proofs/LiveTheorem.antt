-- Each step from a live part has the live part of the step from the whole.
use Rattle.std.proofs.Common.{◌≡◌, ℕ, Bool, true, false, ◌&&◌, ◌||◌, not, List, [], ◌∷◌, ◌++◌, map, Option, Some, None, is_some, option_map, refl, sym, ap, subst, ◌∙◌, if◌then◌else◌, bytes_eq}
use Rattle.std.specs.List.{filter, find, flat_map, fold, list_any}
use Rattle.std.specs.Option.{option_and_then}
use Rattle.ttcn_syntax.specs.declared.tree.statement.Verdict.{Verdict}
use Rattle.ttcn_syntax.specs.declared.tree.statement.Verdict.TheVariants as verdict
use Rattle.semantics.proofs.LiveSteps.{alike, by-state, component-live, contribution, contribution-alive, contribution-over, fold-total, found-over, is_over, keeps-behind, keeps-come-in, keeps_connection, keeps-mappings, keeps_new, keeps-terminated, keeps_touch, live-alive, live-over, live-over-in, live-path, live-twice, map-same, map-twice, over_in, path-is, pick, total}
use Rattle.semantics.proofs.Verdicts.{none-worse, worse-associates, worse-none, worse-pairs}
use Rattle.semantics.specs.Configurations.{Component, Configuration, Connection, Created, Data, End, Ended, Frame, Goes, Going, Message, Running, State, Terminated, component_at, is_running_state, is_terminated_state, overall, path_of, same_end, same_path, worse}
use Rattle.semantics.specs.Entries.{Identifier, put}
use Rattle.semantics.specs.Labels.{deliveries, expiries, labels, labels_of_component, statement_labels}
use Rattle.semantics.specs.LiveParts.{forget_verdict, is_live, live_component, live_going, live_part}
use Rattle.semantics.specs.Places.{blocked, branch_in, branch_of, branch_of_component, if_none, place_in_frames, place_of, place_of_frames, standings, unless_fault, with_place}
use Rattle.semantics.specs.Runs.{mark_of}
use Rattle.semantics.specs.Snapshots.{Test, mtc_of, snapshot_of}
use Rattle.semantics.specs.Statements.{Act, Connects, Continues, Creates, Errs, Maps, Removes, Request, Requests, Sends, Starts, Stops, Unmaps, Waits, Worsens, act}
use Rattle.semantics.specs.Steps.{Delivery, Expiry, Label, Statement, addressed, apply, at_queue, begin, come_in, connect, connection, deliver, ending, exchanged, expired, expiry_step, if_running, is_connected, is_double, is_kept_apart, is_kept_unmapped, is_mapped, is_terminated_at, is_terminated_component, map_port, maps_otherwise, next, next_message, opposite, peers, perform, put_behind, send, send_out, send_to_peer, settle, settled, start_component, start_created, start_in, statement_step, step, step_in, terminate, touch, unmap_port, with_connection, with_data, with_mappings, with_new, with_verdict, without_first}
use Rattle.semantics.specs.Telling.{Lost, Reaches, Sent, Way, lone, mapped_to, only_peer, request_in, sent_by, sent_going, sent_of, sent_of_component, way_mapped, way_to}
use Rattle.value_types.specs.Frames.{entry}
use Rattle.value_types.specs.Outcomes.{Fails, Outcome, Yields, dynamic_error, outcome_map}
use Rattle.value_types.specs.declared.path.Path.{Path}
use Rattle.value_types.specs.declared.value.ComponentId.{ComponentId}
use Rattle.value_types.specs.declared.value.Value.{Value}

-- ---- connections of components that aren't terminated

end-path : (d e : End) → same_end d e ≡ true → same_path d.component e.component ≡ true
end-path d e is = first-of (same_path d.component e.component) (bytes_eq d.port e.port) is
  where
    first-of : (a b : Bool) → (a && b) ≡ true → a ≡ true
    first-of true b e = refl
    first-of false b e = e

not-over : (c : Going) (d e : End) → is_terminated_at c d.component ≡ false → same_end d e ≡ true → is_terminated_at c e.component ≡ false
not-over c d e alive is = ap (is_terminated_at c) (sym (path-is d.component e.component (end-path d e is))) ∙ alive

one-alive : (a b : Bool) → a ≡ false → not (a && b) ≡ true
one-alive a b e = ap (λ x. not (x && b)) e

other-alive : (a b : Bool) → b ≡ false → not (a && b) ≡ true
other-alive true b e = ap not e
other-alive false b e = refl

opposite-first : (c : Going) (d : End) (k : Connection) → is_terminated_at c d.component ≡ false → is_live c k ≡ false → (a : Bool) → same_end d k.one ≡ a → (b : Bool) → same_end d k.other ≡ b
    → (if a then k.other ∷ [] else if b then k.one ∷ [] else []) ≡ []
opposite-first c d k alive dead true one b other = absurd (let no : true ≡ false = sym (one-alive (is_terminated_at c k.one.component) (is_terminated_at c k.other.component) (not-over c d k.one alive one)) ∙ dead in cc)
opposite-first c d k alive dead false one true other = absurd (let no : true ≡ false = sym (other-alive (is_terminated_at c k.one.component) (is_terminated_at c k.other.component) (not-over c d k.other alive other)) ∙ dead in cc)
opposite-first c d k alive dead false one false other = refl

peers-first : (c : Going) (d : End) (k : Connection) (ks : List Connection) → is_terminated_at c d.component ≡ false → (b : Bool) → is_live c k ≡ b
    → flat_map (opposite d) (filter (is_live c) ks) ≡ flat_map (opposite d) ks
    → flat_map (opposite d) (if b then k ∷ filter (is_live c) ks else filter (is_live c) ks) ≡ opposite d k ++ flat_map (opposite d) ks
peers-first c d k ks alive true is rest = ap (λ us. opposite d k ++ us) rest
peers-first c d k ks alive false is rest = rest ∙ sym (ap (λ us. us ++ flat_map (opposite d) ks) (opposite-first c d k alive is (same_end d k.one) refl (same_end d k.other) refl))

peers-kept : (c : Going) (d : End) → is_terminated_at c d.component ≡ false → (ks : List Connection) → flat_map (opposite d) (filter (is_live c) ks) ≡ flat_map (opposite d) ks
peers-kept c d alive [] = refl
peers-kept c d alive (k ∷ ks) = peers-first c d k ks alive (is_live c k) refl (peers-kept c d alive ks)

peers-live : (c : Going) (d : End) → is_terminated_at c d.component ≡ false → peers (live_going c) d ≡ peers c d
peers-live c d alive = peers-kept c d alive c.connections

over-live : (c : Going) (p : Path) → is_terminated_at (live_going c) p ≡ is_terminated_at c p
over-live c p = live-over-in p c.components

-- two configurations with one live part
abbrev Alike : Going → Going → Type 0
Alike c d = live_going c ≡ live_going d

alike-over : (c d : Going) → Alike c d → (p : Path) → is_terminated_at c p ≡ is_terminated_at d p
alike-over c d same p = sym (over-live c p) ∙ ap (λ x. is_terminated_at x p) same ∙ over-live d p

alike-peers : (c d : Going) → Alike c d → (e : End) → is_terminated_at c e.component ≡ false → peers c e ≡ peers d e
alike-peers c d same e alive = sym (peers-live c e alive) ∙ ap (λ x. peers x e) same ∙ peers-live d e (sym (alike-over c d same e.component) ∙ alive)

-- ---- connected ports of components that aren't terminated

abbrev touches : End → Connection → Bool
touches d k = same_end d k.one || same_end d k.other

touches-none : (c : Going) (d : End) (k : Connection) → is_terminated_at c d.component ≡ false → is_live c k ≡ false → (a b : Bool) → same_end d k.one ≡ a → same_end d k.other ≡ b → (a || b) ≡ false
touches-none c d k alive dead true b one other = absurd (let no : true ≡ false = sym (one-alive (is_terminated_at c k.one.component) (is_terminated_at c k.other.component) (not-over c d k.one alive one)) ∙ dead in cc)
touches-none c d k alive dead false true one other = absurd (let no : true ≡ false = sym (other-alive (is_terminated_at c k.one.component) (is_terminated_at c k.other.component) (not-over c d k.other alive other)) ∙ dead in cc)
touches-none c d k alive dead false false one other = refl

connected-first : (c : Going) (d : End) (k : Connection) (ks : List Connection) → is_terminated_at c d.component ≡ false → (b : Bool) → is_live c k ≡ b
    → list_any (touches d) (filter (is_live c) ks) ≡ list_any (touches d) ks
    → list_any (touches d) (if b then k ∷ filter (is_live c) ks else filter (is_live c) ks) ≡ (touches d k || list_any (touches d) ks)
connected-first c d k ks alive true is rest = ap (λ any. touches d k || any) rest
connected-first c d k ks alive false is rest =
    rest ∙ sym (ap (λ any. any || list_any (touches d) ks) (touches-none c d k alive is (same_end d k.one) (same_end d k.other) refl refl))

connected-kept : (c : Going) (d : End) → is_terminated_at c d.component ≡ false → (ks : List Connection) → list_any (touches d) (filter (is_live c) ks) ≡ list_any (touches d) ks
connected-kept c d alive [] = refl
connected-kept c d alive (k ∷ ks) = connected-first c d k ks alive (is_live c k) refl (connected-kept c d alive ks)

connected-live : (c : Going) (d : End) → is_terminated_at c d.component ≡ false → is_connected (live_going c) d ≡ is_connected c d
connected-live c d alive = connected-kept c d alive c.connections

alike-connected : (c d : Going) → Alike c d → (e : End) → is_terminated_at c e.component ≡ false → is_connected c e ≡ is_connected d e
alike-connected c d same e alive = sym (connected-live c e alive) ∙ ap (λ x. is_connected x e) same ∙ connected-live d e (sym (alike-over c d same e.component) ∙ alive)

-- ---- mappings

alike-mappings : (c d : Going) → Alike c d → c.mappings ≡ d.mappings
alike-mappings c d same = ap (λ x. x.mappings) same

alike-mapped : (c d : Going) → Alike c d → (e : End) → is_mapped c e ≡ is_mapped d e
alike-mapped c d same e = ap (list_any (λ m. same_end e m.1)) (alike-mappings c d same)

-- ---- what is asked for

abbrev live_outcome : Outcome Configuration → Outcome Configuration
live_outcome = outcome_map live_part

deliver-alike : (c d : Going) → Alike c d → (m : Message) (ends : List End) → live_outcome (ending (deliver c m ends)) ≡ live_outcome (ending (deliver d m ends))
deliver-alike c d same m [] = refl
deliver-alike c d same m (e ∷ []) = ap (λ x. Yields (Goes x)) (alike (put_behind m e) (keeps-behind m e) c d same)
deliver-alike c d same m (e ∷ f ∷ ends) = refl

send-out-alike : (c d : Going) → Alike c d → (to : Option Path) → live_outcome (ending (send_out c to)) ≡ live_outcome (ending (send_out d to))
send-out-alike c d same None = ap (λ x. Yields (Goes x)) same
send-out-alike c d same (Some path) = refl

send-to-peer-alike : (c d : Going) → Alike c d → (sender : ComponentId) → is_terminated_at c sender.path ≡ false → (port : List ℕ) (to : Option Path) (v : Value)
    → live_outcome (ending (send_to_peer c sender port to v)) ≡ live_outcome (ending (send_to_peer d sender port to v))
send-to-peer-alike c d same sender alive port to v =
    deliver-alike c d same (record { value = v; sender = Some sender }) (filter (addressed to) (peers c (record { component = sender.path; port = port })))
    ∙ ap (λ ends. live_outcome (ending (deliver d (record { value = v; sender = Some sender }) (filter (addressed to) ends)))) (alike-peers c d same (record { component = sender.path; port = port }) alive)

send-told : (b : Bool) (c d : Going) → Alike c d → (sender : ComponentId) → is_terminated_at c sender.path ≡ false → (port : List ℕ) (to : Option Path) (v : Value)
    → live_outcome (ending (if b then send_out c to else send_to_peer c sender port to v)) ≡ live_outcome (ending (if b then send_out d to else send_to_peer d sender port to v))
send-told true c d same sender alive port to v = send-out-alike c d same to
send-told false c d same sender alive port to v = send-to-peer-alike c d same sender alive port to v

send-alike : (c d : Going) → Alike c d → (sender : ComponentId) → is_terminated_at c sender.path ≡ false → (port : List ℕ) (to : Option Path) (v : Value)
    → live_outcome (ending (send c sender port to v)) ≡ live_outcome (ending (send d sender port to v))
send-alike c d same sender alive port to v =
    send-told (is_mapped c (record { component = sender.path; port = port })) c d same sender alive port to v
    ∙ ap (λ b. live_outcome (ending (if b then send_out d to else send_to_peer d sender port to v))) (alike-mapped c d same (record { component = sender.path; port = port }))

-- the state of a component
state-over : (s : State) → is_terminated_state s ≡ true → s ≡ Terminated
state-over Terminated e = refl
state-over Created e = absurd (let no = e in cc)
state-over Running e = absurd (let no = e in cc)

live-state : (x : Component) → (live_component x).state ≡ x.state
live-state x = by-state (λ y. (live_component y).state ≡ y.state) x (λ e. ap (λ y. y.state) (live-over x e) ∙ sym (state-over x.state e)) (λ e. ap (λ y. y.state) (live-alive x e))

states-live : (o : Option Component) → option_map (λ x. x.state) (option_map live_component o) ≡ option_map (λ x. x.state) o
states-live None = refl
states-live (Some x) = ap Some (live-state x)

abbrev state-at : Going → Path → Option State
state-at c p = option_map (λ x. x.state) (component_at c p)

state-live : (c : Going) (p : Path) → state-at (live_going c) p ≡ state-at c p
state-live c p = ap (option_map (λ x. x.state)) (component-live c p) ∙ states-live (component_at c p)

alike-state : (c d : Going) → Alike c d → (p : Path) → state-at c p ≡ state-at d p
alike-state c d same p = sym (state-live c p) ∙ ap (λ x. state-at x p) same ∙ state-live d p

abbrev start-by : Going → Path → Frame → Option State → Outcome Going
start-by c p frame None = start_created c p frame None
start-by c p frame (Some s) = start_in c p frame s

start-state : (c : Going) (p : Path) (frame : Frame) (o : Option Component) → start_created c p frame o ≡ start-by c p frame (option_map (λ x. x.state) o)
start-state c p frame None = refl
start-state c p frame (Some x) = refl

started-alike : (c d : Going) → Alike c d → (p : Path) (frame : Frame) (o : Option State) → live_outcome (ending (start-by c p frame o)) ≡ live_outcome (ending (start-by d p frame o))
started-alike c d same p frame None = refl
started-alike c d same p frame (Some Created) = ap (λ x. Yields (Goes x)) (alike (λ x. touch x p (begin frame)) (keeps_touch (begin frame) (λ x. refl) p) c d same)
started-alike c d same p frame (Some Running) = refl
started-alike c d same p frame (Some Terminated) = refl

start-alike : (c d : Going) → Alike c d → (p : Path) (frame : Frame) → live_outcome (ending (start_component c p frame)) ≡ live_outcome (ending (start_component d p frame))
start-alike c d same p frame =
    ap (λ o. live_outcome (ending o)) (start-state c p frame (component_at c p))
    ∙ started-alike c d same p frame (state-at c p)
    ∙ ap (λ o. live_outcome (ending (start-by d p frame o))) (alike-state c d same p)
    ∙ sym (ap (λ o. live_outcome (ending o)) (start-state d p frame (component_at d p)))

-- the worst verdict of all
verdicts : List Component → Verdict
verdicts [] = verdict.None
verdicts (x ∷ xs) = worse x.verdict (verdicts xs)

fold-verdicts : (v : Verdict) (xs : List Component) → fold (λ w x. worse w x.verdict) v xs ≡ worse v (verdicts xs)
unfolding verdicts
fold-verdicts v [] = sym (worse-none v)
fold-verdicts v (x ∷ xs) = fold-verdicts (worse v x.verdict) xs ∙ worse-associates v x.verdict (verdicts xs)

verdict-live : (x : Component) → worse (contribution x) (live_component x).verdict ≡ x.verdict
verdict-live x = by-state (λ y. worse (contribution y) (live_component y).verdict ≡ y.verdict) x
    (λ e. ap (λ y. worse (contribution x) y.verdict) (live-over x e) ∙ worse-none (contribution x) ∙ contribution-over x e)
    (λ e. ap (λ v. worse v (live_component x).verdict) (contribution-alive x e) ∙ none-worse (live_component x).verdict ∙ ap (λ y. y.verdict) (live-alive x e))

verdicts-live : (xs : List Component) → worse (total xs) (verdicts (map live_component xs)) ≡ verdicts xs
unfolding verdicts total
verdicts-live [] = refl
verdicts-live (x ∷ xs) =
    worse-pairs (contribution x) (total xs) (live_component x).verdict (verdicts (map live_component xs))
    ∙ ap (λ v. worse v (worse (total xs) (verdicts (map live_component xs)))) (verdict-live x) ∙ ap (worse x.verdict) (verdicts-live xs)

pub overall-live : (c : Going) → overall (live_going c) ≡ overall c
overall-live c =
    fold-verdicts (fold forget_verdict c.forgotten c.components) (map live_component c.components)
    ∙ ap (λ v. worse v (verdicts (map live_component c.components))) (fold-total c.forgotten c.components)
    ∙ worse-associates c.forgotten (total c.components) (verdicts (map live_component c.components))
    ∙ ap (worse c.forgotten) (verdicts-live c.components)
    ∙ sym (fold-verdicts c.forgotten c.components)

stop-told : (b : Bool) (c d : Going) → Alike c d → (p : Path) → live_part (if b then Ended (overall c) else Goes (terminate p c)) ≡ live_part (if b then Ended (overall d) else Goes (terminate p d))
stop-told true c d same p = ap Ended (sym (overall-live c) ∙ ap overall same ∙ overall-live d)
stop-told false c d same p = ap Goes (alike (terminate p) (keeps-terminated p) c d same)

-- ---- connecting

double-alike : (c d : Going) → Alike c d → (e f : End) → is_terminated_at c e.component ≡ false → is_double c e f ≡ is_double d e f
double-alike c d same e f alive = ap (list_any (λ peer. same_path peer.component f.component && not (bytes_eq peer.port f.port))) (alike-peers c d same e alive)

refused-told : (c d : Going) → Alike c d → (e f : End) → (a b : Bool) → is_terminated_at c e.component ≡ a → is_terminated_at c f.component ≡ b
    → (a || b || is_mapped c e || is_mapped c f || is_double c e f || is_double c f e) ≡ (a || b || is_mapped d e || is_mapped d f || is_double d e f || is_double d f e)
refused-told c d same e f true b i j = refl
refused-told c d same e f false true i j = refl
refused-told c d same e f false false i j =
    ap (λ x. x || is_mapped c f || is_double c e f || is_double c f e) (alike-mapped c d same e)
    ∙ ap (λ x. is_mapped d e || x || is_double c e f || is_double c f e) (alike-mapped c d same f)
    ∙ ap (λ x. is_mapped d e || is_mapped d f || x || is_double c f e) (double-alike c d same e f i)
    ∙ ap (λ x. is_mapped d e || is_mapped d f || is_double d e f || x) (double-alike c d same f e j)

connect-told : (b : Bool) (c d : Going) → Alike c d → (k : Connection) → live_outcome (ending (if b then dynamic_error else Yields (with_connection k c))) ≡ live_outcome (ending (if b then dynamic_error else Yields (with_connection k d)))
connect-told true c d same k = refl
connect-told false c d same k = ap (λ x. Yields (Goes x)) (alike (with_connection k) (keeps_connection k) c d same)

connect-alike : (c d : Going) → Alike c d → (e f : End) → live_outcome (ending (connect c e f)) ≡ live_outcome (ending (connect d e f))
connect-alike c d same e f =
    connect-told (is_kept_apart c e f) c d same (connection e f)
    ∙ ap (λ b. live_outcome (ending (if b then dynamic_error else Yields (with_connection (connection e f) d))))
    (refused-told c d same e f (is_terminated_at c e.component) (is_terminated_at c f.component) refl refl
    ∙ ap (λ a. a || is_terminated_at c f.component || is_mapped d e || is_mapped d f || is_double d e f || is_double d f e) (alike-over c d same e.component)
    ∙ ap (λ b. is_terminated_at d e.component || b || is_mapped d e || is_mapped d f || is_double d e f || is_double d f e) (alike-over c d same f.component))

-- ---- mapping

unmapped-told : (c d : Going) → Alike c d → (e : End) (q : Identifier) → (a : Bool) → is_terminated_at c e.component ≡ a
    → (a || is_connected c e || list_any (maps_otherwise e q) c.mappings) ≡ (a || is_connected d e || list_any (maps_otherwise e q) d.mappings)
unmapped-told c d same e q true is = refl
unmapped-told c d same e q false is =
    ap (λ b. b || list_any (maps_otherwise e q) c.mappings) (alike-connected c d same e is)
    ∙ ap (λ ms. is_connected d e || list_any (maps_otherwise e q) ms) (alike-mappings c d same)

map-told : (b : Bool) (c d : Going) → Alike c d → (e : End) (q : Identifier)
    → live_outcome (ending (if b then dynamic_error else Yields (with_mappings (put q e c.mappings) c))) ≡ live_outcome (ending (if b then dynamic_error else Yields (with_mappings (put q e d.mappings) d)))
map-told true c d same e q = refl
map-told false c d same e q = ap (λ x. Yields (Goes x)) (alike (λ x. with_mappings (put q e x.mappings) x) (keeps-mappings (put q e)) c d same)

map-alike : (c d : Going) → Alike c d → (e : End) (q : Identifier) → live_outcome (ending (map_port c e q)) ≡ live_outcome (ending (map_port d e q))
map-alike c d same e q =
    map-told (is_kept_unmapped c e q) c d same e q
    ∙ ap (λ b. live_outcome (ending (if b then dynamic_error else Yields (with_mappings (put q e d.mappings) d))))
    (unmapped-told c d same e q (is_terminated_at c e.component) refl
    ∙ ap (λ a. a || is_connected d e || list_any (maps_otherwise e q) d.mappings) (alike-over c d same e.component))

unmap-alike : (c d : Going) → Alike c d → (e : End) (q : Identifier) → live_going (unmap_port c e q) ≡ live_going (unmap_port d e q)
unmap-alike c d same e q = alike (λ x. unmap_port x e q) (keeps-mappings (filter (λ m. not (same_end e m.1 && bytes_eq m.0 q)))) c d same

-- ---- what a component asks for

settle-alike : (c : Going) (p : Path) (own : Data) → Alike (settle (live_going c) p own) (settle c p own)
settle-alike c p own = keeps_touch (with_data own) (λ x. refl) p c

-- settling terminates none
settle-path : (p : Path) (own : Data) (x : Component) → path_of (pick (with_data own) p x) ≡ path_of x
unfolding pick
settle-path p own x = told (same_path (path_of x) p) (is_over x)
  where
    told : (a b : Bool) → path_of (if a then (if b then x else with_data own x) else x) ≡ path_of x
    told true true = refl
    told true false = refl
    told false b = refl

settle-state : (p : Path) (own : Data) (x : Component) → is_over (pick (with_data own) p x) ≡ is_over x
unfolding pick
settle-state p own x = told (same_path (path_of x) p) (is_over x)
  where
    told : (a b : Bool) → is_over (if a then (if b then x else with_data own x) else x) ≡ is_over x
    told true true = refl
    told true false = refl
    told false b = refl

settle-over : (c : Going) (p : Path) (own : Data) (q : Path) → is_terminated_at (settle c p own) q ≡ is_terminated_at c q
unfolding pick
settle-over c p own q =
    found-over (pick (with_data own) p) (λ x. x) (settle-path p own) (settle-state p own) q c.components ∙ ap (λ xs. over_in xs q) (map-same c.components)

perform-live : (test : Test) (c d : Going) → Alike c d → (itself : ComponentId) → is_terminated_at c itself.path ≡ false → (request : Request)
    → live_outcome (perform test c itself request) ≡ live_outcome (perform test d itself request)
perform-live test c d same itself alive Continues = ap (λ x. Yields (Goes x)) same
perform-live test c d same itself alive (Worsens v) = ap (λ x. Yields (Goes x)) (alike (λ x. touch x itself.path (with_verdict v)) (keeps_touch (with_verdict v) (λ x. refl) itself.path) c d same)
perform-live test c d same itself alive (Removes port) =
    ap (λ x. Yields (Goes x)) (alike (λ x. touch x itself.path (at_queue port without_first)) (keeps_touch (at_queue port without_first) (λ x. refl) itself.path) c d same)
perform-live test c d same itself alive (Sends port to v) = send-alike c d same itself alive port to v
perform-live test c d same itself alive (Creates new) = ap (λ x. Yields (Goes x)) (alike (with_new new) (keeps_new new) c d same)
perform-live test c d same itself alive (Starts path frame) = start-alike c d same path frame
perform-live test c d same itself alive (Stops path) = ap Yields (stop-told (same_path path (mtc_of test).path) c d same path)
perform-live test c d same itself alive (Connects one other) = connect-alike c d same one other
perform-live test c d same itself alive (Maps e q) = map-alike c d same e q
perform-live test c d same itself alive (Unmaps e q) = ap (λ x. Yields (Goes x)) (unmap-alike c d same e q)

apply-live : (test : Test) (c : Going) (itself : ComponentId) → is_terminated_at c itself.path ≡ false → (a : Act)
    → option_map live_outcome (apply test (live_going c) itself a) ≡ option_map live_outcome (apply test c itself a)
apply-live test c itself alive Waits = refl
apply-live test c itself alive (Errs why) = refl
apply-live test c itself alive (Requests request own) =
    ap Some (perform-live test (settle (live_going c) itself.path own) (settle c itself.path own) (settle-alike c itself.path own) itself
    (settle-over (live_going c) itself.path own itself.path ∙ over-live c itself.path ∙ alive) request)

-- ---- snapshots

snapshot-live : (c : Going) (x : Component) → snapshot_of (live_going c) x ≡ snapshot_of c x
snapshot-live c x =
    ap (λ states. record { itself = x.itself; fronts = (snapshot_of c x).fronts; timers = (snapshot_of c x).timers; member_timers = x.own.members.timers; states = states })
    (map-twice (λ other. (path_of other, other.state)) live_component (λ other. (path_of other, other.state)) (λ other. ap (λ p. (p, (live_component other).state)) (live-path other) ∙ ap (λ s. (path_of other, s)) (live-state other)) c.components)

-- ---- steps

over-rests : (x : Component) → is_over x ≡ true → is_running_state x.state ≡ false
over-rests x e = ap is_running_state (state-over x.state e)

running-told : {A B : Type 0} (f : A → B) (b : Bool) (o p : Option A) → (b ≡ true → option_map f o ≡ option_map f p) → option_map f (if b then o else None) ≡ option_map f (if b then p else None)
running-told f true o p same = same refl
running-told f false o p same = refl

found-alive : (c : Going) (p : Path) (x : Component) → component_at c p ≡ Some x → path_of x ≡ p → is_over x ≡ false → is_terminated_at c (path_of x) ≡ false
found-alive c p x found same alive = ap (is_terminated_at c) same ∙ ap is_terminated_component found ∙ alive

statement-live : (test : Test) (c : Going) (p : Path) (x : Component) → component_at c p ≡ Some x → path_of x ≡ p
    → option_map live_outcome (statement_step test (live_going c) (live_component x)) ≡ option_map live_outcome (statement_step test c x)
statement-live test c p x found same = by-state (λ y. component_at c p ≡ Some y → path_of y ≡ p → option_map live_outcome (statement_step test (live_going c) (live_component y)) ≡ option_map live_outcome (statement_step test c y)) x
    (λ e i j. ap (λ y. option_map live_outcome (statement_step test (live_going c) y)) (live-over x e)
    ∙ sym (ap (λ b. option_map live_outcome (if b then apply test c x.itself (act test (snapshot_of c x) x.own) else None)) (over-rests x e)))
    (λ e i j. ap (λ y. option_map live_outcome (statement_step test (live_going c) y)) (live-alive x e)
    ∙ ap (λ s. option_map live_outcome (if_running x (apply test (live_going c) x.itself (act test s x.own)))) (snapshot-live c x)
    ∙ running-told live_outcome (is_running_state x.state) (apply test (live_going c) x.itself (act test (snapshot_of c x) x.own)) (apply test c x.itself (act test (snapshot_of c x) x.own))
    (λ runs. apply-live test c x.itself (found-alive c p x i j e) (act test (snapshot_of c x) x.own)))
    found same

expired-told : (c : Going) (p : Path) (o : Option Data) → option_map live_outcome (option_map (λ own. Yields (Goes (touch (live_going c) p (exchanged own)))) o) ≡ option_map live_outcome (option_map (λ own. Yields (Goes (touch c p (exchanged own)))) o)
expired-told c p None = refl
expired-told c p (Some own) = ap (λ x. Some (Yields (Goes x))) (keeps_touch (exchanged own) (λ x. refl) p c)

expiry-live : (c : Going) (number : ℕ) (name : List ℕ) (x : Component)
    → option_map live_outcome (expiry_step (live_going c) number name (live_component x)) ≡ option_map live_outcome (expiry_step c number name x)
expiry-live c number name x = by-state (λ y. option_map live_outcome (expiry_step (live_going c) number name (live_component y)) ≡ option_map live_outcome (expiry_step c number name y)) x
    (λ e. ap (λ y. option_map live_outcome (expiry_step (live_going c) number name y)) (live-over x e)
    ∙ sym (ap (λ b. option_map live_outcome (if b then option_map (λ own. Yields (Goes (touch c (path_of x) (exchanged own)))) (expired number name x.own) else None)) (over-rests x e)))
    (λ e. ap (λ y. option_map live_outcome (expiry_step (live_going c) number name y)) (live-alive x e)
    ∙ running-told live_outcome (is_running_state x.state) (option_map (λ own. Yields (Goes (touch (live_going c) (path_of x) (exchanged own)))) (expired number name x.own))
    (option_map (λ own. Yields (Goes (touch c (path_of x) (exchanged own)))) (expired number name x.own)) (λ runs. expired-told c (path_of x) (expired number name x.own)))

found-path-first : (b : Bool) (x y : Component) (p : Path) (o : Option Component) → same_path (path_of x) p ≡ b → (if b then Some x else o) ≡ Some y → (o ≡ Some y → path_of y ≡ p) → path_of y ≡ p
found-path-first true x y p o is e rest = subst (λ z. path_of z ≡ p) (let found = e in let same : x ≡ y = cc in same) (path-is (path_of x) p is)
found-path-first false x y p o is e rest = rest e

found-path : (xs : List Component) (p : Path) (y : Component) → find (λ x. same_path (path_of x) p) xs ≡ Some y → path_of y ≡ p
found-path [] p y e = absurd (let no = e in cc)
found-path (x ∷ xs) p y e = found-path-first (same_path (path_of x) p) x y p (find (λ z. same_path (path_of z) p) xs) refl e (found-path xs p y)

statement-told : (test : Test) (c : Going) (p : Path) (o : Option Component) → component_at c p ≡ o
    → option_map live_outcome (option_and_then (statement_step test (live_going c)) (option_map live_component o)) ≡ option_map live_outcome (option_and_then (statement_step test c) o)
statement-told test c p None found = refl
statement-told test c p (Some x) found = statement-live test c p x found (found-path c.components p x found)

expiry-told : (c : Going) (number : ℕ) (name : List ℕ) (o : Option Component)
    → option_map live_outcome (option_and_then (expiry_step (live_going c) number name) (option_map live_component o)) ≡ option_map live_outcome (option_and_then (expiry_step c number name) o)
expiry-told c number name None = refl
expiry-told c number name (Some x) = expiry-live c number name x

delivery-told : (c : Going) (name : Identifier) (e : End) (o : Option Value)
    → option_map live_outcome (option_map (λ v. Yields (Goes (come_in name e v (live_going c)))) o) ≡ option_map live_outcome (option_map (λ v. Yields (Goes (come_in name e v c))) o)
delivery-told c name e None = refl
delivery-told c name e (Some v) = ap (λ x. Some (Yields (Goes x))) (keeps-come-in name e v c)

delivery-live : (test : Test) (c : Going) (name : Identifier) (o : Option End)
    → option_map live_outcome (option_and_then (λ e. option_map (λ v. Yields (Goes (come_in name e v (live_going c)))) (next_message test (live_going c) name)) o)
    ≡ option_map live_outcome (option_and_then (λ e. option_map (λ v. Yields (Goes (come_in name e v c))) (next_message test c name)) o)
delivery-live test c name None = refl
delivery-live test c name (Some e) = delivery-told c name e (next_message test c name)

step-live : (test : Test) (c : Going) (label : Label) → option_map live_outcome (step_in test (live_going c) label) ≡ option_map live_outcome (step_in test c label)
step-live test c (Statement p) =
    ap (λ o. option_map live_outcome (option_and_then (statement_step test (live_going c)) o)) (component-live c p) ∙ statement-told test c p (component_at c p) refl
step-live test c (Expiry p number name) =
    ap (λ o. option_map live_outcome (option_and_then (expiry_step (live_going c) number name) o)) (component-live c p) ∙ expiry-told c number name (component_at c p)
step-live test c (Delivery name) = delivery-live test c name (entry c.mappings name)

pub steps_live : (test : Test) (c : Configuration) (label : Label) → option_map live_outcome (step test (live_part c) label) ≡ option_map live_outcome (step test c label)
steps_live test (Ended v) label = refl
steps_live test (Goes c) label = step-live test c label

-- ---- labels

some-map : {A B : Type 0} (f : A → B) (o : Option A) → is_some (option_map f o) ≡ is_some o
some-map f None = refl
some-map f (Some a) = refl

waits : Act → Bool
waits Waits = true
waits _ = false

apply-some : (test : Test) (c d : Going) (itself : ComponentId) (a : Act) → is_some (apply test c itself a) ≡ is_some (apply test d itself a)
apply-some test c d itself Waits = refl
apply-some test c d itself (Errs why) = refl
apply-some test c d itself (Requests request own) = refl

running-some : {A : Type 0} (b : Bool) (o p : Option A) → is_some o ≡ is_some p → is_some (if b then o else None) ≡ is_some (if b then p else None)
running-some true o p e = e
running-some false o p e = refl

labels-of-live : (test : Test) (c : Going) (x : Component) → labels_of_component test (live_going c) (live_component x) ≡ labels_of_component test c x
labels-of-live test c x = by-state (λ y. labels_of_component test (live_going c) (live_component y) ≡ labels_of_component test c y) x
    (λ e. ap (labels_of_component test (live_going c)) (live-over x e) ∙ sym (ap (λ b. if b then statement_labels test c x ++ expiries x else []) (over-rests x e)))
    (λ e. ap (labels_of_component test (live_going c)) (live-alive x e)
    ∙ ap (λ b. if is_running_state x.state then ((if b then Statement (path_of x) ∷ [] else []) ++ expiries x) else [])
    (ap (λ s. is_some (if_running x (apply test (live_going c) x.itself (act test s x.own)))) (snapshot-live c x)
    ∙ running-some (is_running_state x.state) (apply test (live_going c) x.itself (act test (snapshot_of c x) x.own)) (apply test c x.itself (act test (snapshot_of c x) x.own))
    (apply-some test (live_going c) c x.itself (act test (snapshot_of c x) x.own))))

flat-twice : {A B C : Type 0} (f : B → List C) (g : A → B) (h : A → List C) → ((a : A) → f (g a) ≡ h a) → (xs : List A) → flat_map f (map g xs) ≡ flat_map h xs
flat-twice f g h same [] = refl
flat-twice f g h same (x ∷ xs) = ap (λ us. us ++ flat_map f (map g xs)) (same x) ∙ ap (λ us. h x ++ us) (flat-twice f g h same xs)

pub labels_live : (test : Test) (c : Configuration) → labels test (live_part c) ≡ labels test c
labels_live test (Ended v) = refl
labels_live test (Goes c) = ap (λ ls. ls ++ deliveries test c) (flat-twice (labels_of_component test (live_going c)) live_component (labels_of_component test c) (labels-of-live test c) c.components)

-- ---- where labels lead, and what is seen

settled-live : (o : Outcome Configuration) → live_part (settled o) ≡ settled (live_outcome o)
settled-live (Yields c) = refl
settled-live (Fails why) = refl

options-settled : (o : Option (Outcome Configuration)) → option_map live_part (option_map settled o) ≡ option_map settled (option_map live_outcome o)
options-settled None = refl
options-settled (Some o) = ap Some (settled-live o)

pub next_live : (test : Test) (c : Configuration) (label : Label) → option_map live_part (next test (live_part c) label) ≡ option_map live_part (next test c label)
next_live test c label = options-settled (step test (live_part c) label) ∙ ap (option_map settled) (steps_live test c label) ∙ sym (options-settled (step test c label))

pub mark_live : (c : Configuration) → mark_of (live_part c) ≡ mark_of c
mark_live (Ended v) = refl
mark_live (Goes c) = refl

branch-of-live : (test : Test) (c : Going) (x : Component) → branch_of_component test (live_going c) (live_component x) ≡ branch_of_component test c x
branch-of-live test c x = by-state (λ y. branch_of_component test (live_going c) (live_component y) ≡ branch_of_component test c y) x
    (λ e. ap (branch_of_component test (live_going c)) (live-over x e)
    ∙ sym (ap (λ b. if b then unless_fault (act test (snapshot_of c x) x.own) (place_in_frames test (snapshot_of c x) x.own x.own.calls) else None) (over-rests x e)))
    (λ e. ap (branch_of_component test (live_going c)) (live-alive x e)
    ∙ ap (λ s. if_running x (unless_fault (act test s x.own) (place_in_frames test s x.own x.own.calls))) (snapshot-live c x))

branch-told : (test : Test) (c : Going) (o : Option Component) → option_and_then (branch_of_component test (live_going c)) (option_map live_component o) ≡ option_and_then (branch_of_component test c) o
branch-told test c None = refl
branch-told test c (Some x) = branch-of-live test c x

branch-in : (test : Test) (c : Going) (label : Label) → branch_in test (live_going c) label ≡ branch_in test c label
branch-in test c (Statement p) = ap (option_and_then (branch_of_component test (live_going c))) (component-live c p) ∙ branch-told test c (component_at c p)
branch-in test c (Expiry p number name) = refl
branch-in test c (Delivery name) = refl

pub branch_live : (test : Test) (c : Configuration) (label : Label) → branch_of test (live_part c) label ≡ branch_of test c label
branch_live test (Ended v) label = refl
branch_live test (Goes c) label = branch-in test c label

place-live : (x : Component) → with_place (live_component x) (place_of (live_component x)) ≡ with_place x (place_of x)
place-live x = by-state (λ y. with_place (live_component y) (place_of (live_component y)) ≡ with_place y (place_of y)) x
    (λ e. ap (λ y. with_place y (place_of y)) (live-over x e) ∙ sym (ap (λ b. with_place x (if b then place_of_frames x.own.calls else None)) (over-rests x e)))
    (λ e. ap (λ y. with_place y (place_of y)) (live-alive x e))

pub blocked_live : (test : Test) (c : Configuration) → blocked test (live_part c) ≡ blocked test c
blocked_live test (Ended v) = refl
blocked_live test (Goes c) =
    ap (λ ls. if_none ls (standings (live_going c))) (labels_live test (Goes c))
    ∙ ap (if_none (labels test (Goes c))) (flat-twice (λ x. with_place x (place_of x)) live_component (λ x. with_place x (place_of x)) place-live c.components)

-- ---- messages

way-to-live : (c : Going) (e : End) → way_to (live_going c) e ≡ way_to c e
way-to-live c e = ap (λ b. if b then Lost e else Reaches e) (over-live c e.component)

ways-live : (c : Going) (o : Option End) → option_map (way_to (live_going c)) o ≡ option_map (way_to c) o
ways-live c None = refl
ways-live c (Some e) = ap Some (way-to-live c e)

way-mapped-live : (c : Going) (d : End) → is_terminated_at c d.component ≡ false → (to : Option Path) (o : Option Identifier) → way_mapped (live_going c) d to o ≡ way_mapped c d to o
way-mapped-live c d alive to (Some q) = refl
way-mapped-live c d alive to None = ap (λ ends. option_map (way_to (live_going c)) (lone (filter (addressed to) ends))) (peers-live c d alive) ∙ ways-live c (only_peer c d to)

abbrev message-on : Option End → Value → Way → Sent
message-on from v way = record { from = from; value = v; way = way }

sent-by-live : (c : Going) (itself : ComponentId) → is_terminated_at c itself.path ≡ false → (request : Request) → sent_by (live_going c) itself request ≡ sent_by c itself request
sent-by-live c itself alive Continues = refl
sent-by-live c itself alive (Worsens v) = refl
sent-by-live c itself alive (Removes port) = refl
sent-by-live c itself alive (Sends port to v) =
    let from : End = record { component = itself.path; port = port } in
    ap (option_map (message-on (Some from) v)) (way-mapped-live c from alive to (mapped_to c from))
sent-by-live c itself alive (Creates new) = refl
sent-by-live c itself alive (Starts path frame) = refl
sent-by-live c itself alive (Stops path) = refl
sent-by-live c itself alive (Connects one other) = refl
sent-by-live c itself alive (Maps e q) = refl
sent-by-live c itself alive (Unmaps e q) = refl

requests-live : (c : Going) (itself : ComponentId) → is_terminated_at c itself.path ≡ false → (o : Option Request) → option_and_then (sent_by (live_going c) itself) o ≡ option_and_then (sent_by c itself) o
requests-live c itself alive None = refl
requests-live c itself alive (Some request) = sent-by-live c itself alive request

sent-of-live : (test : Test) (c : Going) (p : Path) (x : Component) → component_at c p ≡ Some x → path_of x ≡ p
    → sent_of_component test (live_going c) (live_component x) ≡ sent_of_component test c x
sent-of-live test c p x found same = by-state (λ y. component_at c p ≡ Some y → path_of y ≡ p → sent_of_component test (live_going c) (live_component y) ≡ sent_of_component test c y) x
    (λ e i j. ap (sent_of_component test (live_going c)) (live-over x e)
    ∙ sym (ap (λ b. option_and_then (sent_by c x.itself) (if b then request_in (act test (snapshot_of c x) x.own) else None)) (over-rests x e)))
    (λ e i j. ap (sent_of_component test (live_going c)) (live-alive x e)
    ∙ ap (λ s. option_and_then (sent_by (live_going c) x.itself) (if_running x (request_in (act test s x.own)))) (snapshot-live c x)
    ∙ requests-live c x.itself (found-alive c p x i j e) (if_running x (request_in (act test (snapshot_of c x) x.own))))
    found same

sent-statement-live : (test : Test) (c : Going) (p : Path) (o : Option Component) → component_at c p ≡ o
    → option_and_then (sent_of_component test (live_going c)) (option_map live_component o) ≡ option_and_then (sent_of_component test c) o
sent-statement-live test c p None found = refl
sent-statement-live test c p (Some x) found = sent-of-live test c p x found (found-path c.components p x found)

brought-live : (c : Going) (e : End) (o : Option Value)
    → option_map (λ v. message-on None v (way_to (live_going c) e)) o ≡ option_map (λ v. message-on None v (way_to c e)) o
brought-live c e None = refl
brought-live c e (Some v) = ap (λ way. Some (message-on None v way)) (way-to-live c e)

sent-in-live : (test : Test) (c : Going) (name : Identifier) (o : Option End)
    → option_and_then (λ e. option_map (λ v. message-on None v (way_to (live_going c) e)) (next_message test (live_going c) name)) o
    ≡ option_and_then (λ e. option_map (λ v. message-on None v (way_to c e)) (next_message test c name)) o
sent-in-live test c name None = refl
sent-in-live test c name (Some e) = brought-live c e (next_message test c name)

sent-live : (test : Test) (c : Going) (label : Label) → sent_going test (live_going c) label ≡ sent_going test c label
sent-live test c (Statement p) = ap (option_and_then (sent_of_component test (live_going c))) (component-live c p) ∙ sent-statement-live test c p (component_at c p) refl
sent-live test c (Expiry p number name) = refl
sent-live test c (Delivery name) = sent-in-live test c name (entry c.mappings name)

pub sent_live : (test : Test) (c : Configuration) (label : Label) → sent_of test (live_part c) label ≡ sent_of test c label
sent_live test (Ended v) label = refl
sent_live test (Goes c) label = sent-live test c label

pub live_twice : (c : Configuration) → live_part (live_part c) ≡ live_part c
live_twice (Ended v) = refl
live_twice (Goes c) = ap Goes (live-twice c)
