-- What is done among the components of the code is what the rules do.
use Rattle.std.proofs.Common.{◌≡◌, ℕ, suc, Bool, true, false, ◌||◌, ◌&&◌, not, List, [], ◌∷◌, ◌++◌, map, length, Option, None, Some, is_some, Result, Ok, Err, cond, nat_eq, bytes_eq, refl, sym, ap, arith, subst, ◌∙◌, if◌then◌else◌}
use Rattle.std.specs.List.{filter, find, flat_map, fold, list_any}
use Rattle.std.specs.Option.{option_map}
use Rattle.std.specs.Ordering.{is_gt, is_lt, match_ordering, nat_cmp, ordering_reverse}
use Rattle.std.specs.declared.cmp.Ordering.{Ordering}
use Rattle.std.specs.declared.cmp.Ordering.TheVariants.{Less, Equal, Greater}
use Rattle.std.proofs.lemmas.Bool.{eqb-true}
use Rattle.std.proofs.lemmas.Cmp.{nat_cmp_total, nat_list_cmp_total}
use Rattle.ttcn_syntax.specs.declared.tree.statement.Verdict.{Verdict}
use Rattle.semantics.specs.Configurations as rules
use Rattle.semantics.specs.Configurations.{path_cmp, same_path, worse}
use Rattle.semantics.specs.Entries.{Entries, put}
use Rattle.semantics.specs.Snapshots.{Test}
use Rattle.semantics.specs.Steps as steps
use Rattle.semantics.specs.Taking.{uncovered}
use Rattle.config_parts.specs.Acts.{HasPathsInOrder, IsFailing, IsUncovered, Leads, act_by, request_by}
use Rattle.config_parts.specs.Legend.{IsLegend, Legend, component_by, config_by, connection_by, data_by, end_by, entries_by, frame_by, going_by, mapping_by, message_by, queue_by, state_by}
use Rattle.config_parts.specs.internal.Changes as kept
use Rattle.config_parts.specs.internal.Done as done
use Rattle.config_parts.specs.internal.Ends as ends
use Rattle.config_parts.specs.internal.Mappings as mapped
use Rattle.config_parts.specs.declared.act.Act.{Act}
use Rattle.config_parts.specs.declared.act.Request.{Request}
use Rattle.config_parts.specs.declared.act.Request.TheVariants as request
use Rattle.config_parts.specs.declared.component.Component.{Component}
use Rattle.config_parts.specs.declared.component.Message.{Message}
use Rattle.config_parts.specs.declared.component.State.{State}
use Rattle.config_parts.specs.declared.component.State.TheVariants as state
use Rattle.config_parts.specs.declared.config.Config.{Config}
use Rattle.config_parts.specs.declared.config.Config.TheVariants as config
use Rattle.config_parts.specs.declared.config.Going.{Going}
use Rattle.config_parts.specs.declared.connection.Connection.{Connection}
use Rattle.config_parts.specs.declared.connection.End.{End}
use Rattle.config_parts.specs.declared.frame.Data.{Data}
use Rattle.config_parts.specs.declared.frame.Frame.{Frame}
use Rattle.config_parts.proofs.Named.{connection-by, connection-cmp-by, opposite-by, option-list, peers-by, queues-by, same-end-by, same-name}
use Rattle.config_parts.proofs.Stored.{put-of}
use Rattle.config_parts.proofs.Touching.{Ascend, ascends-still, changes-by}
use Rattle.value_types.specs.Outcomes.{Outcome, Yields, dynamic_error}
use Rattle.value_types.specs.declared.fault.Fault.{Fault}
use Rattle.value_types.specs.declared.fault.Fault.TheVariants.{Dynamic, Memory}
use Rattle.value_types.specs.declared.path.Path.{Path}
use Rattle.value_types.specs.declared.value.ComponentId.{ComponentId}
use Rattle.value_types.specs.declared.value.Value.{Value}

-- ---- single components

abbrev pub with_components : List Component → Going → Going
with_components cs going = record { components = cs; links = going.links; forgotten = going.forgotten }

-- what stands for a test case with other components
abbrev going-with : Legend → Going → List rules.Component → rules.Going
going-with legend going cs = record { components = cs; connections = (going_by legend going).connections; mappings = (going_by legend going).mappings; delivered = (going_by legend going).delivered; forgotten = going.forgotten }

-- two changes are one
abbrev Alike : Legend → (Component → Component) → (rules.Component → rules.Component) → Type 0
Alike legend f g = (x : Component) → component_by legend (f x) ≡ g (component_by legend x)

unless-in : (legend : Legend) (f : Component → Component) (g : rules.Component → rules.Component) → Alike legend f g → (s : State) (x : Component)
    → component_by legend (if kept.is_terminated s then x else f x) ≡ (if rules.is_terminated_state (state_by s) then component_by legend x else g (component_by legend x))
unless-in legend f g alike state.Created x = alike x
unless-in legend f g alike state.Running x = alike x
unless-in legend f g alike state.Terminated x = refl

pub touch-by : (legend : Legend) (f : Component → Component) (g : rules.Component → rules.Component) → Alike legend f g → (going : Going) (p : Path) → Ascend going.components
    → going_by legend (with_components (kept.touch going.components p f) going) ≡ steps.touch (going_by legend going) p g
touch-by legend f g alike going p ascend =
    ap (going-with legend going)
    (changes-by legend p (kept.unless_terminated f) (steps.unless_terminated g) (λ x. unless-in legend f g alike x.state x) going.components ascend)

-- ---- the data behind a step

abbrev settled : Going → Path → Data → Going
settled going p own = with_components (done.settled going p own) going

settled-ascends : (going : Going) (p : Path) (own : Data) → Ascend going.components → Ascend (settled going p own).components
settled-ascends going p own ascend = ascends-still (kept.with_own own) (λ x. refl) p going.components ascend

settled-by : (legend : Legend) (going : Going) (p : Path) (own : Data) → uncovered (data_by legend own) ≡ data_by legend own → Ascend going.components
    → going_by legend (settled going p own) ≡ steps.settle (going_by legend going) p (data_by legend own)
settled-by legend going p own gone ascend =
    touch-by legend (kept.with_own own) (steps.with_data (data_by legend own))
    (λ x. ap (λ d. record { itself = x.itself; own = d; state = state_by x.state; verdict = x.verdict; queues = map (queue_by legend) x.queues }) (sym gone))
    going p ascend

-- ---- what is wanted, and what the rules say

abbrev Says : Legend → Option (Outcome rules.Configuration) → Option Config → Type 0
Says legend step (Some config) = step ≡ Some (Yields (config_by legend config))
Says legend step None = IsFailing step

leads-to : (legend : Legend) (step : Option (Outcome rules.Configuration)) (wanted : Option Config) (result : Result Config Fault)
    → Says legend step wanted → done.Answers wanted result → Leads legend step result
leads-to legend step wanted (Ok config) says answers = subst (λ w. Says legend step w) answers says
leads-to legend step wanted (Err Dynamic) says answers = subst (λ w. Says legend step w) answers says
leads-to legend step wanted (Err Memory) says answers = answers

-- ---- changes of a component behind its step

changed-by : (legend : Legend) (f : Component → Component) (g : rules.Component → rules.Component) → Alike legend f g → (going : Going) (q : Path) → Ascend going.components
    → Says legend (Some (Yields (rules.Goes (steps.touch (going_by legend going) q g)))) (Some (done.going_with (kept.touch going.components q f) going))
changed-by legend f g alike going q ascend = ap (λ c. Some (Yields (rules.Goes c))) (sym (touch-by legend f g alike going q ascend))

pub map-more : (ms : List Message) (m : Message) → map message_by (ms ++ m ∷ []) ≡ map message_by ms ++ message_by m ∷ []
map-more [] m = refl
map-more (n ∷ ms) m = ap (λ xs. message_by n ∷ xs) (map-more ms m)

map-less : (ms : List Message) → map message_by (kept.without_first ms) ≡ steps.without_first (map message_by ms)
map-less [] = refl
map-less (m ∷ ms) = refl

pub queues-alike : (legend : Legend) → IsLegend legend → (port : ℕ) (f : List Message → List Message) (g : List rules.Message → List rules.Message)
    → ((ms : List Message) → map message_by (f ms) ≡ g (map message_by ms)) → Alike legend (kept.with_queues (kept.change_queue port f)) (steps.at_queue (legend.names port) g)
queues-alike legend is port f g alike x =
    ap (λ qs. record { itself = x.itself; own = data_by legend x.own; state = state_by x.state; verdict = x.verdict; queues = qs }) (queues-by legend is port f g alike x.queues)

-- ---- messages

any-by : {A B : Type 0} (f : A → B) (p : B → Bool) (q : A → Bool) → ((a : A) → p (f a) ≡ q a) → (xs : List A) → list_any p (map f xs) ≡ list_any q xs
any-by f p q alike [] = refl
any-by f p q alike (a ∷ xs) = λ i. alike a i || any-by f p q alike xs i

mapped-by : (legend : Legend) → IsLegend legend → (going : Going) (e : End) → steps.is_mapped (going_by legend going) (end_by legend e) ≡ mapped.is_mapped going.links.mappings e
mapped-by legend is going e =
    any-by (mapping_by legend) (λ m. rules.same_end (end_by legend e) m.1) (λ m. ends.same_end e m.1) (λ m. same-end-by legend is e m.1) going.links.mappings

sent-by : (legend : Legend) → IsLegend legend → (going : Going) → Ascend going.components → (m : Message) (es : List End)
    → Says legend (Some (steps.ending (steps.deliver (going_by legend going) (message_by m) (map (end_by legend) es))))
    (option_map (λ cs. done.going_with cs going) (option_map (λ e. done.deliver going.components e m) (ends.lone es)))
sent-by legend is going ascend m [] = tt
sent-by legend is going ascend m (e ∷ []) =
    changed-by legend (kept.with_queues (kept.with_message e.port m)) (steps.at_queue (legend.names e.port) (λ messages. messages ++ message_by m ∷ []))
    (queues-alike legend is e.port (λ messages. messages ++ m ∷ []) (λ messages. messages ++ message_by m ∷ []) (λ ms. map-more ms m))
    going e.component ascend
sent-by legend is going ascend m (d ∷ e ∷ es) = tt

peer-by : (legend : Legend) → IsLegend legend → (going : Going) → Ascend going.components → (itself : ComponentId) (port : ℕ) (to : Option Path) (v : Value)
    → Says legend (Some (steps.ending (steps.send_to_peer (going_by legend going) itself (legend.names port) to v)))
    (option_map (λ cs. done.going_with cs going) (done.send_to_peer going.components going.links.connections itself (record { component = itself.path; port = port }) to v))
peer-by legend is going ascend itself port to v =
    subst (λ es. Says legend (Some (steps.ending (steps.deliver (going_by legend going) (record { value = v; sender = Some itself }) es)))
    (option_map (λ cs. done.going_with cs going) (done.send_to_peer going.components going.links.connections itself (record { component = itself.path; port = port }) to v)))
    (sym (peers-by legend is going.links.connections (record { component = itself.path; port = port }) to))
    (sent-by legend is going ascend (record { value = v; sender = Some itself }) (ends.peers going.links.connections (record { component = itself.path; port = port }) to))

out-by : (legend : Legend) (going : Going) (to : Option Path)
    → Says legend (Some (steps.ending (steps.send_out (going_by legend going) to))) (option_map (λ cs. done.going_with cs going) (done.send_out going.components to))
out-by legend going None = refl
out-by legend going (Some path) = tt

send-in : (legend : Legend) → IsLegend legend → (going : Going) → Ascend going.components → (itself : ComponentId) (port : ℕ) (to : Option Path) (v : Value) (b : Bool)
    → Says legend (Some (steps.ending (if b then steps.send_out (going_by legend going) to else steps.send_to_peer (going_by legend going) itself (legend.names port) to v)))
    (option_map (λ cs. done.going_with cs going)
    (if b then done.send_out going.components to else done.send_to_peer going.components going.links.connections itself (record { component = itself.path; port = port }) to v))
send-in legend is going ascend itself port to v true = out-by legend going to
send-in legend is going ascend itself port to v false = peer-by legend is going ascend itself port to v

send-by : (legend : Legend) → IsLegend legend → (going : Going) → Ascend going.components → (itself : ComponentId) (port : ℕ) (to : Option Path) (v : Value)
    → Says legend (Some (steps.ending (steps.send (going_by legend going) itself (legend.names port) to v)))
    (option_map (λ cs. done.going_with cs going) (done.send going.components going.links itself port to v))
send-by legend is going ascend itself port to v =
    subst (λ b. Says legend (Some (steps.ending (if b then steps.send_out (going_by legend going) to else steps.send_to_peer (going_by legend going) itself (legend.names port) to v)))
    (option_map (λ cs. done.going_with cs going) (done.send going.components going.links itself port to v)))
    (sym (mapped-by legend is going (record { component = itself.path; port = port })))
    (send-in legend is going ascend itself port to v (mapped.is_mapped going.links.mappings (record { component = itself.path; port = port })))

-- ---- what is found

find-first : (legend : Legend) (b : Bool) (c : Component) (o : Option Component) (found : Option rules.Component) → found ≡ option_map (component_by legend) o
    → cond b (Some (component_by legend c)) found ≡ option_map (component_by legend) (cond b (Some c) o)
find-first legend true c o found e = refl
find-first legend false c o found e = e

pub find-by : (legend : Legend) (p : Path) (cs : List Component)
    → find (λ c. same_path (rules.path_of c) p) (map (component_by legend) cs) ≡ option_map (component_by legend) (find (kept.is_of p) cs)
find-by legend p [] = refl
find-by legend p (c ∷ cs) =
    find-first legend (kept.is_of p c) c (find (kept.is_of p) cs) (find (λ c. same_path (rules.path_of c) p) (map (component_by legend) cs)) (find-by legend p cs)

-- ---- starts

start-in : (legend : Legend) (going : Going) → Ascend going.components → (p : Path) (frame : Frame) (s : State)
    → Says legend (Some (steps.ending (steps.start_in (going_by legend going) p (frame_by legend frame) (state_by s))))
    (option_map (λ cs. done.going_with cs going) (if done.is_created s then Some (kept.touch going.components p (kept.begun frame)) else None))
start-in legend going ascend p frame state.Created = changed-by legend (kept.begun frame) (steps.begin (frame_by legend frame)) (λ x. refl) going p ascend
start-in legend going ascend p frame state.Running = tt
start-in legend going ascend p frame state.Terminated = tt

start-found : (legend : Legend) (going : Going) → Ascend going.components → (p : Path) (frame : Frame) (o : Option Component)
    → Says legend (Some (steps.ending (steps.start_created (going_by legend going) p (frame_by legend frame) (option_map (component_by legend) o))))
    (option_map (λ cs. done.going_with cs going) (done.start_found going.components p frame o))
start-found legend going ascend p frame None = tt
start-found legend going ascend p frame (Some c) = start-in legend going ascend p frame c.state

start-by : (legend : Legend) (going : Going) → Ascend going.components → (p : Path) (frame : Frame)
    → Says legend (Some (steps.ending (steps.start_component (going_by legend going) p (frame_by legend frame)))) (option_map (λ cs. done.going_with cs going) (done.start going.components p frame))
start-by legend going ascend p frame =
    subst (λ o. Says legend (Some (steps.ending (steps.start_created (going_by legend going) p (frame_by legend frame) o))) (option_map (λ cs. done.going_with cs going) (done.start going.components p frame)))
    (sym (find-by legend p going.components)) (start-found legend going ascend p frame (find (kept.is_of p) going.components))

-- ---- new components

insert-first : (legend : Legend) (b : Bool) (new c : Component) (cs said : List Component) (rest : List rules.Component) → map (component_by legend) said ≡ rest
    → map (component_by legend) (if b then new ∷ c ∷ cs else c ∷ said)
    ≡ (if b then component_by legend new ∷ component_by legend c ∷ map (component_by legend) cs else component_by legend c ∷ rest)
insert-first legend true new c cs said rest e = refl
insert-first legend false new c cs said rest e = ap (λ xs. component_by legend c ∷ xs) e

insert-by : (legend : Legend) (new : Component) (cs : List Component) → map (component_by legend) (done.insert new cs) ≡ steps.insert (component_by legend new) (map (component_by legend) cs)
insert-by legend new [] = refl
insert-by legend new (c ∷ cs) =
    insert-first legend (done.is_before new c) new c cs (done.insert new cs) (steps.insert (component_by legend new) (map (component_by legend) cs)) (insert-by legend new cs)

create-in : (legend : Legend) (new : Component) (cs : List Component) (o : Option Component)
    → map (component_by legend) (if is_some o then cs else done.insert new cs)
    ≡ (if is_some (option_map (component_by legend) o) then map (component_by legend) cs else steps.insert (component_by legend new) (map (component_by legend) cs))
create-in legend new cs None = insert-by legend new cs
create-in legend new cs (Some c) = refl

create-by : (legend : Legend) (going : Going) (new : Component)
    → Says legend (Some (Yields (rules.Goes (steps.with_new (component_by legend new) (going_by legend going))))) (Some (done.going_with (done.create going.components new) going))
create-by legend going new =
    ap (λ cs. Some (Yields (rules.Goes (going-with legend going cs))))
    (sym (create-in legend new going.components (find (kept.is_of new.itself.path) going.components)
    ∙ ap (λ o. if is_some o then map (component_by legend) going.components else steps.insert (component_by legend new) (map (component_by legend) going.components))
    (sym (find-by legend new.itself.path going.components))))

-- ---- stops

not-none : (b : Bool) (k : ℕ) → nat_eq (suc k) 0 ≡ b → false ≡ b
not-none true k e = absurd (omega (arith, eqb-true (suc k) 0 e))
not-none false k e = refl

no-numbers : (numbers : List ℕ) → bytes_eq numbers [] ≡ nat_eq (length numbers) 0
no-numbers [] = refl
no-numbers (n ∷ numbers) = not-none (nat_eq (length (n ∷ numbers)) 0) (length numbers) refl

overall-by : (legend : Legend) (v : Verdict) (cs : List Component)
    → fold (λ worst component. worse worst component.verdict) v (map (component_by legend) cs) ≡ done.overall v cs
overall-by legend v [] = refl
overall-by legend v (c ∷ cs) = overall-by legend (worse v c.verdict) cs

filter-first : {A B : Type 0} (f : A → B) (b : Bool) (a : A) (said : List A) (rest : List B) → rest ≡ map f said → cond b (f a ∷ rest) rest ≡ map f (cond b (a ∷ said) said)
filter-first f true a said rest e = ap (λ ys. f a ∷ ys) e
filter-first f false a said rest e = e

filter-by : {A B : Type 0} (f : A → B) (p : B → Bool) (q : A → Bool) → ((a : A) → p (f a) ≡ q a) → (xs : List A) → filter p (map f xs) ≡ map f (filter q xs)
filter-by f p q alike [] = refl
filter-by f p q alike (a ∷ xs) =
    ap (λ b. cond b (f a ∷ filter p (map f xs)) (filter p (map f xs))) (alike a)
    ∙ filter-first f (q a) a (filter q xs) (filter p (map f xs)) (filter-by f p q alike xs)

terminate-by : (legend : Legend) (going : Going) → Ascend going.components → (p : Path)
    → steps.terminate p (going_by legend going)
    ≡ going_by legend (record { components = kept.touch going.components p (kept.with_state kept.terminated); links = mapped.without_component p going.links; forgotten = going.forgotten })
terminate-by legend going ascend p =
    ap (λ ms. steps.with_mappings ms (steps.touch (going_by legend going) p (steps.with_state rules.Terminated)))
    (filter-by (mapping_by legend) (λ m. not (same_path m.1.component p)) (λ m. not (mapped.is_of p m)) (λ m. refl) going.links.mappings)
    ∙ ap (steps.with_mappings (map (mapping_by legend) (mapped.without_ports p going.links.mappings)))
    (sym (touch-by legend (kept.with_state kept.terminated) (steps.with_state rules.Terminated) (λ x. refl) going p ascend))

stop-in : (legend : Legend) (going : Going) → Ascend going.components → (p : Path) (b : Bool)
    → Some (Yields (if b then rules.Ended (rules.overall (going_by legend going)) else rules.Goes (steps.terminate p (going_by legend going))))
    ≡ Some (Yields (config_by legend (if b then config.Ended (done.overall going.forgotten going.components)
    else done.going_on (kept.touch going.components p (kept.with_state kept.terminated)) (mapped.without_component p going.links) going.forgotten)))
stop-in legend going ascend p true = ap (λ v. Some (Yields (rules.Ended v))) (overall-by legend going.forgotten going.components)
stop-in legend going ascend p false = ap (λ c. Some (Yields (rules.Goes c))) (terminate-by legend going ascend p)

stop-by : (legend : Legend) (test : Test) (going : Going) → Ascend going.components → (p : Path)
    → Says legend (Some (Yields (steps.stop test (going_by legend going) p))) (Some (done.stop going.components going.links going.forgotten p))
stop-by legend test going ascend p =
    ap (λ b. Some (Yields (if b then rules.Ended (rules.overall (going_by legend going)) else rules.Goes (steps.terminate p (going_by legend going)))))
    (no-numbers p.numbers)
    ∙ stop-in legend going ascend p (done.is_main p)

-- ---- connections

dead-in : (legend : Legend) (s : State) → rules.is_terminated_state (state_by s) ≡ kept.is_terminated s
dead-in legend state.Created = refl
dead-in legend state.Running = refl
dead-in legend state.Terminated = refl

dead-found : (legend : Legend) (o : Option Component) → steps.is_terminated_component (option_map (component_by legend) o) ≡ kept.is_terminated_component o
dead-found legend None = refl
dead-found legend (Some c) = dead-in legend c.state

pub dead-by : (legend : Legend) (going : Going) (p : Path) → steps.is_terminated_at (going_by legend going) p ≡ kept.is_terminated_at going.components p
dead-by legend going p = ap steps.is_terminated_component (find-by legend p going.components) ∙ dead-found legend (find (kept.is_of p) going.components)

abbrev is_second : Legend → End → rules.End → Bool
is_second legend e peer = same_path peer.component e.component && not (bytes_eq peer.port (legend.names e.port))

double-first : (legend : Legend) → IsLegend legend → (e : End) (o : Option End) (others : List rules.End)
    → list_any (is_second legend e) (map (end_by legend) (option-list o) ++ others) ≡ (ends.is_other e o || list_any (is_second legend e) others)
double-first legend is e None others = refl
double-first legend is e (Some found) others =
    ap (λ b. same_path found.component e.component && not b || list_any (is_second legend e) others) (same-name legend is found.port e.port)

double-by : (legend : Legend) → IsLegend legend → (ks : List Connection) (d e : End)
    → list_any (is_second legend e) (flat_map (steps.opposite (end_by legend d)) (map (connection_by legend) ks)) ≡ ends.is_double ks d e
double-by legend is [] d e = refl
double-by legend is (k ∷ ks) d e =
    ap (λ es. list_any (is_second legend e) (es ++ flat_map (steps.opposite (end_by legend d)) (map (connection_by legend) ks))) (opposite-by legend is d k)
    ∙ double-first legend is e (ends.opposite d k) (flat_map (steps.opposite (end_by legend d)) (map (connection_by legend) ks))
    ∙ ap (λ b. ends.is_other e (ends.opposite d k) || b) (double-by legend is ks d e)

reverse-ordering : (o p : Ordering) → match_ordering (ordering_reverse o) Less (ordering_reverse p) Greater ≡ ordering_reverse (match_ordering o Less p Greater)
reverse-ordering Less p = refl
reverse-ordering Equal p = refl
reverse-ordering Greater p = refl

end-reverse : (d e : End) → ends.end_cmp d e ≡ ordering_reverse (ends.end_cmp e d)
end-reverse d e =
    ap (λ o. match_ordering o Less (nat_cmp d.port e.port) Greater) (nat_list_cmp_total.antisymm d.component.numbers e.component.numbers)
    ∙ ap (λ o. match_ordering (ordering_reverse (path_cmp e.component d.component)) Less o Greater) (nat_cmp_total.antisymm d.port e.port)
    ∙ reverse-ordering (path_cmp e.component d.component) (nat_cmp e.port d.port)

connection-reverse : (k l : Connection) → ends.connection_cmp k l ≡ ordering_reverse (ends.connection_cmp l k)
connection-reverse k l =
    ap (λ o. match_ordering o Less (ends.end_cmp k.other l.other) Greater) (end-reverse k.one l.one)
    ∙ ap (λ o. match_ordering (ordering_reverse (ends.end_cmp l.one k.one)) Less o Greater) (end-reverse k.other l.other)
    ∙ reverse-ordering (ends.end_cmp l.one k.one) (ends.end_cmp l.other k.other)

behind : (o : Ordering) → is_lt (ordering_reverse o) ≡ is_gt o
behind Less = refl
behind Equal = refl
behind Greater = refl

map-append : (legend : Legend) (ks ls : List Connection) → map (connection_by legend) (ks ++ ls) ≡ map (connection_by legend) ks ++ map (connection_by legend) ls
map-append legend [] ls = refl
map-append legend (k ∷ ks) ls = ap (λ xs. connection_by legend k ∷ xs) (map-append legend ks ls)

add-by : (legend : Legend) → IsLegend legend → (new : Connection) (ks : List Connection)
    → map (connection_by legend) (ends.add_connection new ks) ≡ steps.add_connection (connection_by legend new) (map (connection_by legend) ks)
add-by legend is new ks =
    map-append legend (filter (λ k. is_lt (ends.connection_cmp k new)) ks) (new ∷ filter (λ k. is_gt (ends.connection_cmp k new)) ks)
    ∙ ap (λ xs. xs ++ connection_by legend new ∷ map (connection_by legend) (filter (λ k. is_gt (ends.connection_cmp k new)) ks))
    (sym (filter-by (connection_by legend) (λ k. is_lt (steps.connection_cmp k (connection_by legend new))) (λ k. is_lt (ends.connection_cmp k new)) (λ k. ap is_lt (connection-cmp-by legend is k new)) ks))
    ∙ ap (λ xs. filter (λ k. is_lt (steps.connection_cmp k (connection_by legend new))) (map (connection_by legend) ks) ++ connection_by legend new ∷ xs)
    (sym (filter-by (connection_by legend) (λ k. is_lt (steps.connection_cmp (connection_by legend new) k)) (λ k. is_gt (ends.connection_cmp k new))
    (λ k. ap is_lt (connection-cmp-by legend is new k ∙ connection-reverse new k) ∙ behind (ends.connection_cmp k new)) ks))

apart-by : (legend : Legend) → IsLegend legend → (going : Going) (d e : End)
    → steps.is_kept_apart (going_by legend going) (end_by legend d) (end_by legend e) ≡ done.is_kept_apart going.components going.links d e
apart-by legend is going d e = λ i.
    dead-by legend going d.component i || dead-by legend going e.component i || mapped-by legend is going d i || mapped-by legend is going e i ||
    double-by legend is going.links.connections d e i || double-by legend is going.links.connections e d i

connect-in : (legend : Legend) → IsLegend legend → (going : Going) (d e : End) (b : Bool)
    → Says legend (Some (steps.ending (if b then dynamic_error else Yields (steps.with_connection (steps.connection (end_by legend d) (end_by legend e)) (going_by legend going)))))
    (option_map (done.going_linked going.components going.forgotten) (if b then None else Some (done.with_connection d e going.links)))
connect-in legend is going d e true = tt
connect-in legend is going d e false =
    ap (λ ks. Some (Yields (rules.Goes (record { components = map (component_by legend) going.components; connections = ks; mappings = map (mapping_by legend) going.links.mappings; delivered = entries_by legend going.links.delivered; forgotten = going.forgotten }))))
    (sym (add-by legend is (ends.connection d e) going.links.connections
    ∙ ap (λ k. steps.add_connection k (map (connection_by legend) going.links.connections)) (connection-by legend is d e)))

connect-by : (legend : Legend) → IsLegend legend → (going : Going) (d e : End)
    → Says legend (Some (steps.ending (steps.connect (going_by legend going) (end_by legend d) (end_by legend e))))
    (option_map (done.going_linked going.components going.forgotten) (done.connect going.components going.links d e))
connect-by legend is going d e =
    subst (λ b. Says legend (Some (steps.ending (if b then dynamic_error else Yields (steps.with_connection (steps.connection (end_by legend d) (end_by legend e)) (going_by legend going)))))
    (option_map (done.going_linked going.components going.forgotten) (done.connect going.components going.links d e)))
    (sym (apart-by legend is going d e)) (connect-in legend is going d e (done.is_kept_apart going.components going.links d e))

-- ---- mappings

connected-by : (legend : Legend) → IsLegend legend → (going : Going) (e : End) → steps.is_connected (going_by legend going) (end_by legend e) ≡ mapped.is_connected going.links.connections e
connected-by legend is going e =
    any-by (connection_by legend) (λ k. rules.same_end (end_by legend e) k.one || rules.same_end (end_by legend e) k.other) (λ k. ends.same_end e k.one || ends.same_end e k.other)
    (λ k i. same-end-by legend is e k.one i || same-end-by legend is e k.other i) going.links.connections

otherwise-by : (legend : Legend) → IsLegend legend → (e : End) (slot : ℕ) (m : ℕ × End)
    → steps.maps_otherwise (end_by legend e) (legend.names slot) (mapping_by legend m) ≡ mapped.maps_otherwise e slot m
otherwise-by legend is e slot m = λ i. if same-end-by legend is e m.1 i then not (same-name legend is m.0 slot i) else same-name legend is m.0 slot i

unmapped-by : (legend : Legend) → IsLegend legend → (going : Going) (e : End) (slot : ℕ)
    → steps.is_kept_unmapped (going_by legend going) (end_by legend e) (legend.names slot) ≡ done.is_kept_unmapped going.components going.links e slot
unmapped-by legend is going e slot = λ i.
    dead-by legend going e.component i || connected-by legend is going e i ||
    any-by (mapping_by legend) (steps.maps_otherwise (end_by legend e) (legend.names slot)) (mapped.maps_otherwise e slot) (otherwise-by legend is e slot) going.links.mappings i

-- the configuration with other mappings
abbrev with-mappings : Legend → Going → Entries rules.End → Option (Outcome rules.Configuration)
with-mappings legend going ms = Some (Yields (rules.Goes (steps.with_mappings ms (going_by legend going))))

map-in : (legend : Legend) → IsLegend legend → (going : Going) (e : End) (slot : ℕ) (b : Bool)
    → Says legend (Some (steps.ending (if b then dynamic_error else Yields (steps.with_mappings (put (legend.names slot) (end_by legend e) (map (mapping_by legend) going.links.mappings)) (going_by legend going)))))
    (option_map (done.going_linked going.components going.forgotten) (if b then None else Some (mapped.with_mapping e slot going.links)))
map-in legend is going e slot true = tt
map-in legend is going e slot false = ap (with-mappings legend going) (sym (put-of (end_by legend) legend is slot e going.links.mappings))

map-by : (legend : Legend) → IsLegend legend → (going : Going) (e : End) (slot : ℕ)
    → Says legend (Some (steps.ending (steps.map_port (going_by legend going) (end_by legend e) (legend.names slot))))
    (option_map (done.going_linked going.components going.forgotten) (done.map_port going.components going.links e slot))
map-by legend is going e slot =
    subst (λ b. Says legend (Some (steps.ending (if b then dynamic_error else Yields (steps.with_mappings (put (legend.names slot) (end_by legend e) (map (mapping_by legend) going.links.mappings)) (going_by legend going)))))
    (option_map (done.going_linked going.components going.forgotten) (done.map_port going.components going.links e slot)))
    (sym (unmapped-by legend is going e slot)) (map-in legend is going e slot (done.is_kept_unmapped going.components going.links e slot))

unmap-by : (legend : Legend) → IsLegend legend → (going : Going) (e : End) (slot : ℕ)
    → Says legend (Some (Yields (rules.Goes (steps.unmap_port (going_by legend going) (end_by legend e) (legend.names slot)))))
    (Some (done.going_on going.components (mapped.unmap_port e slot going.links) going.forgotten))
unmap-by legend is going e slot =
    ap (with-mappings legend going)
    (filter-by (mapping_by legend) (λ m. not (rules.same_end (end_by legend e) m.1 && bytes_eq m.0 (legend.names slot))) (λ m. not (ends.same_end e m.1 && nat_eq m.0 slot))
    (λ m i. not (same-end-by legend is e m.1 i && same-name legend is m.0 slot i)) going.links.mappings)

-- ---- all that components ask for

some-is : {A : Type 0} (a b : A) → Some a ≡ Some b → a ≡ b
some-is a b e = cc

behind-step : (legend : Legend) (going : Going) (p : Path) (own : Data) → uncovered (data_by legend own) ≡ data_by legend own → Ascend going.components
    → (step : rules.Going → Option (Outcome rules.Configuration)) (wanted : Option Config) → Says legend (step (going_by legend (settled going p own))) wanted
    → Says legend (step (steps.settle (going_by legend going) p (data_by legend own))) wanted
behind-step legend going p own gone ascend step wanted says = subst (λ c. Says legend (step c) wanted) (settled-by legend going p own gone ascend) says

perform-by : (legend : Legend) → IsLegend legend → (test : Test) (going : Going) → Ascend going.components → (itself : ComponentId) (asked : Request)
    → Says legend (Some (steps.perform test (going_by legend going) itself (request_by legend asked))) (done.perform going.components going.links going.forgotten itself asked)
perform-by legend is test going ascend itself request.Continues = refl
perform-by legend is test going ascend itself (request.Worsens v) = changed-by legend (kept.with_verdict v) (steps.with_verdict v) (λ x. refl) going itself.path ascend
perform-by legend is test going ascend itself (request.Removes port) =
    changed-by legend (kept.with_queues (kept.without_message port)) (steps.at_queue (legend.names port) steps.without_first)
    (queues-alike legend is port kept.without_first steps.without_first map-less) going itself.path ascend
perform-by legend is test going ascend itself (request.Sends port to v) = send-by legend is going ascend itself port to v
perform-by legend is test going ascend itself (request.Creates new) = create-by legend going new
perform-by legend is test going ascend itself (request.Starts path frame) = start-by legend going ascend path frame
perform-by legend is test going ascend itself (request.Stops path) = stop-by legend test going ascend path
perform-by legend is test going ascend itself (request.Connects d e) = connect-by legend is going d e
perform-by legend is test going ascend itself (request.Maps e system_port) = map-by legend is going e system_port
perform-by legend is test going ascend itself (request.Unmaps e system_port) = unmap-by legend is going e system_port

apply-by : (legend : Legend) → IsLegend legend → (test : Test) (going : Going) → Ascend going.components → (itself : ComponentId) (asked : Act) → IsUncovered (act_by legend asked)
    → Says legend (steps.apply test (going_by legend going) itself (act_by legend asked)) (done.apply going itself asked)
apply-by legend is test going ascend itself asked gone =
    behind-step legend going itself.path asked.own (some-is (uncovered (data_by legend asked.own)) (data_by legend asked.own) gone) ascend
    (λ c. Some (steps.perform test c itself (request_by legend asked.request))) (done.apply going itself asked)
    (perform-by legend is test (settled going itself.path asked.own) (settled-ascends going itself.path asked.own ascend) itself asked.request)

pub applied : (legend : Legend) → IsLegend legend → (test : Test) (going : Going) → HasPathsInOrder going → (itself : ComponentId) (asked : Act) → IsUncovered (act_by legend asked)
    → (result : Result Config Fault) → done.Answers (done.apply going itself asked) result → Leads legend (steps.apply test (going_by legend going) itself (act_by legend asked)) result
applied legend is test going ascend itself asked gone result answers =
    leads-to legend (steps.apply test (going_by legend going) itself (act_by legend asked)) (done.apply going itself asked) result
    (apply-by legend is test going ascend itself asked gone) answers
