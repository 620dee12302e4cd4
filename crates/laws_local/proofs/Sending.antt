-- Where a step leads that sends a message to another component.
use Rattle.std.proofs.Common.{◌≡◌, ℕ, zero, suc, Bool, true, false, ◌||◌, List, [], ◌∷◌, map, Option, Some, None, option_map, refl, sym, ap, subst, ◌∙◌, if◌then◌else◌}
use Rattle.std.specs.List.{All, filter, find, flat_map, list_any}
use Rattle.std.specs.Option.{option_and_then}
use Rattle.std.specs.Prelude.{slice_get}
use Rattle.std.specs.declared.cmp.Ordering.TheVariants.{Less}
use Rattle.std.proofs.lemmas.List.Elements.{All-cons, All-head, All-tail}
use Rattle.std.proofs.lemmas.List.Kept.{AllPairs-cons}
use Rattle.semantics.proofs.LiveSteps.{is_over, path-is}
use Rattle.semantics.proofs.Pairs.{pairs-head, pairs-tail}
use Rattle.ttcn_syntax.specs.declared.tree.statement.Verdict.{Verdict}
use Rattle.semantics.specs.Configurations.{Component, Configuration, Connection, Data, End, Goes, Going, Message, State, component_at, is_running_state, is_terminated_state, path_cmp, path_of, same_end, same_path}
use Rattle.semantics.specs.Entries.{Identifier}
use Rattle.semantics.specs.LiveParts.{live_going, live_part}
use Rattle.semantics.specs.Order.{Ascends}
use Rattle.semantics.specs.Snapshots.{Test, snapshot_of}
use Rattle.semantics.specs.Statements.{Act, Connects, Continues, Creates, Errs, Maps, Removes, Requests, Sends, Starts, Stops, Unmaps, Waits, Worsens, act}
use Rattle.semantics.specs.Steps.{Delivery, Expiry, Label, Statement, addressed, apply, deliver, ending, is_mapped, is_terminated_at, is_terminated_component, next, opposite, peers, send_out, send_to_peer, settle, settled, statement_step, touch, with_data}
use Rattle.semantics.specs.Taking.{uncovered}
use Rattle.semantics.specs.Telling.{Lost, Reaches, Sent, Way, lone, mapped_to, only_peer, request_in, sent_by, sent_of, sent_of_component, way_from, way_mapped, way_out, way_to}
use Rattle.laws_local.proofs.Seeing.{acts-alike}
use Rattle.laws_local.proofs.Stepping.{data-mild, found-list, goes-is, none-some, running-lives, some-is, there-now}
use Rattle.laws_local.proofs.Touching.{IsMild, is-before, same-itself, touch_by_place, touch_lives}
use Rattle.laws_local.specs.Alone.{IsLive, IsOf, IsReceiver, LinkAlike, SendsAlone, becoming, exchanged_at, outside_of, receiving, with_component_at}
use Rattle.value_types.specs.declared.path.Path.{Path}
use Rattle.value_types.specs.declared.value.ComponentId.{ComponentId}
use Rattle.value_types.specs.declared.value.Value.{Value}

-- ---- what is sent

-- a component asks for a message to be sent, and goes on with these data
record AsksToSend (c : Going) (itself : ComponentId) (a : Act) (sent : Sent) : Type 0 where
  port : Identifier
  to : Option Path
  own : Data
  is : a ≡ Requests (Sends port to sent.value) own
  way : way_from c (record { component = itself.path; port = port }) to ≡ Some sent.way

way-is : (from : End) (v : Value) (o : Option Way) (sent : Sent) → option_map (λ way. record { from = Some from; value = v; way = way }) o ≡ Some sent → (v ≡ sent.value) × (o ≡ Some sent.way)
way-is from v None sent is = absurd (none-some is)
way-is from v (Some way) sent is = (ap (λ (s : Sent). s.value) (some-is is), ap (λ (s : Sent). Some s.way) (some-is is))

asks-to-send : (c : Going) (itself : ComponentId) (a : Act) (sent : Sent) → option_and_then (sent_by c itself) (request_in a) ≡ Some sent → AsksToSend c itself a sent
asks-to-send c itself Waits sent is = absurd (none-some is)
asks-to-send c itself (Errs why) sent is = absurd (none-some is)
asks-to-send c itself (Requests Continues own) sent is = absurd (none-some is)
asks-to-send c itself (Requests (Worsens v) own) sent is = absurd (none-some is)
asks-to-send c itself (Requests (Removes port) own) sent is = absurd (none-some is)
asks-to-send c itself (Requests (Sends port to v) own) sent is =
    let told = way-is (record { component = itself.path; port = port }) v (way_from c (record { component = itself.path; port = port }) to) sent is in
    record { port = port; to = to; own = own; is = ap (λ w. Requests (Sends port to w) own) told.0; way = told.1 }
asks-to-send c itself (Requests (Creates new) own) sent is = absurd (none-some is)
asks-to-send c itself (Requests (Starts path frame) own) sent is = absurd (none-some is)
asks-to-send c itself (Requests (Stops path) own) sent is = absurd (none-some is)
asks-to-send c itself (Requests (Connects d e) own) sent is = absurd (none-some is)
asks-to-send c itself (Requests (Maps e q) own) sent is = absurd (none-some is)
asks-to-send c itself (Requests (Unmaps e q) own) sent is = absurd (none-some is)

running-sends : (c : Going) (itself : ComponentId) (runs : Bool) (a : Act) (sent : Sent) → option_and_then (sent_by c itself) (if runs then request_in a else None) ≡ Some sent → (runs ≡ true) × AsksToSend c itself a sent
running-sends c itself true a sent is = (refl, asks-to-send c itself a sent is)
running-sends c itself false a sent is = absurd (none-some is)

-- ---- where it goes

-- from a port a message goes to this one alone, whose component is not terminated
record Goes-to (c : Going) (from : End) (to : Option Path) (e : End) : Type 0 where
  mapped : is_mapped c from ≡ false
  ends : filter (addressed to) (peers c from) ≡ e ∷ []
  alive : is_terminated_at c e.component ≡ false

mapped-first : {A : Type 0} (b : Bool) (m : A) (o : Option A) (any : Bool) → (o ≡ None → any ≡ false) → (if b then Some m else o) ≡ None → (b || any) ≡ false
mapped-first true m o any rest none = absurd (let no = none in cc)
mapped-first false m o any rest none = rest none

not-found : (from : End) (ms : List (Identifier × End)) → find (λ m. same_end from m.1) ms ≡ None → list_any (λ m. same_end from m.1) ms ≡ false
not-found from [] none = refl
not-found from (m ∷ ms) none = mapped-first (same_end from m.1) m (find (λ n. same_end from n.1) ms) (list_any (λ n. same_end from n.1) ms) (not-found from ms) none

map-none : {A B : Type 0} (f : A → B) (o : Option A) → option_map f o ≡ None → o ≡ None
map-none f None none = refl
map-none f (Some a) none = absurd (let no = none in cc)

lone-is : {A : Type 0} (xs : List A) (a : A) → lone xs ≡ Some a → xs ≡ a ∷ []
lone-is [] a is = absurd (none-some is)
lone-is (x ∷ []) a is = ap (λ y. y ∷ []) (some-is is)
lone-is (x ∷ y ∷ ys) a is = absurd (none-some is)

reached : (c : Going) (e f : End) → way_to c e ≡ Reaches f → (e ≡ f) × (is_terminated_at c e.component ≡ false)
reached c e f is = told (is_terminated_at c e.component) refl is
  where
    told : (b : Bool) → is_terminated_at c e.component ≡ b → (if b then Lost e else Reaches e) ≡ Reaches f → (e ≡ f) × (is_terminated_at c e.component ≡ false)
    told true over is = absurd (let no = is in cc)
    told false over is = (let same = is in cc, over)

reached-peer : (c : Going) (o : Option End) (f : End) → option_map (way_to c) o ≡ Some (Reaches f) → (o ≡ Some f) × (is_terminated_at c f.component ≡ false)
reached-peer c None f is = absurd (none-some is)
reached-peer c (Some e) f is =
    let told = reached c e f (some-is is) in
    (ap Some told.0, ap (λ (d : End). is_terminated_at c d.component) (sym told.0) ∙ told.1)

goes-unmapped : (c : Going) (from : End) (to : Option Path) (e : End) (o : Option Identifier) → mapped_to c from ≡ o → way_mapped c from to o ≡ Some (Reaches e) → Goes-to c from to e
goes-unmapped c from to e (Some q) is way = absurd (out to way)
  where
    out : (to : Option Path) → way_out q to ≡ Some (Reaches e) → ⊥
    out None is = let no = is in cc
    out (Some path) is = let no = is in cc
goes-unmapped c from to e None is way =
    let told = reached-peer c (only_peer c from to) e way in
    record {
      mapped = not-found from c.mappings (map-none (λ m. m.0) (find (λ m. same_end from m.1) c.mappings) is);
      ends = lone-is (filter (addressed to) (peers c from)) e told.0;
      alive = told.1;
    }

-- ---- the step

abbrev leads-by : Test → Going → ComponentId → Act → Option Configuration
leads-by test d itself a = option_map settled (apply test d itself a)

send-leads : (test : Test) (c d : Going) (itself : ComponentId) (port : Identifier) (to : Option Path) (v : Value) (own : Data) (e : End) → LinkAlike c d → Goes-to c (record { component = itself.path; port = port }) to e
    → leads-by test d itself (Requests (Sends port to v) own) ≡ Some (Goes (touch (touch d itself.path (with_data own)) e.component (receiving e.port (record { value = v; sender = Some itself }))))
send-leads test c d itself port to v own e link goes =
    ap (λ (b : Bool). option_map settled (Some (ending (if b then send_out (settle d itself.path own) to else send_to_peer (settle d itself.path own) itself port to v))))
    (ap (list_any (λ m. same_end from m.1)) (sym link.mappings) ∙ goes.mapped)
    ∙ ap (λ (es : List End). option_map settled (Some (ending (deliver (settle d itself.path own) (record { value = v; sender = Some itself }) es))))
    (ap (λ (ks : List Connection). filter (addressed to) (flat_map (opposite from) ks)) (sym link.connections) ∙ goes.ends)
  where
    from : End
    from = record { component = itself.path; port = port }

pub step-leads : (test : Test) (d : Going) (y : Component) (path : Path) (a : Act) (e : Configuration) → component_at d (path_of y) ≡ Some y → path ≡ path_of y → is_running_state y.state ≡ true
    → act test (snapshot_of d y) y.own ≡ a → leads-by test d y.itself a ≡ Some e → next test (Goes d) (Statement path) ≡ Some e
step-leads test d y path a e here of runs is leads =
    ap (λ p. next test (Goes d) (Statement p)) of
    ∙ ap (λ o. option_map settled (option_and_then (statement_step test d) o)) here
    ∙ ap (λ b. option_map settled (if b then apply test d y.itself (act test (snapshot_of d y) y.own) else None)) runs
    ∙ ap (leads-by test d y.itself) is
    ∙ leads

-- ---- by places

All-exchanged : {A : Type 0} (P : A → Type 0) (at : ℕ) (z : A) (xs : List A) → P z → All P xs → All P (exchanged_at at z xs)
All-exchanged P at z [] new all = all
All-exchanged P zero z (x ∷ xs) new all = All-cons P z xs new (All-tail P x xs all)
All-exchanged P (suc at) z (x ∷ xs) new all = All-cons P x (exchanged_at at z xs) (All-head P x xs all) (All-exchanged P at z xs new (All-tail P x xs all))

All-at : {A : Type 0} (P : A → Type 0) (at : ℕ) (y : A) (xs : List A) → slice_get xs at ≡ Some y → All P xs → P y
All-at P at y [] found all = absurd (none-some found)
All-at P zero y (x ∷ xs) found all = subst P (some-is found) (All-head P x xs all)
All-at P (suc at) y (x ∷ xs) found all = All-at P at y xs found (All-tail P x xs all)

abbrev InOrder : List Component → Type 0
InOrder xs = Ascends (λ one other. path_cmp (path_of one) (path_of other)) xs

ordered-exchanged : (at : ℕ) (y z : Component) (xs : List Component) → slice_get xs at ≡ Some y → path_of z ≡ path_of y → InOrder xs → InOrder (exchanged_at at z xs)
ordered-exchanged at y z [] found same ordered = ordered
ordered-exchanged zero y z (x ∷ xs) found same ordered =
    AllPairs-cons is-before z xs
    (subst (λ p. All (λ k. path_cmp p (path_of k) ≡ Less) xs) (ap path_of (some-is found) ∙ sym same) (pairs-head is-before x xs ordered))
    (pairs-tail is-before x xs ordered)
ordered-exchanged (suc at) y z (x ∷ xs) found same ordered =
    AllPairs-cons is-before x (exchanged_at at z xs)
    (All-exchanged (is-before x) at z xs (subst (λ p. path_cmp (path_of x) p ≡ Less) (sym same) (All-at (is-before x) at y xs found (pairs-head is-before x xs ordered))) (pairs-head is-before x xs ordered))
    (ordered-exchanged at y z xs found same (pairs-tail is-before x xs ordered))

apart-itself : (y w : Component) → w ≡ y → same_path (path_of w) (path_of y) ≡ false → ⊥
apart-itself y w same apart = let no = sym (same-itself (path_of y)) ∙ ap (λ (k : Component). same_path (path_of k) (path_of y)) (sym same) ∙ apart in cc

get-other : (at to : ℕ) (y w z : Component) (xs : List Component) → slice_get xs at ≡ Some y → slice_get xs to ≡ Some w → same_path (path_of w) (path_of y) ≡ false → slice_get (exchanged_at at z xs) to ≡ Some w
get-other at to y w z [] found other apart = absurd (none-some found)
get-other zero zero y w z (x ∷ xs) found other apart = absurd (apart-itself y w (some-is (sym other ∙ found)) apart)
get-other zero (suc to) y w z (x ∷ xs) found other apart = other
get-other (suc at) zero y w z (x ∷ xs) found other apart = other
get-other (suc at) (suc to) y w z (x ∷ xs) found other apart = get-other at to y w z xs found other apart

outside-at : (at : ℕ) (x y : Component) (xs ys : List Component) → map outside_of xs ≡ map outside_of ys → slice_get xs at ≡ Some x → slice_get ys at ≡ Some y → outside_of x ≡ outside_of y
outside-at at x y [] ys look found other = absurd (none-some found)
outside-at at x y (k ∷ ks) [] look found other = absurd (none-some other)
outside-at zero x y (k ∷ ks) (l ∷ ls) look found other =
    sym (ap outside_of (some-is found)) ∙ (let same = look in let head : outside_of k ≡ outside_of l = cc in head) ∙ ap outside_of (some-is other)
outside-at (suc at) x y (k ∷ ks) (l ∷ ls) look found other = outside-at at x y ks ls (let same = look in let tail : map outside_of ks ≡ map outside_of ls = cc in tail) found other

-- ---- wherever it sees the same

queue-mild : (port : Identifier) (m : Message) → IsMild (receiving port m)
queue-mild port m = record { path = λ x. refl; over = λ x. refl }

over-there : (c : Going) (to : ℕ) (w : Component) (e : End) → IsLive c → slice_get c.components to ≡ Some w → path_of w ≡ e.component → is_terminated_at c e.component ≡ false → is_over w ≡ false
over-there c to w e live there path alive =
    sym (ap is_terminated_component (found-list w to c.components live.ordered there)) ∙ ap (is_terminated_at c) path ∙ alive

sent-alone : (test : Test) (c : Going) (x : Component) (path : Path) (sent : Sent) (e : End) (to : ℕ) (w : Component) → IsLive c → path ≡ path_of x → sent_of_component test c x ≡ Some sent → sent.way ≡ Reaches e → IsReceiver c x to w e
    → (own : Data) × SendsAlone test c x (Statement path) own x.verdict to e.port (record { value = sent.value; sender = Some x.itself })
sent-alone test c x path sent e to w live of is way receiver = (uncovered asks.own, steps)
  where
    told : (is_running_state x.state ≡ true) × AsksToSend c x.itself (act test (snapshot_of c x) x.own) sent
    told = running-sends c x.itself (is_running_state x.state) (act test (snapshot_of c x) x.own) sent is

    asks : AsksToSend c x.itself (act test (snapshot_of c x) x.own) sent
    asks = told.1

    from : End
    from = record { component = x.itself.path; port = asks.port }

    goes : Goes-to c from asks.to e
    goes = goes-unmapped c from asks.to e (mapped_to c from) refl (asks.way ∙ ap Some way)

    m : Message
    m = record { value = sent.value; sender = Some x.itself }

    steps : SendsAlone test c x (Statement path) (uncovered asks.own) x.verdict to e.port m
    steps d y at w' look link see living here there =
        ap (option_map live_part) (step-leads test d y path (Requests (Sends asks.port asks.to sent.value) asks.own) _ (found-list y at d.components living.ordered here) (of ∙ ap (λ (i : ComponentId). i.path) see.itself)
        (ap is_running_state (sym see.state) ∙ told.0) (sym (acts-alike test c d x y look see) ∙ asks.is)
        (ap (λ (i : ComponentId). leads-by test d i (Requests (Sends asks.port asks.to sent.value) asks.own)) (sym see.itself)
        ∙ send-leads test c d x.itself asks.port asks.to sent.value asks.own e link goes))
        ∙ ap (λ (g : Going). Some (Goes g))
        (touch_lives e.component (receiving e.port m) (queue-mild e.port m) (touch d x.itself.path (with_data asks.own)) first-lives
        ∙ ap (λ (g : Going). touch g e.component (receiving e.port m)) by-place
        ∙ ap (λ p. touch behind p (receiving e.port m)) (sym (receiver.path) ∙ same-path)
        ∙ touch_by_place (receiving e.port m) w' to behind (ordered-exchanged at y (with_data asks.own y) d.components here refl living.ordered) there-behind alive)
        ∙ ap (λ (v : Verdict). Some (Goes (with_component_at to (receiving e.port m w') (with_component_at at (becoming (uncovered asks.own) v None y) d)))) (sym see.verdict)
      where
        behind : Going
        behind = with_component_at at (with_data asks.own y) d

        first-lives : live_going (touch d x.itself.path (with_data asks.own)) ≡ touch d x.itself.path (with_data asks.own)
        first-lives = touch_lives x.itself.path (with_data asks.own) (data-mild asks.own) d living.live

        by-place : touch d x.itself.path (with_data asks.own) ≡ behind
        by-place = ap (λ (i : ComponentId). touch d i.path (with_data asks.own)) see.itself
            ∙ touch_by_place (with_data asks.own) y at d living.ordered here (running-lives y.state (ap is_running_state (sym see.state) ∙ told.0))

        same : outside_of w ≡ outside_of w'
        same = outside-at to w w' c.components d.components look receiver.there there

        same-path : path_of w ≡ path_of w'
        same-path = ap (λ (o : ComponentId × State). o.0.path) same

        alive : is_over w' ≡ false
        alive = ap (λ (o : ComponentId × State). is_terminated_state o.1) (sym same) ∙ over-there c to w e live receiver.there receiver.path goes.alive

        there-behind : slice_get behind.components to ≡ Some w'
        there-behind = get-other at to y w' (with_data asks.own y) d.components here there
            (ap (λ p. same_path p (path_of y)) (sym same-path) ∙ ap (λ (i : ComponentId). same_path (path_of w) i.path) (sym see.itself) ∙ receiver.apart)

turned-apart : (p q : Path) (same : Bool) → same_path p q ≡ false → same_path q p ≡ same → same ≡ false
turned-apart p q false apart is = refl
turned-apart p q true apart is = absurd (let no = sym (same-itself p) ∙ ap (same_path p) (sym (path-is q p is)) ∙ apart in cc)

-- what a step that sends a message makes of the sender's data it makes wherever the sender sees the same
pub send_alone : (test : Test) (c : Going) (x : Component) (at : ℕ) (label : Label) (sent : Sent) (to : ℕ) (w : Component) (e : End) (behind : Going) (z : Component) → IsLive c → slice_get c.components at ≡ Some x → IsOf x label
    → sent_of test (Goes c) label ≡ Some sent → sent.way ≡ Reaches e → IsReceiver c x to w e → option_map live_part (next test (Goes c) label) ≡ Some (Goes behind) → slice_get behind.components at ≡ Some z
    → SendsAlone test c x label z.own z.verdict to e.port (record { value = sent.value; sender = Some x.itself })
send_alone test c x at (Statement path) sent to w e behind z live here of is way receiver leads there =
    subst (λ (k : Component). SendsAlone test c x (Statement path) k.own k.verdict to e.port m) (sym found) found-alone.1
  where
    m : Message
    m = record { value = sent.value; sender = Some x.itself }

    found-alone : (own : Data) × SendsAlone test c x (Statement path) own x.verdict to e.port m
    found-alone = sent-alone test c x path sent e to w live of
        (sym (ap (option_and_then (sent_of_component test c)) (ap (component_at c) of ∙ found-list x at c.components live.ordered here)) ∙ is) way receiver

    changed : Component
    changed = becoming found-alone.0 x.verdict None x

    both : behind ≡ with_component_at to (receiving e.port m w) (with_component_at at changed c)
    both = goes-is (some-is (sym leads ∙ found-alone.1 c x at w refl (record { connections = refl; mappings = refl }) (record { itself = refl; own = refl; state = refl; verdict = refl; fronts = refl }) live here receiver.there))

    found : z ≡ changed
    found = some-is (sym there ∙ ap (λ (g : Going). slice_get g.components at) both
        ∙ get-other to at w changed (receiving e.port m w) (exchanged_at at changed c.components)
        (get-other at to x w changed c.components here receiver.there receiver.apart) (there-now at changed c.components x here)
        (turned-apart (path_of w) (path_of x) (same_path (path_of x) (path_of w)) receiver.apart refl))
send_alone test c x at (Expiry path number name) sent to w e behind z live here of is way receiver leads there = absurd (none-some is)
send_alone test c x at (Delivery system_port) sent to w e behind z live here of is way receiver leads there = absurd of
