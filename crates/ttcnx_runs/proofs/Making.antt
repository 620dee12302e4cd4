-- What is made of a step is true wherever the component sees the same.
use Rattle.std.proofs.Common.{◌≡◌, ℕ, zero, suc, Bool, true, false, ◌+◌, ◌<◌, ◌≤◌, cond, List, [], ◌∷◌, ◌++◌, get_or, length, map, take, Option, Some, None, option_map, refl, sym, ap, subst, ◌∙◌}
use Rattle.std.specs.List.{All, filter}
use Rattle.std.proofs.lemmas.List.{append-nil, map-append, take_all, take_more}
use Rattle.std.proofs.lemmas.List.Elements.{All-head, All-tail, filter-append}
use Rattle.std.specs.Option.{option_and_then}
use Rattle.std.specs.Prelude.{IfSome, slice_get}
use Rattle.ttcn_syntax.specs.declared.tree.statement.Verdict.{Verdict}
use Rattle.config_packed.proofs.Keys.{keys-tell}
use Rattle.config_packed.specs.Pieces.{AreJoined, SeeTheSame, changed_going, joined_going, with_verdict_and_own}
use Rattle.config_packed.specs.Spelling.{name_of}
use Rattle.config_parts.specs.Legend.{IsLegend, Legend, component_by, data_by, end_by, going_by, message_by}
use Rattle.config_parts.specs.Views.{Extent, IsConfigWithin, IsGoingWithin, IsWithin}
use Rattle.config_parts.proofs.Touching.{path-is}
use Rattle.config_parts.specs.declared.component.Component.{Component}
use Rattle.config_parts.specs.declared.component.State.{State}
use Rattle.config_parts.specs.declared.config.Config.{Config}
use Rattle.config_parts.specs.declared.config.Config.TheVariants as config
use Rattle.config_parts.specs.declared.config.Going.{Going}
use Rattle.config_parts.specs.declared.connection.End.{End}
use Rattle.config_parts.specs.declared.way.Way.TheVariants as way
use Rattle.config_parts.specs.Ways.{way_by}
use Rattle.config_parts.specs.declared.frame.Data.{Data}
use Rattle.laws_local.proofs.Ending.{end_alone, end_itself}
use Rattle.laws_local.proofs.Grouping.{labels_by_path}
use Rattle.laws_local.proofs.Seeing.{branches_alike, labels_alike}
use Rattle.laws_local.proofs.Sending.{send_alone}
use Rattle.laws_local.proofs.Stepping.{found-list, step_alone, there-now}
use Rattle.laws_local.proofs.Telling.{places_alike, sent_alike}
use Rattle.laws_local.proofs.Touching.{same-itself}
use Rattle.laws_local.specs.Alone.{IsLive, IsOf, SendsAlone, StepsAlone, becoming, ends_itself, exchanged_at, is_of_path, is_own_request, is_stop_of, joined_with, receiving, removed_at, removed_by, steps_alone, with_component_at}
use Rattle.semantics.specs.Canonical.{canonical_graph}
use Rattle.semantics.specs.Configurations as rules
use Rattle.semantics.specs.Labels.{labels, labels_of_component}
use Rattle.semantics.specs.LiveParts.{husk, live_part}
use Rattle.semantics.specs.Places.{branch_in, branch_of, branch_of_component, place_of}
use Rattle.semantics.specs.Runs.{option_elim}
use Rattle.semantics.specs.Snapshots.{Test}
use Rattle.semantics.specs.Statements.{Request}
use Rattle.semantics.specs.Steps.{Delivery, Expiry, Label, Statement, next}
use Rattle.semantics.specs.Telling.{place_of_step, request_of, request_of_component, sent_of, sent_of_component}
use Rattle.ttcn_step.specs.Machines.{Machine, extent, legend, said}
use Rattle.ttcn_step.specs.Telling.{sent_by}
use Rattle.ttcn_step.specs.declared.telling.Sent as telling
use Rattle.ttcnx_runs.proofs.SeenAlike.{all-alike, are-joined, changed-other, changed-said, joined-said, link-alike, look-alike, other-there, same-name, see-alike, sender_changed, sent-said, some-said}
use Rattle.ttcnx_runs.specs.internal.Makes.{EndsThere, Holds, IsAlone, IsEnding, IsFit, IsHere, IsMade, IsMadeOf, IsPlaced, IsRemoved, IsSending, IsSent, LeadsTo}
use Rattle.ttcnx_runs.specs.Remembered.{CanJoin, joined_config, led_to, place_at, sent_going, without_front}
use Rattle.ttcnx_runs.specs.Sights.{either_of, is_lost, step_place}
use Rattle.ttcnx_runs.specs.declared.outcome.Effect.TheVariants as effect
use Rattle.ttcnx_runs.specs.declared.outcome.Outcome.{Outcome}
use Rattle.ttcnx_runs.specs.declared.outcome.Sending.{Sending}
use Rattle.ttcnx_runs.specs.declared.step_place.StepPlace.{StepPlace}
use Rattle.value_types.specs.declared.path.Path.{Path}
use Rattle.value_types.specs.declared.value.ComponentId.{ComponentId}

some-is : {A : Type 0} {a b : A} → Some a ≡ Some b → a ≡ b
some-is e = cc

pub get-map : {A B : Type 0} (f : A → B) (xs : List A) (at : ℕ) (x : A) → slice_get xs at ≡ Some x → slice_get (map f xs) at ≡ Some (f x)
get-map f [] at x found = absurd (let no = found in cc)
get-map f (y ∷ ys) zero x found = ap (λ z. Some (f z)) (some-is found)
get-map f (y ∷ ys) (suc at) x found = get-map f ys at x found

-- where a label leads by its step
pub after-is : (test : Test) (c : rules.Configuration) (label : Label) (e : rules.Configuration) → option_map live_part (next test c label) ≡ Some e → (canonical_graph test).after c label ≡ e
after-is test c label e is = told (next test c label) is
  where
    told : (o : Option rules.Configuration) → option_map live_part o ≡ Some e → live_part (option_elim c (λ d. d) o) ≡ e
    told None is = absurd (let no = is in cc)
    told (Some d) is = let found = is in cc

-- ---- what some value is told of

pub told-of : {A : Type 0} (P : A → Type 0) (o : Option A) (a : A) → o ≡ Some a → IfSome o P → P a
told-of {A = A} P o a is told = subst (λ (x : Option A). IfSome x P) is told

pub if-some : {A : Type 0} (o : Option A) (P Q : A → Type 0) → IfSome o P → ((a : A) → P a → Q a) → IfSome o Q
if-some None P Q told so = tt
if-some (Some a) P Q told so = so a told

-- what a component of a configuration has of its own is within what the configuration is within
pub all-found : {A : Type 0} (P : A → Type 0) (xs : List A) (at : ℕ) (x : A) → slice_get xs at ≡ Some x → All P xs → P x
all-found P [] at x found all = absurd (let no = found in cc)
all-found P (y ∷ ys) zero x found all = subst P (some-is found) (All-head P y ys all)
all-found P (y ∷ ys) (suc at) x found all = all-found P ys at x found (All-tail P y ys all)

pub own-within : (size : Extent) (whole : Config) (going : Going) (at : ℕ) (c : Component) (own : Verdict × Data) → whole ≡ config.Going going → slice_get going.components at ≡ Some c → own ≡ (c.verdict, c.own)
    → IsConfigWithin size whole → IsWithin size own.1
own-within size whole going at c own is found own-is within =
    let inside : IsGoingWithin size going = subst (IsConfigWithin size) is within in
    subst (λ (o : Verdict × Data). IsWithin size o.1) (sym own-is) (all-found (λ (x : Component). IsWithin size x.own) going.components at c found inside.components)

-- ---- labels of a component

of-component : (x : rules.Component) (label : Label) → is_of_path (rules.path_of x) label ≡ true → IsOf x label
of-component x (Statement path) same = path-is path (rules.path_of x) same
of-component x (Expiry path number name) same = path-is path (rules.path_of x) same
of-component x (Delivery system_port) same = absurd (let no = same in cc)

-- a component is what a label is of, where the label is of its path
pub here-of : (machine : Machine) (configuration : Config) (going : Going) (at : ℕ) (c : Component) (label : Label) (path : Path) (is-of : Bool) → configuration ≡ config.Going going → IsLive (going_by (legend machine) going)
    → slice_get going.components at ≡ Some c → path ≡ c.itself.path → is-of ≡ is_of_path path label → is-of ≡ true → IsHere machine configuration going at c label
here-of machine configuration going at c label path is-of is live here of told known =
    record { is = is; live = live; here = here; of = of-component (component_by (legend machine) c) label (ap (λ (p : Path). is_of_path p label) (sym of) ∙ sym told ∙ known) }

-- one more step, which is shown where it is of a kind
module _ {S R : Type 0} (label : S → Label) (p : Label → Bool) (step : Label → R) (shows : Outcome → R) (steps : List S) (k : ℕ) (s : S) (below : k < length steps) (is : s ≡ get_or steps k s) where
  longer : filter p (map label (take (k + 1) steps)) ≡ filter p (map label (take k steps)) ++ filter p (label s ∷ [])
  longer =
      ap (λ l. filter p (map label l)) (take_more steps k s below)
      ∙ ap (λ x. filter p (map label (take k steps ++ x ∷ []))) (sym is)
      ∙ ap (filter p) (map-append label (take k steps) (s ∷ []))
      ∙ filter-append p (map label (take k steps)) (label s ∷ [])

  only : p (label s) ≡ true → filter p (label s ∷ []) ≡ label s ∷ []
  only yes-is = ap (λ (b : Bool). cond b (label s ∷ []) []) yes-is

  nothing : p (label s) ≡ false → filter p (label s ∷ []) ≡ []
  nothing no-is = ap (λ (b : Bool). cond b (label s ∷ []) []) no-is

  pub one-more : (old new : List Outcome) (o : Outcome) (fits : Bool) → new ≡ old ++ o ∷ [] → fits ≡ p (label s) → fits ≡ true → shows o ≡ step (label s) → map shows old ≡ map step (filter p (map label (take k steps)))
      → map shows new ≡ map step (filter p (map label (take (k + 1) steps)))
  one-more old new o fits new-is told known made before =
      ap (map shows) new-is ∙ map-append shows old (o ∷ [])
      ∙ (λ i. before i ++ made i ∷ [])
      ∙ sym (map-append step (filter p (map label (take k steps))) (label s ∷ []))
      ∙ ap (map step) (sym (longer ∙ ap (λ l. filter p (map label (take k steps)) ++ l) (only (sym told ∙ known))))

  pub none-more : (old new : List Outcome) (fits : Bool) → new ≡ old → fits ≡ p (label s) → fits ≡ false → map shows old ≡ map step (filter p (map label (take k steps)))
      → map shows new ≡ map step (filter p (map label (take (k + 1) steps)))
  none-more old new fits new-is told known before =
      ap (map shows) new-is ∙ before
      ∙ ap (map step) (sym (longer ∙ ap (λ l. filter p (map label (take k steps)) ++ l) (nothing (sym told ∙ known)) ∙ append-nil (filter p (map label (take k steps)))))

-- all steps, where none is left
pub all-steps : {S R : Type 0} (label : S → Label) (p : Label → Bool) (step : Label → R) (shows : Outcome → R) (steps : List S) (k : ℕ) (outcomes : List Outcome) → length steps ≤ k
    → map shows outcomes ≡ map step (filter p (map label (take k steps))) → map shows outcomes ≡ map step (filter p (map label steps))
all-steps label p step shows steps k outcomes past before = before ∙ ap (λ l. map step (filter p (map label l))) (take_all k steps past)

-- what a statement asks for tells whether its step changes its component alone
pub alone-by : (machine : Machine) (state : rules.Configuration) (label : Label) (path : Path) (request : Option Request) (found : Option (Option ℕ)) → label ≡ Statement path
    → request ≡ request_of machine.test state label → IfSome found (IsRemoved (legend machine) request) → IfSome found (IsAlone machine state label)
alone-by machine state label path request None is told removed = tt
alone-by machine state label path request (Some port) is told removed = λ c x stands there of.
    let here : path ≡ rules.path_of x = subst (IsOf x) is of in
    let requested : request ≡ request_of_component machine.test c x =
    told ∙ ap (λ (s : rules.Configuration). request_of machine.test s label) stands ∙ ap (request_of machine.test (rules.Goes c)) is
    ∙ ap (λ (p : Path). request_of machine.test (rules.Goes c) (Statement p)) here ∙ ap (option_and_then (request_of_component machine.test c)) there in (
      ap (steps_alone machine.test c x) is ∙ ap (option_elim false is_own_request) (sym requested) ∙ removed.0,
      removed.1 ∙ ap removed_by requested ∙ ap (removed_at machine.test c x) (sym is),
    )

going-is : {a b : Going} → config.Going a ≡ config.Going b → a ≡ b
going-is e = cc

-- what a step sends to another component, as the code finds it
pub sent-is : (machine : Machine) (configuration : Config) (whole : Going) (at : ℕ) (label : Label) (o : Option telling.Sent) (sent : telling.Sent) (port : End) → configuration ≡ config.Going whole
    → option_map (sent_by (legend machine)) o ≡ sent_of machine.test (said machine configuration) label → o ≡ Some sent → sent.way ≡ way.Reaches port
    → (sending : Sending) → IsSending whole.components at sent.value port sending
    → (going : Going) (c : Component) → IsHere machine configuration going at c label → IsSent machine going c label sending
sent-is machine configuration whole at label o sent port whole-is told o-is way-is sending sends going c here =
    let l : Legend = legend machine in
    let same : whole ≡ going = going-is (sym whole-is ∙ here.is) in
    let is : IsSending going.components at sent.value port sending = subst (λ (g : Going). IsSending g.components at sent.value port sending) same sends in
    let sender : is.sender ≡ c = some-is (sym is.here ∙ here.here) in
    record {
      sent = sent_by l sent;
      is = ap (λ (s : Config). sent_of machine.test (said machine s) label) (sym here.is) ∙ sym told ∙ ap (option_map (sent_by l)) o-is;
      port = end_by l port;
      way = ap (way_by l) way-is;
      receiver = is.receiver;
      there = is.there;
      path = is.path;
      apart = ap (λ (k : Component). rules.same_path is.receiver.itself.path k.itself.path) (sym sender) ∙ is.apart;
      named = ap l.names is.named;
      message = ap message_by is.message ∙ ap (λ (k : Component). record { value = sent.value; sender = Some k.itself }) sender;
    }

abbrev same-name-of : Component → Component → Type 0
same-name-of c d = name_of c ≡ name_of d

-- what a statement asks for tells whether its step ends its component
pub ends-by : (machine : Machine) (state : rules.Configuration) (label : Label) (path : Path) (request : Option Request) → label ≡ Statement path
    → request ≡ request_of machine.test state label → IsEnding path request → EndsThere machine state label
ends-by machine state label path request is told ends c x stands there of =
    let here : path ≡ rules.path_of x = subst (IsOf x) is of in
    let requested : request ≡ request_of_component machine.test c x =
    told ∙ ap (λ (s : rules.Configuration). request_of machine.test s label) stands ∙ ap (request_of machine.test (rules.Goes c)) is
    ∙ ap (λ (p : Path). request_of machine.test (rules.Goes c) (Statement p)) here ∙ ap (option_and_then (request_of_component machine.test c)) there in
    ap (ends_itself machine.test c x) is
    ∙ ap (λ (p : Path). option_elim false (is_stop_of p) (request_of_component machine.test c x)) (sym here)
    ∙ ap (option_elim false (is_stop_of path)) (sym requested) ∙ ends

module _ (machine : Machine) where
  component-found : (going : Going) (at : ℕ) (c : Component) → IsLive (going_by (legend machine) going) → slice_get going.components at ≡ Some c
      → rules.component_at (going_by (legend machine) going) (rules.path_of (component_by (legend machine) c)) ≡ Some (component_by (legend machine) c)
  component-found going at c live here =
      found-list (component_by (legend machine) c) at (map (component_by (legend machine)) going.components) live.ordered (get-map (component_by (legend machine)) going.components at c here)

  -- ---- a component alone

  alone-somewhere : IsLegend (legend machine) → (going : Going) (at : ℕ) (c : Component) (label : Label) (behind : Going) (z : Component) (removed : Option ℕ)
      → IsLive (going_by (legend machine) going) → slice_get going.components at ≡ Some c → IsOf (component_by (legend machine) c) label
      → option_map live_part (next machine.test (rules.Goes (going_by (legend machine) going)) label) ≡ Some (rules.Goes (going_by (legend machine) behind)) → slice_get behind.components at ≡ Some z
      → steps_alone machine.test (going_by (legend machine) going) (component_by (legend machine) c) label ≡ true
      → option_map (legend machine).names removed ≡ removed_at machine.test (going_by (legend machine) going) (component_by (legend machine) c) label
      → Holds machine going at c (λ g i d. option_map live_part (next machine.test (rules.Goes (going_by (legend machine) g)) label)
      ≡ Some (rules.Goes (going_by (legend machine) (changed_going g i z.verdict z.own i (without_front removed d.queues)))))
  alone-somewhere is-legend going at c label behind z removed live here of leads there alone gone g i d living found key =
      let l : Legend = legend machine in
      let see : SeeTheSame going g at i c d = keys-tell going g at i c d key in
      let steps : StepsAlone machine.test (going_by l going) (component_by l c) label (data_by l z.own) z.verdict (removed_at machine.test (going_by l going) (component_by l c) label) =
      step_alone machine.test (going_by l going) (component_by l c) at label (going_by l behind) (component_by l z) live (get-map (component_by l) going.components at c here) of alone leads
      (get-map (component_by l) behind.components at z there) in
      steps (going_by l g) (component_by l d) i (look-alike l going g see.outline) (see-alike l going g at i c d see here found) living (get-map (component_by l) g.components i d found)
      ∙ ap (λ (r : Option (List ℕ)). Some (rules.Goes (with_component_at i (becoming (data_by l z.own) z.verdict r (component_by l d)) (going_by l g)))) (sym gone)
      ∙ ap (λ (e : rules.Going). Some (rules.Goes e)) (sym (changed-said l is-legend g i d z.verdict z.own removed found))

  pub made-alone : IsLegend (legend machine) → (configuration : Config) (going : Going) (at : ℕ) (c : Component) (label : Label) → IsHere machine configuration going at c label
      → (after : Config) (behind : Going) (z : Component) → after ≡ config.Going behind → slice_get behind.components at ≡ Some z → LeadsTo machine configuration label (said machine after)
      → (removed : Option ℕ) → IsAlone machine (said machine configuration) label removed → (own : Verdict × Data) → own ≡ (z.verdict, z.own)
      → IsMade machine going at c label (effect.Alone own removed)
  made-alone is-legend configuration going at c label here after behind z behind-is there leads removed alone own own-is g i d living found key =
      let l : Legend = legend machine in
      let stands : said machine configuration ≡ rules.Goes (going_by l going) = ap (said machine) here.is in
      let wanted = alone (going_by l going) (component_by l c) stands (component-found going at c here.live here.here) here.of in
      let moves : option_map live_part (next machine.test (rules.Goes (going_by l going)) label) ≡ Some (rules.Goes (going_by l behind)) =
      ap (λ (s : rules.Configuration). option_map live_part (next machine.test s label)) (sym stands) ∙ leads ∙ ap (λ (e : Config). Some (said machine e)) behind-is in
      ap (λ (o : Verdict × Data). led_to machine g i d (effect.Alone o removed)) own-is
      ∙ sym (after-is machine.test (rules.Goes (going_by l g)) label _ (alone-somewhere is-legend going at c label behind z removed here.live here.here here.of moves there wanted.0 wanted.1 g i d living found key))

  -- ---- a message for another component

  apart-places : (going : Going) (at : ℕ) (c : Component) (to : ℕ) (w : Component) → slice_get going.components at ≡ Some c → slice_get going.components to ≡ Some w
      → rules.same_path w.itself.path c.itself.path ≡ false → at ≡ to → ⊥
  apart-places going at c to w here there apart same =
      let one : w ≡ c = some-is (sym there ∙ ap (slice_get going.components) (sym same) ∙ here) in
      let no = sym (same-itself c.itself.path) ∙ ap (λ (k : Component). rules.same_path k.itself.path c.itself.path) (sym one) ∙ apart in cc

  sent-somewhere : IsLegend (legend machine) → (going : Going) (at : ℕ) (c : Component) (label : Label) (behind : Going) (z : Component) (sending : Sending)
      → IsLive (going_by (legend machine) going) → slice_get going.components at ≡ Some c → IsOf (component_by (legend machine) c) label
      → option_map live_part (next machine.test (rules.Goes (going_by (legend machine) going)) label) ≡ Some (rules.Goes (going_by (legend machine) behind)) → slice_get behind.components at ≡ Some z
      → IsSent machine going c label sending
      → Holds machine going at c (λ g i d. option_map live_part (next machine.test (rules.Goes (going_by (legend machine) g)) label)
      ≡ Some (rules.Goes (going_by (legend machine) (sent_going g i (z.verdict, z.own) sending))))
  sent-somewhere is-legend going at c label behind z sending live here of leads there sends g i d living found key =
      let l : Legend = legend machine in
      let see : SeeTheSame going g at i c d = keys-tell going g at i c d key in
      let own : Verdict × Data = (z.verdict, z.own) in
      let steps : SendsAlone machine.test (going_by l going) (component_by l c) label (data_by l z.own) z.verdict sending.to sends.port.port (record { value = sends.sent.value; sender = Some c.itself }) =
      send_alone machine.test (going_by l going) (component_by l c) at label sends.sent sending.to (component_by l sends.receiver) sends.port (going_by l behind) (component_by l z) live
      (get-map (component_by l) going.components at c here) of sends.is sends.way
      (record { there = get-map (component_by l) going.components sending.to sends.receiver sends.there; path = sends.path; apart = sends.apart }) leads (get-map (component_by l) behind.components at z there) in
      let other = other-there going g sending.to sends.receiver see.outline sends.there in
      let w : Component = other.0 in
      let name : same-name-of w sends.receiver = other.2 in
      let sender : same-name-of c d = same-name going g at i c d see here found in
      let apart : rules.same_path w.itself.path d.itself.path ≡ false =
      ap (λ (n : ComponentId × State). rules.same_path n.0.path d.itself.path) name
      ∙ ap (λ (n : ComponentId × State). rules.same_path sends.receiver.itself.path n.0.path) (sym sender) ∙ sends.apart in
      let receives : slice_get (sender_changed g i own) sending.to ≡ Some w =
      changed-other g.components i sending.to (with_verdict_and_own z.verdict z.own) (apart-places g i d sending.to w found other.1 apart) ∙ other.1 in
      steps (going_by l g) (component_by l d) i (component_by l w) (look-alike l going g see.outline) (link-alike l going g see.outline) (see-alike l going g at i c d see here found) living
      (get-map (component_by l) g.components i d found) (get-map (component_by l) g.components sending.to w other.1)
      ∙ (λ j. Some (rules.Goes (with_component_at sending.to (receiving (sym sends.named j) (sym sends.message j) (component_by l w)) (with_component_at i (becoming (data_by l z.own) z.verdict None (component_by l d)) (going_by l g)))))
      ∙ ap (λ (e : rules.Going). Some (rules.Goes e)) (sym (sent-said l is-legend g i d own sending w found receives))

  pub made-sending : IsLegend (legend machine) → (configuration : Config) (going : Going) (at : ℕ) (c : Component) (label : Label) → IsHere machine configuration going at c label
      → (after : Config) (behind : Going) (z : Component) → after ≡ config.Going behind → slice_get behind.components at ≡ Some z → LeadsTo machine configuration label (said machine after)
      → (sending : Sending) → IsSent machine going c label sending → (own : Verdict × Data) → own ≡ (z.verdict, z.own)
      → IsMade machine going at c label (effect.Sends own sending)
  made-sending is-legend configuration going at c label here after behind z behind-is there leads sending sends own own-is g i d living found key =
      let l : Legend = legend machine in
      let stands : said machine configuration ≡ rules.Goes (going_by l going) = ap (said machine) here.is in
      let moves : option_map live_part (next machine.test (rules.Goes (going_by l going)) label) ≡ Some (rules.Goes (going_by l behind)) =
      ap (λ (s : rules.Configuration). option_map live_part (next machine.test s label)) (sym stands) ∙ leads ∙ ap (λ (e : Config). Some (said machine e)) behind-is in
      ap (λ (o : Verdict × Data). led_to machine g i d (effect.Sends o sending)) own-is
      ∙ sym (after-is machine.test (rules.Goes (going_by l g)) label _ (sent-somewhere is-legend going at c label behind z sending here.live here.here here.of moves there sends g i d living found key))

  -- ---- a component that ends

  ended-is : (going : Going) (at : ℕ) (c : Component) (label : Label) (other : Going) → IsLive (going_by (legend machine) going) → slice_get going.components at ≡ Some c → IsOf (component_by (legend machine) c) label
      → ends_itself machine.test (going_by (legend machine) going) (component_by (legend machine) c) label ≡ true
      → option_map live_part (next machine.test (rules.Goes (going_by (legend machine) going)) label) ≡ Some (rules.Goes (going_by (legend machine) other))
      → (z : Component) × (slice_get other.components at ≡ Some z) × (component_by (legend machine) z ≡ husk c.itself.path)
  ended-is going at c label other live here of ends leads =
      let l : Legend = legend machine in
      some-said l other.components at (husk c.itself.path)
      (ap (λ (e : rules.Going). slice_get e.components at) (end_itself machine.test (going_by l going) (component_by l c) at label (going_by l other) live (get-map (component_by l) going.components at c here) of ends leads)
      ∙ there-now at (husk c.itself.path) (going_by l going).components (component_by l c) (get-map (component_by l) going.components at c here))

  ended-somewhere : (going : Going) (at : ℕ) (c : Component) (label : Label) (other : Going) → IsLive (going_by (legend machine) going) → slice_get going.components at ≡ Some c → IsOf (component_by (legend machine) c) label
      → ends_itself machine.test (going_by (legend machine) going) (component_by (legend machine) c) label ≡ true
      → option_map live_part (next machine.test (rules.Goes (going_by (legend machine) going)) label) ≡ Some (rules.Goes (going_by (legend machine) other))
      → Holds machine going at c (λ g i d. (option_map live_part (next machine.test (rules.Goes (going_by (legend machine) g)) label) ≡ Some (rules.Goes (going_by (legend machine) (joined_going g i other)))) × AreJoined g i other)
  ended-somewhere going at c label other live here of ends leads g i d living found key =
      let l : Legend = legend machine in
      let see : SeeTheSame going g at i c d = keys-tell going g at i c d key in
      let z = ended-is going at c label other live here of ends leads in
      let there : slice_get g.components at ≡ Some d = subst (λ (k : ℕ). slice_get g.components k ≡ Some d) (sym see.place) found in
      subst (λ (k : ℕ). (option_map live_part (next machine.test (rules.Goes (going_by l g)) label) ≡ Some (rules.Goes (going_by l (joined_going g k other)))) × AreJoined g k other) see.place (
        end_alone machine.test (going_by l going) (component_by l c) at label (going_by l other) live (get-map (component_by l) going.components at c here) of ends leads
            (going_by l g) (component_by l d) (look-alike l going g see.outline) (all-alike l going g see.outline) (see-alike l going g at i c d see here found) living (get-map (component_by l) g.components at d there)
            ∙ ap (λ (k : rules.Component). Some (rules.Goes (joined_with at k (going_by l other) (going_by l g)))) (sym z.2)
            ∙ ap (λ (e : rules.Going). Some (rules.Goes e)) (sym (joined-said l g at other z.0 z.1)),
        are-joined l going g at other z.0 see.outline z.1
            (ap (λ (e : rules.Going). e.components) (end_itself machine.test (going_by l going) (component_by l c) at label (going_by l other) live (get-map (component_by l) going.components at c here) of ends leads)
            ∙ ap (λ (k : rules.Component). exchanged_at at k (going_by l going).components) (sym z.2)),
      )

  -- a step that ends a component, from a configuration to another one
  pub record IsEnded (configuration : Config) (going : Going) (at : ℕ) (c : Component) (label : Label) (other : Going) : Type 0 where
    pub here : IsHere machine configuration going at c label
    pub ends : EndsThere machine (said machine configuration) label
    pub leads : LeadsTo machine configuration label (said machine (config.Going other))

  ended-steps : (configuration : Config) (going : Going) (at : ℕ) (c : Component) (label : Label) (other : Going) → IsEnded configuration going at c label other
      → Holds machine going at c (λ g i d. (option_map live_part (next machine.test (rules.Goes (going_by (legend machine) g)) label) ≡ Some (rules.Goes (going_by (legend machine) (joined_going g i other)))) × AreJoined g i other)
  ended-steps configuration going at c label other is =
      let l : Legend = legend machine in
      let stands : said machine configuration ≡ rules.Goes (going_by l going) = ap (said machine) is.here.is in
      ended-somewhere going at c label other is.here.live is.here.here is.here.of
      (is.ends (going_by l going) (component_by l c) stands (component-found going at c is.here.live is.here.here) is.here.of)
      (ap (λ (s : rules.Configuration). option_map live_part (next machine.test s label)) (sym stands) ∙ is.leads)

  pub made-ended : (configuration : Config) (going : Going) (at : ℕ) (c : Component) (label : Label) (other : Going) → IsEnded configuration going at c label other
      → (behind : Config) → behind ≡ config.Going other → IsMade machine going at c label (effect.Ends behind)
  made-ended configuration going at c label other is behind behind-is g i d living found key =
      ap (λ (b : Config). said machine (joined_config g i b)) behind-is
      ∙ sym (after-is machine.test (rules.Goes (going_by (legend machine) g)) label _ (ended-steps configuration going at c label other is g i d living found key).0)

  pub fit-ended : (configuration : Config) (going : Going) (at : ℕ) (c : Component) (label : Label) (other : Going) → IsEnded configuration going at c label other
      → (behind : Config) → behind ≡ config.Going other → IsGoingWithin (extent machine) other → IsFit machine going at c (effect.Ends behind)
  fit-ended configuration going at c label other is behind behind-is within g i d living found key =
      subst (CanJoin machine g i) (sym behind-is) ((ended-steps configuration going at c label other is g i d living found key).1, within)

  -- ---- branches

  branch-found : (going : Going) (at : ℕ) (c : Component) (label : Label) → IsLive (going_by (legend machine) going) → slice_get going.components at ≡ Some c → IsOf (component_by (legend machine) c) label
      → (g : Going) (i : ℕ) (d : Component) → IsLive (going_by (legend machine) g) → slice_get g.components i ≡ Some d → SeeTheSame going g at i c d
      → branch_of machine.test (rules.Goes (going_by (legend machine) going)) label ≡ branch_of machine.test (rules.Goes (going_by (legend machine) g)) label
  branch-found going at c (Statement path) live here of g i d living found see =
      let l : Legend = legend machine in
      ap (λ p. branch_in machine.test (going_by l going) (Statement p)) of
      ∙ ap (option_and_then (branch_of_component machine.test (going_by l going))) (component-found going at c live here)
      ∙ branches_alike machine.test (going_by l going) (going_by l g) (component_by l c) (component_by l d) (look-alike l going g see.outline) (see-alike l going g at i c d see here found)
      ∙ sym (ap (option_and_then (branch_of_component machine.test (going_by l g))) (component-found g i d living found))
      ∙ ap (λ p. branch_in machine.test (going_by l g) (Statement p))
      (sym (of ∙ ap (λ id. id.path) (see-alike l going g at i c d see here found).itself))
  branch-found going at c (Expiry path number name) live here of g i d living found see = refl
  branch-found going at c (Delivery system_port) live here of g i d living found see = absurd of

  pub made-of : (configuration : Config) (going : Going) (at : ℕ) (c : Component) (label : Label) → IsHere machine configuration going at c label
      → (outcome : Outcome) → outcome.branch ≡ branch_of machine.test (said machine configuration) label → IsMade machine going at c label outcome.effect → IsMadeOf machine going at c label outcome
  made-of configuration going at c label here outcome branch made g i d living found key =
      let taken : outcome.branch ≡ branch_of machine.test (rules.Goes (going_by (legend machine) g)) label =
      branch ∙ ap (λ (s : rules.Configuration). branch_of machine.test s label) (ap (said machine) here.is)
      ∙ branch-found going at c label here.live here.here here.of g i d living found (keys-tell going g at i c d key) in
      λ j. (taken j, made g i d living found key j)

  -- ---- where steps are

  place-found : (going : Going) (at : ℕ) (c : Component) (label : Label) → IsLive (going_by (legend machine) going) → slice_get going.components at ≡ Some c → IsOf (component_by (legend machine) c) label
      → (g : Going) (i : ℕ) (d : Component) → IsLive (going_by (legend machine) g) → slice_get g.components i ≡ Some d → SeeTheSame going g at i c d → place_at machine going label ≡ place_at machine g label
  place-found going at c (Statement path) live here of g i d living found see =
      let l : Legend = legend machine in
      let test : Test = machine.test in
      let look = look-alike l going g see.outline in
      let alike = see-alike l going g at i c d see here found in
      let one : rules.component_at (going_by l going) path ≡ Some (component_by l c) = ap (rules.component_at (going_by l going)) of ∙ component-found going at c live here in
      let other : rules.component_at (going_by l g) path ≡ Some (component_by l d) =
      ap (rules.component_at (going_by l g)) (of ∙ ap (λ id. id.path) alike.itself) ∙ component-found g i d living found in
      let branch : branch_of test (rules.Goes (going_by l going)) (Statement path) ≡ branch_of test (rules.Goes (going_by l g)) (Statement path) = branch-found going at c (Statement path) live here of g i d living found see in
      let place : place_of_step (rules.Goes (going_by l going)) (Statement path) ≡ place_of_step (rules.Goes (going_by l g)) (Statement path) =
      ap (option_and_then place_of) one ∙ places_alike (component_by l c) (component_by l d) alike ∙ sym (ap (option_and_then place_of) other) in
      let sent : sent_of test (rules.Goes (going_by l going)) (Statement path) ≡ sent_of test (rules.Goes (going_by l g)) (Statement path) =
      ap (option_and_then (sent_of_component test (going_by l going))) one
      ∙ sent_alike test (going_by l going) (going_by l g) (component_by l c) (component_by l d) look (link-alike l going g see.outline) alike
      ∙ sym (ap (option_and_then (sent_of_component test (going_by l g))) other) in
      λ j. option_map (λ p. record { place = p; lost = is_lost (sent j) }) (either_of (branch j) (place j))
  place-found going at c (Expiry path number name) live here of g i d living found see = refl
  place-found going at c (Delivery system_port) live here of g i d living found see = absurd of

  pub placed-of : (configuration : Config) (going : Going) (at : ℕ) (c : Component) (label : Label) → IsHere machine configuration going at c label
      → (event : Option StepPlace) → event ≡ step_place machine.test (said machine configuration) label → IsPlaced machine going at c label event
  placed-of configuration going at c label here event is g i d living found key =
      is ∙ ap (λ (s : rules.Configuration). step_place machine.test s label) (ap (said machine) here.is)
      ∙ place-found going at c label here.live here.here here.of g i d living found (keys-tell going g at i c d key)

  -- ---- all steps of a component

  pub steps-are : {R : Type 0} (shows : Going → ℕ → Component → Outcome → R) (step : Going → Label → R) (configuration : Config) (going : Going) (at : ℕ) (c : Component) (path : List ℕ) → configuration ≡ config.Going going → IsLive (going_by (legend machine) going) → slice_get going.components at ≡ Some c
      → path ≡ c.itself.path.numbers → (ls : List Label) → ls ≡ labels machine.test (said machine configuration) → (outcomes : List Outcome)
      → Holds machine going at c (λ g i d. map (shows g i d) outcomes ≡ map (step g) (filter (is_of_path (record { numbers = path })) ls))
      → Holds machine going at c (λ g i d. map (shows g i d) outcomes ≡ map (step g) (labels_of_component machine.test (going_by (legend machine) g) (component_by (legend machine) d)))
  steps-are shows step configuration going at c path is live here of ls all outcomes made g i d living found key =
      let l : Legend = legend machine in
      let see : SeeTheSame going g at i c d = keys-tell going g at i c d key in
      made g i d living found key
      ∙ ap (map (step g))
      (ap (λ p. filter (is_of_path (record { numbers = p })) ls) of
      ∙ ap (filter (is_of_path c.itself.path)) (all ∙ ap (λ (s : Config). labels machine.test (said machine s)) is)
      ∙ labels_by_path machine.test (going_by l going) (component_by l c) at live (get-map (component_by l) going.components at c here)
      ∙ labels_alike machine.test (going_by l going) (going_by l g) (component_by l c) (component_by l d) (look-alike l going g see.outline) (see-alike l going g at i c d see here found))
