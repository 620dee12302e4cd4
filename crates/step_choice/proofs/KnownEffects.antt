-- The names that a branch changes are those of its event.
use Rattle.std.proofs.Common.{◌≡◌, ℕ, Bool, true, false, List, [], ◌∷◌, ◌++◌, map, cond, not, Option, Some, None, refl, sym, ap, arith, subst}
use Rattle.std.specs.List.{All}
use Rattle.std.proofs.lemmas.List.Elements.{All-append, All-cons, All-head, All-nil, All-tail, Contains-append_left, Contains-append_right}
use Rattle.ttcn_syntax.specs.declared.tree.expression.ComponentRef.{ComponentRef}
use Rattle.ttcn_syntax.specs.declared.tree.expression.Reference.{Reference}
use Rattle.ttcn_syntax.specs.declared.tree.statement.Event.{Event}
use Rattle.ttcn_syntax.specs.declared.tree.statement.Event.TheVariants as event
use Rattle.ttcn_syntax.specs.declared.tree.statement.PortSelector.{PortSelector}
use Rattle.ttcn_syntax.specs.declared.tree.statement.PortSelector.TheVariants as selector
use Rattle.ttcn_syntax.specs.declared.tree.statement.Receive.{Receive}
use Rattle.ttcn_syntax.specs.declared.tree.template.MessageTemplate.{MessageTemplate}
use Rattle.check_rules.specs.Targets.{target_at}
use Rattle.check_scope.specs.Names.{Scope}
use Rattle.check_scope.specs.Typings.{same_type}
use Rattle.check_scope.specs.declared.types.DataType.{DataType}
use Rattle.semantics.specs.Branches.{Judge, read_by}
use Rattle.semantics.specs.Configurations.{Data, Message, same_path}
use Rattle.semantics.specs.Events as events
use Rattle.semantics.specs.Events.{Effect, Faulty, Happened, Passed, Redirect, Trial, fits_sender, from_fits, happened_if, happened_or_passed, or_next, redirected_sender, redirected_value, redirects, template_fits, timer_seen, tried, try_done, try_event, try_front, try_fronts, try_port, try_receive, try_template, try_timeout, try_type, try_typed}
use Rattle.semantics.specs.Sites.{Site, scope_at}
use Rattle.semantics.specs.Snapshots.{Snapshot, Test, is_terminated_in, mtc_of, others_run}
use Rattle.step_choice.specs.Deeds.{HasKnownNames, deed_by, deed_of, stored_by, stored_of}
use Rattle.step_choice.specs.declared.taken.Deed.{Deed}
use Rattle.step_choice.specs.declared.taken.Deed.TheVariants as code
use Rattle.step_choice.specs.declared.taken.Stored.{Stored}
use Rattle.step_snapshot.specs.Slots.{IsKnown, NoneIsMissing}
use Rattle.config_parts.specs.Legend.{Legend}
use Rattle.graph_names.specs.Known.{names_of_event, names_of_reference}
use Rattle.value_types.specs.Outcomes.{DynamicError, Fails, Outcome, Yields, dynamic_error, outcome_map}
use Rattle.value_types.specs.Readings.{Reading, component_referred}
use Rattle.value_types.specs.declared.frame.TimerState.{TimerState}
use Rattle.value_types.specs.declared.frame.TimerState.TheVariants as timer
use Rattle.value_types.specs.declared.value.ComponentId.{ComponentId}
use Rattle.value_types.specs.declared.value.Value.{Value}
use Rattle.value_types.specs.declared.value.Value.TheVariants as value

-- ---- names

-- the first of names
pub first-known : (names others : List (List ℕ)) (name : List ℕ) → NoneIsMissing names (name ∷ others) → IsKnown names name
first-known names others name all = all name (0, omega arith, refl)

pub left-known : (names xs ys : List (List ℕ)) → NoneIsMissing names (xs ++ ys) → NoneIsMissing names xs
left-known names xs ys all name there = all name (Contains-append_left xs ys name there)

pub right-known : (names xs ys : List (List ℕ)) → NoneIsMissing names (xs ++ ys) → NoneIsMissing names ys
right-known names xs ys all name there = all name (Contains-append_right xs ys name there)

-- ---- effects

abbrev RedirectKnown : List (List ℕ) → Redirect → Type 0
RedirectKnown names redirect = IsKnown names redirect.reference.name

abbrev StoredKnown : List (List ℕ) → Stored → Type 0
StoredKnown names one = IsKnown names one.target.now.reference.name

-- the names that an effect changes have slots
abbrev pub EffectKnown : List (List ℕ) → Effect → Type 0
EffectKnown names events.Plain = Unit {0}
EffectKnown names (events.Receives port redirects) = All (RedirectKnown names) redirects
EffectKnown names (events.Elapses name) = IsKnown names name

stored-known : (names : List (List ℕ)) (test : Test) (site : Site) (stored : List Stored) (redirects : List Redirect) → map stored_by stored ≡ map (stored_of test site) redirects → All (RedirectKnown names) redirects → All (StoredKnown names) stored
stored-known names test site [] redirects same known = All-nil (StoredKnown names)
stored-known names test site (one ∷ stored) [] same known = absurd (let e = same in cc)
stored-known names test site (one ∷ stored) (redirect ∷ redirects) same known =
    let first : stored_by one ≡ stored_of test site redirect = cc in
    let others : map stored_by stored ≡ map (stored_of test site) redirects = cc in
    let named : redirect.reference.name ≡ one.target.now.reference.name = sym (ap (λ p. p.0.reference.name) first) in
    All-cons (StoredKnown names) one stored (subst (IsKnown names) named (All-head (RedirectKnown names) redirect redirects known))
    (stored-known names test site stored redirects others (All-tail (RedirectKnown names) redirect redirects known))

-- what code keeps of an effect
pub deed-known : (names : List (List ℕ)) (legend : Legend) (test : Test) (site : Site) (deed : Deed) (effect : Effect) → deed_by legend deed ≡ deed_of test site effect → EffectKnown names effect → HasKnownNames names deed
deed-known names legend test site code.Nothing effect same known = tt
deed-known names legend test site (code.Receives port stored) events.Plain same known = absurd (let e = same in cc)
deed-known names legend test site (code.Receives port stored) (events.Receives named redirects) same known =
    let lists : map stored_by stored.items ≡ map (stored_of test site) redirects = cc in
    stored-known names test site stored.items redirects lists known
deed-known names legend test site (code.Receives port stored) (events.Elapses name) same known = absurd (let e = same in cc)
deed-known names legend test site (code.Elapses name own) events.Plain same known = absurd (let e = same in cc)
deed-known names legend test site (code.Elapses name own) (events.Receives named redirects) same known = absurd (let e = same in cc)
deed-known names legend test site (code.Elapses name own) (events.Elapses said) same known =
    let is : said ≡ name.now = cc in subst (IsKnown names) is known

-- ---- trials

tried-happened : {A : Type 0} (try : A → Trial) (o : Outcome A) (effect : Effect) → tried try o ≡ Happened effect → (a : A) × ((o ≡ Yields a) × (try a ≡ Happened effect))
tried-happened try (Yields a) effect is = (a, (refl, is))
tried-happened try (Fails why) effect is = absurd (let e = is in cc)

either-happened : (K : Type 0) (one next : Trial) (effect : Effect) → or_next one next ≡ Happened effect → (one ≡ Happened effect → K) → (next ≡ Happened effect → K) → K
either-happened K Passed next effect is here later = later is
either-happened K (Faulty why) next effect is here later = absurd (let e = is in cc)
either-happened K (Happened found) next effect is here later = here is

if-happened : (b : Bool) (trial : Trial) (effect : Effect) → cond b trial Passed ≡ Happened effect → trial ≡ Happened effect
if-happened true trial effect is = is
if-happened false trial effect is = absurd (let e = is in cc)

plain-known : (names : List (List ℕ)) (b : Bool) (effect : Effect) → happened_if b ≡ Happened effect → EffectKnown names effect
plain-known names true effect is = let same : events.Plain ≡ effect = cc in subst (EffectKnown names) same tt
plain-known names false effect is = absurd (let e = is in cc)

-- ---- timers and components

timeout-known : (names : List (List ℕ)) (name : List ℕ) (state : Option TimerState) (effect : Effect) → try_timeout name state ≡ Happened effect → NoneIsMissing names (name ∷ []) → EffectKnown names effect
timeout-known names name None effect is all = absurd (let e = is in cc)
timeout-known names name (Some timer.Expired) effect is all = let same : events.Elapses name ≡ effect = cc in subst (EffectKnown names) same (first-known names [] name all)
timeout-known names name (Some timer.Running) effect is all = absurd (let e = is in cc)
timeout-known names name (Some timer.Inactive) effect is all = absurd (let e = is in cc)

done-known : (names : List (List ℕ)) (snapshot : Snapshot) (reading : Reading) (reference : ComponentRef) (effect : Effect) → try_done snapshot reading reference ≡ Happened effect → EffectKnown names effect
done-known names snapshot reading reference effect is =
    let found = tried-happened (λ (c : ComponentId). happened_if (is_terminated_in snapshot c.path)) (component_referred reading reference) effect is in
    plain-known names (is_terminated_in snapshot found.0.path) effect found.1.1

all-done-known : (names : List (List ℕ)) (b others : Bool) (effect : Effect) → cond b (happened_if others) (Faulty DynamicError) ≡ Happened effect → EffectKnown names effect
all-done-known names true others effect is = plain-known names others effect is
all-done-known names false others effect is = absurd (let e = is in cc)

-- ---- messages

value-known : (names : List (List ℕ)) (reference : Option Reference) (v : Value) → NoneIsMissing names (names_of_reference reference) → All (RedirectKnown names) (redirected_value reference v)
value-known names None v all = All-nil (RedirectKnown names)
value-known names (Some reference) v all = All-cons (RedirectKnown names) (record { reference = reference; value = v }) [] (first-known names [] reference.name all) (All-nil (RedirectKnown names))

only-sender : (b : Bool) (one stored : List Redirect) → cond b (Yields one) dynamic_error ≡ Yields stored → one ≡ stored
only-sender true one stored is = let same : one ≡ stored = cc in same
only-sender false one stored is = absurd (let e = is in cc)

sender-known : (names : List (List ℕ)) (scope : Scope) (reference : Option Reference) (sender : Option ComponentId) (stored : List Redirect) → redirected_sender scope reference sender ≡ Yields stored
    → NoneIsMissing names (names_of_reference reference) → All (RedirectKnown names) stored
sender-known names scope None sender stored is all = let same : [] ≡ stored = cc in subst (All (RedirectKnown names)) same (All-nil (RedirectKnown names))
sender-known names scope (Some reference) None stored is all = absurd (let e = is in cc)
sender-known names scope (Some reference) (Some sender) stored is all =
    let one : Redirect = record { reference = reference; value = value.Component sender } in
    subst (All (RedirectKnown names)) (only-sender (fits_sender sender (target_at scope reference).data_type) (one ∷ []) stored is)
    (All-cons (RedirectKnown names) one [] (first-known names [] reference.name all) (All-nil (RedirectKnown names)))

made-of : {A B : Type 0} (f : A → B) (o : Outcome A) (b : B) → outcome_map f o ≡ Yields b → (a : A) × ((o ≡ Yields a) × (f a ≡ b))
made-of f (Yields a) b is = (a, (refl, let same : f a ≡ b = cc in same))
made-of f (Fails why) b is = absurd (let e = is in cc)

redirects-known : (names : List (List ℕ)) (scope : Scope) (receive : Receive) (message : Message) (stored : List Redirect) → redirects scope receive message ≡ Yields stored
    → NoneIsMissing names (names_of_event (event.Receive receive)) → All (RedirectKnown names) stored
redirects-known names scope receive message stored is all =
    let sent = made-of (λ (others : List Redirect). redirected_value receive.value message.value ++ others) (redirected_sender scope receive.sender message.sender) stored is in
    subst (All (RedirectKnown names)) sent.1.1
    (All-append (RedirectKnown names) (redirected_value receive.value message.value) sent.0
    (value-known names receive.value message.value (left-known names (names_of_reference receive.value) (names_of_reference receive.sender) all))
    (sender-known names scope receive.sender message.sender sent.0 sent.1.0 (right-known names (names_of_reference receive.value) (names_of_reference receive.sender) all)))

module _ (names : List (List ℕ)) (test : Test) (site : Site) (reading : Reading) (receive : Receive) (all : NoneIsMissing names (names_of_event (event.Receive receive))) where
  passed-known : (stored : Outcome (List Redirect)) (port : List ℕ) (b : Bool) (effect : Effect) → ((rs : List Redirect) → stored ≡ Yields rs → All (RedirectKnown names) rs)
      → happened_or_passed stored port b ≡ Happened effect → EffectKnown names effect
  passed-known stored port false effect known is = absurd (let e = is in cc)
  passed-known stored port true effect known is =
      let found = tried-happened (λ (rs : List Redirect). Happened (events.Receives port rs)) stored effect is in
      let same : events.Receives port found.0 ≡ effect = let e = found.1.1 in cc in
      subst (EffectKnown names) same (known found.0 found.1.0)

  template-known : (port : List ℕ) (message : Message) (of : DataType) (b : Bool) (effect : Effect) → try_template test site reading receive port message of b ≡ Happened effect → EffectKnown names effect
  template-known port message of false effect is = absurd (let e = is in cc)
  template-known port message of true effect is =
      let stored = redirects (scope_at test.definitions site) receive message in
      let found = tried-happened (happened_or_passed stored port) (template_fits reading of receive.message message.value) effect is in
      passed-known stored port found.0 effect (λ rs yields. redirects-known names (scope_at test.definitions site) receive message rs yields all) found.1.1

  typed-known : (port : List ℕ) (message : Message) (of : DataType) (effect : Effect) → try_typed test site reading receive port message of ≡ Happened effect → EffectKnown names effect
  typed-known port message of effect is =
      let found = tried-happened (try_template test site reading receive port message of) (from_fits reading receive.from message.sender) effect is in
      template-known port message of found.0 effect found.1.1

  type-known : (port : List ℕ) (message : Message) (wanted found : Option DataType) (template : Option MessageTemplate) (effect : Effect)
      → try_type test site reading receive port message wanted found template ≡ Happened effect → EffectKnown names effect
  type-known port message wanted None template effect is = absurd (let e = is in cc)
  type-known port message wanted (Some found) None effect is = typed-known port message found effect is
  type-known port message None (Some found) (Some template) effect is = absurd (let e = is in cc)
  type-known port message (Some wanted) (Some found) (Some template) effect is =
      typed-known port message found effect (if-happened (same_type wanted found) (try_typed test site reading receive port message found) effect is)

  front-known : (port : List ℕ) (front : Option Message) (effect : Effect) → try_front test site reading receive port front ≡ Happened effect → EffectKnown names effect
  front-known port None effect is = absurd (let e = is in cc)
  front-known port (Some message) effect is = type-known port message _ _ receive.message effect is

  fronts-known : (fronts : List (List ℕ × Option Message)) (effect : Effect) → try_fronts test site reading receive fronts ≡ Happened effect → EffectKnown names effect
  fronts-known [] effect is = absurd (let e = is in cc)
  fronts-known (front ∷ fronts) effect is =
      either-happened (EffectKnown names effect) (try_front test site reading receive front.0 front.1) (try_fronts test site reading receive fronts) effect is
      (front-known front.0 front.1 effect) (fronts-known fronts effect)

  port-known : (front : Option (List ℕ × Option Message)) (effect : Effect) → try_port test site reading receive front ≡ Happened effect → EffectKnown names effect
  port-known None effect is = absurd (let e = is in cc)
  port-known (Some front) effect is = front-known front.0 front.1 effect is

  receive-known : (snapshot : Snapshot) (port : PortSelector) (effect : Effect) → try_receive test snapshot site reading receive port ≡ Happened effect → EffectKnown names effect
  receive-known snapshot selector.Any effect is = fronts-known snapshot.fronts effect is
  receive-known snapshot (selector.Named name) effect is = port-known _ effect is

-- ---- events

pub event-known : (names : List (List ℕ)) (test : Test) (snapshot : Snapshot) (own : Data) (judge : Judge) (e : Event) (effect : Effect) → try_event test snapshot own judge e ≡ Happened effect
    → NoneIsMissing names (names_of_event e) → EffectKnown names effect
event-known names test snapshot own judge (event.Receive receive) effect is all =
    receive-known names test judge.site (read_by test snapshot own judge) receive all snapshot receive.port effect is
event-known names test snapshot own judge (event.Timeout name) effect is all = timeout-known names name (timer_seen test snapshot own judge name) effect is all
event-known names test snapshot own judge (event.Done reference) effect is all = done-known names snapshot (read_by test snapshot own judge) reference effect is
event-known names test snapshot own judge event.AllDone effect is all =
    all-done-known names (same_path (read_by test snapshot own judge).itself.path (mtc_of test).path) (not (others_run snapshot (mtc_of test).path)) effect is
