-- What an event stores refers only to what the messages in front of ports refer to, and to their senders.
use Rattle.std.proofs.Common.{ℕ, Bool, true, false, List, [], ◌∷◌, ◌++◌, bytes_eq, Option, Some, None, IfSome, if◌then◌else◌}
use Rattle.std.specs.List.{All, find}
use Rattle.std.proofs.lemmas.List.Elements.{All-append, All-cons, All-head, All-nil, All-tail}
use Rattle.ttcn_syntax.specs.declared.tree.expression.Reference.{Reference}
use Rattle.ttcn_syntax.specs.declared.tree.statement.Event.{Event}
use Rattle.ttcn_syntax.specs.declared.tree.statement.Event.TheVariants as event
use Rattle.ttcn_syntax.specs.declared.tree.statement.PortSelector.{PortSelector}
use Rattle.ttcn_syntax.specs.declared.tree.statement.PortSelector.TheVariants as selector
use Rattle.ttcn_syntax.specs.declared.tree.statement.Receive.{Receive}
use Rattle.ttcn_syntax.specs.declared.tree.template.MessageTemplate.{MessageTemplate}
use Rattle.check_rules.specs.Targets.{target_at}
use Rattle.check_scope.specs.Names.{Scope}
use Rattle.check_scope.specs.Typings.{same_type}
use Rattle.check_scope.specs.declared.types.DataType.{DataType}
use Rattle.check_rules.specs.Messages.{incoming, received_type}
use Rattle.laws_references.proofs.Values.{component-refers}
use Rattle.laws_references.specs.References.{MessageRefersTo, RefersTo, SnapshotRefersTo}
use Rattle.laws_steps.proofs.Found.{found-each}
use Rattle.laws_steps.proofs.Outcomes.{map-yields}
use Rattle.semantics.specs.Branches.{Judge, read_by}
use Rattle.semantics.specs.Configurations.{Data, Message, same_path}
use Rattle.semantics.specs.Events.{Effect, Elapses, Faulty, Happened, Passed, Plain, Receives, Redirect, Trial, fits_sender, from_fits, happened_if, happened_or_passed, or_next, redirected_sender, redirected_value, redirects, template_fits, timer_seen, tried, try_all_done, try_chance, try_event, try_front, try_fronts, try_port, try_receive, try_template, try_timeout, try_type, try_typed, type_of}
use Rattle.semantics.specs.Sites.{Site, scope_at}
use Rattle.semantics.specs.Snapshots.{Snapshot, Test, is_terminated_in, mtc_of}
use Rattle.value_types.specs.Outcomes.{Fails, IfYields, Outcome, Yields, dynamic_error}
use Rattle.value_types.specs.Readings.{Reading, component_referred}
use Rattle.value_types.specs.declared.frame.TimerState.{TimerState}
use Rattle.value_types.specs.declared.frame.TimerState.TheVariants as timer
use Rattle.value_types.specs.declared.value.ComponentId.{ComponentId}
use Rattle.value_types.specs.declared.value.Value.{Value}
use Rattle.value_types.specs.declared.value.Value.TheVariants as value

module _ (P : ComponentId → Type 0) where
  abbrev RedirectRefers : Redirect → Type 0
  RedirectRefers redirect = RefersTo P redirect.value

  -- what a branch stores
  abbrev pub EffectRefers : Effect → Type 0
  EffectRefers Plain = Unit {0}
  EffectRefers (Receives port redirects) = All RedirectRefers redirects
  EffectRefers (Elapses name) = Unit {0}

  abbrev pub TrialRefers : Trial → Type 0
  TrialRefers Passed = Unit {0}
  TrialRefers (Faulty why) = Unit {0}
  TrialRefers (Happened effect) = EffectRefers effect

  tried-refers : {A : Type 0} (Q : A → Type 0) (try : A → Trial) (o : Outcome A) → ((a : A) → Q a → TrialRefers (try a)) → IfYields o Q → TrialRefers (tried try o)
  tried-refers Q try (Yields a) more is = more a is
  tried-refers Q try (Fails why) more is = tt

  tried-any : {A : Type 0} (try : A → Trial) (o : Outcome A) → ((a : A) → TrialRefers (try a)) → TrialRefers (tried try o)
  tried-any try (Yields a) more = more a
  tried-any try (Fails why) more = tt

  happened-refers : (b : Bool) → TrialRefers (happened_if b)
  happened-refers true = tt
  happened-refers false = tt

  -- ---- timers and components

  timeout-refers : (name : List ℕ) (o : Option TimerState) → TrialRefers (try_timeout name o)
  timeout-refers name None = tt
  timeout-refers name (Some timer.Expired) = tt
  timeout-refers name (Some timer.Running) = tt
  timeout-refers name (Some timer.Inactive) = tt

  all-done-if : (b c : Bool) (other : Trial) → TrialRefers other → TrialRefers (if b then happened_if c else other)
  all-done-if true c other is = happened-refers c
  all-done-if false c other is = is

  -- ---- redirects

  value-redirected : (o : Option Reference) (v : Value) → RefersTo P v → All RedirectRefers (redirected_value o v)
  value-redirected None v is = All-nil RedirectRefers
  value-redirected (Some reference) v is = All-cons RedirectRefers (record { reference = reference; value = v }) [] is (All-nil RedirectRefers)

  sender-if : (b : Bool) (reference : Reference) (sender : ComponentId) → P sender → IfYields (if b then Yields (record { reference = reference; value = value.Component sender } ∷ []) else dynamic_error) (All RedirectRefers)
  sender-if true reference sender is =
      All-cons RedirectRefers (record { reference = reference; value = value.Component sender }) [] (component-refers P sender is) (All-nil RedirectRefers)
  sender-if false reference sender is = tt

  sender-redirected : (scope : Scope) (o : Option Reference) (sender : Option ComponentId) → IfSome sender P → IfYields (redirected_sender scope o sender) (All RedirectRefers)
  sender-redirected scope None sender is = All-nil RedirectRefers
  sender-redirected scope (Some reference) None is = tt
  sender-redirected scope (Some reference) (Some sender) is = sender-if (fits_sender sender (target_at scope reference).data_type) reference sender is

  redirects-refer : (scope : Scope) (receive : Receive) (message : Message) → MessageRefersTo P message → IfYields (redirects scope receive message) (All RedirectRefers)
  redirects-refer scope receive message is =
      map-yields (All RedirectRefers) (All RedirectRefers) (λ stored. redirected_value receive.value message.value ++ stored) (redirected_sender scope receive.sender message.sender)
      (λ stored all. All-append RedirectRefers (redirected_value receive.value message.value) stored (value-redirected receive.value message.value is.value) all)
      (sender-redirected scope receive.sender message.sender is.sender)

  -- ---- receives

  happened-or-passed : (stored : Outcome (List Redirect)) (port : List ℕ) (b : Bool) → IfYields stored (All RedirectRefers) → TrialRefers (happened_or_passed stored port b)
  happened-or-passed stored port false is = tt
  happened-or-passed stored port true is = tried-refers (All RedirectRefers) (λ redirects. Happened (Receives port redirects)) stored (λ redirects all. all) is

  template-refers : (test : Test) (site : Site) (reading : Reading) (receive : Receive) (port : List ℕ) (message : Message) (of : DataType) (b : Bool) → MessageRefersTo P message
      → TrialRefers (try_template test site reading receive port message of b)
  template-refers test site reading receive port message of false is = tt
  template-refers test site reading receive port message of true is =
      tried-any (happened_or_passed (redirects (scope_at test.definitions site) receive message) port) (template_fits reading of receive.message message.value)
      (λ b. happened-or-passed (redirects (scope_at test.definitions site) receive message) port b (redirects-refer (scope_at test.definitions site) receive message is))

  typed-refers : (test : Test) (site : Site) (reading : Reading) (receive : Receive) (port : List ℕ) (message : Message) (of : DataType) → MessageRefersTo P message
      → TrialRefers (try_typed test site reading receive port message of)
  typed-refers test site reading receive port message of is =
      tried-any (try_template test site reading receive port message of) (from_fits reading receive.from message.sender)
      (λ b. template-refers test site reading receive port message of b is)

  typed-if : (b : Bool) (trial : Trial) → TrialRefers trial → TrialRefers (if b then trial else Passed)
  typed-if true trial is = is
  typed-if false trial is = tt

  type-refers : (test : Test) (site : Site) (reading : Reading) (receive : Receive) (port : List ℕ) (message : Message) (wanted found : Option DataType) (template : Option MessageTemplate) → MessageRefersTo P message
      → TrialRefers (try_type test site reading receive port message wanted found template)
  type-refers test site reading receive port message wanted None template is = tt
  type-refers test site reading receive port message wanted (Some found) None is = typed-refers test site reading receive port message found is
  type-refers test site reading receive port message None (Some found) (Some template) is = tt
  type-refers test site reading receive port message (Some wanted) (Some found) (Some template) is =
      typed-if (same_type wanted found) (try_typed test site reading receive port message found) (typed-refers test site reading receive port message found is)

  front-refers : (test : Test) (site : Site) (reading : Reading) (receive : Receive) (port : List ℕ) (o : Option Message) → IfSome o (MessageRefersTo P) → TrialRefers (try_front test site reading receive port o)
  front-refers test site reading receive port None is = tt
  front-refers test site reading receive port (Some message) is =
      type-refers test site reading receive port message (received_type (scope_at test.definitions site) (incoming (scope_at test.definitions site) receive.port) receive.message)
      (type_of message.value) receive.message is

  next-refers : (first next : Trial) → TrialRefers first → TrialRefers next → TrialRefers (or_next first next)
  next-refers Passed next is also = also
  next-refers (Faulty why) next is also = tt
  next-refers (Happened effect) next is also = is

  abbrev FrontRefers : List ℕ × Option Message → Type 0
  FrontRefers front = IfSome front.1 (MessageRefersTo P)

  fronts-refer : (test : Test) (site : Site) (reading : Reading) (receive : Receive) (fronts : List (List ℕ × Option Message)) → All FrontRefers fronts → TrialRefers (try_fronts test site reading receive fronts)
  fronts-refer test site reading receive [] all = tt
  fronts-refer test site reading receive (front ∷ fronts) all =
      next-refers (try_front test site reading receive front.0 front.1) (try_fronts test site reading receive fronts)
      (front-refers test site reading receive front.0 front.1 (All-head FrontRefers front fronts all)) (fronts-refer test site reading receive fronts (All-tail FrontRefers front fronts all))

  port-refers : (test : Test) (site : Site) (reading : Reading) (receive : Receive) (o : Option (List ℕ × Option Message)) → IfSome o FrontRefers → TrialRefers (try_port test site reading receive o)
  port-refers test site reading receive None is = tt
  port-refers test site reading receive (Some front) is = front-refers test site reading receive front.0 front.1 is

  receive-refers : (test : Test) (snapshot : Snapshot) (site : Site) (reading : Reading) (receive : Receive) (s : PortSelector) → SnapshotRefersTo P snapshot → TrialRefers (try_receive test snapshot site reading receive s)
  receive-refers test snapshot site reading receive selector.Any all = fronts-refer test site reading receive snapshot.fronts all
  receive-refers test snapshot site reading receive (selector.Named name) all =
      port-refers test site reading receive (find (λ front. bytes_eq front.0 name) snapshot.fronts) (found-each FrontRefers (λ front. bytes_eq front.0 name) snapshot.fronts all)

  -- ---- branches

  event-refers : (test : Test) (snapshot : Snapshot) (own : Data) (judge : Judge) (e : Event) → SnapshotRefersTo P snapshot → TrialRefers (try_event test snapshot own judge e)
  event-refers test snapshot own judge (event.Receive receive) all = receive-refers test snapshot judge.site (read_by test snapshot own judge) receive receive.port all
  event-refers test snapshot own judge (event.Timeout name) all = timeout-refers name (timer_seen test snapshot own judge name)
  event-refers test snapshot own judge (event.Done reference) all =
      tried-any (λ c. happened_if (is_terminated_in snapshot c.path)) (component_referred (read_by test snapshot own judge) reference) (λ c. happened-refers (is_terminated_in snapshot c.path))
  event-refers test snapshot own judge event.AllDone all = done-refers
    where
      done-refers : TrialRefers (try_all_done test snapshot (read_by test snapshot own judge))
      done-refers = all-done-if (same_path (read_by test snapshot own judge).itself.path (mtc_of test).path) _ _ tt

  pub chance-refers : (test : Test) (snapshot : Snapshot) (own : Data) (judge : Judge) (o : Option Event) → SnapshotRefersTo P snapshot → TrialRefers (try_chance test snapshot own judge o)
  chance-refers test snapshot own judge None all = tt
  chance-refers test snapshot own judge (Some e) all = event-refers test snapshot own judge e all
