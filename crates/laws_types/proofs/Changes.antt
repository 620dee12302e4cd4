-- What is done among the components keeps all values of their types.
use Rattle.std.proofs.Common.{◌≡◌, ℕ, Bool, true, false, List, [], ◌∷◌, ◌++◌, map, find, bytes_eq, Option, Some, None, IfSome, is_some, ◌⊎◌, inl, inr, refl, sym, ap, subst, ◌∙◌, if◌then◌else◌}
use Rattle.std.specs.List.{All}
use Rattle.std.proofs.lemmas.List.Elements.{All-append, All-cons, All-head, All-nil, All-tail}
use Rattle.ttcn_syntax.specs.declared.tree.definition.Definition.{Definition}
use Rattle.ttcn_syntax.specs.declared.tree.statement.Verdict.{Verdict}
use Rattle.check_scope.specs.Names.{Entry}
use Rattle.laws_evaluation.specs.Uses.{GivesOnly}
use Rattle.laws_steps.proofs.Applying.{Applies, IfGoes, Leads, applied}
use Rattle.laws_steps.proofs.Found.{new-each}
use Rattle.semantics.proofs.Pairs.{All-more}
use Rattle.semantics.specs.Configurations.{Component, Configuration, Data, End, Ended, Frame, Goes, Going, Message, Queue, Terminated, component_at, is_terminated_state, path_of, same_path}
use Rattle.semantics.specs.Items.{Doing, Item, Mark, Waiting}
use Rattle.semantics.specs.Snapshots.{Test}
use Rattle.semantics.specs.Statements.{Act, Errs}
use Rattle.semantics.specs.Steps.{apply, at_queue, begin, change_queue, come_in, settle, touch, unless_terminated, with_data, with_state, with_verdict, without_first}
use Rattle.semantics.specs.Storing.{in_last, with_remaining}
use Rattle.semantics.specs.Taking.{uncovered, without_marks}
use Rattle.value_types.specs.Outcomes.{Failure, DynamicError, Fails, Outcome, Unmet, Yields}
use Rattle.value_types.specs.declared.path.Path.{Path}
use Rattle.value_types.specs.declared.value.ComponentId.{ComponentId}
use Rattle.value_types.specs.declared.value.Value.{Value}
use Rattle.laws_types.proofs.Nested.{nest-wider}
use Rattle.laws_types.specs.internal.Asked.{AreOfType, FitsAct, FitsStart, IsFound}
use Rattle.laws_types.specs.Typed.{FitCalls, FitQueues, FitsComponent, FitsData, FitsFrame, FitsMessage, FitsOwn, FitsTypes, HasFrames, Nest}

-- ---- marks that come first are gone

unmarked : (definitions : List Definition) (at : ℕ) (declared : List Entry) (xs : List Item) → Nest definitions at declared xs → Nest definitions at declared (without_marks xs)
unmarked definitions at declared [] nest = nest
unmarked definitions at declared (Mark site s ∷ xs) nest = unmarked definitions at declared xs (nest-wider definitions at site.declared declared xs nest.0.1 nest.1)
unmarked definitions at declared (Doing site s part ∷ xs) nest = nest
unmarked definitions at declared (Waiting target ∷ xs) nest = nest

calls-uncovered : (definitions : List Definition) (component_type : ℕ) (calls : List Frame) → FitCalls definitions component_type calls
    → FitCalls definitions component_type (in_last (λ frame. with_remaining (without_marks frame.remaining) frame) calls)
calls-uncovered definitions component_type [] fits = tt
calls-uncovered definitions component_type (frame ∷ frames) fits =
    let here : FitsFrame definitions component_type fits.0 fits.1 frame = fits.2 in
    (fits.0, fits.1, record { on = here.on; names = here.names; seen = here.seen }, unmarked definitions fits.0 fits.1 frame.remaining fits.3, fits.4)

uncovered-fits : (definitions : List Definition) (component_type : ℕ) (own : Data) → FitsOwn definitions component_type own → FitsOwn definitions component_type (uncovered own)
uncovered-fits definitions component_type own fits = record { members = fits.members; calls = calls-uncovered definitions component_type own.calls fits.calls; defaults = fits.defaults }

frames-uncovered : (calls : List Frame) → HasFrames calls → HasFrames (in_last (λ frame. with_remaining (without_marks frame.remaining) frame) calls)
frames-uncovered [] has = has
frames-uncovered (frame ∷ frames) has = tt

-- ---- queues

module _ (definitions : List Definition) where
  abbrev Fit : Queue → Type 0
  Fit queue = All (FitsMessage definitions) queue.1

  -- a change of messages that keeps them fitting
  changed-names : (port : List ℕ) (change : List Message → List Message) (queues : List Queue) → map (λ (queue : Queue). queue.0) (change_queue port change queues) ≡ map (λ (queue : Queue). queue.0) queues
  changed-names port change [] = refl
  changed-names port change (queue ∷ queues) = by (bytes_eq queue.0 port) (changed-names port change queues)
    where
      by : (b : Bool) → map (λ (queue : Queue). queue.0) (change_queue port change queues) ≡ map (λ (queue : Queue). queue.0) queues
          → map (λ (queue : Queue). queue.0) (if b then (queue.0, change queue.1) ∷ queues else queue ∷ change_queue port change queues) ≡ queue.0 ∷ map (λ (queue : Queue). queue.0) queues
      by true rest = refl
      by false rest = ap (λ names. queue.0 ∷ names) rest

  changed-if : (b : Bool) (change : List Message → List Message) (queue : Queue) (queues rest : List Queue) → ((ms : List Message) → All (FitsMessage definitions) ms → All (FitsMessage definitions) (change ms)) → Fit queue → All Fit queues → All Fit rest
      → All Fit (if b then (queue.0, change queue.1) ∷ queues else queue ∷ rest)
  changed-if true change queue queues rest keeps first all others = All-cons Fit (queue.0, change queue.1) queues (keeps queue.1 first) all
  changed-if false change queue queues rest keeps first all others = All-cons Fit queue rest first others

  changed-messages : (port : List ℕ) (change : List Message → List Message) → ((ms : List Message) → All (FitsMessage definitions) ms → All (FitsMessage definitions) (change ms)) → (queues : List Queue) → All Fit queues
      → All Fit (change_queue port change queues)
  changed-messages port change keeps [] all = all
  changed-messages port change keeps (queue ∷ queues) all =
      changed-if (bytes_eq queue.0 port) change queue queues (change_queue port change queues) keeps (All-head Fit queue queues all) (All-tail Fit queue queues all)
      (changed-messages port change keeps queues (All-tail Fit queue queues all))

  without-first : (ms : List Message) → All (FitsMessage definitions) ms → All (FitsMessage definitions) (without_first ms)
  without-first [] all = all
  without-first (m ∷ ms) all = All-tail (FitsMessage definitions) m ms all

  -- ---- changes of components

  abbrev Fits : Component → Type 0
  Fits = FitsComponent definitions

  abbrev AllFit : Going → Type 0
  AllFit c = All Fits c.components

  -- it leaves the components with this path fitting
  abbrev pub KeepsAt : Path → (Component → Component) → Component → Type 0
  KeepsAt path change x = same_path (path_of x) path ≡ true → Fits x → Fits (change x)

  changed-at : (b : Bool) (change : Component → Component) (x : Component) → Fits x → (b ≡ true → Fits (change x)) → Fits (if b then change x else x)
  changed-at true change x is keeps = keeps refl
  changed-at false change x is keeps = is

  unless-ended : (b : Bool) (change : Component → Component) (x : Component) → Fits x → Fits (change x) → Fits (if b then x else change x)
  unless-ended true change x is also = is
  unless-ended false change x is also = also

  each-changed : (path : Path) (change : Component → Component) (xs : List Component) → All (KeepsAt path change) xs → All Fits xs
      → All Fits (map (λ component. if same_path (path_of component) path then unless_terminated change component else component) xs)
  each-changed path change [] keeps all = All-nil Fits
  each-changed path change (x ∷ xs) keeps all =
      let first : Fits x = All-head Fits x xs all in
      All-cons Fits (if same_path (path_of x) path then unless_terminated change x else x) (map (λ component. if same_path (path_of component) path then unless_terminated change component else component) xs)
      (changed-at (same_path (path_of x) path) (unless_terminated change) x first (λ same. unless-ended (is_terminated_state x.state) change x first (All-head (KeepsAt path change) x xs keeps same first)))
      (each-changed path change xs (All-tail (KeepsAt path change) x xs keeps) (All-tail Fits x xs all))

  pub touched : (c : Going) (path : Path) (change : Component → Component) → All (KeepsAt path change) c.components → AllFit c → AllFit (touch c path change)
  touched c path change keeps all = each-changed path change c.components keeps all

  everywhere : (P : Component → Type 0) → ((x : Component) → P x) → (xs : List Component) → All P xs
  everywhere P all [] = All-nil P
  everywhere P all (x ∷ xs) = All-cons P x xs (all x) (everywhere P all xs)

  touched-any : (c : Going) (path : Path) (change : Component → Component) → ((x : Component) → Fits x → Fits (change x)) → AllFit c → AllFit (touch c path change)
  touched-any c path change keeps all = touched c path change (everywhere (KeepsAt path change) (λ x same fits. keeps x fits) c.components) all

  queue-keeps : (port : List ℕ) (change : List Message → List Message) → ((ms : List Message) → All (FitsMessage definitions) ms → All (FitsMessage definitions) (change ms)) → (x : Component) → Fits x → Fits (at_queue port change x)
  queue-keeps port change keeps x fits =
      let queues : FitQueues definitions x.itself.component_type x.queues = fits.queues in
      record { own = fits.own; running = fits.running; queues = record { ports = changed-names port change x.queues ∙ queues.ports; messages = changed-messages port change keeps x.queues queues.messages } }

  verdict-keeps : (v : Verdict) (x : Component) → Fits x → Fits (with_verdict v x)
  verdict-keeps v x fits = record { own = fits.own; running = fits.running; queues = fits.queues }

  terminated : (x : Component) → Fits x → Fits (with_state Terminated x)
  terminated x fits = record { own = fits.own; running = λ is. absurd (let e = is in cc); queues = fits.queues }

  plain-own : (component_type : ℕ) (own : Data) → FitsData definitions component_type own → FitsOwn definitions component_type own
  plain-own component_type own fits = record { members = fits.members; calls = fits.calls; defaults = fits.defaults }

  settled-fits : (c : Going) (path : Path) (component_type : ℕ) (own : Data) → AreOfType path component_type c → FitsData definitions component_type own → AllFit c → AllFit (settle c path own)
  settled-fits c path component_type own types fits all =
      touched c path (with_data own)
      (All-more (λ x. same_path (path_of x) path ≡ true → x.itself.component_type ≡ component_type) (KeepsAt path (with_data own))
      (λ x of same is. record {
        own = subst (λ n. FitsOwn definitions n (uncovered own)) (sym (of same)) (uncovered-fits definitions component_type own (plain-own component_type own fits));
        running = λ any. frames-uncovered own.calls fits.frames;
        queues = is.queues;
      }) c.components types) all

  -- a component that stops has no frame any more
  stopped-if : (b d : Bool) (own : Data) (x : Component) → is_terminated_state x.state ≡ d → Fits x → Fits (with_state Terminated (with_data own x))
      → Fits (if b then unless_terminated (with_state Terminated) (if b then (if d then x else with_data own x) else x) else (if b then (if d then x else with_data own x) else x))
  stopped-if false d own x is fits ended = fits
  stopped-if true true own x is fits ended = subst (λ e. Fits (if e then x else with_state Terminated x)) (sym is) fits
  stopped-if true false own x is fits ended = subst (λ e. Fits (if e then with_data own x else with_state Terminated (with_data own x))) (sym is) ended

  path-if : (b d : Bool) (own : Data) (x : Component) → path_of (if b then (if d then x else with_data own x) else x) ≡ path_of x
  path-if true true own x = refl
  path-if true false own x = refl
  path-if false d own x = refl

  stopped-each : (path : Path) (component_type : ℕ) (own : Data) → FitsOwn definitions component_type own → (xs : List Component) → All (λ x. same_path (path_of x) path ≡ true → x.itself.component_type ≡ component_type) xs → All Fits xs
      → All Fits (map (λ component. if same_path (path_of component) path then unless_terminated (with_state Terminated) component else component)
      (map (λ component. if same_path (path_of component) path then unless_terminated (with_data own) component else component) xs))
  stopped-each path component_type own fits [] types all = All-nil Fits
  stopped-each path component_type own fits (x ∷ xs) types all =
      let P = λ (x : Component). same_path (path_of x) path ≡ true → x.itself.component_type ≡ component_type in
      let first : Fits x = All-head Fits x xs all in
      let other = λ (b : Bool). if b then unless_terminated (with_state Terminated) (if same_path (path_of x) path then unless_terminated (with_data own) x else x) else (if same_path (path_of x) path then unless_terminated (with_data own) x else x) in
      All-cons Fits _ _
      (subst (λ (p : Path). Fits (other (same_path p path))) (sym (path-if (same_path (path_of x) path) (is_terminated_state x.state) own x))
      (stopped-same (same_path (path_of x) path) refl own x first (λ same. record {
        own = subst (λ n. FitsOwn definitions n (uncovered own)) (sym (All-head P x xs types same)) (uncovered-fits definitions component_type own fits);
        running = λ is. absurd (let e = is in cc);
        queues = first.queues;
      })))
      (stopped-each path component_type own fits xs (All-tail P x xs types) (All-tail Fits x xs all))
    where
      stopped-same : (b : Bool) → same_path (path_of x) path ≡ b → (own : Data) (x : Component) → Fits x → (b ≡ true → Fits (with_state Terminated (with_data own x)))
          → Fits (if b then unless_terminated (with_state Terminated) (if b then unless_terminated (with_data own) x else x) else (if b then unless_terminated (with_data own) x else x))
      stopped-same false same own x fits ended = fits
      stopped-same true same own x fits ended = stopped-if true (is_terminated_state x.state) own x refl fits (ended refl)

  -- the types are the same behind it
  types-map : (path other : Path) (component_type : ℕ) (change : Component → Component) → ((x : Component) → (change x).itself ≡ x.itself) → (xs : List Component)
      → All (λ x. same_path (path_of x) path ≡ true → x.itself.component_type ≡ component_type) xs
      → All (λ x. same_path (path_of x) path ≡ true → x.itself.component_type ≡ component_type) (map (λ component. if same_path (path_of component) other then unless_terminated change component else component) xs)
  types-map path other component_type change same [] all = All-nil (λ x. same_path (path_of x) path ≡ true → x.itself.component_type ≡ component_type)
  types-map path other component_type change same (x ∷ xs) all =
      let P = λ (x : Component). same_path (path_of x) path ≡ true → x.itself.component_type ≡ component_type in
      All-cons P (if same_path (path_of x) other then unless_terminated change x else x) (map (λ component. if same_path (path_of component) other then unless_terminated change component else component) xs)
      (subst (λ (i : ComponentId). same_path i.path path ≡ true → i.component_type ≡ component_type) (sym (itself-if (same_path (path_of x) other) (is_terminated_state x.state))) (All-head P x xs all))
      (types-map path other component_type change same xs (All-tail P x xs all))
    where
      itself-if : (b d : Bool) → (if b then (if d then x else change x) else x).itself ≡ x.itself
      itself-if true true = refl
      itself-if true false = same x
      itself-if false d = refl

  found-map : (path other : Path) (change : Component → Component) → ((x : Component) → (change x).itself ≡ x.itself) → (xs : List Component)
      → is_some (find (λ component. same_path (path_of component) path) xs) ≡ true
      → is_some (find (λ component. same_path (path_of component) path) (map (λ component. if same_path (path_of component) other then unless_terminated change component else component) xs)) ≡ true
  found-map path other change same [] found = found
  found-map path other change same (x ∷ xs) found =
      subst (λ b. is_some (if b then Some (if same_path (path_of x) other then unless_terminated change x else x)
      else find (λ component. same_path (path_of component) path) (map (λ component. if same_path (path_of component) other then unless_terminated change component else component) xs)) ≡ true)
      (sym (ap (λ (i : ComponentId). same_path i.path path) (itself-if (same_path (path_of x) other) (is_terminated_state x.state))))
      (found-if (same_path (path_of x) path) (if same_path (path_of x) other then unless_terminated change x else x) (find (λ component. same_path (path_of component) path) xs)
      (find (λ component. same_path (path_of component) path) (map (λ component. if same_path (path_of component) other then unless_terminated change component else component) xs)) (found-map path other change same xs) found)
    where
      itself-if : (b d : Bool) → (if b then (if d then x else change x) else x).itself ≡ x.itself
      itself-if true true = refl
      itself-if true false = same x
      itself-if false d = refl

      found-if : (b : Bool) (y : Component) (o p : Option Component) → (is_some o ≡ true → is_some p ≡ true) → is_some (if b then Some x else o) ≡ true → is_some (if b then Some y else p) ≡ true
      found-if true y o p more found = refl
      found-if false y o p more found = more found

  -- ---- what a component asks for

  behind-fit : (message : Message) → FitsMessage definitions message → (ms : List Message) → All (FitsMessage definitions) ms → All (FitsMessage definitions) (ms ++ message ∷ [])
  behind-fit message fits ms each = All-append (FitsMessage definitions) ms (message ∷ []) each (All-cons (FitsMessage definitions) message [] fits (All-nil (FitsMessage definitions)))

  begun : (frame : Frame) (component_type : ℕ) (x : Component) → FitCalls definitions component_type (frame ∷ []) → x.itself.component_type ≡ component_type → Fits x → Fits (begin frame x)
  begun frame component_type x frames same fits =
      let own : FitsOwn definitions x.itself.component_type x.own = fits.own in
      record {
        own = record { members = own.members; calls = subst (λ n. FitCalls definitions n (frame ∷ [])) (sym same) frames; defaults = own.defaults };
        running = λ is. tt;
        queues = fits.queues;
      }

-- a message that comes in
pub come-fits : (test : Test) (c : Going) (system_port : List ℕ) (e : End) (v : Value) → FitsMessage test.definitions (record { value = v; sender = None }) → All (FitsComponent test.definitions) c.components
    → All (FitsComponent test.definitions) (come_in system_port e v c).components
come-fits test c system_port e v fits all =
    touched-any test.definitions c e.component (at_queue e.port (λ messages. messages ++ record { value = v; sender = None } ∷ []))
    (queue-keeps test.definitions e.port (λ messages. messages ++ record { value = v; sender = None } ∷ []) (behind-fit test.definitions (record { value = v; sender = None }) fits)) all

-- a step may fail with a dynamic error alone
abbrev MayFail : Failure → Type 0
MayFail DynamicError = Unit {0}
MayFail Unmet = ⊥

gives-only : (test : Test) (o : Option (Outcome Configuration)) → Leads MayFail (IfGoes (λ d. All (FitsComponent test.definitions) d.components)) o → IfSome o (λ out. GivesOnly out (FitsTypes test))
gives-only test None leads = tt
gives-only test (Some (Yields (Ended v))) leads = tt
gives-only test (Some (Yields (Goes d))) leads = leads
gives-only test (Some (Fails DynamicError)) leads = tt
gives-only test (Some (Fails Unmet)) leads = leads

module _ (test : Test) (c : Going) (itself : ComponentId) (all : All (FitsComponent test.definitions) c.components) (types : AreOfType itself.path itself.component_type c)
    (M : ComponentId → Type 0) (meant : (id : ComponentId) → M id → IsFound c id) where
  abbrev ds : List Definition
  ds = test.definitions

  after : (own : Data) → FitsData ds itself.component_type own → All (FitsComponent ds) (settle c itself.path own).components
  after own fits = settled-fits ds c itself.path itself.component_type own types fits all

  stopped : (path : Path) (own : Data) → FitsOwn ds itself.component_type own → (path ≡ itself.path) ⊎ HasFrames own.calls → All (FitsComponent ds) (touch (settle c itself.path own) path (with_state Terminated)).components
  stopped path own fits (inl same) =
      subst (λ p. All (FitsComponent ds) (touch (settle c itself.path own) p (with_state Terminated)).components) (sym same) (stopped-each ds itself.path itself.component_type own fits c.components types all)
  stopped path own fits (inr has) =
      touched-any ds (settle c itself.path own) path (with_state Terminated) (terminated ds)
      (after own (record { members = fits.members; calls = fits.calls; defaults = fits.defaults; frames = has }))

  -- a component that starts is there, with its type
  started-at : (path : Path) (frame : Frame) → FitsStart test M path frame → (component_type : ℕ) × (is_some (component_at c path) ≡ true) × AreOfType path component_type c × FitCalls ds component_type (frame ∷ [])
  started-at path frame start =
      let found : IsFound c start.reference = meant start.reference start.is_meant in
      let at-path : (is_some (component_at c path) ≡ true) × AreOfType path start.reference.component_type c =
      subst (λ p. (is_some (component_at c p) ≡ true) × AreOfType p start.reference.component_type c) (sym start.is) found in
      (start.reference.component_type, at-path.0, at-path.1, start.fits)

  fails : (why : Failure) → FitsAct test itself.component_type itself.path M (Errs why) → MayFail why
  fails DynamicError fits = tt
  fails Unmet fits = fits

  applies : Applies MayFail (FitsAct test itself.component_type itself.path M) (λ d. All (FitsComponent ds) d.components) c itself
  applies = record {
    fails = fails;
    errs = tt;
    continues = λ own fits. after own fits;
    worsens = λ v own fits. touched-any ds (settle c itself.path own) itself.path (with_verdict v) (verdict-keeps ds v) (after own fits);
    removes = λ port own fits. touched-any ds (settle c itself.path own) itself.path (at_queue port without_first) (queue-keeps ds port without_first (without-first ds)) (after own fits);
    delivers = λ port to v own e fits.
        touched-any ds (settle c itself.path own) e.component (at_queue e.port (λ messages. messages ++ record { value = v; sender = Some itself } ∷ []))
        (queue-keeps ds e.port (λ messages. messages ++ record { value = v; sender = Some itself } ∷ []) (behind-fit ds (record { value = v; sender = Some itself }) (fits.0 (Some itself)))) (after own fits.1);
    sends_out = λ port to v own fits. after own fits.1;
    creates = λ new own fits. new-each (FitsComponent ds) new (settle c itself.path own) (is_some (component_at (settle c itself.path own) (path_of new))) fits.0 (after own fits.1);
    starts = λ path frame own fits.
        let at-path = started-at path frame fits.0 in
        touched ds (settle c itself.path own) path (begin frame)
        (All-more (λ x. same_path (path_of x) path ≡ true → x.itself.component_type ≡ at-path.0) (KeepsAt ds path (begin frame)) (λ x of same is. begun ds frame at-path.0 x at-path.3 (of same) is)
        (settle c itself.path own).components (types-map ds path itself.path at-path.0 (with_data own) (λ x. refl) c.components at-path.2)) (after own fits.1);
    lacks = λ path frame own fits none.
        let at-path = started-at path frame fits.0 in
        absurd (let e : false ≡ true = sym (ap is_some none) ∙ found-map ds path itself.path (with_data own) (λ x. refl) c.components at-path.1 in cc);
    stops = λ path own fits. stopped path own fits.0 fits.1;
    connects = λ d e own fits. after own fits;
    maps = λ d system_port own fits. after own fits;
    unmaps = λ d system_port own fits. after own fits;
  }

  pub apply-fits : (asked : Act) → FitsAct test itself.component_type itself.path M asked → IfSome (apply test c itself asked) (λ out. GivesOnly out (FitsTypes test))
  apply-fits asked fits =
      gives-only test (apply test c itself asked) (applied test MayFail (FitsAct test itself.component_type itself.path M) (λ d. All (FitsComponent ds) d.components) c itself applies asked fits)
