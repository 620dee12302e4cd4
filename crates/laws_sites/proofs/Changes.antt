-- What is done among the components breaks no rule.
use Rattle.std.proofs.Common.{◌≡◌, ℕ, List, [], ◌∷◌, ◌++◌, map, Option, Some, None, IfSome, refl}
use Rattle.std.specs.List.{All}
use Rattle.std.proofs.lemmas.List.Elements.{All-cons, All-head, All-map, All-nil, All-tail}
use Rattle.ttcn_syntax.specs.declared.tree.definition.Definition.{Definition}
use Rattle.ttcn_syntax.specs.declared.tree.statement.Verdict.{Verdict}
use Rattle.laws_sites.proofs.Asked.{IsFineAct, asked-fine}
use Rattle.laws_sites.proofs.Frames.{IsFineData, entry-named, put-each}
use Rattle.laws_sites.proofs.Ports.{changed-differ}
use Rattle.laws_sites.specs.Standing.{IsFineComponent, IsFineFrame, IsFineItem, IsFrameOf, IsFree}
use Rattle.laws_steps.proofs.Applying.{Anyhow, AppliesEach, IfGoes, KeepsEach, Leads, OwnHas, applied, applies-each, touch-each}
use Rattle.laws_steps.proofs.Expiring.{KeepsTimers, calls-expire, data-expires}
use Rattle.laws_steps.proofs.Found.{found-each, some-of}
use Rattle.laws_steps.proofs.Running.{Steps}
use Rattle.semantics.proofs.Pairs.{All-more}
use Rattle.semantics.specs.Configurations.{Component, Configuration, Data, End, Frame, Going, Message, State, Terminated, component_at, path_of, same_path}
use Rattle.semantics.specs.Entries.{Entries}
use Rattle.semantics.specs.Items.{Doing, Item, Mark, Waiting}
use Rattle.semantics.specs.Snapshots.{Snapshot, Test, snapshot_of}
use Rattle.semantics.specs.Statements.{Act, Errs, Requests, Waits, act}
use Rattle.semantics.specs.Steps.{apply, at_queue, begin, come_in, exchanged, expire_in, expired, expired_call, touch, with_data, with_state, with_verdict, without_first}
use Rattle.semantics.specs.Storing.{in_last, with_remaining}
use Rattle.semantics.specs.Taking.{without_marks}
use Rattle.check_rules.specs.Rules.{AreWellTyped}
use Rattle.value_types.specs.Frames.{entry}
use Rattle.value_types.specs.declared.frame.TimerState.{TimerState}
use Rattle.value_types.specs.declared.frame.TimerState.TheVariants as timer
use Rattle.value_types.specs.declared.path.Path.{Path}
use Rattle.value_types.specs.declared.value.ComponentId.{ComponentId}
use Rattle.value_types.specs.declared.value.Value.{Value}

module _ (ds : List Definition) where
  abbrev Fine : Component → Type 0
  Fine = IsFineComponent ds

  abbrev pub IsFineGoing : Going → Type 0
  IsFineGoing c = All Fine c.components

  -- ---- changes of a component

  -- it leaves a component fine
  abbrev Keeps : (Component → Component) → Type 0
  Keeps = KeepsEach Fine

  pub each-keeps : (change : Component → Component) → Keeps change → (xs : List Component) → All Fine xs → All Fine (map change xs)
  each-keeps change keeps xs all = All-map Fine change xs (All-more Fine (λ x. Fine (change x)) keeps xs all)

  -- marks that come first are gone
  unmarked : (at : ℕ) (items : List Item) → All (IsFineItem ds at) items → All (IsFineItem ds at) (without_marks items)
  unmarked at [] all = all
  unmarked at (Mark site s ∷ items) all = unmarked at items (All-tail (IsFineItem ds at) (Mark site s) items all)
  unmarked at (Doing site s part ∷ items) all = all
  unmarked at (Waiting target ∷ items) all = all

  uncovered-fine : (calls : List Frame) → All (IsFineFrame ds) calls → All (IsFineFrame ds) (in_last (λ frame. with_remaining (without_marks frame.remaining) frame) calls)
  uncovered-fine [] all = all
  uncovered-fine (frame ∷ frames) all =
      let first : IsFineFrame ds frame = All-head (IsFineFrame ds) frame frames all in
      let here : IsFrameOf ds first.0 frame = first.1 in
      All-cons (IsFineFrame ds) (with_remaining (without_marks frame.remaining) frame) frames
      (first.0, record { items = unmarked first.0 frame.remaining here.items; timers = here.timers }) (All-tail (IsFineFrame ds) frame frames all)

  data-keeps : (own : Data) → IsFineData ds own → Keeps (with_data own)
  data-keeps own all x is = record { calls = uncovered-fine own.calls all; queues = is.queues }

  state-keeps : (state : State) → Keeps (with_state state)
  state-keeps state x is = record { calls = is.calls; queues = is.queues }

  verdict-keeps : (v : Verdict) → Keeps (with_verdict v)
  verdict-keeps v x is = record { calls = is.calls; queues = is.queues }

  queue-keeps : (port : List ℕ) (change : List Message → List Message) → Keeps (at_queue port change)
  queue-keeps port change x is = record { calls = is.calls; queues = changed-differ port change x.queues is.queues }

  pub begin-keeps : (frame : Frame) → IsFineFrame ds frame → Keeps (begin frame)
  begin-keeps frame fine x is = record { calls = All-cons (IsFineFrame ds) frame [] fine (All-nil (IsFineFrame ds)); queues = is.queues }

  exchanged-keeps : (own : Data) → IsFineData ds own → Keeps (exchanged own)
  exchanged-keeps own all x is = record { calls = all; queues = is.queues }

  -- ---- what a component asks for

  abbrev pub IsFineConfiguration : Configuration → Type 0
  IsFineConfiguration = IfGoes IsFineGoing

  owns : (asked : Act) → IsFineAct ds asked → OwnHas (IsFineData ds) asked
  owns Waits fine = tt
  owns (Errs why) fine = tt
  owns (Requests request own) fine = fine.1

  each : (itself : ComponentId) → AppliesEach (IsFineAct ds) (IsFineData ds) Fine itself
  each itself = record {
    owns = owns;
    settles = data-keeps;
    worsens = verdict-keeps;
    removes = λ port. queue-keeps port without_first;
    delivers = λ port to v own at asks. queue-keeps at (λ messages. messages ++ record { value = v; sender = Some itself } ∷ []);
    creates = λ new own asks. asks.0;
    starts = λ path frame own asks. begin-keeps frame asks.0;
    stops = state-keeps Terminated;
  }

  -- ---- timers

  expire-fine : (at : ℕ) (timers : Entries TimerState) (name : List ℕ) → All (λ e. IsFree ds at e.0) timers → (o : Option TimerState) → entry timers name ≡ o
      → IfSome (expire_in timers name o) (λ changed. All (λ e. IsFree ds at e.0) changed)
  expire-fine at timers name all (Some timer.Running) is = put-each (IsFree ds at) name timer.Expired timers (entry-named (IsFree ds at) name timers timer.Running all is) all
  expire-fine at timers name all (Some timer.Inactive) is = tt
  expire-fine at timers name all (Some timer.Expired) is = tt
  expire-fine at timers name all None is = tt

  frame-keeps : KeepsTimers (IsFineFrame ds)
  frame-keeps name frame timers changed fine =
      let here : IsFrameOf ds fine.0 frame = fine.1 in (
        fine.0,
        record {
          items = here.items;
          timers = some-of (λ new. All (λ e. IsFree ds fine.0 e.0) new) (expire_in frame.timers name (entry frame.timers name)) timers changed
              (expire-fine fine.0 frame.timers name here.timers (entry frame.timers name) refl);
        },
      )

  pub expired-fine : (number : ℕ) (name : List ℕ) (own : Data) → IsFineData ds own → IfSome (expired number name own) (IsFineData ds)
  expired-fine number name own all =
      data-expires (IsFineData ds) number name own (λ members changed. all)
      (λ calls changed. some-of (All (IsFineFrame ds)) (expired_call number name own.calls) calls changed (calls-expire (IsFineFrame ds) frame-keeps number name own.calls all))

  pub exchange-fine : (c : Going) (path : Path) (own : Data) → IsFineGoing c → IsFineData ds own → IsFineGoing (touch c path (exchanged own))
  exchange-fine c path own all fine = touch-each Fine c path (exchanged own) (exchanged-keeps own fine) all

  -- ---- deliveries

  pub come-fine : (c : Going) (system_port : List ℕ) (e : End) (v : Value) → IsFineGoing c → IsFineGoing (come_in system_port e v c)
  come-fine c system_port e v all =
      touch-each Fine c e.component (at_queue e.port (λ messages. messages ++ record { value = v; sender = None } ∷ []))
      (queue-keeps e.port (λ messages. messages ++ record { value = v; sender = None } ∷ [])) all

  -- ---- steps

  pub component-fine : (c : Going) (path : Path) → IsFineGoing c → IfSome (component_at c path) Fine
  component-fine c path all = found-each Fine (λ component. same_path (path_of component) path) c.components all

  pub component-at-fine : (c : Going) (path : Path) (x : Component) → IsFineGoing c → component_at c path ≡ Some x → Fine x
  component-at-fine c path x all found = some-of Fine (component_at c path) x found (component-fine c path all)

-- a component's step, whatever it has seen
pub ask-fine : (test : Test) → AreWellTyped test.definitions → (snapshot : Snapshot) (c : Going) (x : Component) → All (IsFineComponent test.definitions) c.components → IsFineComponent test.definitions x
    → Leads Anyhow (IsFineConfiguration test.definitions) (apply test c x.itself (act test snapshot x.own))
ask-fine test well snapshot c x all is =
    applied test Anyhow (IsFineAct test.definitions) (IsFineGoing test.definitions) c x.itself (applies-each (IsFineAct test.definitions) (IsFineData test.definitions) (IsFineComponent test.definitions) c x.itself all (each test.definitions x.itself))
    (act test snapshot x.own) (asked-fine test well snapshot x.own is.calls)

pub steps-fine : (test : Test) → AreWellTyped test.definitions → (c : Going) → All (IsFineComponent test.definitions) c.components → Steps test Anyhow (IsFineGoing test.definitions) c
steps-fine test well c all = record {
  asked = λ p x found runs. ask-fine test well (snapshot_of c x) c x all (component-at-fine test.definitions c p x all found);
  expires = λ p x number name own found runs changed.
      let fine : IsFineComponent test.definitions x = component-at-fine test.definitions c p x all found in
      exchange-fine test.definitions c (path_of x) own all (some-of (IsFineData test.definitions) (expired number name x.own) own changed (expired-fine test.definitions number name x.own fine.calls));
  comes = λ system_port e v mapped found. come-fine test.definitions c system_port e v all;
}
