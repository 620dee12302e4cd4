-- One walk over what is done among the components: a law says what each change of a configuration keeps, and the walk says it of where a step leads.
use Rattle.std.proofs.Common.{◌≡◌, ℕ, Bool, true, false, List, [], ◌∷◌, ◌++◌, Option, Some, None, IfSome, is_some, refl, if◌then◌else◌}
use Rattle.std.specs.List.{All, filter}
use Rattle.std.proofs.lemmas.List.Elements.{All-map}
use Rattle.ttcn_syntax.specs.declared.tree.statement.Verdict.{Verdict}
use Rattle.laws_steps.proofs.Found.{new-each}
use Rattle.semantics.proofs.Pairs.{All-more}
use Rattle.semantics.specs.Configurations.{Component, Configuration, Created, Data, End, Ended, Frame, Goes, Going, Running, State, Terminated, component_at, is_terminated_state, overall, path_of, same_path}
use Rattle.semantics.specs.Snapshots.{Test, mtc_of}
use Rattle.semantics.specs.Entries.{put}
use Rattle.semantics.specs.Statements.{Act, Connects, Continues, Creates, Errs, Maps, Removes, Requests, Sends, Starts, Stops, Unmaps, Waits, Worsens}
use Rattle.semantics.specs.Steps.{addressed, apply, at_queue, begin, connection, deliver, ending, is_kept_apart, is_kept_unmapped, is_mapped, peers, send_out, send_to_peer, settle, start_created, start_in, terminate, touch, unless_terminated, unmap_port, with_connection, with_data, with_mappings, with_new, with_state, with_verdict, without_first}
use Rattle.value_types.specs.Outcomes.{DynamicError, Failure, Fails, Outcome, Unmet, Yields, dynamic_error}
use Rattle.value_types.specs.declared.path.Path.{Path}
use Rattle.value_types.specs.declared.value.ComponentId.{ComponentId}
use Rattle.value_types.specs.declared.value.Value.{Value}

-- ---- where a step leads

-- something holds of a configuration in which the test case goes on
abbrev pub IfGoes : (Going → Type 0) → Configuration → Type 0
IfGoes Stands (Ended v) = Unit {0}
IfGoes Stands (Goes c) = Stands c

-- an outcome is such a configuration, or fails as it may
abbrev pub LeadsWell : (Failure → Type 0) → (Configuration → Type 0) → Outcome Configuration → Type 0
LeadsWell May Stands (Yields c) = Stands c
LeadsWell May Stands (Fails why) = May why

-- a step, where there is one, leads to such a configuration, or fails as it may
abbrev pub Leads : (Failure → Type 0) → (Configuration → Type 0) → Option (Outcome Configuration) → Type 0
Leads May Stands o = IfSome o (LeadsWell May Stands)

-- what two laws say, together
pub both-lead : (May : Failure → Type 0) (One Other Both : Going → Type 0) → ((c : Going) → One c → Other c → Both c) → (o : Option (Outcome Configuration)) → Leads May (IfGoes One) o → Leads May (IfGoes Other) o → Leads May (IfGoes Both) o
both-lead May One Other Both join None one other = tt
both-lead May One Other Both join (Some (Yields (Ended v))) one other = tt
both-lead May One Other Both join (Some (Yields (Goes c))) one other = join c one other
both-lead May One Other Both join (Some (Fails why)) one other = one

-- What a law says of what is done among the components of a configuration, for what one of them asks for: how the step may fail, and what holds of the configuration behind.
pub record Applies (May : Failure → Type 0) (Asks : Act → Type 0) (Stands : Going → Type 0) (c : Going) (itself : ComponentId) : Type 0 where
  pub fails : (why : Failure) → Asks (Errs why) → May why
  pub errs : May DynamicError
  pub continues : (own : Data) → Asks (Requests Continues own) → Stands (settle c itself.path own)
  pub worsens : (v : Verdict) (own : Data) → Asks (Requests (Worsens v) own) → Stands (touch (settle c itself.path own) itself.path (with_verdict v))
  pub removes : (port : List ℕ) (own : Data) → Asks (Requests (Removes port) own) → Stands (touch (settle c itself.path own) itself.path (at_queue port without_first))
  pub delivers : (port : List ℕ) (to : Option Path) (v : Value) (own : Data) (e : End) → Asks (Requests (Sends port to v) own)
      → Stands (touch (settle c itself.path own) e.component (at_queue e.port (λ messages. messages ++ record { value = v; sender = Some itself } ∷ [])))
  pub sends_out : (port : List ℕ) (to : Option Path) (v : Value) (own : Data) → Asks (Requests (Sends port to v) own) → Stands (settle c itself.path own)
  pub creates : (new : Component) (own : Data) → Asks (Requests (Creates new) own) → Stands (with_new new (settle c itself.path own))
  pub starts : (path : Path) (frame : Frame) (own : Data) → Asks (Requests (Starts path frame) own) → Stands (touch (settle c itself.path own) path (begin frame))
  pub lacks : (path : Path) (frame : Frame) (own : Data) → Asks (Requests (Starts path frame) own) → component_at (settle c itself.path own) path ≡ None → May Unmet
  pub stops : (path : Path) (own : Data) → Asks (Requests (Stops path) own) → Stands (terminate path (settle c itself.path own))
  pub connects : (d e : End) (own : Data) → Asks (Requests (Connects d e) own) → Stands (with_connection (connection d e) (settle c itself.path own))
  pub maps : (d : End) (system_port : List ℕ) (own : Data) → Asks (Requests (Maps d system_port) own) → Stands (with_mappings (put system_port d c.mappings) (settle c itself.path own))
  pub unmaps : (d : End) (system_port : List ℕ) (own : Data) → Asks (Requests (Unmaps d system_port) own) → Stands (unmap_port (settle c itself.path own) d system_port)

module _ (test : Test) (May : Failure → Type 0) (Asks : Act → Type 0) (Stands : Going → Type 0) (c : Going) (itself : ComponentId) (applies : Applies May Asks Stands c itself) where
  abbrev Well : Outcome Configuration → Type 0
  Well o = LeadsWell May (IfGoes Stands) o

  delivered : (port : List ℕ) (to : Option Path) (v : Value) (own : Data) (ends : List End) → Asks (Requests (Sends port to v) own)
      → Well (ending (deliver (settle c itself.path own) (record { value = v; sender = Some itself }) ends))
  delivered port to v own [] asks = applies.errs
  delivered port to v own (e ∷ []) asks = applies.delivers port to v own e asks
  delivered port to v own (d ∷ e ∷ ends) asks = applies.errs

  sent-out : (port : List ℕ) (to : Option Path) (v : Value) (own : Data) (named : Option Path) → Asks (Requests (Sends port to v) own) → Well (ending (send_out (settle c itself.path own) named))
  sent-out port to v own None asks = applies.sends_out port to v own asks
  sent-out port to v own (Some path) asks = applies.errs

  sent : (port : List ℕ) (to : Option Path) (v : Value) (own : Data) (b : Bool) → Asks (Requests (Sends port to v) own)
      → Well (ending (if b then send_out (settle c itself.path own) to else send_to_peer (settle c itself.path own) itself port to v))
  sent port to v own true asks = sent-out port to v own to asks
  sent port to v own false asks = delivered port to v own (filter (addressed to) (peers (settle c itself.path own) (record { component = itself.path; port = port }))) asks

  started-in : (path : Path) (frame : Frame) (own : Data) (state : State) → Asks (Requests (Starts path frame) own) → Well (ending (start_in (settle c itself.path own) path frame state))
  started-in path frame own Created asks = applies.starts path frame own asks
  started-in path frame own Running asks = applies.errs
  started-in path frame own Terminated asks = applies.errs

  started : (path : Path) (frame : Frame) (own : Data) (found : Option Component) → component_at (settle c itself.path own) path ≡ found → Asks (Requests (Starts path frame) own)
      → Well (ending (start_created (settle c itself.path own) path frame found))
  started path frame own None is asks = applies.lacks path frame own asks is
  started path frame own (Some component) is asks = started-in path frame own component.state asks

  stopped : (path : Path) (own : Data) (b : Bool) → Asks (Requests (Stops path) own) → IfGoes Stands (if b then Ended (overall (settle c itself.path own)) else Goes (terminate path (settle c itself.path own)))
  stopped path own true asks = tt
  stopped path own false asks = applies.stops path own asks

  connected : (d e : End) (own : Data) (b : Bool) → Asks (Requests (Connects d e) own) → Well (ending (if b then dynamic_error else Yields (with_connection (connection d e) (settle c itself.path own))))
  connected d e own true asks = applies.errs
  connected d e own false asks = applies.connects d e own asks

  port-mapped : (d : End) (system_port : List ℕ) (own : Data) (b : Bool) → Asks (Requests (Maps d system_port) own)
      → Well (ending (if b then dynamic_error else Yields (with_mappings (put system_port d c.mappings) (settle c itself.path own))))
  port-mapped d system_port own true asks = applies.errs
  port-mapped d system_port own false asks = applies.maps d system_port own asks

  -- where a step leads in which a component asks for this
  pub applied : (asked : Act) → Asks asked → Leads May (IfGoes Stands) (apply test c itself asked)
  applied Waits asks = tt
  applied (Errs why) asks = applies.fails why asks
  applied (Requests Continues own) asks = applies.continues own asks
  applied (Requests (Worsens v) own) asks = applies.worsens v own asks
  applied (Requests (Removes port) own) asks = applies.removes port own asks
  applied (Requests (Sends port to v) own) asks = sent port to v own (is_mapped (settle c itself.path own) (record { component = itself.path; port = port })) asks
  applied (Requests (Creates new) own) asks = applies.creates new own asks
  applied (Requests (Starts path frame) own) asks = started path frame own (component_at (settle c itself.path own) path) refl asks
  applied (Requests (Stops path) own) asks = stopped path own (same_path path (mtc_of test).path) asks
  applied (Requests (Connects d e) own) asks = connected d e own (is_kept_apart (settle c itself.path own) d e) asks
  applied (Requests (Maps d system_port) own) asks = port-mapped d system_port own (is_kept_unmapped (settle c itself.path own) d system_port) asks
  applied (Requests (Unmaps d system_port) own) asks = applies.unmaps d system_port own asks

-- ---- what holds of each component

-- how a step that fails may do so, where nothing is said of it
abbrev pub Anyhow : Failure → Type 0
Anyhow why = Unit {0}

-- a component's own data behind the step have it, where there are some
abbrev pub OwnHas : (Data → Type 0) → Act → Type 0
OwnHas Has Waits = Unit {0}
OwnHas Has (Errs why) = Unit {0}
OwnHas Has (Requests request own) = Has own

-- a change of a component keeps what holds of it
abbrev pub KeepsEach : (Component → Type 0) → (Component → Component) → Type 0
KeepsEach Is change = (x : Component) → Is x → Is (change x)

-- What a law says of each change of a component, where it speaks of components one by one. What is asked for says enough of the component's own data (`Has`).
pub record AppliesEach (Asks : Act → Type 0) (Has : Data → Type 0) (Is : Component → Type 0) (itself : ComponentId) : Type 0 where
  pub owns : (asked : Act) → Asks asked → OwnHas Has asked
  pub settles : (own : Data) → Has own → KeepsEach Is (with_data own)
  pub worsens : (v : Verdict) → KeepsEach Is (with_verdict v)
  pub removes : (port : List ℕ) → KeepsEach Is (at_queue port without_first)
  pub delivers : (port : List ℕ) (to : Option Path) (v : Value) (own : Data) (at : List ℕ) → Asks (Requests (Sends port to v) own) → KeepsEach Is (at_queue at (λ messages. messages ++ record { value = v; sender = Some itself } ∷ []))
  pub creates : (new : Component) (own : Data) → Asks (Requests (Creates new) own) → Is new
  pub starts : (path : Path) (frame : Frame) (own : Data) → Asks (Requests (Starts path frame) own) → KeepsEach Is (begin frame)
  pub stops : KeepsEach Is (with_state Terminated)

module _ (Is : Component → Type 0) where
  either-is : (b : Bool) (x y : Component) → Is x → Is y → Is (if b then x else y)
  either-is true x y one other = one
  either-is false x y one other = other

  -- a change of the components with a path
  pub touch-each : (c : Going) (path : Path) (change : Component → Component) → KeepsEach Is change → All Is c.components → All Is (touch c path change).components
  touch-each c path change keeps all =
      All-map Is (λ x. if same_path (path_of x) path then unless_terminated change x else x) c.components
      (All-more Is (λ x. Is (if same_path (path_of x) path then unless_terminated change x else x))
      (λ x is. either-is (same_path (path_of x) path) (unless_terminated change x) x (either-is (is_terminated_state x.state) x (change x) is (keeps x is)) is)
      c.components all)

-- a law that speaks of components one by one
pub applies-each : (Asks : Act → Type 0) (Has : Data → Type 0) (Is : Component → Type 0) (c : Going) (itself : ComponentId) → All Is c.components → AppliesEach Asks Has Is itself
    → Applies Anyhow Asks (λ d. All Is d.components) c itself
applies-each Asks Has Is c itself all each = record {
  fails = λ why asks. tt;
  errs = tt;
  continues = λ own asks. settled own (each.owns (Requests Continues own) asks);
  worsens = λ v own asks. touch-each Is (settle c itself.path own) itself.path (with_verdict v) (each.worsens v) (settled own (each.owns (Requests (Worsens v) own) asks));
  removes = λ port own asks. touch-each Is (settle c itself.path own) itself.path (at_queue port without_first) (each.removes port) (settled own (each.owns (Requests (Removes port) own) asks));
  delivers = λ port to v own e asks. touch-each Is (settle c itself.path own) e.component (at_queue e.port (λ messages. messages ++ record { value = v; sender = Some itself } ∷ [])) (each.delivers port to v own e.port asks)
      (settled own (each.owns (Requests (Sends port to v) own) asks));
  sends_out = λ port to v own asks. settled own (each.owns (Requests (Sends port to v) own) asks);
  creates = λ new own asks. new-each Is new (settle c itself.path own) (is_some (component_at (settle c itself.path own) (path_of new))) (each.creates new own asks) (settled own (each.owns (Requests (Creates new) own) asks));
  starts = λ path frame own asks. touch-each Is (settle c itself.path own) path (begin frame) (each.starts path frame own asks) (settled own (each.owns (Requests (Starts path frame) own) asks));
  lacks = λ path frame own asks found. tt;
  stops = λ path own asks. touch-each Is (settle c itself.path own) path (with_state Terminated) each.stops (settled own (each.owns (Requests (Stops path) own) asks));
  connects = λ d e own asks. settled own (each.owns (Requests (Connects d e) own) asks);
  maps = λ d system_port own asks. settled own (each.owns (Requests (Maps d system_port) own) asks);
  unmaps = λ d system_port own asks. settled own (each.owns (Requests (Unmaps d system_port) own) asks);
}
  where
    settled : (own : Data) → Has own → All Is (settle c itself.path own).components
    settled own has = touch-each Is c itself.path (with_data own) (each.settles own has) all
