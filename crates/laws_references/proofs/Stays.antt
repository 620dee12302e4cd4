-- No step takes a component away, or changes its path or type.
use Rattle.std.proofs.Common.{◌≡◌, ℕ, Bool, true, false, List, [], ◌∷◌, ◌++◌, Option, Some, None, IfSome, is_some, option_map, refl, ap, subst, if◌then◌else◌}
use Rattle.std.specs.List.{filter, find}
use Rattle.std.specs.Option.{option_and_then}
use Rattle.laws_references.proofs.More.{message-more}
use Rattle.laws_references.proofs.There.{StayThere, stay-beside, stay-touched, there-by}
use Rattle.laws_references.specs.References.{MessageRefersTo, SnapshotRefersTo}
use Rattle.laws_references.specs.There.{IsThere}
use Rattle.semantics.proofs.Pairs.{All-more}
use Rattle.semantics.specs.Configurations.{Component, Configuration, Created, Data, End, Ended, Frame, Goes, Going, Message, Running, State, Terminated, component_at, is_running_state, overall, path_of, same_path}
use Rattle.semantics.specs.Entries.{put}
use Rattle.semantics.specs.Snapshots.{Snapshot, Test, mtc_of, snapshot_of}
use Rattle.semantics.specs.Statements.{Act, Connects, Continues, Creates, Errs, Maps, Removes, Requests, Sends, Starts, Stops, Unmaps, Waits, Worsens, act}
use Rattle.semantics.specs.Steps.{Delivery, Expiry, Label, Statement, addressed, apply, at_queue, begin, come_in, connect, connection, deliver, ending, exchanged, expired, expiry_step, insert, is_kept_apart, is_kept_unmapped, is_mapped, map_port, next, next_message, peers, send, send_out, send_to_peer, settle, settled, start_component, start_created, start_in, statement_step, step_in, terminate, touch, with_connection, with_data, with_mappings, with_new, with_state, with_verdict, without_first}
use Rattle.value_types.specs.Frames.{entry}
use Rattle.value_types.specs.Outcomes.{Fails, IfYields, Outcome, Yields, dynamic_error}
use Rattle.value_types.specs.declared.path.Path.{Path}
use Rattle.value_types.specs.declared.value.ComponentId.{ComponentId}
use Rattle.value_types.specs.declared.value.Value.{Value}

module _ (c : Going) where
  abbrev StaysIn : Configuration → Type 0
  StaysIn (Ended v) = Unit {0}
  StaysIn (Goes d) = StayThere c d

  abbrev LeadsOn : Option (Outcome Configuration) → Type 0
  LeadsOn o = IfSome o (λ out. IfYields out StaysIn)

  touched : (d : Going) (p : Path) (change : Component → Component) → ((x : Component) → (change x).itself ≡ x.itself) → StayThere c d → StayThere c (touch d p change)
  touched d p change same stay id there = stay-touched d p change same id (stay id there)

  stay-settled : (p : Path) (own : Data) → StayThere c (settle c p own)
  stay-settled p own = stay-touched c p (with_data own) (λ x. refl)

  ending-stays : (o : Outcome Going) → IfYields o (StayThere c) → IfYields (ending o) StaysIn
  ending-stays (Yields d) stay = stay
  ending-stays (Fails why) stay = tt

  deliver-stays : (d : Going) (message : Message) (ends : List End) → StayThere c d → IfYields (deliver d message ends) (StayThere c)
  deliver-stays d message [] stay = tt
  deliver-stays d message (e ∷ []) stay = touched d e.component (at_queue e.port (λ messages. messages ++ message ∷ [])) (λ x. refl) stay
  deliver-stays d message (e ∷ f ∷ ends) stay = tt

  out-stays : (d : Going) (to : Option Path) → StayThere c d → IfYields (send_out d to) (StayThere c)
  out-stays d None stay = stay
  out-stays d (Some path) stay = tt

  send-stays : (b : Bool) (d : Going) (sender : ComponentId) (port : List ℕ) (to : Option Path) (v : Value) → StayThere c d → IfYields (if b then send_out d to else send_to_peer d sender port to v) (StayThere c)
  send-stays true d sender port to v stay = out-stays d to stay
  send-stays false d sender port to v stay =
      deliver-stays d (record { value = v; sender = Some sender }) (filter (addressed to) (peers d (record { component = sender.path; port = port }))) stay

  start-stays-in : (d : Going) (p : Path) (frame : Frame) (state : State) → StayThere c d → IfYields (start_in d p frame state) (StayThere c)
  start-stays-in d p frame Created stay = touched d p (begin frame) (λ x. refl) stay
  start-stays-in d p frame Running stay = tt
  start-stays-in d p frame Terminated stay = tt

  start-stays : (d : Going) (p : Path) (frame : Frame) (found : Option Component) → StayThere c d → IfYields (start_created d p frame found) (StayThere c)
  start-stays d p frame None stay = tt
  start-stays d p frame (Some component) stay = start-stays-in d p frame component.state stay

  stop-stays : (b : Bool) (d : Going) (p : Path) → StayThere c d → StaysIn (if b then Ended (overall d) else Goes (terminate p d))
  stop-stays true d p stay = tt
  stop-stays false d p stay = λ id there. touched d p (with_state Terminated) (λ x. refl) stay id there

  connect-stays : (b : Bool) (g : Going) (d e : End) → StayThere c g → IfYields (if b then dynamic_error else Yields (with_connection (connection d e) g)) (StayThere c)
  connect-stays true g d e stay = tt
  connect-stays false g d e stay = λ id there. stay id there

  map-stays : (b : Bool) (g : Going) (d : End) (system_port : List ℕ) → StayThere c g → IfYields (if b then dynamic_error else Yields (with_mappings (put system_port d g.mappings) g)) (StayThere c)
  map-stays true g d system_port stay = tt
  map-stays false g d system_port stay = λ id there. stay id there

  new-stays-in : (new : Component) (d : Going) (o : Option Component) → component_at d (path_of new) ≡ o → StayThere d (with_new new d)
  new-stays-in new d None none = stay-beside new d none
  new-stays-in new d (Some x) found = λ id there.
      there-by (with_new new d) id (component_at d id.path)
      (ap (λ o. find (λ y. same_path (path_of y) id.path) (if is_some o then d.components else insert new d.components)) found) there

  applied-stays : (test : Test) (itself : ComponentId) (asked : Act) → LeadsOn (apply test c itself asked)
  applied-stays test itself Waits = tt
  applied-stays test itself (Errs why) = tt
  applied-stays test itself (Requests Continues own) = stay-settled itself.path own
  applied-stays test itself (Requests (Worsens v) own) = touched (settle c itself.path own) itself.path (with_verdict v) (λ x. refl) (stay-settled itself.path own)
  applied-stays test itself (Requests (Removes port) own) = touched (settle c itself.path own) itself.path (at_queue port without_first) (λ x. refl) (stay-settled itself.path own)
  applied-stays test itself (Requests (Sends port to v) own) =
      ending-stays (send (settle c itself.path own) itself port to v)
      (send-stays (is_mapped (settle c itself.path own) (record { component = itself.path; port = port })) (settle c itself.path own) itself port to v (stay-settled itself.path own))
  applied-stays test itself (Requests (Creates new) own) = λ id there.
      new-stays-in new (settle c itself.path own) (component_at (settle c itself.path own) (path_of new)) refl id (stay-settled itself.path own id there)
  applied-stays test itself (Requests (Starts path frame) own) =
      ending-stays (start_component (settle c itself.path own) path frame)
      (start-stays (settle c itself.path own) path frame (component_at (settle c itself.path own) path) (stay-settled itself.path own))
  applied-stays test itself (Requests (Stops path) own) = stop-stays (same_path path (mtc_of test).path) (settle c itself.path own) path (stay-settled itself.path own)
  applied-stays test itself (Requests (Connects d e) own) =
      ending-stays (connect (settle c itself.path own) d e)
      (connect-stays (is_kept_apart (settle c itself.path own) d e) (settle c itself.path own) d e (stay-settled itself.path own))
  applied-stays test itself (Requests (Maps d system_port) own) =
      ending-stays (map_port (settle c itself.path own) d system_port)
      (map-stays (is_kept_unmapped (settle c itself.path own) d system_port) (settle c itself.path own) d system_port (stay-settled itself.path own))
  applied-stays test itself (Requests (Unmaps d system_port) own) = λ id there. stay-settled itself.path own id there

  -- ---- steps

  running-stays : (b : Bool) (o : Option (Outcome Configuration)) → LeadsOn o → LeadsOn (if b then o else None)
  running-stays true o stay = stay
  running-stays false o stay = tt

  exchanged-stays : (x : Component) (o : Option Data) → LeadsOn (option_map (λ own. Yields (Goes (touch c (path_of x) (exchanged own)))) o)
  exchanged-stays x None = tt
  exchanged-stays x (Some own) = stay-touched c (path_of x) (exchanged own) (λ y. refl)

  then-stays : (step : Component → Option (Outcome Configuration)) (o : Option Component) → ((x : Component) → LeadsOn (step x)) → LeadsOn (option_and_then step o)
  then-stays step None stay = tt
  then-stays step (Some x) stay = stay x

  come-stays : (test : Test) (system_port : List ℕ) (e : End) (o : Option Value) → LeadsOn (option_map (λ v. Yields (Goes (come_in system_port e v c))) o)
  come-stays test system_port e None = tt
  come-stays test system_port e (Some v) =
      λ id there. touched c e.component (at_queue e.port (λ messages. messages ++ record { value = v; sender = None } ∷ [])) (λ x. refl) (λ other is. is) id there

  delivery-stays : (test : Test) (system_port : List ℕ) (o : Option End) → LeadsOn (option_and_then (λ e. option_map (λ v. Yields (Goes (come_in system_port e v c))) (next_message test c system_port)) o)
  delivery-stays test system_port None = tt
  delivery-stays test system_port (Some e) = come-stays test system_port e (next_message test c system_port)

  step-stays : (test : Test) (label : Label) → LeadsOn (step_in test c label)
  step-stays test (Statement p) =
      then-stays (statement_step test c) (component_at c p)
      (λ x. running-stays (is_running_state x.state) (apply test c x.itself (act test (snapshot_of c x) x.own)) (applied-stays test x.itself (act test (snapshot_of c x) x.own)))
  step-stays test (Expiry p number name) =
      then-stays (expiry_step c number name) (component_at c p)
      (λ x. running-stays (is_running_state x.state) (option_map (λ own. Yields (Goes (touch c (path_of x) (exchanged own)))) (expired number name x.own)) (exchanged-stays x (expired number name x.own)))
  step-stays test (Delivery system_port) = delivery-stays test system_port (entry c.mappings system_port)

  settled-stays : (o : Outcome Configuration) → IfYields o StaysIn → StaysIn (settled o)
  settled-stays (Yields d) stay = stay
  settled-stays (Fails why) stay = tt

  mapped-stays : (o : Option (Outcome Configuration)) → LeadsOn o → IfSome (option_map settled o) StaysIn
  mapped-stays None stay = tt
  mapped-stays (Some out) stay = settled-stays out stay

pub asked-stays : (test : Test) (c d : Going) (itself : ComponentId) (asked : Act) → apply test c itself asked ≡ Some (Yields (Goes d)) → (id : ComponentId) → IsThere c id → IsThere d id
asked-stays test c d itself asked e = subst (LeadsOn c) e (applied-stays c test itself asked)

pub next-stays : (test : Test) (c d : Going) (label : Label) → next test (Goes c) label ≡ Some (Goes d) → (id : ComponentId) → IsThere c id → IsThere d id
next-stays test c d label e = subst (λ o. IfSome o (StaysIn c)) e (mapped-stays c (step_in test c label) (step-stays c test label))

-- so what a snapshot refers to is there behind each step
front-more : (c d : Going) → ((id : ComponentId) → IsThere c id → IsThere d id) → (o : Option Message) → IfSome o (MessageRefersTo (IsThere c)) → IfSome o (MessageRefersTo (IsThere d))
front-more c d stay None is = tt
front-more c d stay (Some message) is = message-more (IsThere c) (IsThere d) stay message is

pub snapshot-stays : (test : Test) (c d : Going) (label : Label) (snapshot : Snapshot) → next test (Goes c) label ≡ Some (Goes d) → SnapshotRefersTo (IsThere c) snapshot → SnapshotRefersTo (IsThere d) snapshot
snapshot-stays test c d label snapshot e all =
    All-more (λ (front : List ℕ × Option Message). IfSome front.1 (MessageRefersTo (IsThere c))) (λ front. IfSome front.1 (MessageRefersTo (IsThere d)))
    (λ front is. front-more c d (next-stays test c d label e) front.1 is) snapshot.fronts all
