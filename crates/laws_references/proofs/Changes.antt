-- What is done among the components leaves each component there that is referred to.
use Rattle.std.proofs.Common.{◌≡◌, ℕ, Bool, true, false, ◌&&◌, not, List, [], ◌∷◌, ◌++◌, map, Option, Some, None, IfSome, IsSomeAnd, inl, inr, is_some, option_map, bytes_eq, refl, sym, ap, subst, ◌∙◌, if◌then◌else◌}
use Rattle.std.specs.List.{All, filter, find, list_any}
use Rattle.std.specs.Ordering.{is_lt, match_ordering}
use Rattle.std.specs.declared.cmp.Ordering.{Ordering}
use Rattle.std.specs.declared.cmp.Ordering.TheVariants.{Less, Equal, Greater}
use Rattle.std.proofs.lemmas.List.Elements.{All-append, All-cons, All-filter, All-head, All-map, All-nil, All-tail}
use Rattle.ttcn_syntax.specs.declared.tree.definition.Definition.{Definition}
use Rattle.ttcn_syntax.specs.declared.tree.statement.Verdict.{Verdict}
use Rattle.laws_references.proofs.Asked.{IsAsked, IsEndOf}
use Rattle.laws_order.proofs.Families.{child-new}
use Rattle.laws_order.proofs.Puts.{put-each}
use Rattle.laws_references.proofs.More.{component-more}
use Rattle.laws_references.proofs.Ports.{names-kept, queue-found}
use Rattle.laws_references.proofs.Stored.{last-refers}
use Rattle.laws_references.proofs.There.{StayThere, found-map, found-there, new-there, stay-beside, stay-touched, there-is, touching, touching-same}
use Rattle.laws_steps.proofs.Finding.{found-path}
use Rattle.laws_references.specs.Acts.{HoldsOrIs}
use Rattle.laws_references.specs.References.{ComponentRefersTo, DataReferTo, FrameRefersTo, MessageRefersTo, QueueRefersTo, RefersTo, RefersToNone}
use Rattle.laws_references.specs.There.{HasAllReferred, HasItsPorts, IsBetweenPorts, IsOfPort, IsPortThere, IsThere, port_names}
use Rattle.laws_steps.proofs.Applying.{Anyhow, Applies}
use Rattle.laws_steps.proofs.Expiring.{KeepsTimers, calls-expire, data-expires, frame-expires}
use Rattle.laws_steps.proofs.Found.{found-each, insert-each, some-of}
use Rattle.laws_order.specs.Families.{IsFamily}
use Rattle.semantics.proofs.Pairs.{All-more}
use Rattle.semantics.specs.Configurations.{Component, Connection, Data, End, Frame, Going, Message, Queue, State, Terminated, component_at, end_cmp, is_terminated_state, path_of, same_end, same_path}
use Rattle.semantics.specs.Creating.{child_of}
use Rattle.semantics.specs.Entries.{Entries, put}
use Rattle.semantics.specs.Snapshots.{Test, mtc_of}
use Rattle.semantics.specs.Steps.{add_connection, at_queue, begin, change_queue, come_in, connection, connection_cmp, exchanged, expired, expired_call, expired_frame, insert, put_behind, settle, terminate, touch, unless_terminated, unmap_port, with_connection, with_data, with_delivery, with_mappings, with_new, with_state, with_verdict, without_first}
use Rattle.semantics.specs.Storing.{with_remaining}
use Rattle.semantics.specs.Taking.{without_marks}
use Rattle.value_types.specs.declared.path.Path.{Path}
use Rattle.value_types.specs.declared.value.ComponentId.{ComponentId}
use Rattle.value_types.specs.declared.value.Value.{Value}

module _ (P : ComponentId → Type 0) (definitions : List Definition) where
  abbrev Refers : Component → Type 0
  Refers = ComponentRefersTo P

  -- both ends of a connection are those of such components
  abbrev ConnectionRefers : Connection → Type 0
  ConnectionRefers k = IsEndOf P definitions k.one × IsEndOf P definitions k.other

  -- the port of a mapping is one of such a component
  abbrev MappingRefers : List ℕ × End → Type 0
  MappingRefers m = IsEndOf P definitions m.1

  -- all that is there refers only to such components
  pub record GoingRefers (c : Going) : Type 0 where
    pub components : All (ComponentRefersTo P) c.components
    pub ports : All (HasItsPorts definitions) c.components
    pub connections : All ConnectionRefers c.connections
    pub mappings : All MappingRefers c.mappings

  -- ---- changes of a component

  -- it adds no other references, and leaves path, type and ports
  pub record IsGentle (change : Component → Component) : Type 0 where
    pub refers : (x : Component) → Refers x → Refers (change x)
    pub same : (x : Component) → (change x).itself ≡ x.itself
    pub ports : (x : Component) → map (λ queue. queue.0) (change x).queues ≡ map (λ queue. queue.0) x.queues

  unless-refers : (b : Bool) (change : Component → Component) (x : Component) → Refers x → Refers (change x) → Refers (if b then x else change x)
  unless-refers true change x is also = is
  unless-refers false change x is also = also

  if-refers : (b : Bool) (change : Component → Component) (x : Component) → Refers x → Refers (change x) → Refers (if b then change x else x)
  if-refers true change x is also = also
  if-refers false change x is also = is

  touching-refers : (p : Path) (change : Component → Component) → IsGentle change → (x : Component) → Refers x → Refers (touching p change x)
  touching-refers p change gentle x is =
      if-refers (same_path (path_of x) p) (unless_terminated change) x is (unless-refers (is_terminated_state x.state) change x is (gentle.refers x is))

  unless-ports : (b : Bool) (change : Component → Component) (x : Component) → map (λ queue. queue.0) (change x).queues ≡ map (λ queue. queue.0) x.queues
      → map (λ queue. queue.0) (if b then x else change x).queues ≡ map (λ queue. queue.0) x.queues
  unless-ports true change x e = refl
  unless-ports false change x e = e

  if-ports : (b : Bool) (change : Component → Component) (x : Component) → map (λ queue. queue.0) (change x).queues ≡ map (λ queue. queue.0) x.queues
      → map (λ queue. queue.0) (if b then change x else x).queues ≡ map (λ queue. queue.0) x.queues
  if-ports true change x e = e
  if-ports false change x e = refl

  touching-ports : (p : Path) (change : Component → Component) → IsGentle change → (x : Component) → HasItsPorts definitions x → HasItsPorts definitions (touching p change x)
  touching-ports p change gentle x is =
      if-ports (same_path (path_of x) p) (unless_terminated change) x (unless-ports (is_terminated_state x.state) change x (gentle.ports x))
      ∙ is ∙ ap (λ (id : ComponentId). port_names definitions id.component_type) (sym (touching-same p change gentle.same x))

  pub touch-refers : (c : Going) (p : Path) (change : Component → Component) → IsGentle change → GoingRefers c → GoingRefers (touch c p change)
  touch-refers c p change gentle is = record {
    components = All-map Refers (touching p change) c.components (All-more Refers (λ x. Refers (touching p change x)) (touching-refers p change gentle) c.components is.components);
    ports = All-map (HasItsPorts definitions) (touching p change) c.components (All-more (HasItsPorts definitions) (λ x. HasItsPorts definitions (touching p change x)) (touching-ports p change gentle) c.components is.ports);
    connections = is.connections;
    mappings = is.mappings;
  }

  pub data-gentle : (own : Data) → DataReferTo P own → IsGentle (with_data own)
  data-gentle own is = record {
    refers = λ x also. record {
      own = record {
        members = is.members;
        calls = last-refers P (λ frame. with_remaining (without_marks frame.remaining) frame) (λ frame all. all) own.calls is.calls;
        defaults = is.defaults;
      };
      queues = also.queues;
    };
    same = λ x. refl;
    ports = λ x. refl;
  }

  state-gentle : (state : State) → IsGentle (with_state state)
  state-gentle state = record { refers = λ x is. record { own = is.own; queues = is.queues }; same = λ x. refl; ports = λ x. refl }

  verdict-gentle : (v : Verdict) → IsGentle (with_verdict v)
  verdict-gentle v = record { refers = λ x is. record { own = is.own; queues = is.queues }; same = λ x. refl; ports = λ x. refl }

  begin-gentle : (frame : Frame) → FrameRefersTo P frame → IsGentle (begin frame)
  begin-gentle frame fine = record {
    refers = λ x is. record {
      own = record { members = is.own.members; calls = All-cons (FrameRefersTo P) frame [] fine (All-nil (FrameRefersTo P)); defaults = is.own.defaults };
      queues = is.queues;
    };
    same = λ x. refl;
    ports = λ x. refl;
  }

  pub exchanged-gentle : (own : Data) → DataReferTo P own → IsGentle (exchanged own)
  exchanged-gentle own is = record { refers = λ x also. record { own = is; queues = also.queues }; same = λ x. refl; ports = λ x. refl }

  -- ---- messages

  -- a change of messages adds no other references
  abbrev KeepsMessages : (List Message → List Message) → Type 0
  KeepsMessages change = (messages : List Message) → All (MessageRefersTo P) messages → All (MessageRefersTo P) (change messages)

  queue-if : (port : List ℕ) (change : List Message → List Message) (queue : Queue) (queues : List Queue) (b : Bool) → KeepsMessages change → All (QueueRefersTo P) (queue ∷ queues)
      → All (QueueRefersTo P) (change_queue port change queues) → All (QueueRefersTo P) (if b then (queue.0, change queue.1) ∷ queues else queue ∷ change_queue port change queues)
  queue-if port change queue queues true keeps all others =
      All-cons (QueueRefersTo P) (queue.0, change queue.1) queues (keeps queue.1 (All-head (QueueRefersTo P) queue queues all)) (All-tail (QueueRefersTo P) queue queues all)
  queue-if port change queue queues false keeps all others = All-cons (QueueRefersTo P) queue (change_queue port change queues) (All-head (QueueRefersTo P) queue queues all) others

  queues-refer : (port : List ℕ) (change : List Message → List Message) → KeepsMessages change → (queues : List Queue) → All (QueueRefersTo P) queues → All (QueueRefersTo P) (change_queue port change queues)
  queues-refer port change keeps [] all = all
  queues-refer port change keeps (queue ∷ queues) all =
      queue-if port change queue queues (bytes_eq queue.0 port) keeps all (queues-refer port change keeps queues (All-tail (QueueRefersTo P) queue queues all))

  queue-gentle : (port : List ℕ) (change : List Message → List Message) → KeepsMessages change → IsGentle (at_queue port change)
  queue-gentle port change keeps = record { refers = λ x is. record { own = is.own; queues = queues-refer port change keeps x.queues is.queues }; same = λ x. refl; ports = λ x. names-kept port change x.queues }

  first-kept : KeepsMessages without_first
  first-kept [] all = all
  first-kept (message ∷ messages) all = All-tail (MessageRefersTo P) message messages all

  behind-kept : (message : Message) → MessageRefersTo P message → KeepsMessages (λ messages. messages ++ message ∷ [])
  behind-kept message is messages all = All-append (MessageRefersTo P) messages (message ∷ []) all (All-cons (MessageRefersTo P) message [] is (All-nil (MessageRefersTo P)))

  -- what came in refers to no component
  none-refers : (v : Value) → RefersToNone v → RefersTo P v
  none-refers v none = subst (All P) (sym none) (All-nil P)

  come-gentle : (port : List ℕ) (v : Value) → RefersToNone v → IsGentle (at_queue port (λ messages. messages ++ record { value = v; sender = None } ∷ []))
  come-gentle port v none =
      queue-gentle port (λ messages. messages ++ record { value = v; sender = None } ∷ [])
      (behind-kept (record { value = v; sender = None }) (record { value = none-refers v none; sender = tt }))

  -- ---- connections

  connection-if : (d e : End) (o : Ordering) → IsEndOf P definitions d → IsEndOf P definitions e → ConnectionRefers (match_ordering o (record { one = d; other = e }) (record { one = d; other = e }) (record { one = e; other = d }))
  connection-if d e Less one other = (one, other)
  connection-if d e Equal one other = (one, other)
  connection-if d e Greater one other = (other, one)

  added-refer : (new : Connection) (ks : List Connection) → ConnectionRefers new → All ConnectionRefers ks → All ConnectionRefers (add_connection new ks)
  added-refer new ks is all =
      All-append ConnectionRefers (filter (λ k. is_lt (connection_cmp k new)) ks) (new ∷ filter (λ k. is_lt (connection_cmp new k)) ks)
      (All-filter (λ k. is_lt (connection_cmp k new)) ConnectionRefers ks all)
      (All-cons ConnectionRefers new (filter (λ k. is_lt (connection_cmp new k)) ks) is (All-filter (λ k. is_lt (connection_cmp new k)) ConnectionRefers ks all))

  connected-refers : (c : Going) (d e : End) → IsEndOf P definitions d → IsEndOf P definitions e → GoingRefers c → GoingRefers (with_connection (connection d e) c)
  connected-refers c d e one other is = record {
    components = is.components;
    ports = is.ports;
    connections = added-refer (connection d e) c.connections (connection-if d e (end_cmp d e) one other) is.connections;
    mappings = is.mappings;
  }

  -- ---- mappings

  mapped-refers : (mappings : Entries End) (c : Going) → All MappingRefers mappings → GoingRefers c → GoingRefers (with_mappings mappings c)
  mapped-refers mappings c all is = record { components = is.components; ports = is.ports; connections = is.connections; mappings = all }

  -- ---- new components

  new-if : (Q : Component → Type 0) (new : Component) (c : Going) (b : Bool) → Q new → All Q c.components → All Q (if b then c.components else insert new c.components)
  new-if Q new c true fine all = all
  new-if Q new c false fine all = insert-each Q new fine c.components all

  pub new-refers : (new : Component) (c : Going) → Refers new → HasItsPorts definitions new → GoingRefers c → GoingRefers (with_new new c)
  new-refers new c fine its is = record {
    components = new-if Refers new c (is_some (component_at c (path_of new))) fine is.components;
    ports = new-if (HasItsPorts definitions) new c (is_some (component_at c (path_of new))) its is.ports;
    connections = is.connections;
    mappings = is.mappings;
  }

  -- ---- one change after another

  -- what is behind a configuration refers only to such components, and all that were there are there
  pub record Follows (c d : Going) : Type 0 where
    pub refers : GoingRefers d
    pub stay : StayThere c d

  pub touch-follows : (c d : Going) (p : Path) (change : Component → Component) → IsGentle change → Follows c d → Follows c (touch d p change)
  touch-follows c d p change gentle is = record {
    refers = touch-refers d p change gentle is.refers;
    stay = λ id there. stay-touched d p change gentle.same id (is.stay id there);
  }

  mapped-follows : (c d : Going) (mappings : Entries End) → All MappingRefers mappings → Follows c d → Follows c (with_mappings mappings d)
  mapped-follows c d mappings all is = record { refers = mapped-refers mappings d all is.refers; stay = λ id there. is.stay id there }

  pub itself-follows : (c : Going) → GoingRefers c → Follows c c
  itself-follows c is = record { refers = is; stay = λ id there. there }

  -- one more message came in
  counted-follows : (c d : Going) (system_port : List ℕ) → Follows c d → Follows c (with_delivery system_port d)
  counted-follows c d system_port is = record {
    refers = record { components = is.refers.components; ports = is.refers.ports; connections = is.refers.connections; mappings = is.refers.mappings };
    stay = λ id there. is.stay id there;
  }

  pub come-follows : (c : Going) (system_port : List ℕ) (e : End) (v : Value) → RefersToNone v → GoingRefers c → Follows c (come_in system_port e v c)
  come-follows c system_port e v none is =
      counted-follows c (put_behind (record { value = v; sender = None }) e c) system_port
      (touch-follows c c e.component (at_queue e.port (λ messages. messages ++ record { value = v; sender = None } ∷ [])) (come-gentle e.port v none) (itself-follows c is))

  -- some mappings go
  fewer-follows : (c d : Going) (stays : List ℕ × End → Bool) → Follows c d → Follows c (with_mappings (filter stays d.mappings) d)
  fewer-follows c d stays is = mapped-follows c d (filter stays d.mappings) (All-filter stays MappingRefers d.mappings is.refers.mappings) is

  pub settle-follows : (c : Going) (p : Path) (own : Data) → DataReferTo P own → GoingRefers c → Follows c (settle c p own)
  settle-follows c p own fine is = touch-follows c c p (with_data own) (data-gentle own fine) (itself-follows c is)

  -- ---- timers

  pub expired-refers : (number : ℕ) (name : List ℕ) (own : Data) → DataReferTo P own → IfSome (expired number name own) (DataReferTo P)
  expired-refers number name own is =
      data-expires (DataReferTo P) number name own
      (λ members changed. record {
        members = some-of (FrameRefersTo P) (expired_frame name own.members) members changed (frame-expires (FrameRefersTo P) frame-keeps name own.members is.members);
        calls = is.calls;
        defaults = is.defaults;
      })
      (λ calls changed. record {
        members = is.members;
        calls = some-of (All (FrameRefersTo P)) (expired_call number name own.calls) calls changed (calls-expire (FrameRefersTo P) frame-keeps number name own.calls is.calls);
        defaults = is.defaults;
      })
    where
      frame-keeps : KeepsTimers (FrameRefersTo P)
      frame-keeps timer frame timers new refers = refers

-- more components
end-more : (P Q : ComponentId → Type 0) (definitions : List Definition) → ((id : ComponentId) → P id → Q id) → (e : End) → IsEndOf P definitions e → IsEndOf Q definitions e
end-more P Q definitions more e is = (is.0, more is.0 is.1, is.2, is.3)

going-more : (P Q : ComponentId → Type 0) (definitions : List Definition) → ((id : ComponentId) → P id → Q id) → (c : Going) → GoingRefers P definitions c → GoingRefers Q definitions c
going-more P Q definitions more c is = record {
  components = All-more (ComponentRefersTo P) (ComponentRefersTo Q) (component-more P Q more) c.components is.components;
  ports = is.ports;
  connections = All-more (ConnectionRefers P definitions) (ConnectionRefers Q definitions) (λ k ends. (end-more P Q definitions more k.one ends.0, end-more P Q definitions more k.other ends.1)) c.connections is.connections;
  mappings = All-more (MappingRefers P definitions) (MappingRefers Q definitions) (λ m port. end-more P Q definitions more m.1 port) c.mappings is.mappings;
}

-- ---- in the words of the laws

-- a port of a component that is there, by its queue and by its type
end-there-in : (definitions : List Definition) (c : Going) (e : End) (o : Option Component) → component_at c e.component ≡ o → IfSome o (HasItsPorts definitions)
    → IsSomeAnd o (λ x. is_some (find (λ queue. bytes_eq queue.0 e.port) x.queues) ≡ true) → IsEndOf (IsThere c) definitions e
end-there-in definitions c e None found its is = absurd is
end-there-in definitions c e (Some x) found its is =
    (x.itself, found-there c e.component x found, found-path c e.component x found, ap (list_any (λ name. bytes_eq name e.port)) (sym its) ∙ sym (queue-found x.queues e.port) ∙ is)

end-there : (definitions : List Definition) (c : Going) (e : End) → All (HasItsPorts definitions) c.components → IsPortThere c e → IsEndOf (IsThere c) definitions e
end-there definitions c e its is =
    end-there-in definitions c e (component_at c e.component) refl (found-each (HasItsPorts definitions) (λ x. same_path (path_of x) e.component) c.components its) is

there-end : (definitions : List Definition) (c : Going) (e : End) → All (HasItsPorts definitions) c.components → IsEndOf (IsThere c) definitions e → IsPortThere c e
there-end definitions c e its is =
    let x = there-is c is.0 is.1 in
    let here : HasItsPorts definitions x.0 = subst (λ o. IfSome o (HasItsPorts definitions)) x.1 (found-each (HasItsPorts definitions) (λ y. same_path (path_of y) is.0.path) c.components its) in
    subst (λ o. IsSomeAnd o (λ (y : Component). is_some (find (λ queue. bytes_eq queue.0 e.port) y.queues) ≡ true)) (sym (ap (component_at c) (sym is.2) ∙ x.1))
    (queue-found x.0.queues e.port ∙ ap (list_any (λ name. bytes_eq name e.port)) (here ∙ ap (λ (id : ComponentId). port_names definitions id.component_type) x.2) ∙ is.3)

module _ (test : Test) where
  pub told : (c : Going) → HasAllReferred test c → GoingRefers (IsThere c) test.definitions c
  told c is = record {
    components = is.components;
    ports = is.ports;
    connections = All-more (IsBetweenPorts c) (ConnectionRefers (IsThere c) test.definitions)
        (λ k ends. (end-there test.definitions c k.one is.ports ends.0, end-there test.definitions c k.other is.ports ends.1)) c.connections is.connections;
    mappings = All-more (IsOfPort c) (MappingRefers (IsThere c) test.definitions) (λ m port. end-there test.definitions c m.1 is.ports port) c.mappings is.mappings;
  }

  -- where all such components are there
  pub said : (P : ComponentId → Type 0) (c : Going) → ((id : ComponentId) → P id → IsThere c id) → P (mtc_of test) → GoingRefers P test.definitions c → HasAllReferred test c
  said P c there mtc is = record {
    mtc = there (mtc_of test) mtc;
    components = All-more (ComponentRefersTo P) (ComponentRefersTo (IsThere c)) (component-more P (IsThere c) there) c.components is.components;
    ports = is.ports;
    connections = All-more (ConnectionRefers P test.definitions) (IsBetweenPorts c)
        (λ k ends. (there-end test.definitions c k.one is.ports (end-more P (IsThere c) test.definitions there k.one ends.0), there-end test.definitions c k.other is.ports (end-more P (IsThere c) test.definitions there k.other ends.1)))
        c.connections is.connections;
    mappings = All-more (MappingRefers P test.definitions) (IsOfPort c)
        (λ m port. there-end test.definitions c m.1 is.ports (end-more P (IsThere c) test.definitions there m.1 port)) c.mappings is.mappings;
  }

  -- ---- what a component asks for

  module _ (c : Going) (is : HasAllReferred test c) where
    pub followed : (d : Going) → Follows (IsThere c) test.definitions c d → HasAllReferred test d
    followed d follows = said (IsThere c) d follows.stay is.mtc follows.refers

    module _ (x : Component) (there : component_at c (path_of x) ≡ Some x) (family : IsFamily c) (here : IsThere c x.itself) where
      settled-follows : (own : Data) → DataReferTo (IsThere c) own → Follows (IsThere c) test.definitions c (settle c (path_of x) own)
      settled-follows own fine = settle-follows (IsThere c) test.definitions c (path_of x) own fine (told c is)

      -- ---- a new component

      -- none has its path
      none-there : (new : Component) (own : Data) → path_of new ≡ child_of x.itself x.own.children → component_at (settle c (path_of x) own) (path_of new) ≡ None
      none-there new own path =
          found-map (touching (path_of x) (with_data own)) (touching-same (path_of x) (with_data own) (λ y. refl)) (path_of new) c.components
          ∙ ap (option_map (touching (path_of x) (with_data own))) (child-new c x (path_of new) family there path)

      new-follows : (new : Component) (own : Data) → path_of new ≡ child_of x.itself x.own.children → ComponentRefersTo (HoldsOrIs (IsThere c) new.itself) new → DataReferTo (HoldsOrIs (IsThere c) new.itself) own
          → HasItsPorts test.definitions new → HasAllReferred test (with_new new (settle c (path_of x) own))
      new-follows new own path refers fine its =
          said (HoldsOrIs (IsThere c) new.itself) (with_new new (settle c (path_of x) own)) all-there (inl is.mtc)
          (new-refers (HoldsOrIs (IsThere c) new.itself) test.definitions new (settle c (path_of x) own) refers its settled.refers)
        where
          settled : Follows (HoldsOrIs (IsThere c) new.itself) test.definitions c (settle c (path_of x) own)
          settled = settle-follows (HoldsOrIs (IsThere c) new.itself) test.definitions c (path_of x) own fine (going-more (IsThere c) (HoldsOrIs (IsThere c) new.itself) test.definitions (λ id holds. inl holds) c (told c is))

          all-there : (id : ComponentId) → HoldsOrIs (IsThere c) new.itself id → IsThere (with_new new (settle c (path_of x) own)) id
          all-there id (inl holds) = stay-beside new (settle c (path_of x) own) (none-there new own path) id (settled.stay id holds)
          all-there id (inr e) = subst (IsThere (with_new new (settle c (path_of x) own))) (sym e) (new-there new (settle c (path_of x) own) (none-there new own path))

      -- ---- all of them

      touched : (own : Data) (p : Path) (change : Component → Component) → IsGentle (IsThere c) test.definitions change → DataReferTo (IsThere c) own → HasAllReferred test (touch (settle c (path_of x) own) p change)
      touched own p change gentle fine =
          followed (touch (settle c (path_of x) own) p change) (touch-follows (IsThere c) test.definitions c (settle c (path_of x) own) p change gentle (settled-follows own fine))

      pub applies : Applies Anyhow (IsAsked (IsThere c) test.definitions x.itself x.own.children) (HasAllReferred test) c x.itself
      applies = record {
        fails = λ why asks. tt;
        errs = tt;
        continues = λ own asks. followed (settle c (path_of x) own) (settled-follows own asks);
        worsens = λ v own asks. touched own (path_of x) (with_verdict v) (verdict-gentle (IsThere c) test.definitions v) asks;
        removes = λ port own asks. touched own (path_of x) (at_queue port without_first) (queue-gentle (IsThere c) test.definitions port without_first (first-kept (IsThere c) test.definitions)) asks;
        delivers = λ port to v own e asks. touched own e.component (at_queue e.port (λ messages. messages ++ record { value = v; sender = Some x.itself } ∷ []))
            (queue-gentle (IsThere c) test.definitions e.port (λ messages. messages ++ record { value = v; sender = Some x.itself } ∷ [])
            (behind-kept (IsThere c) test.definitions (record { value = v; sender = Some x.itself }) (record { value = asks.1; sender = here }))) asks.2;
        sends_out = λ port to v own asks. followed (settle c (path_of x) own) (settled-follows own asks.2);
        creates = λ new own asks. new-follows new own asks.0 asks.1 asks.2 asks.3;
        starts = λ path frame own asks. touched own path (begin frame) (begin-gentle (IsThere c) test.definitions frame asks.1) asks.2;
        lacks = λ path frame own asks found. tt;
        stops = λ path own asks.
            let ended : Follows (IsThere c) test.definitions c (touch (settle c (path_of x) own) path (with_state Terminated)) =
            touch-follows (IsThere c) test.definitions c (settle c (path_of x) own) path (with_state Terminated) (state-gentle (IsThere c) test.definitions Terminated) (settled-follows own asks.1) in
            followed (terminate path (settle c (path_of x) own))
            (fewer-follows (IsThere c) test.definitions c (touch (settle c (path_of x) own) path (with_state Terminated)) (λ m. not (same_path m.1.component path)) ended);
        connects = λ d e own asks.
            let settled : Follows (IsThere c) test.definitions c (settle c (path_of x) own) = settled-follows own asks.2 in
            followed (with_connection (connection d e) (settle c (path_of x) own)) (record {
              refers = connected-refers (IsThere c) test.definitions (settle c (path_of x) own) d e asks.0 asks.1 settled.refers;
              stay = λ id there. settled.stay id there;
            });
        maps = λ d system_port own asks.
            let settled : Follows (IsThere c) test.definitions c (settle c (path_of x) own) = settled-follows own asks.1 in
            followed (with_mappings (put system_port d c.mappings) (settle c (path_of x) own))
            (mapped-follows (IsThere c) test.definitions c (settle c (path_of x) own) (put system_port d c.mappings)
            (put-each (MappingRefers (IsThere c) test.definitions) system_port d c.mappings asks.0 settled.refers.mappings) settled);
        unmaps = λ d system_port own asks.
            followed (unmap_port (settle c (path_of x) own) d system_port)
            (fewer-follows (IsThere c) test.definitions c (settle c (path_of x) own) (λ m. not (same_end d m.1 && bytes_eq m.0 system_port)) (settled-follows own asks.1));
      }
