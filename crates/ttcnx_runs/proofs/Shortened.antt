-- With only the messages in front of the others, the same labels are enabled, and a state stays one.
use Rattle.std.proofs.Common.{◌≡◌, Bool, true, false, List, [], ◌∷◌, ◌++◌, map, Less, refl, sym, ap, subst, ◌∙◌, if◌then◌else◌}
use Rattle.std.proofs.lemmas.List.Elements.{All-map}
use Rattle.std.proofs.lemmas.List.Kept.{AllPairs-cons}
use Rattle.std.specs.List.{filter, flat_map, fold}
use Rattle.std.specs.Option.{option_to_list}
use Rattle.std.specs.Prelude.{AllPairs, ◌&&◌, not}
use Rattle.ttcn_syntax.specs.declared.tree.statement.Verdict.{Verdict}
use Rattle.config_packed.specs.Pieces.{first_message, shortened_component, shortened_going, shortened_queue}
use Rattle.config_parts.specs.Legend.{Legend, component_by, going_by, message_by, queue_by}
use Rattle.config_parts.specs.Views.{IsWithin}
use Rattle.config_parts.specs.declared.component.Component.{Component}
use Rattle.config_parts.specs.declared.component.Message.{Message}
use Rattle.config_parts.specs.declared.component.Queue.{Queue}
use Rattle.config_parts.specs.declared.config.Config.TheVariants as config
use Rattle.config_parts.specs.declared.config.Going.{Going}
use Rattle.laws_local.proofs.Seeing.{labels_alike}
use Rattle.laws_local.specs.Alone.{LookAlike, SeeAlike, outside_of}
use Rattle.laws_order.specs.Order.{HasNoMarkFirst, HasValuesInOrder, IsInOrder}
use Rattle.semantics.proofs.LiveSteps.{found-over, map-same, map-twice, over_in}
use Rattle.semantics.proofs.Pairs.{All-more, pairs-head, pairs-tail}
use Rattle.semantics.specs.Configurations as rules
use Rattle.semantics.specs.Labels.{deliveries, labels, labels_of_component}
use Rattle.semantics.specs.LiveParts.{forget_verdict, husk, is_live, live_component, live_going, live_part}
use Rattle.semantics.specs.Order.{IsOrderedWithin}
use Rattle.semantics.specs.Snapshots.{Test, front_at, front_of}
use Rattle.ttcn_step.specs.FrameLimit.{KeepsFrameLimit}
use Rattle.ttcn_step.specs.Machines.{Machine, extent, legend, said}
use Rattle.ttcnx_runs.specs.Runs.{FitsRuns}
use Rattle.ttcnx_runs.specs.internal.Recalls.{FitsState}
use Rattle.value_types.specs.declared.path.Path.{Path}

-- ---- by the rules

abbrev shorten_queue : rules.Queue → rules.Queue
shorten_queue queue = (queue.0, option_to_list (front_of queue.1))

abbrev shorten : rules.Component → rules.Component
shorten x = record { itself = x.itself; own = x.own; state = x.state; verdict = x.verdict; queues = map shorten_queue x.queues }

abbrev shorten_all : rules.Going → rules.Going
shorten_all c = record { components = map shorten c.components; connections = c.connections; mappings = c.mappings; delivered = c.delivered; forgotten = c.forgotten }

-- ---- what is seen

front-kept : (ms : List rules.Message) → front_of (option_to_list (front_of ms)) ≡ front_of ms
front-kept [] = refl
front-kept (m ∷ ms) = refl

fronts-kept : (qs : List rules.Queue) → map front_at (map shorten_queue qs) ≡ map front_at qs
fronts-kept [] = refl
fronts-kept (q ∷ qs) = λ i. (q.0, front-kept q.1 i) ∷ fronts-kept qs i

module _ (c : rules.Going) where
  look : LookAlike (shorten_all c) c
  look = map-twice outside_of shorten outside_of (λ x. refl) c.components

  see : (x : rules.Component) → SeeAlike (shorten x) x
  see x = record { itself = refl; own = refl; state = refl; verdict = refl; fronts = fronts-kept x.queues }

  component-labels-kept : (test : Test) (xs : List rules.Component) → flat_map (labels_of_component test (shorten_all c)) (map shorten xs) ≡ flat_map (labels_of_component test c) xs
  component-labels-kept test [] = refl
  component-labels-kept test (x ∷ xs) = λ i. labels_alike test (shorten_all c) c (shorten x) x look (see x) i ++ component-labels-kept test xs i

  labels-kept : (test : Test) → labels test (rules.Goes (shorten_all c)) ≡ labels test (rules.Goes c)
  labels-kept test = ap (λ ls. ls ++ deliveries test c) (component-labels-kept test c.components)

-- ---- live parts

live-one : (x : rules.Component) → live_component (shorten x) ≡ shorten (live_component x)
live-one x = told (rules.is_terminated_state x.state)
  where
    told : (b : Bool) → (if b then husk (rules.path_of x) else shorten x) ≡ shorten (if b then husk (rules.path_of x) else x)
    told true = refl
    told false = refl

live-components : (xs : List rules.Component) → map live_component xs ≡ xs → map live_component (map shorten xs) ≡ map shorten xs
live-components xs live =
    map-twice live_component shorten (λ x. shorten (live_component x)) live-one xs
    ∙ sym (map-twice shorten live_component (λ x. shorten (live_component x)) (λ x. refl) xs)
    ∙ ap (map shorten) live

over-kept : (p : Path) (xs : List rules.Component) → over_in (map shorten xs) p ≡ over_in xs p
over-kept p xs = found-over shorten (λ x. x) (λ x. refl) (λ x. refl) p xs ∙ ap (λ ys. over_in ys p) (map-same xs)

filtered-alike : {A : Type 0} (p q : A → Bool) → ((a : A) → p a ≡ q a) → (xs : List A) → filter p xs ≡ filter q xs
filtered-alike p q same [] = refl
filtered-alike p q same (x ∷ xs) = λ i. if same x i then x ∷ filtered-alike p q same xs i else filtered-alike p q same xs i

forgets-alike : (v : Verdict) (xs : List rules.Component) → fold forget_verdict v (map shorten xs) ≡ fold forget_verdict v xs
forgets-alike v [] = refl
forgets-alike v (x ∷ xs) = forgets-alike (forget_verdict v x) xs

goes-is : {a b : rules.Going} → rules.Goes a ≡ rules.Goes b → a ≡ b
goes-is e = cc

module _ (c : rules.Going) where
  live-connection : (k : rules.Connection) → is_live (shorten_all c) k ≡ is_live c k
  live-connection k =
      let cs = c.components in
      ap (λ b. not (b && over_in (map shorten cs) k.other.component)) (over-kept k.one.component cs)
      ∙ ap (λ b. not (over_in cs k.one.component && b)) (over-kept k.other.component cs)

  live-kept : live_part (rules.Goes c) ≡ rules.Goes c → live_part (rules.Goes (shorten_all c)) ≡ rules.Goes (shorten_all c)
  live-kept live =
      let is : live_going c ≡ c = goes-is live in
      let components = live-components c.components (ap (λ (d : rules.Going). d.components) is) in
      let connections : filter (is_live (shorten_all c)) c.connections ≡ c.connections = filtered-alike (is_live (shorten_all c)) (is_live c) live-connection c.connections ∙ ap (λ (d : rules.Going). d.connections) is in
      let forgotten : fold forget_verdict c.forgotten (map shorten c.components) ≡ c.forgotten = forgets-alike c.forgotten c.components ∙ ap (λ (d : rules.Going). d.forgotten) is in
      λ i. rules.Goes (record { components = components i; connections = connections i; mappings = c.mappings; delivered = c.delivered; forgotten = forgotten i })

  -- ---- order

  abbrev IsBefore : rules.Component → rules.Component → Type 0
  IsBefore a b = rules.path_cmp (rules.path_of a) (rules.path_of b) ≡ Less

  ascends : (xs : List rules.Component) → AllPairs IsBefore xs → AllPairs IsBefore (map shorten xs)
  ascends [] h = h
  ascends (x ∷ xs) h = AllPairs-cons IsBefore (shorten x) (map shorten xs) (All-map (IsBefore (shorten x)) shorten xs (pairs-head IsBefore x xs h)) (ascends xs (pairs-tail IsBefore x xs h))

  in-order : IsInOrder c → IsInOrder (shorten_all c)
  in-order order = record {
    ordered = record {
      components = ascends c.components order.ordered.components;
      within = All-map IsOrderedWithin shorten c.components (All-more IsOrderedWithin (λ x. IsOrderedWithin (shorten x)) (λ x is. record { members = is.members; calls = is.calls }) c.components order.ordered.within);
      mappings = order.ordered.mappings;
    };
    values = All-map HasValuesInOrder shorten c.components (All-more HasValuesInOrder (λ x. HasValuesInOrder (shorten x)) (λ x is. record { members = is.members; calls = is.calls }) c.components order.values);
    connections = order.connections;
    marks = All-map HasNoMarkFirst shorten c.components order.marks;
  }

  fits-kept : FitsRuns (rules.Goes c) → FitsRuns (rules.Goes (shorten_all c))
  fits-kept fits = record {
    ordered = in-order fits.ordered;
    frames = All-map (λ (x : rules.Component). KeepsFrameLimit x.own) shorten c.components fits.frames;
    live = live-kept fits.live;
  }

-- ---- what configurations of the code stand for

module _ (legend : Legend) where
  messages-said : (ms : List Message) → map message_by (option_to_list (first_message ms)) ≡ option_to_list (front_of (map message_by ms))
  messages-said [] = refl
  messages-said (m ∷ ms) = refl

  queue-said : (q : Queue) → queue_by legend (shortened_queue q) ≡ shorten_queue (queue_by legend q)
  queue-said q = λ i. (legend.names q.port, messages-said q.messages i)

  component-said : (c : Component) → component_by legend (shortened_component c) ≡ shorten (component_by legend c)
  component-said c =
      ap (λ qs. record (component_by legend c) { queues = qs })
      (map-twice (queue_by legend) shortened_queue (λ q. shorten_queue (queue_by legend q)) queue-said c.queues
      ∙ sym (map-twice shorten_queue (queue_by legend) (λ q. shorten_queue (queue_by legend q)) (λ q. refl) c.queues))

  going-said : (g : Going) → going_by legend (shortened_going g) ≡ shorten_all (going_by legend g)
  going-said g =
      ap (λ cs. record (going_by legend g) { components = cs })
      (map-twice (component_by legend) shortened_component (λ c. shorten (component_by legend c)) component-said g.components
      ∙ sym (map-twice shorten (component_by legend) (λ c. shorten (component_by legend c)) (λ c. refl) g.components))

module _ (machine : Machine) (g : Going) where
  pub state-shortened : FitsState machine (config.Going g) → FitsState machine (config.Going (shortened_going g))
  state-shortened state = record {
    within = record {
      components = All-map (λ (c : Component). IsWithin (extent machine) c.own) shortened_component g.components state.within.components;
      mappings = state.within.mappings;
    };
    fits = subst (λ (d : rules.Going). FitsRuns (rules.Goes d)) (sym (going-said (legend machine) g)) (fits-kept (going_by (legend machine) g) state.fits);
  }

  pub labels-shortened : labels machine.test (said machine (config.Going (shortened_going g))) ≡ labels machine.test (said machine (config.Going g))
  labels-shortened = ap (λ (d : rules.Going). labels machine.test (rules.Goes d)) (going-said (legend machine) g) ∙ labels-kept (going_by (legend machine) g) machine.test
