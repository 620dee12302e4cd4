-- Steps of configurations keep all values of their types.
use Rattle.std.proofs.Common.{◌≡◌, ℕ, Bool, true, false, List, [], ◌∷◌, map, find, Option, Some, None, IfSome, IsSomeAnd, is_some, option_map, AllPairs, refl, sym, ap, subst, ◌∙◌, if◌then◌else◌}
use Rattle.std.specs.List.{All}
use Rattle.std.specs.Option.{option_and_then}
use Rattle.std.specs.Ordering.{is_eq}
use Rattle.std.specs.declared.cmp.Ordering.TheVariants.{Less}
use Rattle.std.proofs.lemmas.List.Elements.{All-cons, All-head, All-nil, All-tail}
use Rattle.std.proofs.lemmas.Map.Text.{is_eq-slice_cmp}
use Rattle.std.proofs.lemmas.Slice.Eq.{bytes_eq-Decides}
use Rattle.ttcn_syntax.specs.declared.tree.definition.Definition.{Definition}
use Rattle.laws_evaluation.specs.Uses.{GivesOnly}
use Rattle.laws_references.proofs.Found.{component-is-there}
use Rattle.laws_references.proofs.Runs.{found-refers, next-each}
use Rattle.laws_references.specs.References.{ComponentRefersTo, FrameRefersTo}
use Rattle.laws_references.specs.There.{IsThere, StandsWithAllReferred}
use Rattle.laws_sites.proofs.Firsts.{last-frame}
use Rattle.laws_sites.specs.Standing.{IsFineFrame, StandsByRules}
use Rattle.laws_steps.proofs.Found.{found-each, some-of}
use Rattle.laws_order.specs.Order.{HasNoMarkFirst, StandsInOrder}
use Rattle.semantics.proofs.Pairs.{All-more, pairs-head, pairs-tail}
use Rattle.semantics.specs.Configurations.{Component, Configuration, Data, End, Ended, Frame, Goes, Going, Message, Queue, component_at, is_running_state, path_cmp, path_of, same_path}
use Rattle.semantics.specs.Items.{Item}
use Rattle.semantics.specs.Snapshots.{Snapshot, Test, front_at, front_of, last_view, snapshot_of, timers_of}
use Rattle.semantics.specs.Statements.{act}
use Rattle.semantics.specs.Steps.{Delivery, Expiry, Label, Statement, apply, come_in, exchanged, expired, expiry_step, next, next_message, settled, statement_step, step, touch}
use Rattle.semantics.specs.Storing.{in_last, with_remaining}
use Rattle.semantics.specs.Taking.{repeat_alt, uncovered, without_marks}
use Rattle.step_script.specs.Fitting.{FitsScript}
use Rattle.check_rules.specs.Rules.{AreWellTyped}
use Rattle.value_types.specs.Frames.{entry}
use Rattle.value_types.specs.Outcomes.{Fails, IfYields, Outcome, Yields}
use Rattle.value_types.specs.declared.path.Path.{Path}
use Rattle.value_types.specs.declared.value.ComponentId.{ComponentId}
use Rattle.value_types.specs.declared.value.Value.{Value}
use Rattle.laws_types.proofs.Asked.{asked-fits}
use Rattle.laws_types.proofs.Changes.{apply-fits, come-fits}
use Rattle.laws_types.proofs.Expiring.{LikeOwn, exchanged-fits, own-expires}
use Rattle.laws_repeat.specs.Following.{lists_of}
use Rattle.laws_repeat.specs.Marks.{AllAreMarked, StandsAtRepeat, StandsMarked}
use Rattle.laws_types.proofs.Repeating.{FindsAlt, finds-alt}
use Rattle.laws_types.proofs.Scripts.{FitsIn, script-messages}
use Rattle.laws_types.specs.Steps.{Sees}
use Rattle.laws_types.specs.internal.Asked.{AreOfType, FitsAct, IsFound, IsMeant}
use Rattle.laws_types.specs.Typed.{FitQueues, FitsComponent, FitsData, FitsMessage, FitsOwn, FitsTypes, HasFrames}

-- ---- paths

apart : (p q : Path) → path_cmp p q ≡ Less → same_path p q ≡ true → ⊥
apart p q less same = let no : false ≡ true = sym (ap is_eq less) ∙ is_eq-slice_cmp p.numbers q.numbers ∙ same in cc

turned-same : (p q : Path) → same_path q p ≡ true → same_path p q ≡ true
turned-same p q same = (bytes_eq-Decides p.numbers q.numbers).1 (sym ((bytes_eq-Decides q.numbers p.numbers).0 same))

-- no other component has the path of one
types-if : (b : Bool) (path : Path) (y x : Component) (ys : List Component) (others : Option Component) → AllPairs (λ one other. path_cmp (path_of one) (path_of other) ≡ Less) (y ∷ ys)
    → (others ≡ Some x → All (λ z. same_path (path_of z) (path_of x) ≡ true → z.itself.component_type ≡ x.itself.component_type) ys) → (others ≡ Some x → path_cmp (path_of y) (path_of x) ≡ Less) → (if b then Some y else others) ≡ Some x
    → All (λ z. same_path (path_of z) (path_of x) ≡ true → z.itself.component_type ≡ x.itself.component_type) (y ∷ ys)
types-if true path y x ys others pairs rest before found =
    subst (λ (w : Component). All (λ z. same_path (path_of z) (path_of w) ≡ true → z.itself.component_type ≡ w.itself.component_type) (y ∷ ys)) (some-is found)
    (All-cons (λ z. same_path (path_of z) (path_of y) ≡ true → z.itself.component_type ≡ y.itself.component_type) y ys (λ same. refl)
    (All-more (λ z. path_cmp (path_of y) (path_of z) ≡ Less) (λ z. same_path (path_of z) (path_of y) ≡ true → z.itself.component_type ≡ y.itself.component_type)
    (λ z less same. absurd (apart (path_of y) (path_of z) less (turned-same (path_of y) (path_of z) same))) ys
    (pairs-head (λ one other. path_cmp (path_of one) (path_of other) ≡ Less) y ys pairs)))
  where
    some-is : {a b : Component} → Some a ≡ Some b → a ≡ b
    some-is h = cc
types-if false path y x ys others pairs rest before found =
    All-cons (λ z. same_path (path_of z) (path_of x) ≡ true → z.itself.component_type ≡ x.itself.component_type) y ys (λ same. absurd (apart (path_of y) (path_of x) (before found) same)) (rest found)

types-in : (path : Path) (xs : List Component) (x : Component) → AllPairs (λ one other. path_cmp (path_of one) (path_of other) ≡ Less) xs → find (λ component. same_path (path_of component) path) xs ≡ Some x
    → All (λ z. same_path (path_of z) (path_of x) ≡ true → z.itself.component_type ≡ x.itself.component_type) xs
types-in path [] x pairs found = absurd (let e = found in cc)
types-in path (y ∷ ys) x pairs found =
    types-if (same_path (path_of y) path) path y x ys (find (λ component. same_path (path_of component) path) ys) pairs
    (λ also. types-in path ys x (pairs-tail (λ one other. path_cmp (path_of one) (path_of other) ≡ Less) y ys pairs) also)
    (λ also. some-of (λ z. path_cmp (path_of y) (path_of z) ≡ Less) (find (λ component. same_path (path_of component) path) ys) x also
    (found-each (λ z. path_cmp (path_of y) (path_of z) ≡ Less) (λ component. same_path (path_of component) path) ys (pairs-head (λ one other. path_cmp (path_of one) (path_of other) ≡ Less) y ys pairs))) found

-- ---- what a component sees

front-names : (queues : List Queue) → map (λ (front : List ℕ × Option Message). front.0) (map front_at queues) ≡ map (λ (queue : Queue). queue.0) queues
front-names [] = refl
front-names (queue ∷ queues) = ap (λ names. queue.0 ∷ names) (front-names queues)

first-message : (definitions : List Definition) (messages : List Message) → All (FitsMessage definitions) messages → IfSome (front_of messages) (FitsMessage definitions)
first-message definitions [] all = tt
first-message definitions (m ∷ messages) all = All-head (FitsMessage definitions) m messages all

front-messages : (definitions : List Definition) (queues : List Queue) → All (λ (queue : Queue). All (FitsMessage definitions) queue.1) queues
    → All (λ (front : List ℕ × Option Message). IfSome front.1 (FitsMessage definitions)) (map front_at queues)
front-messages definitions [] all = All-nil (λ (front : List ℕ × Option Message). IfSome front.1 (FitsMessage definitions))
front-messages definitions (queue ∷ queues) all =
    All-cons (λ (front : List ℕ × Option Message). IfSome front.1 (FitsMessage definitions)) (front_at queue) (map front_at queues)
    (first-message definitions queue.1 (All-head (λ (queue : Queue). All (FitsMessage definitions) queue.1) queue queues all))
    (front-messages definitions queues (All-tail (λ (queue : Queue). All (FitsMessage definitions) queue.1) queue queues all))

sees : (definitions : List Definition) (c : Going) (x : Component) (frame : Frame) (below : List Frame) → FitsComponent definitions x → x.own.calls ≡ frame ∷ below → Sees definitions (snapshot_of c x) x.own frame
sees definitions c x frame below fits calls =
    let queues : FitQueues definitions x.itself.component_type x.queues = fits.queues in
    record {
      timers = λ name. ap (λ frames. is_some (entry (timers_of frames) name)) calls;
      member_timers = λ name. refl;
      fronts = record { ports = front-names x.queues ∙ queues.ports; messages = front-messages definitions x.queues queues.messages };
    }

-- what remains first
abbrev first-items : List Frame → List Item
first-items [] = []
first-items (frame ∷ frames) = frame.remaining

no-mark : (own : Data) (frame : Frame) (below : List Frame) → own.calls ≡ frame ∷ below → uncovered own ≡ own → without_marks frame.remaining ≡ frame.remaining
no-mark own frame below calls same =
    subst (λ frames. first-items (in_last (λ frame. with_remaining (without_marks frame.remaining) frame) frames) ≡ first-items frames) calls
    (ap (λ (o : Data). first-items o.calls) same)

-- ---- components that are there

holds-if : (path : Path) (b : Bool) (x y : Component) (others : Option Component) → same_path (path_of x) path ≡ b → (others ≡ Some y → same_path (path_of y) path ≡ true) → (if b then Some x else others) ≡ Some y → same_path (path_of y) path ≡ true
holds-if path true x y others same rest found = subst (λ (z : Component). same_path (path_of z) path ≡ true) (some-component found) same
  where
    some-component : {a b : Component} → Some a ≡ Some b → a ≡ b
    some-component h = cc
holds-if path false x y others same rest found = rest found

found-holds : (path : Path) (xs : List Component) (y : Component) → find (λ component. same_path (path_of component) path) xs ≡ Some y → same_path (path_of y) path ≡ true
found-holds path [] y found = absurd (let e = found in cc)
found-holds path (x ∷ xs) y found = holds-if path (same_path (path_of x) path) x y (find (λ component. same_path (path_of component) path) xs) refl (found-holds path xs y) found

both-same : (p q r : Path) → same_path p q ≡ true → same_path r q ≡ true → same_path p r ≡ true
both-same p q r one other =
    (bytes_eq-Decides p.numbers r.numbers).1 ((bytes_eq-Decides p.numbers q.numbers).0 one ∙ sym ((bytes_eq-Decides r.numbers q.numbers).0 other))

-- a component that is there with its type is the only one with its path
found-there : (c : Going) (id : ComponentId) (x : Component) → StandsInOrder (Goes c) → component_at c id.path ≡ Some x → x.itself.component_type ≡ id.component_type → IsFound c id
found-there c id x order found same = (
  subst (λ o. is_some o ≡ true) (sym found) refl,
  All-more (λ z. same_path (path_of z) (path_of x) ≡ true → z.itself.component_type ≡ x.itself.component_type) (λ z. same_path (path_of z) id.path ≡ true → z.itself.component_type ≡ id.component_type)
      (λ z of alike. of (both-same (path_of z) id.path (path_of x) alike (found-holds id.path c.components x found)) ∙ same) c.components (types-in id.path c.components x order.ordered.components found),
)

is-there : (c : Going) (id : ComponentId) (o : Option Component) → StandsInOrder (Goes c) → component_at c id.path ≡ o → IsSomeAnd o (λ component. component.itself ≡ id) → IsFound c id
is-there c id None order found is = absurd is
is-there c id (Some x) order found is = found-there c id x order found (ap (λ (i : ComponentId). i.component_type) is)

is-found : (c : Going) (id : ComponentId) → StandsInOrder (Goes c) → IsThere c id → IsFound c id
is-found c id order is = is-there c id (component_at c id.path) order refl is

-- a reference means none but components that are there
pub meant-found : (test : Test) (snapshot : Snapshot) (c : Going) (p : Path) (x : Component) (frame : Frame) (below : List Frame) → StandsInOrder (Goes c) → StandsWithAllReferred test (Goes c) → component_at c p ≡ Some x
    → x.own.calls ≡ frame ∷ below → snapshot.itself ≡ x.itself → (id : ComponentId) → IsMeant test snapshot x.own frame id → IsFound c id
meant-found test snapshot c p x frame below order referred found calls same id (site, reference, means) =
    let refers : ComponentRefersTo (IsThere c) x = found-refers test c p x referred found in
    let seen : FrameRefersTo (IsThere c) frame = All-head (FrameRefersTo (IsThere c)) frame below (subst (All (FrameRefersTo (IsThere c))) calls refers.own.calls) in
    is-found c id order (subst (λ o. IfYields o (IsThere c)) means (component-is-there test snapshot c p x site (last_view snapshot frame) reference referred found same seen))

-- ---- steps

-- what a component asks for, by any snapshot in which it sees its own timers and fitting messages
asked-by : (test : Test) (snapshot : Snapshot) (x : Component) (frame : Frame) (below : List Frame) → AreWellTyped test.definitions → FitsComponent test.definitions x → x.own.calls ≡ frame ∷ below → snapshot.itself ≡ x.itself
    → Sees test.definitions snapshot x.own frame → FindsAlt test x → IsFineFrame test.definitions frame → HasNoMarkFirst x
    → FitsAct test x.itself.component_type x.itself.path (IsMeant test snapshot x.own frame) (act test snapshot x.own)
asked-by test snapshot x frame below well here calls same seen repeats fine marks =
    subst (λ (i : ComponentId). FitsAct test i.component_type i.path (IsMeant test snapshot x.own frame) (act test snapshot x.own)) same
    (asked-fits test well snapshot x.own frame below (subst (λ (i : ComponentId). FitsOwn test.definitions i.component_type x.own) (sym same) here.own) seen
    (λ at. subst (λ (i : ComponentId). GivesOnly (repeat_alt x.own) (FitsData test.definitions i.component_type)) (sym same) (repeats (subst StandsAtRepeat (sym calls) at))) calls fine (no-mark x.own frame below calls marks))

-- the step of a component's statement, by any such snapshot
pub asked-act-fits : (test : Test) (snapshot : Snapshot) (c : Going) (p : Path) (x : Component) (frame : Frame) (below : List Frame) → AreWellTyped test.definitions → StandsByRules test (Goes c) → StandsInOrder (Goes c) → StandsWithAllReferred test (Goes c)
    → StandsMarked test (Goes c) → FitsTypes test (Goes c) → component_at c p ≡ Some x → x.own.calls ≡ frame ∷ below → snapshot.itself ≡ x.itself → Sees test.definitions snapshot x.own frame
    → IfSome (apply test c x.itself (act test snapshot x.own)) (λ out. GivesOnly out (FitsTypes test))
asked-act-fits test snapshot c p x frame below well rules order referred marked fits found calls same seen =
    let here : FitsComponent test.definitions x = some-of (FitsComponent test.definitions) (component_at c p) x found (found-each (FitsComponent test.definitions) (λ component. same_path (path_of component) p) c.components fits) in
    let marks : HasNoMarkFirst x = some-of HasNoMarkFirst (component_at c p) x found (found-each HasNoMarkFirst (λ component. same_path (path_of component) p) c.components order.marks) in
    let places : AllAreMarked (lists_of x.own.calls) =
    some-of (λ (component : Component). AllAreMarked (lists_of component.own.calls)) (component_at c p) x found
    (found-each (λ (component : Component). AllAreMarked (lists_of component.own.calls)) (λ component. same_path (path_of component) p) c.components marked) in
    apply-fits test c x.itself fits (types-in p c.components x order.ordered.components found) (IsMeant test snapshot x.own frame) (meant-found test snapshot c p x frame below order referred found calls same) (act test snapshot x.own)
    (asked-by test snapshot x frame below well here calls same seen (finds-alt test well x here places) (last-frame test c p x frame below rules found calls) marks)

-- by its own
statement-fits : (test : Test) (c : Going) (p : Path) (x : Component) (frame : Frame) (below : List Frame) → AreWellTyped test.definitions → StandsByRules test (Goes c) → StandsInOrder (Goes c) → StandsWithAllReferred test (Goes c)
    → StandsMarked test (Goes c) → FitsTypes test (Goes c) → component_at c p ≡ Some x → x.own.calls ≡ frame ∷ below
    → IfSome (apply test c x.itself (act test (snapshot_of c x) x.own)) (λ out. GivesOnly out (FitsTypes test))
statement-fits test c p x frame below well rules order referred marked fits found calls =
    let here : FitsComponent test.definitions x = some-of (FitsComponent test.definitions) (component_at c p) x found (found-each (FitsComponent test.definitions) (λ component. same_path (path_of component) p) c.components fits) in
    asked-act-fits test (snapshot_of c x) c p x frame below well rules order referred marked fits found calls refl (sees test.definitions c x frame below here calls)

framed : (test : Test) (c : Going) (p : Path) (x : Component) (frames : List Frame) → AreWellTyped test.definitions → StandsByRules test (Goes c) → StandsInOrder (Goes c) → StandsWithAllReferred test (Goes c)
    → StandsMarked test (Goes c) → FitsTypes test (Goes c) → component_at c p ≡ Some x → x.own.calls ≡ frames → HasFrames frames
    → IfSome (apply test c x.itself (act test (snapshot_of c x) x.own)) (λ out. GivesOnly out (FitsTypes test))
framed test c p x [] well rules order referred marked fits found calls has = absurd has
framed test c p x (frame ∷ below) well rules order referred marked fits found calls has = statement-fits test c p x frame below well rules order referred marked fits found calls

-- what was found, where a component runs
running-fits : (test : Test) (x : Component) (b : Bool) (o : Option (Outcome Configuration)) → is_running_state x.state ≡ b → (is_running_state x.state ≡ true → IfSome o (λ out. GivesOnly out (FitsTypes test)))
    → IfSome (if b then o else None) (λ out. GivesOnly out (FitsTypes test))
running-fits test x true o same fits = fits same
running-fits test x false o same fits = tt

component-fits-at : (test : Test) (c : Going) (p : Path) (x : Component) → FitsTypes test (Goes c) → component_at c p ≡ Some x → FitsComponent test.definitions x
component-fits-at test c p x fits found = some-of (FitsComponent test.definitions) (component_at c p) x found (found-each (FitsComponent test.definitions) (λ component. same_path (path_of component) p) c.components fits)

then-fits : (test : Test) (step : Component → Option (Outcome Configuration)) (o : Option Component) → ((x : Component) → o ≡ Some x → IfSome (step x) (λ out. GivesOnly out (FitsTypes test)))
    → IfSome (option_and_then step o) (λ out. GivesOnly out (FitsTypes test))
then-fits test step None fits = tt
then-fits test step (Some x) fits = fits x refl

expiry-if : (test : Test) (c : Going) (x : Component) (o : Option Data) → FitsTypes test (Goes c) → AreOfType (path_of x) x.itself.component_type c → FitsComponent test.definitions x → is_running_state x.state ≡ true → IfSome o (LikeOwn x.own)
    → IfSome (option_map (λ own. Yields (Goes (touch c (path_of x) (exchanged own)))) o) (λ out. GivesOnly out (FitsTypes test))
expiry-if test c x None fits types here runs like = tt
expiry-if test c x (Some own) fits types here runs like = exchanged-fits test.definitions c (path_of x) x own types here like fits runs

come-if : (test : Test) (c : Going) (system_port : List ℕ) (e : End) (o : Option Value) → FitsTypes test (Goes c) → IfSome o (FitsIn test.definitions)
    → IfSome (option_map (λ v. Yields (Goes (come_in system_port e v c))) o) (λ out. GivesOnly out (FitsTypes test))
come-if test c system_port e None fits message = tt
come-if test c system_port e (Some v) fits message = come-fits test c system_port e v message fits

delivery-if : (test : Test) (c : Going) (system_port : List ℕ) (o : Option End) → FitsScript test → FitsTypes test (Goes c)
    → IfSome (option_and_then (λ e. option_map (λ v. Yields (Goes (come_in system_port e v c))) (next_message test c system_port)) o) (λ out. GivesOnly out (FitsTypes test))
delivery-if test c system_port None script fits = tt
delivery-if test c system_port (Some e) script fits =
    come-if test c system_port e (next_message test c system_port) fits (next-each (FitsIn test.definitions) test c system_port (script-messages test script))

-- the step of a label
pub step-fits : (test : Test) (c : Configuration) (label : Label) → AreWellTyped test.definitions → FitsScript test → StandsByRules test c → StandsInOrder c → StandsWithAllReferred test c → StandsMarked test c → FitsTypes test c
    → IfSome (step test c label) (λ out. GivesOnly out (FitsTypes test))
step-fits test (Ended v) label well script rules order referred marked fits = tt
step-fits test (Goes c) (Statement path) well script rules order referred marked fits =
    then-fits test (statement_step test c) (component_at c path)
    (λ x found. let here : FitsComponent test.definitions x = component-fits-at test c path x fits found in
    running-fits test x (is_running_state x.state) (apply test c x.itself (act test (snapshot_of c x) x.own)) refl
    (λ runs. framed test c path x x.own.calls well rules order referred marked fits found refl (here.running runs)))
step-fits test (Goes c) (Expiry path number name) well script rules order referred marked fits =
    then-fits test (expiry_step c number name) (component_at c path)
    (λ x found. running-fits test x (is_running_state x.state) (option_map (λ own. Yields (Goes (touch c (path_of x) (exchanged own)))) (expired number name x.own)) refl
    (λ runs. expiry-if test c x (expired number name x.own) fits (types-in path c.components x order.ordered.components found) (component-fits-at test c path x fits found) runs (own-expires number name x.own)))
step-fits test (Goes c) (Delivery system_port) well script rules order referred marked fits = delivery-if test c system_port (entry c.mappings system_port) script fits

settled-keeps : (test : Test) (o : Option (Outcome Configuration)) (d : Configuration) → IfSome o (λ out. GivesOnly out (FitsTypes test)) → option_map settled o ≡ Some d → FitsTypes test d
settled-keeps test None d fits is = absurd (let e = is in cc)
settled-keeps test (Some (Yields c)) d fits is = subst (FitsTypes test) (some-conf is) fits
  where
    some-conf : {a b : Configuration} → Some a ≡ Some b → a ≡ b
    some-conf h = cc
settled-keeps test (Some (Fails why)) d fits is = subst (FitsTypes test) (some-conf is) tt
  where
    some-conf : {a b : Configuration} → Some a ≡ Some b → a ≡ b
    some-conf h = cc

pub next-fits : (test : Test) (c d : Configuration) (label : Label) → AreWellTyped test.definitions → FitsScript test → StandsByRules test c → StandsInOrder c → StandsWithAllReferred test c → StandsMarked test c → FitsTypes test c → next test c label ≡ Some d → FitsTypes test d
next-fits test c d label well script rules order referred marked fits is = settled-keeps test (step test c label) d (step-fits test c label well script rules order referred marked fits) is
