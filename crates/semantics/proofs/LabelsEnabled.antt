-- The labels of an ordered configuration are exactly those that have a step.
use Rattle.std.proofs.Common.{◌≡◌, ℕ, suc, ◌+◌, ◌<◌, Bool, true, false, List, [], ◌∷◌, ◌++◌, map, length, Option, Some, None, is_some, option_map, refl, sym, ap, subst, ◌∙◌, arith, if◌then◌else◌, bytes_eq, nat_eq, ◌↔◌}
use Rattle.std.specs.List.{All, AllPairs, Contains, filter, find, flat_map}
use Rattle.std.specs.Option.{option_and_then}
use Rattle.std.specs.declared.cmp.Ordering.TheVariants.{Less, Equal}
use Rattle.std.proofs.lemmas.List.Elements.{All-append, All-cons, All-contains, All-filter, All-head, All-map, All-nil, All-tail, Contains-append_left, Contains-append_right, filter_passes}
use Rattle.std.proofs.lemmas.List.{get_or-map, length-map}
use Rattle.std.proofs.lemmas.Slice.Eq.{bytes_eq-Decides}
use Rattle.std.proofs.lemmas.Bool.Decides.{Decides-eqb}
use Rattle.semantics.proofs.LabelOrder.{IsAbove, IsBelow, IsExpiry, calls-above, calls-below, expiries-of, names-alike}
use Rattle.semantics.proofs.Pairs.{All-both, All-flat, All-more, pairs-head, pairs-tail}
use Rattle.semantics.specs.Configurations.{Component, Data, End, Frame, Goes, Going, component_at, is_running_state, path_of, same_path}
use Rattle.semantics.specs.Entries.{Entries, Identifier, name_cmp}
use Rattle.semantics.specs.Labels.{call_expiries, deliveries, delivery, expiries, frame_expiries, labels, labels_of_component, statement_labels}
use Rattle.semantics.specs.Order.{HasTimersInOrder, IsOrdered, IsOrderedWithin}
use Rattle.semantics.specs.Snapshots.{Test, snapshot_of}
use Rattle.semantics.specs.Statements.{act}
use Rattle.semantics.specs.Storing.{with_calls, with_members, with_timers}
use Rattle.semantics.specs.Steps.{Delivery, Expiry, Label, Statement, apply, come_in, exchanged, expire_in, touch, expired, expired_call, expired_frame, expiry_step, next_message, statement_step, step, step_in}
use Rattle.value_types.specs.Frames.{entry, is_running}
use Rattle.value_types.specs.Outcomes.{Yields}
use Rattle.value_types.specs.declared.frame.TimerState.{TimerState}
use Rattle.value_types.specs.declared.frame.TimerState.TheVariants as timer
use Rattle.value_types.specs.declared.path.Path.{Path}

-- ---- finding by names

some-is : {A : Type 0} (a b : A) → Some a ≡ Some b → a ≡ b
some-is a b e = let found = e in cc

-- names in their order differ
less-other : (one other : List ℕ) → name_cmp one other ≡ Less → bytes_eq one other ≡ false
less-other one other less = told (bytes_eq one other) refl
  where
    told : (b : Bool) → bytes_eq one other ≡ b → bytes_eq one other ≡ false
    told false e = e
    told true e = absurd (let same : one ≡ other = (bytes_eq-Decides one other).0 e in let equal : Equal ≡ Less = sym (names-alike other) ∙ ap (λ x. name_cmp x other) (sym same) ∙ less in cc)

some-map : {A B : Type 0} (f : A → B) (o : Option A) → is_some (option_map f o) ≡ is_some o
some-map f None = refl
some-map f (Some a) = refl

same-name : (name : List ℕ) → bytes_eq name name ≡ true
same-name name = (bytes_eq-Decides name name).1 refl

-- where names ascend, each finds its own
finds-own : {A : Type 0} (name_of : A → List ℕ) (xs : List A) → AllPairs (λ a b. name_cmp (name_of a) (name_of b) ≡ Less) xs → All (λ a. find (λ d. bytes_eq (name_of d) (name_of a)) xs ≡ Some a) xs
finds-own name_of [] pairs = All-nil (λ a. find (λ d. bytes_eq (name_of d) (name_of a)) [] ≡ Some a)
finds-own name_of (x ∷ xs) pairs =
    All-cons (λ a. find (λ d. bytes_eq (name_of d) (name_of a)) (x ∷ xs) ≡ Some a) x xs
    (ap (λ b. if b then Some x else find (λ d. bytes_eq (name_of d) (name_of x)) xs) (same-name (name_of x)))
    (All-both (λ a. name_cmp (name_of x) (name_of a) ≡ Less) (λ a. find (λ d. bytes_eq (name_of d) (name_of a)) xs ≡ Some a) (λ a. find (λ d. bytes_eq (name_of d) (name_of a)) (x ∷ xs) ≡ Some a)
    (λ a less found. ap (λ b. if b then Some x else find (λ d. bytes_eq (name_of d) (name_of a)) xs) (less-other (name_of x) (name_of a) less) ∙ found)
    xs (pairs-head (λ a b. name_cmp (name_of a) (name_of b) ≡ Less) x xs pairs)
    (finds-own name_of xs (pairs-tail (λ a b. name_cmp (name_of a) (name_of b) ≡ Less) x xs pairs)))

pass-told : {A : Type 0} (p : A → Bool) (x a : A) (b : Bool) (others : Option A) → (others ≡ Some a → p a ≡ true) → p x ≡ b → (if b then Some x else others) ≡ Some a → p a ≡ true
pass-told p x a true others rest is e = subst (λ y. p y ≡ true) (some-is x a e) is
pass-told p x a false others rest is e = rest e

find-passes : {A : Type 0} (p : A → Bool) (xs : List A) (a : A) → find p xs ≡ Some a → p a ≡ true
find-passes p [] a e = absurd (let found = e in cc)
find-passes p (x ∷ xs) a e = pass-told p x a (p x) (find p xs) (find-passes p xs a) refl e

flat-told : {A B : Type 0} (f : A → List B) (x a : A) (b : B) (more : List B) (t : Bool) (others : Option A) → (others ≡ Some a → Contains more b) → Contains (f a) b
    → (if t then Some x else others) ≡ Some a → Contains (f x ++ more) b
flat-told f x a b more true others rest h e = Contains-append_left (f x) more b (subst (λ y. Contains (f y) b) (sym (some-is x a e)) h)
flat-told f x a b more false others rest h e = Contains-append_right (f x) more b (rest e)

-- what what is found has all of them have
find-flat : {A B : Type 0} (p : A → Bool) (f : A → List B) (xs : List A) (a : A) (b : B) → find p xs ≡ Some a → Contains (f a) b → Contains (flat_map f xs) b
find-flat p f [] a b e h = absurd (let found = e in cc)
find-flat p f (x ∷ xs) a b e h = flat-told f x a b (flat_map f xs) (p x) (find p xs) (λ found. find-flat p f xs a b found h) h e

there : {A : Type 0} (x y : A) (xs : List A) → Contains xs y → Contains (x ∷ xs) y
there x y xs h = let lt = h.1 in (suc h.0, omega arith, h.2)

here : {A : Type 0} (x : A) (xs : List A) → Contains (x ∷ xs) x
here x xs = (0, omega arith, refl)

-- one that is found and passes another test stays where that filters
filter-told : {A : Type 0} (q : A → Bool) (x a : A) (xs : List A) (t u : Bool) (others : Option A) → (others ≡ Some a → Contains xs a) → q x ≡ u → q a ≡ true
    → (if t then Some x else others) ≡ Some a → Contains (if u then x ∷ xs else xs) a
filter-told q x a xs true true others rest is passes e = subst (λ y. Contains (x ∷ xs) y) (some-is x a e) (here x xs)
filter-told q x a xs true false others rest is passes e = absurd (let same = some-is x a e in let no : false ≡ true = sym is ∙ ap q same ∙ passes in cc)
filter-told q x a xs false true others rest is passes e = there x a xs (rest e)
filter-told q x a xs false false others rest is passes e = rest e

find-filter : {A : Type 0} (p q : A → Bool) (xs : List A) (a : A) → find p xs ≡ Some a → q a ≡ true → Contains (filter q xs) a
find-filter p q [] a e passes = absurd (let found = e in cc)
find-filter p q (x ∷ xs) a e passes = filter-told q x a (filter q xs) (p x) (q x) (find p xs) (λ found. find-filter p q xs a found passes) refl passes e

contains-map : {A B : Type 0} (f : A → B) (xs : List A) (a : A) → Contains xs a → Contains (map f xs) (f a)
contains-map f xs a h = let lt = h.1 in let long = length-map xs f in (h.0, omega arith, get_or-map f xs h.0 a (f a) lt ∙ ap f h.2)

-- ---- timers

running-is : (state : TimerState) → is_running state ≡ true → state ≡ timer.Running
running-is timer.Running e = refl
running-is timer.Inactive e = absurd (let found = e in cc)
running-is timer.Expired e = absurd (let found = e in cc)

-- a timer that runs may expire
frame-expires : (frame : Frame) (name : List ℕ) → entry frame.timers name ≡ Some timer.Running → is_some (expired_frame name frame) ≡ true
frame-expires frame name e = ap (λ o. is_some (option_map (λ timers. with_timers timers frame) (expire_in frame.timers name o))) e

-- and one that may expire runs
state-runs : (frame : Frame) (name : List ℕ) (o : Option TimerState) → is_some (option_map (λ timers. with_timers timers frame) (expire_in frame.timers name o)) ≡ true → o ≡ Some timer.Running
state-runs frame name None e = absurd (let found = e in cc)
state-runs frame name (Some timer.Running) e = refl
state-runs frame name (Some timer.Inactive) e = absurd (let found = e in cc)
state-runs frame name (Some timer.Expired) e = absurd (let found = e in cc)

frame-runs : (frame : Frame) (name : List ℕ) → is_some (expired_frame name frame) ≡ true → entry frame.timers name ≡ Some timer.Running
frame-runs frame name e = state-runs frame name (entry frame.timers name) e

found-entry : (entries : Entries TimerState) (name : List ℕ) (o : Option (List ℕ × TimerState)) → find (λ e. bytes_eq e.0 name) entries ≡ o → option_map (λ e. e.1) o ≡ Some timer.Running
    → Contains (filter (λ e. is_running e.1) entries) (name, timer.Running)
found-entry entries name None found e = absurd (let no = e in cc)
found-entry entries name (Some entry) found e =
    let runs : entry.1 ≡ timer.Running = some-is entry.1 timer.Running e in
    let named : entry.0 ≡ name = (bytes_eq-Decides entry.0 name).0 (find-passes (λ d. bytes_eq d.0 name) entries entry found) in
    subst (λ n. Contains (filter (λ d. is_running d.1) entries) (n, timer.Running)) named
    (subst (λ t. Contains (filter (λ d. is_running d.1) entries) (entry.0, t)) runs
    (find-filter (λ d. bytes_eq d.0 name) (λ d. is_running d.1) entries entry found (ap is_running runs)))

-- a timer of a frame that may expire has its label
frame-label : (p : Path) (n : ℕ) (frame : Frame) (name : List ℕ) → is_some (expired_frame name frame) ≡ true → Contains (frame_expiries p n frame) (Expiry p n name)
frame-label p n frame name e =
    contains-map (λ d. Expiry p n d.0) (filter (λ d. is_running d.1) frame.timers) (name, timer.Running)
    (found-entry frame.timers name (find (λ d. bytes_eq d.0 name) frame.timers) refl (frame-runs frame name e))

-- each label of a frame's timers is that of one that may expire
frame-steps : (p : Path) (n : ℕ) (frame : Frame) → HasTimersInOrder frame → (P : Label → Type 0) → ((name : List ℕ) → is_some (expired_frame name frame) ≡ true → P (Expiry p n name))
    → All P (frame_expiries p n frame)
frame-steps p n frame ordered P says =
    All-map P (λ e. Expiry p n e.0) (filter (λ e. is_running e.1) frame.timers)
    (All-both (λ e. find (λ d. bytes_eq d.0 e.0) frame.timers ≡ Some e) (λ e. is_running e.1 ≡ true) (λ e. P (Expiry p n e.0))
    (λ e found runs. says e.0 (frame-expires frame e.0 (ap (option_map (λ d. d.1)) found ∙ ap Some (running-is e.1 runs))))
    (filter (λ e. is_running e.1) frame.timers)
    (All-filter (λ e. is_running e.1) (λ e. find (λ d. bytes_eq d.0 e.0) frame.timers ≡ Some e) frame.timers (finds-own (λ e. e.0) frame.timers ordered))
    (filter_passes (λ e. is_running e.1) frame.timers))

-- ---- the frames above frame 0

-- the label is that of a timer of these frames that may expire
abbrev Expires : List Frame → Label → Type 0
Expires calls (Statement q) = ⊥
Expires calls (Expiry q n name) = is_some (expired_call n name calls) ≡ true
Expires calls (Delivery name) = ⊥

number-same : (n : ℕ) → nat_eq n n ≡ true
number-same n = (Decides-eqb n n).1 refl

number-positive : (m : ℕ) → 0 < m → nat_eq m 0 ≡ false
number-positive m lt = not-zero (nat_eq m 0) refl
  where
    not-zero : (b : Bool) → nat_eq m 0 ≡ b → nat_eq m 0 ≡ false
    not-zero false e = e
    not-zero true e = absurd (let same = (Decides-eqb m 0).0 e in omega (arith, same, lt))

number-other : (n m : ℕ) → n < m → nat_eq n m ≡ false
number-other n m lt = not-eq (nat_eq n m) refl
  where
    not-eq : (b : Bool) → nat_eq n m ≡ b → nat_eq n m ≡ false
    not-eq false e = e
    not-eq true e = absurd (let same = (Decides-eqb n m).0 e in omega (arith, same, lt))

top-expires : (frame : Frame) (frames : List Frame) (name : List ℕ) → is_some (expired_frame name frame) ≡ true → is_some (expired_call (length frames + 1) name (frame ∷ frames)) ≡ true
top-expires frame frames name e =
    ap (λ b. is_some (if b then option_map (λ changed. changed ∷ frames) (expired_frame name frame) else option_map (λ changed. frame ∷ changed) (expired_call (length frames + 1) name frames))) (number-same (length frames + 1))
    ∙ some-map (λ changed. changed ∷ frames) (expired_frame name frame) ∙ e

below-expires : (frame : Frame) (frames : List Frame) (n : ℕ) (name : List ℕ) → n < length frames + 1 → is_some (expired_call n name frames) ≡ true → is_some (expired_call n name (frame ∷ frames)) ≡ true
below-expires frame frames n name lt e =
    ap (λ b. is_some (if b then option_map (λ changed. changed ∷ frames) (expired_frame name frame) else option_map (λ changed. frame ∷ changed) (expired_call n name frames))) (number-other n (length frames + 1) lt)
    ∙ some-map (λ changed. frame ∷ changed) (expired_call n name frames) ∙ e

more-expires : (p : Path) (frame : Frame) (frames : List Frame) (label : Label) → IsBelow p (length frames + 1) label → Expires frames label → Expires (frame ∷ frames) label
more-expires p frame frames (Statement q) below expires = expires
more-expires p frame frames (Expiry q n name) below expires = below-expires frame frames n name below.1 expires
more-expires p frame frames (Delivery name) below expires = expires

calls-steps : (p : Path) (calls : List Frame) → All HasTimersInOrder calls → All (Expires calls) (call_expiries p calls)
calls-steps p [] ordered = All-nil (Expires [])
calls-steps p (frame ∷ frames) ordered =
    All-append (Expires (frame ∷ frames)) (call_expiries p frames) (frame_expiries p (length frames + 1) frame)
    (All-both (IsBelow p (length frames + 1)) (Expires frames) (Expires (frame ∷ frames)) (more-expires p frame frames) (call_expiries p frames)
    (calls-below p frames) (calls-steps p frames (All-tail HasTimersInOrder frame frames ordered)))
    (frame-steps p (length frames + 1) frame (All-head HasTimersInOrder frame frames ordered) (Expires (frame ∷ frames)) (top-expires frame frames))

call-told : (p : Path) (n : ℕ) (name : List ℕ) (frame : Frame) (frames : List Frame) → (is_some (expired_call n name frames) ≡ true → Contains (call_expiries p frames) (Expiry p n name))
    → (b : Bool) → nat_eq n (length frames + 1) ≡ b
    → is_some (if b then option_map (λ changed. changed ∷ frames) (expired_frame name frame) else option_map (λ changed. frame ∷ changed) (expired_call n name frames)) ≡ true
    → Contains (call_expiries p frames ++ frame_expiries p (length frames + 1) frame) (Expiry p n name)
call-told p n name frame frames below true is e =
    Contains-append_right (call_expiries p frames) (frame_expiries p (length frames + 1) frame) (Expiry p n name)
    (subst (λ m. Contains (frame_expiries p (length frames + 1) frame) (Expiry p m name)) (sym ((Decides-eqb n (length frames + 1)).0 is))
    (frame-label p (length frames + 1) frame name (sym (some-map (λ changed. changed ∷ frames) (expired_frame name frame)) ∙ e)))
call-told p n name frame frames below false is e =
    Contains-append_left (call_expiries p frames) (frame_expiries p (length frames + 1) frame) (Expiry p n name)
    (below (sym (some-map (λ changed. frame ∷ changed) (expired_call n name frames)) ∙ e))

call-label : (p : Path) (n : ℕ) (name : List ℕ) (calls : List Frame) → is_some (expired_call n name calls) ≡ true → Contains (call_expiries p calls) (Expiry p n name)
call-label p n name [] e = absurd (let found = e in cc)
call-label p n name (frame ∷ frames) e = call-told p n name frame frames (call-label p n name frames) (nat_eq n (length frames + 1)) refl e

-- ---- the timers of a component

abbrev MayExpire : Data → Label → Type 0
MayExpire own (Statement q) = ⊥
MayExpire own (Expiry q n name) = is_some (expired n name own) ≡ true
MayExpire own (Delivery name) = ⊥

member-expires : (own : Data) (name : List ℕ) → is_some (expired_frame name own.members) ≡ true → is_some (expired 0 name own) ≡ true
member-expires own name e = some-map (λ members. with_members members own) (expired_frame name own.members) ∙ e

call-may : (own : Data) (p : Path) (label : Label) → IsAbove p label → Expires own.calls label → MayExpire own label
call-may own p (Statement q) above expires = expires
call-may own p (Delivery name) above expires = expires
call-may own p (Expiry q n name) above expires =
    ap (λ b. is_some (if b then option_map (λ members. with_members members own) (expired_frame name own.members) else option_map (λ calls. with_calls calls own) (expired_call n name own.calls))) (number-positive n above.1)
    ∙ some-map (λ calls. with_calls calls own) (expired_call n name own.calls) ∙ expires

expiries-steps : (component : Component) → IsOrderedWithin component → All (MayExpire component.own) (expiries component)
expiries-steps component ordered =
    All-append (MayExpire component.own) (frame_expiries (path_of component) 0 component.own.members) (call_expiries (path_of component) component.own.calls)
    (frame-steps (path_of component) 0 component.own.members ordered.members (MayExpire component.own) (member-expires component.own))
    (All-both (IsAbove (path_of component)) (Expires component.own.calls) (MayExpire component.own) (call-may component.own (path_of component)) (call_expiries (path_of component) component.own.calls)
    (calls-above (path_of component) component.own.calls) (calls-steps (path_of component) component.own.calls ordered.calls))

expiry-told : (component : Component) (n : ℕ) (name : List ℕ) (b : Bool) → nat_eq n 0 ≡ b
    → is_some (if b then option_map (λ members. with_members members component.own) (expired_frame name component.own.members) else option_map (λ calls. with_calls calls component.own) (expired_call n name component.own.calls)) ≡ true
    → Contains (expiries component) (Expiry (path_of component) n name)
expiry-told component n name true is e =
    Contains-append_left (frame_expiries (path_of component) 0 component.own.members) (call_expiries (path_of component) component.own.calls) (Expiry (path_of component) n name)
    (subst (λ m. Contains (frame_expiries (path_of component) 0 component.own.members) (Expiry (path_of component) m name)) (sym ((Decides-eqb n 0).0 is))
    (frame-label (path_of component) 0 component.own.members name (sym (some-map (λ members. with_members members component.own) (expired_frame name component.own.members)) ∙ e)))
expiry-told component n name false is e =
    Contains-append_right (frame_expiries (path_of component) 0 component.own.members) (call_expiries (path_of component) component.own.calls) (Expiry (path_of component) n name)
    (call-label (path_of component) n name component.own.calls (sym (some-map (λ calls. with_calls calls component.own) (expired_call n name component.own.calls)) ∙ e))

-- ---- components

same-path-is : (p q : Path) → same_path p q ≡ true → p ≡ q
same-path-is p q e = ap (λ n. record { numbers = n }) ((bytes_eq-Decides p.numbers q.numbers).0 e)

-- a label of a component has a step where the component is found
abbrev HasStep : Test → Going → Label → Type 0
HasStep test c label = is_some (step_in test c label) ≡ true

abbrev IsFound : Going → Component → Type 0
IsFound c component = component_at c (path_of component) ≡ Some component

components-found : (c : Going) → IsOrdered c → All (IsFound c) c.components
components-found c ordered = finds-own (λ component. (path_of component).numbers) c.components ordered.components

statement-step : (test : Test) (c : Going) (component : Component) → IsFound c component → is_some (statement_step test c component) ≡ true → HasStep test c (Statement (path_of component))
statement-step test c component found e = ap (λ o. is_some (option_and_then (statement_step test c) o)) found ∙ e

expiry-step : (test : Test) (c : Going) (component : Component) → IsFound c component → is_running_state component.state ≡ true → (n : ℕ) (name : List ℕ) → is_some (expired n name component.own) ≡ true
    → HasStep test c (Expiry (path_of component) n name)
expiry-step test c component found runs n name e =
    ap (λ o. is_some (option_and_then (expiry_step c n name) o)) found
    ∙ ap (λ b. is_some (if b then option_map (λ own. Yields (Goes (touch c (path_of component) (exchanged own)))) (expired n name component.own) else None)) runs
    ∙ some-map (λ own. Yields (Goes (touch c (path_of component) (exchanged own)))) (expired n name component.own) ∙ e

expiry-has : (test : Test) (c : Going) (component : Component) → IsFound c component → is_running_state component.state ≡ true → (label : Label) → IsExpiry (path_of component) label → MayExpire component.own label → HasStep test c label
expiry-has test c component found runs (Statement q) is may = absurd is
expiry-has test c component found runs (Delivery name) is may = absurd is
expiry-has test c component found runs (Expiry q n name) is may =
    subst (λ x. HasStep test c (Expiry x n name)) (sym is) (expiry-step test c component found runs n name may)

one-has : (test : Test) (c : Going) (component : Component) → IsFound c component → (b : Bool) → is_some (statement_step test c component) ≡ b → (others : List Label) → All (HasStep test c) others
    → All (HasStep test c) ((if b then Statement (path_of component) ∷ [] else []) ++ others)
one-has test c component found true is others all = All-cons (HasStep test c) (Statement (path_of component)) others (statement-step test c component found is) all
one-has test c component found false is others all = all

labels-have : (test : Test) (c : Going) (component : Component) → IsFound c component → IsOrderedWithin component → (b : Bool) → is_running_state component.state ≡ b
    → All (HasStep test c) (if b then statement_labels test c component ++ expiries component else [])
labels-have test c component found ordered true runs =
    one-has test c component found (is_some (statement_step test c component)) refl (expiries component)
    (All-both (IsExpiry (path_of component)) (MayExpire component.own) (HasStep test c) (expiry-has test c component found runs) (expiries component) (expiries-of component) (expiries-steps component ordered))
labels-have test c component found ordered false runs = All-nil (HasStep test c)

-- a delivery has a step where its mapping is found and a message is left
delivery-if : (test : Test) (c : Going) (name : Identifier) (e : End) → entry c.mappings name ≡ Some e → (b : Bool) → is_some (next_message test c name) ≡ b
    → All (HasStep test c) (if b then Delivery name ∷ [] else [])
delivery-if test c name e found true left =
    All-cons (HasStep test c) (Delivery name) []
    (ap (λ o. is_some (option_and_then (λ e. option_map (λ v. Yields (Goes (come_in name e v c))) (next_message test c name)) o)) found
    ∙ some-map (λ v. Yields (Goes (come_in name e v c))) (next_message test c name) ∙ left)
    (All-nil (HasStep test c))
delivery-if test c name e found false left = All-nil (HasStep test c)

deliveries-have : (test : Test) (c : Going) → IsOrdered c → All (HasStep test c) (deliveries test c)
deliveries-have test c ordered =
    All-flat (HasStep test c) (delivery test c) c.mappings
    (All-more (λ m. find (λ d. bytes_eq d.0 m.0) c.mappings ≡ Some m) (λ m. All (HasStep test c) (delivery test c m))
    (λ m found. delivery-if test c m.0 m.1 (ap (option_map (λ d. d.1)) found) (is_some (next_message test c m.0)) refl)
    c.mappings (finds-own (λ m. m.0) c.mappings ordered.mappings))

components-have : (test : Test) (c : Going) → IsOrdered c → All (HasStep test c) (flat_map (labels_of_component test c) c.components)
components-have test c ordered =
    All-flat (HasStep test c) (labels_of_component test c) c.components
    (All-both (IsFound c) IsOrderedWithin (λ component. All (HasStep test c) (labels_of_component test c component))
    (λ component found within. labels-have test c component found within (is_running_state component.state) refl)
    c.components (components-found c ordered) ordered.within)

all-have : (test : Test) (c : Going) → IsOrdered c → All (HasStep test c) (labels test (Goes c))
all-have test c ordered =
    All-append (HasStep test c) (flat_map (labels_of_component test c) c.components) (deliveries test c) (components-have test c ordered) (deliveries-have test c ordered)

-- ---- what has a step is among the labels

-- a label of a component
of-components : (test : Test) (c : Going) (label : Label) → Contains (flat_map (labels_of_component test c) c.components) label → Contains (labels test (Goes c)) label
of-components test c label h = Contains-append_left (flat_map (labels_of_component test c) c.components) (deliveries test c) label h

-- where a step is, the component runs
runs-told : {A : Type 0} (component : Component) (o : Option A) (b : Bool) → is_running_state component.state ≡ b → is_some (if b then o else None) ≡ true → (is_running_state component.state ≡ true) × (is_some o ≡ true)
runs-told component o true is e = (is, e)
runs-told component o false is e = absurd (let no = e in cc)

listed : (test : Test) (c : Going) (component : Component) (label : Label) → is_running_state component.state ≡ true → Contains (statement_labels test c component ++ expiries component) label → Contains (labels_of_component test c component) label
listed test c component label runs h = subst (λ b. Contains (if b then statement_labels test c component ++ expiries component else []) label) (sym runs) h

statement-listed : (test : Test) (c : Going) (component : Component) → is_some (statement_step test c component) ≡ true → Contains (labels_of_component test c component) (Statement (path_of component))
statement-listed test c component e =
    let runs = runs-told component (apply test c component.itself (act test (snapshot_of c component) component.own)) (is_running_state component.state) refl e in
    listed test c component (Statement (path_of component)) runs.0
    (Contains-append_left (statement_labels test c component) (expiries component) (Statement (path_of component))
    (subst (λ b. Contains (if b then Statement (path_of component) ∷ [] else []) (Statement (path_of component))) (sym e) (here (Statement (path_of component)) [])))

expiry-listed : (test : Test) (c : Going) (component : Component) (n : ℕ) (name : List ℕ) → is_some (expiry_step c n name component) ≡ true → Contains (labels_of_component test c component) (Expiry (path_of component) n name)
expiry-listed test c component n name e =
    let runs = runs-told component (option_map (λ own. Yields (Goes (touch c (path_of component) (exchanged own)))) (expired n name component.own)) (is_running_state component.state) refl e in
    listed test c component (Expiry (path_of component) n name) runs.0
    (Contains-append_right (statement_labels test c component) (expiries component) (Expiry (path_of component) n name)
    (expiry-told component n name (nat_eq n 0) refl (sym (some-map (λ own. Yields (Goes (touch c (path_of component) (exchanged own)))) (expired n name component.own)) ∙ runs.1)))

statement-in : (test : Test) (c : Going) (path : Path) (o : Option Component) → component_at c path ≡ o → is_some (option_and_then (statement_step test c) o) ≡ true → Contains (labels test (Goes c)) (Statement path)
statement-in test c path None found e = absurd (let no = e in cc)
statement-in test c path (Some component) found e =
    let same : path_of component ≡ path = same-path-is (path_of component) path (find-passes (λ other. same_path (path_of other) path) c.components component found) in
    of-components test c (Statement path)
    (find-flat (λ other. same_path (path_of other) path) (labels_of_component test c) c.components component (Statement path) found
    (subst (λ p. Contains (labels_of_component test c component) (Statement p)) same (statement-listed test c component e)))

expiry-in : (test : Test) (c : Going) (path : Path) (n : ℕ) (name : List ℕ) (o : Option Component) → component_at c path ≡ o → is_some (option_and_then (expiry_step c n name) o) ≡ true → Contains (labels test (Goes c)) (Expiry path n name)
expiry-in test c path n name None found e = absurd (let no = e in cc)
expiry-in test c path n name (Some component) found e =
    let same : path_of component ≡ path = same-path-is (path_of component) path (find-passes (λ other. same_path (path_of other) path) c.components component found) in
    of-components test c (Expiry path n name)
    (find-flat (λ other. same_path (path_of other) path) (labels_of_component test c) c.components component (Expiry path n name) found
    (subst (λ p. Contains (labels_of_component test c component) (Expiry p n name)) same (expiry-listed test c component n name e)))

one-delivery : (b : Bool) (name : Identifier) → b ≡ true → Contains (if b then Delivery name ∷ [] else []) (Delivery name)
one-delivery true name e = here (Delivery name) []
one-delivery false name e = absurd (let no = e in cc)

delivery-in : (test : Test) (c : Going) (name : Identifier) (o : Option (Identifier × End)) → find (λ d. bytes_eq d.0 name) c.mappings ≡ o
    → is_some (option_and_then (λ e. option_map (λ v. Yields (Goes (come_in name e v c))) (next_message test c name)) (option_map (λ d. d.1) o)) ≡ true
    → Contains (labels test (Goes c)) (Delivery name)
delivery-in test c name None found e = absurd (let no = e in cc)
delivery-in test c name (Some m) found e =
    let named : m.0 ≡ name = (bytes_eq-Decides m.0 name).0 (find-passes (λ d. bytes_eq d.0 name) c.mappings m found) in
    let left : is_some (next_message test c name) ≡ true = sym (some-map (λ v. Yields (Goes (come_in name m.1 v c))) (next_message test c name)) ∙ e in
    Contains-append_right (flat_map (labels_of_component test c) c.components) (deliveries test c) (Delivery name)
    (find-flat (λ d. bytes_eq d.0 name) (delivery test c) c.mappings m (Delivery name) found
    (subst (λ n. Contains (if is_some (next_message test c n) then Delivery n ∷ [] else []) (Delivery name)) (sym named) (one-delivery (is_some (next_message test c name)) name left)))

step-in : (test : Test) (c : Going) (label : Label) → HasStep test c label → Contains (labels test (Goes c)) label
step-in test c (Statement path) e = statement-in test c path (component_at c path) refl e
step-in test c (Expiry path n name) e = expiry-in test c path n name (component_at c path) refl e
step-in test c (Delivery name) e = delivery-in test c name (find (λ d. bytes_eq d.0 name) c.mappings) refl e

pub labels_enabled : (test : Test) (c : Going) → IsOrdered c → (label : Label) → Contains (labels test (Goes c)) label ↔ (is_some (step test (Goes c) label) ≡ true)
labels_enabled test c ordered label = (λ h. All-contains (HasStep test c) (labels test (Goes c)) label (all-have test c ordered) h, step-in test c label)
