-- The labels of an ordered configuration ascend.
use Rattle.std.proofs.Common.{◌≡◌, ℕ, ◌+◌, ◌<◌, ◌≤◌, Bool, true, false, List, [], ◌∷◌, ◌++◌, length, is_some, refl, sym, ap, subst, ◌∙◌, arith, get_or, if◌then◌else◌}
use Rattle.std.specs.List.{All, AllPairs, filter, flat_map}
use Rattle.std.specs.Ordering.{match_ordering, nat_cmp, ordering_reverse}
use Rattle.std.specs.Cmp.{nat_cmp_is}
use Rattle.std.specs.declared.cmp.Ordering.{Ordering}
use Rattle.std.specs.declared.cmp.Ordering.TheVariants.{Less, Equal, Greater}
use Rattle.std.proofs.lemmas.Cmp.{nat_list_cmp_total}
use Rattle.std.proofs.lemmas.List.Elements.{All-append, All-cons, All-head, All-map, All-nil, All-tail}
use Rattle.std.proofs.lemmas.List.Kept.{AllPairs-cons, AllPairs-filter}
use Rattle.semantics.proofs.Pairs.{All-flat, All-more, pairs-append, pairs-flat, pairs-map, pairs-more, pairs-nil}
use Rattle.semantics.specs.Configurations.{Component, End, Frame, Goes, Going, is_running_state, path_cmp, path_of}
use Rattle.semantics.specs.Entries.{Identifier, name_cmp}
use Rattle.semantics.specs.Labels.{call_expiries, deliveries, delivery, expiries, expiry_cmp, frame_expiries, label_cmp, labels, labels_of_component, statement_labels}
use Rattle.semantics.specs.Order.{HasTimersInOrder, IsOrdered, IsOrderedWithin}
use Rattle.semantics.specs.Snapshots.{Test}
use Rattle.semantics.specs.Steps.{Delivery, Expiry, Label, Statement, next_message, statement_step}
use Rattle.value_types.specs.Frames.{is_running}
use Rattle.value_types.specs.declared.path.Path.{Path}

-- ---- orders

abbrev Before : Label → Label → Type 0
Before k l = label_cmp k l ≡ Less

own-reverse : (o : Ordering) → o ≡ ordering_reverse o → o ≡ Equal
own-reverse Less e = absurd (let found = e in cc)
own-reverse Equal e = refl
own-reverse Greater e = absurd (let found = e in cc)

pub names-alike : (name : List ℕ) → name_cmp name name ≡ Equal
names-alike name = own-reverse (name_cmp name name) (nat_list_cmp_total.antisymm name name)

paths-alike : (p : Path) → path_cmp p p ≡ Equal
paths-alike p = names-alike p.numbers

numbers-alike : (n : ℕ) → nat_cmp n n ≡ Equal
numbers-alike n = sym (nat_cmp_is n n Equal refl)

numbers-below : (n m : ℕ) → n < m → nat_cmp n m ≡ Less
numbers-below n m lt = sym (nat_cmp_is n m Less lt)

-- ---- labels of one component

-- a label is of the component with a path
abbrev IsOf : Path → Label → Type 0
IsOf p (Statement q) = q ≡ p
IsOf p (Expiry q number name) = q ≡ p
IsOf p (Delivery name) = ⊥

-- it is an expiry in a frame below a number
abbrev pub IsBelow : Path → ℕ → Label → Type 0
IsBelow p limit (Statement q) = ⊥
IsBelow p limit (Expiry q number name) = (q ≡ p) × (number < limit)
IsBelow p limit (Delivery name) = ⊥

below-more : (p : Path) (limit more : ℕ) → limit ≤ more → (label : Label) → IsBelow p limit label → IsBelow p more label
below-more p limit more le (Statement q) is = is
below-more p limit more le (Expiry q number name) is = (is.0, omega (arith, le, is.1))
below-more p limit more le (Delivery name) is = is

-- labels of two components
apart : (p q : Path) → path_cmp p q ≡ Less → (k l : Label) → IsOf p k → IsOf q l → Before k l
apart p q less (Statement a) (Statement b) k l = ap (λ x. path_cmp x b) k ∙ ap (λ x. path_cmp p x) l ∙ less
apart p q less (Statement a) (Expiry b n name) k l = ap (λ o. match_ordering o Less Less Greater) (ap (λ x. path_cmp x b) k ∙ ap (λ x. path_cmp p x) l ∙ less)
apart p q less (Expiry a m other) (Statement b) k l = ap (λ o. match_ordering o Less Greater Greater) (ap (λ x. path_cmp x b) k ∙ ap (λ x. path_cmp p x) l ∙ less)
apart p q less (Expiry a m other) (Expiry b n name) k l =
    ap (λ o. match_ordering o Less (expiry_cmp m other n name) Greater) (ap (λ x. path_cmp x b) k ∙ ap (λ x. path_cmp p x) l ∙ less)
apart p q less (Delivery name) b k l = absurd k
apart p q less (Statement a) (Delivery name) k l = absurd l
apart p q less (Expiry a m other) (Delivery name) k l = absurd l

-- timers of two frames
frames-apart : (p : Path) (m n : ℕ) (name other : List ℕ) → m < n → Before (Expiry p m name) (Expiry p n other)
frames-apart p m n name other lt =
    ap (λ o. match_ordering o Less (expiry_cmp m name n other) Greater) (paths-alike p) ∙ ap (λ o. match_ordering o Less (name_cmp name other) Greater) (numbers-below m n lt)

-- timers of one frame
names-apart : (p : Path) (n : ℕ) (name other : List ℕ) → name_cmp name other ≡ Less → Before (Expiry p n name) (Expiry p n other)
names-apart p n name other less =
    ap (λ o. match_ordering o Less (expiry_cmp n name n other) Greater) (paths-alike p) ∙ ap (λ o. match_ordering o Less (name_cmp name other) Greater) (numbers-alike n) ∙ less

-- a statement and a timer
statement-first : (p : Path) (n : ℕ) (name : List ℕ) → Before (Statement p) (Expiry p n name)
statement-first p n name = ap (λ o. match_ordering o Less Less Greater) (paths-alike p)

-- ---- the timers of a frame

frame-pairs : (p : Path) (n : ℕ) (frame : Frame) → HasTimersInOrder frame → AllPairs Before (frame_expiries p n frame)
frame-pairs p n frame ordered =
    pairs-map Before (λ e. Expiry p n e.0) (filter (λ e. is_running e.1) frame.timers)
    (pairs-more (λ d e. name_cmp d.0 e.0 ≡ Less) (λ d e. Before (Expiry p n d.0) (Expiry p n e.0)) (λ d e less. names-apart p n d.0 e.0 less)
    (filter (λ e. is_running e.1) frame.timers)
    (AllPairs-filter (λ d e. name_cmp d.0 e.0 ≡ Less) (λ e. is_running e.1) frame.timers ordered))

frame-below : (p : Path) (n : ℕ) (frame : Frame) → All (IsBelow p (n + 1)) (frame_expiries p n frame)
frame-below p n frame = All-map (IsBelow p (n + 1)) (λ e. Expiry p n e.0) (filter (λ e. is_running e.1) frame.timers) (λ k d lt. (refl, omega arith))

-- what is below a frame comes before its timers
below-frame : (p : Path) (n : ℕ) (frame : Frame) (label : Label) → IsBelow p n label → All (Before label) (frame_expiries p n frame)
below-frame p n frame (Statement q) is = absurd is
below-frame p n frame (Delivery name) is = absurd is
below-frame p n frame (Expiry q m name) is =
    All-map (Before (Expiry q m name)) (λ e. Expiry p n e.0) (filter (λ e. is_running e.1) frame.timers)
    (λ k d lt. subst (λ x. Before (Expiry x m name) (Expiry p n (get_or (filter (λ e. is_running e.1) frame.timers) k d).0)) (sym is.0) (frames-apart p m n name (get_or (filter (λ e. is_running e.1) frame.timers) k d).0 is.1))

-- ---- the timers of a component

pub calls-below : (p : Path) (calls : List Frame) → All (IsBelow p (length calls + 1)) (call_expiries p calls)
calls-below p [] = All-nil (IsBelow p 1)
calls-below p (frame ∷ frames) =
    All-append (IsBelow p (length (frame ∷ frames) + 1)) (call_expiries p frames) (frame_expiries p (length frames + 1) frame)
    (All-more (IsBelow p (length frames + 1)) (IsBelow p (length (frame ∷ frames) + 1)) (below-more p (length frames + 1) (length (frame ∷ frames) + 1) (omega arith)) (call_expiries p frames) (calls-below p frames))
    (All-more (IsBelow p (length frames + 1 + 1)) (IsBelow p (length (frame ∷ frames) + 1)) (below-more p (length frames + 1 + 1) (length (frame ∷ frames) + 1) (omega arith)) (frame_expiries p (length frames + 1) frame) (frame-below p (length frames + 1) frame))

calls-pairs : (p : Path) (calls : List Frame) → All HasTimersInOrder calls → AllPairs Before (call_expiries p calls)
calls-pairs p [] ordered = pairs-nil Before
calls-pairs p (frame ∷ frames) ordered =
    pairs-append Before (call_expiries p frames) (frame_expiries p (length frames + 1) frame)
    (calls-pairs p frames (All-tail HasTimersInOrder frame frames ordered))
    (frame-pairs p (length frames + 1) frame (All-head HasTimersInOrder frame frames ordered))
    (All-more (IsBelow p (length frames + 1)) (λ l. All (Before l) (frame_expiries p (length frames + 1) frame)) (below-frame p (length frames + 1) frame) (call_expiries p frames) (calls-below p frames))

-- ---- the labels of a component

-- timers of frames above frame 0 come behind those of frame 0
abbrev pub IsAbove : Path → Label → Type 0
IsAbove p (Statement q) = ⊥
IsAbove p (Expiry q number name) = (q ≡ p) × (0 < number)
IsAbove p (Delivery name) = ⊥

frame-above : (p : Path) (n : ℕ) (frame : Frame) → 0 < n → All (IsAbove p) (frame_expiries p n frame)
frame-above p n frame lt = All-map (IsAbove p) (λ e. Expiry p n e.0) (filter (λ e. is_running e.1) frame.timers) (λ k d within. (refl, lt))

pub calls-above : (p : Path) (calls : List Frame) → All (IsAbove p) (call_expiries p calls)
calls-above p [] = All-nil (IsAbove p)
calls-above p (frame ∷ frames) =
    All-append (IsAbove p) (call_expiries p frames) (frame_expiries p (length frames + 1) frame) (calls-above p frames) (frame-above p (length frames + 1) frame (omega arith))

member-first : (p : Path) (name : List ℕ) (label : Label) → IsAbove p label → Before (Expiry p 0 name) label
member-first p name (Statement q) is = absurd is
member-first p name (Delivery other) is = absurd is
member-first p name (Expiry q number other) is = subst (λ x. Before (Expiry p 0 name) (Expiry x number other)) (sym is.0) (frames-apart p 0 number name other is.1)

members-first : (p : Path) (frame : Frame) (labels : List Label) → All (IsAbove p) labels → All (λ k. All (Before k) labels) (frame_expiries p 0 frame)
members-first p frame labels above =
    All-map (λ k. All (Before k) labels) (λ e. Expiry p 0 e.0) (filter (λ e. is_running e.1) frame.timers)
    (λ k d lt. All-more (IsAbove p) (Before (Expiry p 0 (get_or (filter (λ e. is_running e.1) frame.timers) k d).0)) (member-first p (get_or (filter (λ e. is_running e.1) frame.timers) k d).0) labels above)

expiries-pairs : (component : Component) → IsOrderedWithin component → AllPairs Before (expiries component)
expiries-pairs component ordered =
    pairs-append Before (frame_expiries (path_of component) 0 component.own.members) (call_expiries (path_of component) component.own.calls)
    (frame-pairs (path_of component) 0 component.own.members ordered.members)
    (calls-pairs (path_of component) component.own.calls ordered.calls)
    (members-first (path_of component) component.own.members (call_expiries (path_of component) component.own.calls) (calls-above (path_of component) component.own.calls))

-- an expiry of a component
abbrev pub IsExpiry : Path → Label → Type 0
IsExpiry p (Statement q) = ⊥
IsExpiry p (Expiry q number name) = q ≡ p
IsExpiry p (Delivery name) = ⊥

expiry-of : (p : Path) (label : Label) → IsExpiry p label → IsOf p label
expiry-of p (Statement q) is = absurd is
expiry-of p (Expiry q number name) is = is
expiry-of p (Delivery name) is = is

above-expiry : (p : Path) (label : Label) → IsAbove p label → IsExpiry p label
above-expiry p (Statement q) is = is
above-expiry p (Expiry q number name) is = is.0
above-expiry p (Delivery name) is = is

pub expiries-of : (component : Component) → All (IsExpiry (path_of component)) (expiries component)
expiries-of component =
    All-append (IsExpiry (path_of component)) (frame_expiries (path_of component) 0 component.own.members) (call_expiries (path_of component) component.own.calls)
    (All-map (IsExpiry (path_of component)) (λ e. Expiry (path_of component) 0 e.0) (filter (λ e. is_running e.1) component.own.members.timers) (λ k d lt. refl))
    (All-more (IsAbove (path_of component)) (IsExpiry (path_of component)) (above-expiry (path_of component)) (call_expiries (path_of component) component.own.calls) (calls-above (path_of component) component.own.calls))

statement-before : (p : Path) (label : Label) → IsExpiry p label → Before (Statement p) label
statement-before p (Statement q) is = absurd is
statement-before p (Delivery name) is = absurd is
statement-before p (Expiry q number name) is = subst (λ x. Before (Statement p) (Expiry x number name)) (sym is) (statement-first p number name)

-- a statement's label, where there is one, and then the timers
one-then : (found : Bool) (p : Path) (others : List Label) → All (IsExpiry p) others → AllPairs Before others → AllPairs Before ((if found then Statement p ∷ [] else []) ++ others)
one-then true p others are pairs = AllPairs-cons Before (Statement p) others (All-more (IsExpiry p) (Before (Statement p)) (statement-before p) others are) pairs
one-then false p others are pairs = pairs

one-of : (found : Bool) (p : Path) (others : List Label) → All (IsExpiry p) others → All (IsOf p) ((if found then Statement p ∷ [] else []) ++ others)
one-of true p others are = All-cons (IsOf p) (Statement p) others refl (All-more (IsExpiry p) (IsOf p) (expiry-of p) others are)
one-of false p others are = All-more (IsExpiry p) (IsOf p) (expiry-of p) others are

running-pairs : (running : Bool) (labels : List Label) → AllPairs Before labels → AllPairs Before (if running then labels else [])
running-pairs true labels pairs = pairs
running-pairs false labels pairs = pairs-nil Before

running-of : (running : Bool) (p : Path) (labels : List Label) → All (IsOf p) labels → All (IsOf p) (if running then labels else [])
running-of true p labels are = are
running-of false p labels are = All-nil (IsOf p)

component-pairs : (test : Test) (c : Going) (component : Component) → IsOrderedWithin component → AllPairs Before (labels_of_component test c component)
component-pairs test c component ordered =
    running-pairs (is_running_state component.state) (statement_labels test c component ++ expiries component)
    (one-then (is_some (statement_step test c component)) (path_of component) (expiries component) (expiries-of component) (expiries-pairs component ordered))

component-of : (test : Test) (c : Going) (component : Component) → All (IsOf (path_of component)) (labels_of_component test c component)
component-of test c component =
    running-of (is_running_state component.state) (path_of component) (statement_labels test c component ++ expiries component)
    (one-of (is_some (statement_step test c component)) (path_of component) (expiries component) (expiries-of component))

-- ---- the labels of a configuration

across : (test : Test) (c : Going) (one other : Component) → path_cmp (path_of one) (path_of other) ≡ Less
    → All (λ k. All (Before k) (labels_of_component test c other)) (labels_of_component test c one)
across test c one other less =
    All-more (IsOf (path_of one)) (λ k. All (Before k) (labels_of_component test c other))
    (λ k is. All-more (IsOf (path_of other)) (Before k) (λ l also. apart (path_of one) (path_of other) less k l is also) (labels_of_component test c other) (component-of test c other))
    (labels_of_component test c one) (component-of test c one)

-- ---- deliveries

-- a label is of a component
IsOfComponent : Label → Type 0
IsOfComponent (Statement p) = Unit {0}
IsOfComponent (Expiry p number name) = Unit {0}
IsOfComponent (Delivery name) = ⊥

-- a label is a delivery at the system port of a name
abbrev IsAt : Identifier → Label → Type 0
IsAt name (Statement p) = ⊥
IsAt name (Expiry p number other) = ⊥
IsAt name (Delivery other) = other ≡ name

-- a label is a delivery
IsDelivery : Label → Type 0
IsDelivery (Statement p) = ⊥
IsDelivery (Expiry p number name) = ⊥
IsDelivery (Delivery name) = Unit {0}

of-component : (p : Path) (label : Label) → IsOf p label → IsOfComponent label
unfolding IsOfComponent
of-component p (Statement q) is = tt
of-component p (Expiry q number name) is = tt
of-component p (Delivery name) is = is

at-delivery : (name : Identifier) (label : Label) → IsAt name label → IsDelivery label
unfolding IsDelivery
at-delivery name (Statement p) is = is
at-delivery name (Expiry p number other) is = is
at-delivery name (Delivery other) is = tt

before-delivery : (k l : Label) → IsOfComponent k → IsDelivery l → Before k l
unfolding IsOfComponent IsDelivery
before-delivery (Delivery name) l is also = absurd is
before-delivery (Statement p) (Statement q) is also = absurd also
before-delivery (Statement p) (Expiry q number name) is also = absurd also
before-delivery (Statement p) (Delivery name) is also = refl
before-delivery (Expiry p number name) (Statement q) is also = absurd also
before-delivery (Expiry p number name) (Expiry q other_number other) is also = absurd also
before-delivery (Expiry p number name) (Delivery other) is also = refl

deliveries-apart : (p q : Identifier) → name_cmp p q ≡ Less → (k l : Label) → IsAt p k → IsAt q l → Before k l
deliveries-apart p q less (Statement a) l k also = absurd k
deliveries-apart p q less (Expiry a number name) l k also = absurd k
deliveries-apart p q less (Delivery a) (Statement b) k also = absurd also
deliveries-apart p q less (Delivery a) (Expiry b number name) k also = absurd also
deliveries-apart p q less (Delivery a) (Delivery b) k also = ap (λ x. name_cmp x b) k ∙ ap (λ x. name_cmp p x) also ∙ less

one-at : (b : Bool) (name : Identifier) → All (IsAt name) (if b then Delivery name ∷ [] else [])
one-at true name = All-cons (IsAt name) (Delivery name) [] refl (All-nil (IsAt name))
one-at false name = All-nil (IsAt name)

one-pair : (b : Bool) (name : Identifier) → AllPairs Before (if b then Delivery name ∷ [] else [])
one-pair true name = AllPairs-cons Before (Delivery name) [] (All-nil (Before (Delivery name))) (pairs-nil Before)
one-pair false name = pairs-nil Before

delivery-at : (test : Test) (c : Going) (m : Identifier × End) → All (IsAt m.0) (delivery test c m)
delivery-at test c m = one-at (is_some (next_message test c m.0)) m.0

delivery-across : (test : Test) (c : Going) (m n : Identifier × End) → name_cmp m.0 n.0 ≡ Less → All (λ k. All (Before k) (delivery test c n)) (delivery test c m)
delivery-across test c m n less =
    All-more (IsAt m.0) (λ k. All (Before k) (delivery test c n))
    (λ k is. All-more (IsAt n.0) (Before k) (λ l also. deliveries-apart m.0 n.0 less k l is also) (delivery test c n) (delivery-at test c n))
    (delivery test c m) (delivery-at test c m)

deliveries-ascend : (test : Test) (c : Going) → IsOrdered c → AllPairs Before (deliveries test c)
deliveries-ascend test c ordered =
    pairs-flat Before (λ m n. name_cmp m.0 n.0 ≡ Less) (delivery test c) (delivery-across test c) c.mappings ordered.mappings
    (λ k d lt. one-pair (is_some (next_message test c (get_or c.mappings k d).0)) (get_or c.mappings k d).0)

all-deliveries : (test : Test) (c : Going) → All IsDelivery (deliveries test c)
all-deliveries test c =
    All-flat IsDelivery (delivery test c) c.mappings
    (λ k d lt. All-more (IsAt (get_or c.mappings k d).0) IsDelivery (at-delivery (get_or c.mappings k d).0) (delivery test c (get_or c.mappings k d)) (delivery-at test c (get_or c.mappings k d)))

-- the labels of components come before deliveries
components-first : (test : Test) (c : Going) → All (λ k. All (Before k) (deliveries test c)) (flat_map (labels_of_component test c) c.components)
components-first test c =
    All-flat (λ k. All (Before k) (deliveries test c)) (labels_of_component test c) c.components
    (λ i d lt. All-more (IsOf (path_of (get_or c.components i d))) (λ k. All (Before k) (deliveries test c))
    (λ k is. All-more IsDelivery (Before k) (λ l also. before-delivery k l (of-component (path_of (get_or c.components i d)) k is) also) (deliveries test c) (all-deliveries test c))
    (labels_of_component test c (get_or c.components i d)) (component-of test c (get_or c.components i d)))

pub labels_ascend : (test : Test) (c : Going) → IsOrdered c → AllPairs (λ k l. label_cmp k l ≡ Less) (labels test (Goes c))
labels_ascend test c ordered =
    pairs-append Before (flat_map (labels_of_component test c) c.components) (deliveries test c)
    (pairs-flat Before (λ one other. path_cmp (path_of one) (path_of other) ≡ Less) (labels_of_component test c) (across test c) c.components ordered.components
    (All-more IsOrderedWithin (λ component. AllPairs Before (labels_of_component test c component)) (component-pairs test c) c.components ordered.within))
    (deliveries-ascend test c ordered)
    (components-first test c)
