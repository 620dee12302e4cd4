-- The labels of each component among those of all, and whether some are left where one component changes.
use Rattle.std.proofs.Common.{◌≡◌, ℕ, zero, suc, ◌≤◌, arith, Bool, true, false, List, [], ◌∷◌, ◌++◌, map, Some, is_some, refl, sym, ap, subst, ◌∙◌, if◌then◌else◌}
use Rattle.std.specs.List.{All, filter, flat_map}
use Rattle.std.specs.Prelude.{slice_get}
use Rattle.std.proofs.lemmas.List.Elements.{All-cons, All-head, All-nil, All-tail}
use Rattle.semantics.proofs.Pairs.{All-more, pairs-head, pairs-tail}
use Rattle.semantics.specs.Configurations.{Component, Frame, Goes, Going, End, is_running_state, path_cmp, path_of, same_path}
use Rattle.semantics.specs.Entries.{Identifier}
use Rattle.semantics.specs.Labels.{call_expiries, deliveries, delivery, expiries, frame_expiries, labels, labels_of_component, statement_labels}
use Rattle.semantics.specs.Order.{Ascends}
use Rattle.semantics.specs.Snapshots.{Test}
use Rattle.semantics.specs.Steps.{Delivery, Expiry, Label, Statement, next_message, statement_step}
use Rattle.laws_local.proofs.Seeing.{labels_alike}
use Rattle.laws_local.proofs.Touching.{before-apart, before-found, behind-apart, is-before, same-itself}
use Rattle.laws_local.specs.Alone.{IsLive, LookAlike, are_some, exchanged_at, has_labels, how_many, is_of_path, outside_of, with_component_at}
use Rattle.value_types.specs.Frames.{is_running}
use Rattle.value_types.specs.declared.path.Path.{Path}
use Rattle.value_types.specs.declared.frame.TimerState.{TimerState}

-- ---- lists

module _ {A : Type 0} (p : A → Bool) where
  append-first : (b : Bool) (x : A) (xs ys zs : List A) → zs ≡ xs ++ ys → (if b then x ∷ zs else zs) ≡ (if b then x ∷ xs else xs) ++ ys
  append-first true x xs ys zs e = ap (λ us. x ∷ us) e
  append-first false x xs ys zs e = e

  filter-append : (xs ys : List A) → filter p (xs ++ ys) ≡ filter p xs ++ filter p ys
  filter-append [] ys = refl
  filter-append (x ∷ xs) ys = append-first (p x) x (filter p xs) (filter p ys) (filter p (xs ++ ys)) (filter-append xs ys)

  filter-all : (xs : List A) → All (λ x. p x ≡ true) xs → filter p xs ≡ xs
  filter-all [] all = refl
  filter-all (x ∷ xs) all =
      ap (λ b. if b then x ∷ filter p xs else filter p xs) (All-head (λ x. p x ≡ true) x xs all) ∙ ap (λ ys. x ∷ ys) (filter-all xs (All-tail (λ x. p x ≡ true) x xs all))

  filter-none : (xs : List A) → All (λ x. p x ≡ false) xs → filter p xs ≡ []
  filter-none [] all = refl
  filter-none (x ∷ xs) all =
      ap (λ b. if b then x ∷ filter p xs else filter p xs) (All-head (λ x. p x ≡ false) x xs all) ∙ filter-none xs (All-tail (λ x. p x ≡ false) x xs all)

module _ {A : Type 0} (P : A → Type 0) where
  All-append : (xs ys : List A) → All P xs → All P ys → All P (xs ++ ys)
  All-append [] ys all others = others
  All-append (x ∷ xs) ys all others = All-cons P x (xs ++ ys) (All-head P x xs all) (All-append xs ys (All-tail P x xs all) others)

-- ---- of which component a label is

abbrev is-here : Path → Path → Label → Type 0
is-here q p label = is_of_path p label ≡ same_path q p

abbrev expiries-at : Path → ℕ → List (Identifier × TimerState) → List Label
expiries-at q number timers = map (λ e. Expiry q number e.0) timers

frame-first : (q p : Path) (number : ℕ) (runs : Bool) (e : Identifier × TimerState) (others : List (Identifier × TimerState)) → All (is-here q p) (expiries-at q number others)
    → All (is-here q p) (expiries-at q number (if runs then e ∷ others else others))
frame-first q p number true e others all = All-cons (is-here q p) (Expiry q number e.0) (expiries-at q number others) refl all
frame-first q p number false e others all = all

frame-here : (q p : Path) (number : ℕ) (timers : List (Identifier × TimerState)) → All (is-here q p) (expiries-at q number (filter (λ e. is_running e.1) timers))
frame-here q p number [] = All-nil (is-here q p)
frame-here q p number (e ∷ timers) = frame-first q p number (is_running e.1) e (filter (λ d. is_running d.1) timers) (frame-here q p number timers)

calls-here : (q p : Path) (frames : List Frame) → All (is-here q p) (call_expiries q frames)
calls-here q p [] = All-nil (is-here q p)
calls-here q p (frame ∷ frames) = All-append (is-here q p) (call_expiries q frames) _ (calls-here q p frames) (frame-here q p _ frame.timers)

statement-here : (q p : Path) (steps : Bool) → All (is-here q p) (if steps then Statement q ∷ [] else [])
statement-here q p true = All-cons (is-here q p) (Statement q) [] refl (All-nil (is-here q p))
statement-here q p false = All-nil (is-here q p)

labels-here : (test : Test) (c : Going) (p : Path) (x : Component) → All (is-here (path_of x) p) (labels_of_component test c x)
labels-here test c p x = running (is_running_state x.state)
  where
    running : (b : Bool) → All (is-here (path_of x) p) (if b then statement_labels test c x ++ expiries x else [])
    running true =
        All-append (is-here (path_of x) p) (statement_labels test c x) (expiries x)
        (statement-here (path_of x) p (is_some (statement_step test c x)))
        (All-append (is-here (path_of x) p) (frame_expiries (path_of x) 0 x.own.members) (call_expiries (path_of x) x.own.calls)
        (frame-here (path_of x) p 0 x.own.members.timers) (calls-here (path_of x) p x.own.calls))
    running false = All-nil (is-here (path_of x) p)

others-out : (test : Test) (c : Going) (p : Path) (x : Component) → same_path (path_of x) p ≡ false → filter (is_of_path p) (labels_of_component test c x) ≡ []
others-out test c p x other =
    filter-none (is_of_path p) (labels_of_component test c x) (All-more (is-here (path_of x) p) (λ l. is_of_path p l ≡ false) (λ l here. here ∙ other) (labels_of_component test c x) (labels-here test c p x))

own-in : (test : Test) (c : Going) (x : Component) → filter (is_of_path (path_of x)) (labels_of_component test c x) ≡ labels_of_component test c x
own-in test c x =
    filter-all (is_of_path (path_of x)) (labels_of_component test c x)
    (All-more (is-here (path_of x) (path_of x)) (λ l. is_of_path (path_of x) l ≡ true) (λ l here. here ∙ same-itself (path_of x)) (labels_of_component test c x) (labels-here test c (path_of x) x))

-- ---- all labels

none-behind : (test : Test) (c : Going) (y : Component) (xs : List Component) → All (is-before y) xs → filter (is_of_path (path_of y)) (flat_map (labels_of_component test c) xs) ≡ []
none-behind test c y [] all = refl
none-behind test c y (x ∷ xs) all =
    filter-append (is_of_path (path_of y)) (labels_of_component test c x) (flat_map (labels_of_component test c) xs)
    ∙ ap (λ ls. ls ++ filter (is_of_path (path_of y)) (flat_map (labels_of_component test c) xs))
    (others-out test c (path_of y) x (behind-apart (path_of y) (path_of x) (same_path (path_of x) (path_of y)) (All-head (is-before y) x xs all) refl))
    ∙ none-behind test c y xs (All-tail (is-before y) x xs all)

append-none : {A : Type 0} (xs : List A) → xs ++ [] ≡ xs
append-none [] = refl
append-none (x ∷ xs) = ap (λ ys. x ∷ ys) (append-none xs)

own-among : (test : Test) (c : Going) (y : Component) (at : ℕ) (xs : List Component) → Ascends (λ one other. path_cmp (path_of one) (path_of other)) xs → slice_get xs at ≡ Some y
    → filter (is_of_path (path_of y)) (flat_map (labels_of_component test c) xs) ≡ labels_of_component test c y
own-among test c y at [] ascend found = absurd (let no = found in cc)
own-among test c y zero (x ∷ xs) ascend found =
    subst (λ (z : Component). filter (is_of_path (path_of z)) (flat_map (labels_of_component test c) (x ∷ xs)) ≡ labels_of_component test c z) (let e = found in let same : x ≡ y = cc in same)
    (filter-append (is_of_path (path_of x)) (labels_of_component test c x) (flat_map (labels_of_component test c) xs)
    ∙ ap (λ ls. ls ++ filter (is_of_path (path_of x)) (flat_map (labels_of_component test c) xs)) (own-in test c x)
    ∙ ap (λ ls. labels_of_component test c x ++ ls) (none-behind test c x xs (pairs-head is-before x xs ascend))
    ∙ append-none (labels_of_component test c x))
own-among test c y (suc at) (x ∷ xs) ascend found =
    filter-append (is_of_path (path_of y)) (labels_of_component test c x) (flat_map (labels_of_component test c) xs)
    ∙ ap (λ ls. ls ++ filter (is_of_path (path_of y)) (flat_map (labels_of_component test c) xs))
    (others-out test c (path_of y) x (before-apart (path_of x) (path_of y) (same_path (path_of x) (path_of y)) (before-found x xs at y (pairs-head is-before x xs ascend) found) refl))
    ∙ own-among test c y at xs (pairs-tail is-before x xs ascend) found

no-deliveries : (test : Test) (c : Going) (p : Path) (mappings : List (Identifier × End)) → filter (is_of_path p) (flat_map (delivery test c) mappings) ≡ []
no-deliveries test c p [] = refl
no-deliveries test c p (m ∷ mappings) =
    filter-append (is_of_path p) (delivery test c m) (flat_map (delivery test c) mappings)
    ∙ ap (λ ls. ls ++ filter (is_of_path p) (flat_map (delivery test c) mappings)) (one (is_some (next_message test c m.0)))
    ∙ no-deliveries test c p mappings
  where
    one : (b : Bool) → filter (is_of_path p) (if b then Delivery m.0 ∷ [] else []) ≡ []
    one true = refl
    one false = refl

-- the labels of a component are those of its path
pub labels_by_path : (test : Test) (c : Going) (y : Component) (at : ℕ) → IsLive c → slice_get c.components at ≡ Some y → filter (is_of_path (path_of y)) (labels test (Goes c)) ≡ labels_of_component test c y
labels_by_path test c y at live found =
    filter-append (is_of_path (path_of y)) (flat_map (labels_of_component test c) c.components) (deliveries test c)
    ∙ ap (λ ls. ls ++ filter (is_of_path (path_of y)) (deliveries test c)) (own-among test c y at c.components live.ordered found)
    ∙ ap (λ ls. labels_of_component test c y ++ ls) (no-deliveries test c (path_of y) c.mappings)
    ∙ append-none (labels_of_component test c y)

-- ---- what is left where one component changes

flat-first : (ls others : List Label) (n : ℕ) → (1 ≤ n → others ≡ [] → ⊥) → 1 ≤ (if are_some ls then suc n else n) → ls ++ others ≡ [] → ⊥
flat-first [] others n rest some none = rest some none
flat-first (l ∷ ls) others n rest some none = let no = none in cc

flat-some : (test : Test) (c : Going) (xs : List Component) → 1 ≤ how_many (has_labels test c) xs → flat_map (labels_of_component test c) xs ≡ [] → ⊥
flat-some test c [] some none = absurd (omega (arith, some))
flat-some test c (x ∷ xs) some none = flat-first (labels_of_component test c x) (flat_map (labels_of_component test c) xs) (how_many (has_labels test c) xs) (flat-some test c xs) some none

changed-first : (a b : Bool) (n : ℕ) → (if a then suc n else n) ≤ suc (if b then suc n else n)
changed-first true true n = omega arith
changed-first true false n = omega arith
changed-first false true n = omega arith
changed-first false false n = omega arith

changed-behind : (a : Bool) (n m : ℕ) → n ≤ suc m → (if a then suc n else n) ≤ suc (if a then suc m else m)
changed-behind true n m rest = omega (arith, rest)
changed-behind false n m rest = rest

exchanged-many : {A : Type 0} (p : A → Bool) (at : ℕ) (z : A) (xs : List A) → how_many p xs ≤ suc (how_many p (exchanged_at at z xs))
exchanged-many p at z [] = omega arith
exchanged-many p zero z (x ∷ xs) = changed-first (p x) (p z) (how_many p xs)
exchanged-many p (suc at) z (x ∷ xs) = changed-behind (p x) (how_many p xs) (how_many p (exchanged_at at z xs)) (exchanged-many p at z xs)

many-alike : {A : Type 0} (p q : A → Bool) → ((x : A) → p x ≡ q x) → (xs : List A) → how_many p xs ≡ how_many q xs
many-alike p q same [] = refl
many-alike p q same (x ∷ xs) = ap (λ b. if b then suc (how_many p xs) else how_many p xs) (same x) ∙ ap (λ n. if q x then suc n else n) (many-alike p q same xs)

look-exchanged : (at : ℕ) (x z : Component) (xs : List Component) → slice_get xs at ≡ Some x → outside_of z ≡ outside_of x → map outside_of xs ≡ map outside_of (exchanged_at at z xs)
look-exchanged at x z [] found same = absurd (let no = found in cc)
look-exchanged zero x z (y ∷ ys) found same =
    ap (λ o. o ∷ map outside_of ys) (subst (λ (w : Component). outside_of w ≡ outside_of z) (let e = found in let here : x ≡ y = cc in here) (sym same))
look-exchanged (suc at) x z (y ∷ ys) found same = ap (λ os. outside_of y ∷ os) (look-exchanged at x z ys found same)

pub look_exchanged : (c : Going) (at : ℕ) (x z : Component) → slice_get c.components at ≡ Some x → outside_of z ≡ outside_of x → LookAlike c (with_component_at at z c)
look_exchanged c at x z found same = look-exchanged at x z c.components found same

-- at most one component fewer has labels
fewer-left : (test : Test) (c : Going) (at : ℕ) (x z : Component) → slice_get c.components at ≡ Some x → outside_of z ≡ outside_of x
    → how_many (has_labels test c) c.components ≤ suc (how_many (has_labels test (with_component_at at z c)) (with_component_at at z c).components)
fewer-left test c at x z found same =
    let fewer = exchanged-many (has_labels test c) at z c.components in
    let alike = many-alike (has_labels test c) (has_labels test d) has-alike d.components in
    omega (arith, fewer, alike)
  where
    d : Going
    d = with_component_at at z c

    has-alike : (w : Component) → has_labels test c w ≡ has_labels test d w
    has-alike w = ap are_some (labels_alike test c d w w (look_exchanged c at x z found same) (record { itself = refl; own = refl; state = refl; verdict = refl; fronts = refl }))

front-none : (xs ys : List Label) → xs ++ ys ≡ [] → xs ≡ []
front-none [] ys e = refl
front-none (y ∷ xs) ys e = absurd (let no = e in cc)

some-left : (test : Test) (d : Going) → 1 ≤ how_many (has_labels test d) d.components → labels test (Goes d) ≡ [] → ⊥
some-left test d some none = flat-some test d d.components some (front-none (flat_map (labels_of_component test d) d.components) (deliveries test d) none)

one-at-least : (p : Component → Bool) (at : ℕ) (x : Component) (xs : List Component) → slice_get xs at ≡ Some x → p x ≡ true → 1 ≤ how_many p xs
one-at-least p at x [] found is = absurd (let no = found in cc)
one-at-least p zero x (y ∷ ys) found is = first (p y) (how_many p ys) (ap p (let e = found in let here : y ≡ x = cc in here) ∙ is)
  where
    first : (b : Bool) (n : ℕ) → b ≡ true → 1 ≤ (if b then suc n else n)
    first true n is = omega arith
    first false n is = absurd (let no = is in cc)
one-at-least p (suc at) x (y ∷ ys) found is = behind (p y) (how_many p ys) (one-at-least p at x ys found is)
  where
    behind : (b : Bool) (n : ℕ) → 1 ≤ n → 1 ≤ (if b then suc n else n)
    behind true n some = omega arith
    behind false n some = some

-- where a component has labels, there are some
pub labels_some : (test : Test) (c : Going) (at : ℕ) (x : Component) → slice_get c.components at ≡ Some x → has_labels test c x ≡ true → labels test (Goes c) ≡ [] → ⊥
labels_some test c at x found has = some-left test c (one-at-least (has_labels test c) at x c.components found has)

-- where two components have labels, some are left whatever one of them becomes
pub labels_left : (test : Test) (c : Going) (at : ℕ) (x z : Component) → slice_get c.components at ≡ Some x → outside_of z ≡ outside_of x → 2 ≤ how_many (has_labels test c) c.components
    → labels test (Goes (with_component_at at z c)) ≡ [] → ⊥
labels_left test c at x z found same two = some-left test (with_component_at at z c) (let fewer = fewer-left test c at x z found same in omega (arith, fewer, two))

-- where three have, some are left whatever two of them become
pub labels_left_by_two : (test : Test) (c : Going) (at to : ℕ) (x z w u : Component) → slice_get c.components at ≡ Some x → outside_of z ≡ outside_of x
    → slice_get (with_component_at at z c).components to ≡ Some w → outside_of u ≡ outside_of w → 3 ≤ how_many (has_labels test c) c.components
    → labels test (Goes (with_component_at to u (with_component_at at z c))) ≡ [] → ⊥
labels_left_by_two test c at to x z w u found same other alike three =
    some-left test (with_component_at to u (with_component_at at z c))
    (let one = fewer-left test c at x z found same in let two = fewer-left test (with_component_at at z c) to w u other alike in omega (arith, one, two, three))
