-- What is stored by slots is stored by their names.
use Rattle.std.proofs.Common.{◌≡◌, ℕ, zero, suc, Bool, true, false, not, List, [], ◌∷◌, ◌++◌, map, Option, None, Some, nat_eq, get_or, refl, sym, ap, ◌∙◌, if◌then◌else◌}
use Rattle.std.specs.List as lists
use Rattle.std.specs.Option.{option_map}
use Rattle.std.specs.Ordering.{is_eq, is_le, match_ordering, nat_cmp}
use Rattle.std.specs.declared.cmp.Ordering.{Ordering}
use Rattle.std.specs.declared.cmp.Ordering.TheVariants.{Less, Equal, Greater}
use Rattle.std.proofs.lemmas.Bool.{eq-eqb, eqb-true}
use Rattle.semantics.specs.Configurations as rules
use Rattle.semantics.specs.Entries.{Entries}
use Rattle.semantics.specs.Entries as entries
use Rattle.semantics.specs.Items.{Item}
use Rattle.semantics.specs.Storing as storing
use Rattle.config_parts.specs.Legend.{IsLegend, Legend, data_by, entries_by, frame_by, frame_with}
use Rattle.config_parts.specs.internal.Changes.{changed_at, place}
use Rattle.config_parts.specs.internal.Stored.{cells_in, changed_in, declare, declare_timer, forget, in_last, is_not_below, last_cells, put, with_cells, with_cells_in, with_position, with_timer, with_value, without}
use Rattle.config_parts.specs.declared.frame.Cells.{Cells}
use Rattle.config_parts.specs.declared.frame.Data.{Data}
use Rattle.config_parts.specs.declared.frame.Frame.{Frame}
use Rattle.config_parts.proofs.Named.{equal-numbers, same-name}
use Rattle.value_types.specs.declared.frame.TimerState.{TimerState}
use Rattle.value_types.specs.declared.value.Value.{Value}

-- ---- where an entry is written

is-one : (slot other : ℕ) → nat_eq other slot ≡ true → is_eq (nat_cmp slot other) ≡ true
is-one slot other e = equal-numbers slot other ∙ eq-eqb slot other (sym (eqb-true other slot e))

is-other : (slot other : ℕ) → nat_eq other slot ≡ false → is_eq (nat_cmp slot other) ≡ true → ⊥
is-other slot other e same =
    let found : true ≡ false = sym (eq-eqb other slot (sym (eqb-true slot other (sym (equal-numbers slot other) ∙ same)))) ∙ e in cc

set-first : {A : Type 0} (o : Ordering) (slot : ℕ) (a : A) (e : ℕ × A) (es : List (ℕ × A)) (found : Option ℕ) (at : ℕ) (d : ℕ × A)
    → nat_cmp slot e.0 ≡ o
    → (if is_le o then Some 0 else option_map suc found) ≡ Some at
    → nat_eq (get_or (e ∷ es) at d).0 slot ≡ true
    → ((n : ℕ) → found ≡ Some n → nat_eq (get_or es n d).0 slot ≡ true → changed_at es n (λ x. (x.0, a)) ≡ put slot a es)
    → changed_at (e ∷ es) at (λ x. (x.0, a)) ≡ match_ordering o ((slot, a) ∷ e ∷ es) ((slot, a) ∷ es) (e ∷ put slot a es)
set-first Less slot a e es found zero d o f is below = absurd (let bad : true ≡ false = sym (is-one slot e.0 is) ∙ ap is_eq o in cc)
set-first Equal slot a e es found zero d o f is below = ap (λ n. (n, a) ∷ es) (eqb-true e.0 slot is)
set-first Less slot a e es found (suc n) d o f is below = absurd (let bad = f in cc)
set-first Equal slot a e es found (suc n) d o f is below = absurd (let bad = f in cc)
set-first Greater slot a e es None at d o f is below = absurd (let bad = f in cc)
set-first Greater slot a e es (Some n) zero d o f is below = absurd (let bad = f in cc)
set-first Greater slot a e es (Some n) (suc m) d o f is below = ap (λ xs. e ∷ xs) (below m (let good = f in cc) is)

pub set-at : {A : Type 0} (slot : ℕ) (a : A) (es : List (ℕ × A)) (at : ℕ) (d : ℕ × A) → place (is_not_below slot) es ≡ Some at → nat_eq (get_or es at d).0 slot ≡ true
    → changed_at es at (λ x. (x.0, a)) ≡ put slot a es
set-at slot a [] at d f is = absurd (let bad = f in cc)
set-at slot a (e ∷ es) at d f is =
    set-first (nat_cmp slot e.0) slot a e es (place (is_not_below slot) es) at d refl f is (λ n found same. set-at slot a es n d found same)

insert-first : {A : Type 0} (o : Ordering) (slot : ℕ) (a : A) (e : ℕ × A) (es : List (ℕ × A)) (found : Option ℕ) (at : ℕ) (d : ℕ × A)
    → nat_cmp slot e.0 ≡ o
    → (if is_le o then Some 0 else option_map suc found) ≡ Some at
    → nat_eq (get_or (e ∷ es) at d).0 slot ≡ false
    → ((n : ℕ) → found ≡ Some n → nat_eq (get_or es n d).0 slot ≡ false → lists.insert es n (slot, a) ≡ put slot a es)
    → lists.insert (e ∷ es) at (slot, a) ≡ match_ordering o ((slot, a) ∷ e ∷ es) ((slot, a) ∷ es) (e ∷ put slot a es)
insert-first Less slot a e es found zero d o f is below = refl
insert-first Equal slot a e es found zero d o f is below = absurd (is-other slot e.0 is (ap is_eq o))
insert-first Less slot a e es found (suc n) d o f is below = absurd (let bad = f in cc)
insert-first Equal slot a e es found (suc n) d o f is below = absurd (let bad = f in cc)
insert-first Greater slot a e es None at d o f is below = absurd (let bad = f in cc)
insert-first Greater slot a e es (Some n) zero d o f is below = absurd (let bad = f in cc)
insert-first Greater slot a e es (Some n) (suc m) d o f is below = ap (λ xs. e ∷ xs) (below m (let good = f in cc) is)

pub insert-at : {A : Type 0} (slot : ℕ) (a : A) (es : List (ℕ × A)) (at : ℕ) (d : ℕ × A) → place (is_not_below slot) es ≡ Some at → nat_eq (get_or es at d).0 slot ≡ false
    → lists.insert es at (slot, a) ≡ put slot a es
insert-at slot a [] at d f is = absurd (let bad = f in cc)
insert-at slot a (e ∷ es) at d f is =
    insert-first (nat_cmp slot e.0) slot a e es (place (is_not_below slot) es) at d refl f is (λ n found other. insert-at slot a es n d found other)

push-first : {A : Type 0} (o : Ordering) (slot : ℕ) (a : A) (e : ℕ × A) (es : List (ℕ × A)) (found : Option ℕ)
    → (if is_le o then Some 0 else option_map suc found) ≡ None
    → (found ≡ None → es ++ (slot, a) ∷ [] ≡ put slot a es)
    → e ∷ es ++ (slot, a) ∷ [] ≡ match_ordering o ((slot, a) ∷ e ∷ es) ((slot, a) ∷ es) (e ∷ put slot a es)
push-first Less slot a e es found f below = absurd (let bad = f in cc)
push-first Equal slot a e es found f below = absurd (let bad = f in cc)
push-first Greater slot a e es None f below = ap (λ xs. e ∷ xs) (below refl)
push-first Greater slot a e es (Some n) f below = absurd (let bad = f in cc)

pub push-at : {A : Type 0} (slot : ℕ) (a : A) (es : List (ℕ × A)) → place (is_not_below slot) es ≡ None → es ++ (slot, a) ∷ [] ≡ put slot a es
push-at slot a [] f = refl
push-at slot a (e ∷ es) f = push-first (nat_cmp slot e.0) slot a e es (place (is_not_below slot) es) f (push-at slot a es)

-- ---- entries by their names

-- entries of slots as entries of names, where what they have stands for something
abbrev pub entries-of : {A B : Type 0} → (A → B) → Legend → List (ℕ × A) → Entries B
entries-of f legend es = map (λ e. (legend.names e.0, f e.1)) es

put-first : {A B : Type 0} (f : A → B) (legend : Legend) (o : Ordering) (slot : ℕ) (a : A) (e : ℕ × A) (es said : List (ℕ × A)) (rest : Entries B) → entries-of f legend said ≡ rest
    → entries-of f legend (match_ordering o ((slot, a) ∷ e ∷ es) ((slot, a) ∷ es) (e ∷ said))
    ≡ match_ordering o ((legend.names slot, f a) ∷ (legend.names e.0, f e.1) ∷ entries-of f legend es) ((legend.names slot, f a) ∷ entries-of f legend es) ((legend.names e.0, f e.1) ∷ rest)
put-first f legend Less slot a e es said rest is = refl
put-first f legend Equal slot a e es said rest is = refl
put-first f legend Greater slot a e es said rest is = ap (λ xs. (legend.names e.0, f e.1) ∷ xs) is

pub put-of : {A B : Type 0} (f : A → B) (legend : Legend) → IsLegend legend → (slot : ℕ) (a : A) (es : List (ℕ × A))
    → entries-of f legend (put slot a es) ≡ entries.put (legend.names slot) (f a) (entries-of f legend es)
put-of f legend is slot a [] = refl
put-of f legend is slot a (e ∷ es) =
    put-first f legend (nat_cmp slot e.0) slot a e es (put slot a es) (entries.put (legend.names slot) (f a) (entries-of f legend es)) (put-of f legend is slot a es)
    ∙ ap (λ o. match_ordering o ((legend.names slot, f a) ∷ (legend.names e.0, f e.1) ∷ entries-of f legend es) ((legend.names slot, f a) ∷ entries-of f legend es)
    ((legend.names e.0, f e.1) ∷ entries.put (legend.names slot) (f a) (entries-of f legend es)))
    (sym (is.ordered slot e.0))

pub put-by : {A : Type 0} (legend : Legend) → IsLegend legend → (slot : ℕ) (a : A) (es : List (ℕ × A)) → entries_by legend (put slot a es) ≡ entries.put (legend.names slot) a (entries_by legend es)
put-by legend is slot a es = put-of (λ x. x) legend is slot a es

without-first : {A : Type 0} (legend : Legend) (b : Bool) (e : ℕ × A) (said : List (ℕ × A)) (rest : Entries A) → entries_by legend said ≡ rest
    → entries_by legend (if not b then e ∷ said else said) ≡ (if not b then (legend.names e.0, e.1) ∷ rest else rest)
without-first legend true e said rest is = is
without-first legend false e said rest is = ap (λ xs. (legend.names e.0, e.1) ∷ xs) is

pub without-by : {A : Type 0} (legend : Legend) → IsLegend legend → (slot : ℕ) (es : List (ℕ × A)) → entries_by legend (without slot es) ≡ entries.without (legend.names slot) (entries_by legend es)
without-by legend is slot [] = refl
without-by legend is slot (e ∷ es) =
    without-first legend (nat_eq e.0 slot) e (without slot es) (entries.without (legend.names slot) (entries_by legend es)) (without-by legend is slot es)
    ∙ ap (λ b. if not b then (legend.names e.0, e.1) ∷ entries.without (legend.names slot) (entries_by legend es) else entries.without (legend.names slot) (entries_by legend es))
    (sym (same-name legend is e.0 slot))

-- ---- the names of a frame

-- a change of names is one of frames
abbrev pub IsAlike : Legend → (Cells → Cells) → (rules.Frame → rules.Frame) → Type 0
IsAlike legend f g = (items : List Item) (cells : Cells) → frame_with legend items (f cells) ≡ g (frame_with legend items cells)

abbrev frame-of : List Item → Entries Value → Entries TimerState → rules.Frame
frame-of items values timers = record { remaining = items; values = values; timers = timers }

pub value-alike : (legend : Legend) → IsLegend legend → (slot : ℕ) (v : Value)
    → IsAlike legend (with_value slot v) (λ frame. storing.with_values (entries.put (legend.names slot) v frame.values) frame)
value-alike legend is slot v items cells = ap (λ vs. frame-of items vs (entries_by legend cells.timers)) (put-by legend is slot v cells.values)

pub timer-alike : (legend : Legend) → IsLegend legend → (slot : ℕ) (state : TimerState)
    → IsAlike legend (with_timer slot state) (λ frame. storing.with_timers (entries.put (legend.names slot) state frame.timers) frame)
timer-alike legend is slot state items cells = ap (λ ts. frame-of items (entries_by legend cells.values) ts) (put-by legend is slot state cells.timers)

pub forget-alike : (legend : Legend) → IsLegend legend → (slot : ℕ) → IsAlike legend (forget slot) (storing.forget (legend.names slot))
forget-alike legend is slot items cells =
    ap (λ vs. frame-of items vs (entries_by legend (without slot cells.timers))) (without-by legend is slot cells.values)
    ∙ ap (λ ts. frame-of items (entries.without (legend.names slot) (entries_by legend cells.values)) ts) (without-by legend is slot cells.timers)

pub declare-alike : (legend : Legend) → IsLegend legend → (slot : ℕ) (v : Value) → IsAlike legend (declare slot v) (storing.declare (legend.names slot) v)
declare-alike legend is slot v items cells =
    ap (λ vs. frame-of items vs (entries_by legend (without slot cells.timers))) (put-by legend is slot v cells.values)
    ∙ ap (λ ts. frame-of items (entries.put (legend.names slot) v (entries_by legend cells.values)) ts) (without-by legend is slot cells.timers)

pub timer-declared : (legend : Legend) → IsLegend legend → (slot : ℕ) → IsAlike legend (declare_timer slot) (storing.declare_timer (legend.names slot))
timer-declared legend is slot items cells =
    ap (λ vs. frame-of items vs (entries_by legend (declare_timer slot cells).timers)) (without-by legend is slot cells.values)
    ∙ ap (λ ts. frame-of items (entries.without (legend.names slot) (entries_by legend cells.values)) ts) (put-by legend is slot _ cells.timers)

-- ---- data

abbrev data-of : Legend → Data → rules.Frame → List rules.Frame → rules.Data
data-of legend own members calls = record { members = members; calls = calls; defaults = (data_by legend own).defaults; activations = own.activations; children = own.children }

last-changed : (legend : Legend) (f : Cells → Cells) (g : rules.Frame → rules.Frame) → IsAlike legend f g → (calls : List Frame)
    → map (frame_by legend) (in_last (with_cells (f (last_cells calls))) calls) ≡ storing.in_last g (map (frame_by legend) calls)
last-changed legend f g alike [] = refl
last-changed legend f g alike (frame ∷ frames) = ap (λ x. x ∷ map (frame_by legend) frames) (alike (legend.lists frame.remaining) frame.cells)

pub changed-by : (legend : Legend) (f : Cells → Cells) (g : rules.Frame → rules.Frame) → IsAlike legend f g → (last : Bool) (own : Data)
    → data_by legend (changed_in last f own) ≡ storing.in_frame last g (data_by legend own)
changed-by legend f g alike true own = ap (data-of legend own (data_by legend own).members) (last-changed legend f g alike own.calls)
changed-by legend f g alike false own = ap (λ members. data-of legend own members (data_by legend own).calls) (alike [] own.members)

-- names that are put where names were put before
last-twice : (c d : Cells) (calls : List Frame) → in_last (with_cells c) (in_last (with_cells d) calls) ≡ in_last (with_cells c) calls
last-twice c d [] = refl
last-twice c d (frame ∷ frames) = refl

pub put-twice : (last : Bool) (c d : Cells) (own : Data) → with_cells_in last c (with_cells_in last d own) ≡ with_cells_in last c own
put-twice true c d own =
    ap (λ calls. record { members = own.members; calls = calls; defaults = own.defaults; activations = own.activations; children = own.children }) (last-twice c d own.calls)
put-twice false c d own = refl

-- what remains
pub last-position : (legend : Legend) (at : ℕ) (calls : List Frame)
    → map (frame_by legend) (in_last (with_position at) calls) ≡ storing.in_last (storing.with_remaining (legend.lists at)) (map (frame_by legend) calls)
last-position legend at [] = refl
last-position legend at (frame ∷ frames) = refl

-- names that are taken out, changed and put back are changed
pub stored : (legend : Legend) (f : Cells → Cells) (g : rules.Frame → rules.Frame) → IsAlike legend f g → (last : Bool) (own bare new : Data) (taken cells : Cells)
    → taken ≡ cells_in last own → ((c : Cells) → with_cells_in last c bare ≡ with_cells_in last c own) → cells ≡ f taken → new ≡ with_cells_in last cells bare
    → data_by legend new ≡ storing.in_frame last g (data_by legend own)
stored legend f g alike last own bare new taken cells took left changed is =
    ap (data_by legend) (is ∙ left cells ∙ ap (λ c. with_cells_in last c own) (changed ∙ ap f took))
    ∙ changed-by legend f g alike last own
