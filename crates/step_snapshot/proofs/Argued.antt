-- Arguments as the values of a frame's names.
use Rattle.std.proofs.Common.{◌≡◌, Bor, IfSome, ℕ, zero, suc, ◌+◌, List, [], ◌∷◌, ◌++◌, map, length, drop, Option, Some, None, Result, Ok, Err, IfOk, refl, sym, ap, arith, subst, append_assoc, append-nil, length-append, ◌∙◌}
use Rattle.std.specs.Prelude.{Contains}
use Rattle.std.proofs.lemmas.List.{drop_all, drop_at}
use Rattle.std.proofs.lemmas.Option.{slice_get_past, slice_get_read}
use Rattle.std.specs.List.{slice_get, zip}
use Rattle.std.specs.Option.{option_map}
use Rattle.std.specs.Slice.{IsItemAt}
use Rattle.ttcn_syntax.specs.declared.tree.definition.Parameter.{Parameter}
use Rattle.semantics.specs.Branches.{with_arguments}
use Rattle.semantics.specs.Entries.{Entries, put, without}
use Rattle.semantics.specs.Snapshots.{View, view_of_arguments}
use Rattle.step_snapshot.specs.internal.Arguments.{with_argument}
use Rattle.step_snapshot.specs.Slots.{IsKnown, NoneIsMissing}
use Rattle.config_parts.proofs.Stored.{put-by, without-by}
use Rattle.config_parts.specs.Legend.{IsLegend, Legend, entries_by}
use Rattle.config_parts.specs.Views.{view_by}
use Rattle.config_parts.specs.declared.frame.Cells.{Cells}
use Rattle.config_parts.specs.internal.Stored.{declare, no_cells}
use Rattle.value_types.specs.declared.frame.TimerState.{TimerState}
use Rattle.value_types.specs.declared.value.Value.{Value}

-- what holds of the one value that a call gives
pub only-one : {A E : Type 0} (r : Result A E) (a : A) (P : A → Type 0) → IfOk r (λ x. x ≡ a) → P a → IfOk r P
only-one (Ok x) a P is holds = subst P (sym is) holds
only-one (Err e) a P is holds = tt

abbrev view-of : Entries Value → Entries TimerState → View
view-of values timers = record { values = values; timers = timers }

-- a name gets a value, where no timer is
pub argument-by : (legend : Legend) → IsLegend legend → (slot : ℕ) (name : List ℕ) (v : Value) (cells : Cells) (values : Entries Value) → legend.names slot ≡ name
    → view_by legend cells ≡ view_of_arguments values → view_by legend (declare slot v cells) ≡ view_of_arguments (put name v values)
argument-by legend is slot name v cells values named same =
    ap (λ es. view-of es (entries_by legend (declare slot v cells).timers))
    (put-by legend is slot v cells.values ∙ ap (λ n. put n v (entries_by legend cells.values)) named ∙ ap (λ (w : View). put name v w.values) same)
    ∙ ap (view-of (put name v values)) (without-by legend is slot cells.timers ∙ ap (λ (w : View). without (legend.names slot) w.timers) same)

-- ---- values that are taken from behind

-- the last of those that are left
pub taken-last : {A : Type 0} (all items left : List A) (a : A) → items ++ drop (length items) all ≡ all → items ≡ left ++ a ∷ [] → drop (length left) all ≡ a ∷ drop (length items) all
taken-last all items left a whole is =
    ap (drop (length left)) (sym whole ∙ ap (λ xs. xs ++ drop (length items) all) is ∙ append_assoc left (a ∷ []) (drop (length items) all))
    ∙ drop_at left (a ∷ drop (length items) all) (length left) refl

pub still-whole : {A : Type 0} (all items left : List A) (a : A) → items ++ drop (length items) all ≡ all → items ≡ left ++ a ∷ [] → left ++ drop (length left) all ≡ all
still-whole all items left a whole is =
    ap (λ xs. left ++ xs) (taken-last all items left a whole is)
    ∙ sym (append_assoc left (a ∷ []) (drop (length items) all))
    ∙ ap (λ xs. xs ++ drop (length items) all) (sym is) ∙ whole

-- the parameter at a place, as a slice gives it
pub lent-at : {A : Type 0} (xs : List A) (k : ℕ) (r : Option (Bor A)) → IsItemAt xs k r → option_map (λ a. a.now) r ≡ slice_get xs k
lent-at xs k None lent = sym (slice_get_past xs k lent.3)
lent-at xs k (Some a) lent = sym (slice_get_read xs (length xs) k a.now refl lent.3.0 lent.1)

-- the first of the pairs from a place on
pub pair-at : (parameters : List Parameter) (k : ℕ) (v : Value) (values : List Value)
    → with_arguments (zip (drop k parameters) (v ∷ values)) ≡ with_argument (slice_get parameters k) v (with_arguments (zip (drop (suc k) parameters) values))
pair-at [] zero v values = refl
pair-at [] (suc k) v values = refl
pair-at (p ∷ parameters) zero v values = refl
pair-at (p ∷ parameters) (suc k) v values = pair-at parameters k v values

-- a value more goes to its parameter
pub argument-taken : (parameters : List Parameter) (all items left : List Value) (v : Value) (parameter : Option Parameter) → items ++ drop (length items) all ≡ all → items ≡ left ++ v ∷ []
    → parameter ≡ slice_get parameters (length left)
    → with_argument parameter v (with_arguments (zip (drop (length items) parameters) (drop (length items) all))) ≡ with_arguments (zip (drop (length left) parameters) (drop (length left) all))
argument-taken parameters all items left v parameter whole is one =
    let more : length items ≡ suc (length left) = ap length is ∙ length-append left (v ∷ []) ∙ omega arith in
    ap (λ p. with_argument p v (with_arguments (zip (drop (length items) parameters) (drop (length items) all)))) one
    ∙ ap (λ n. with_argument (slice_get parameters (length left)) v (with_arguments (zip (drop n parameters) (drop (length items) all)))) more
    ∙ sym (pair-at parameters (length left) v (drop (length items) all))
    ∙ ap (λ xs. with_arguments (zip (drop (length left) parameters) xs)) (sym (taken-last all items left v whole is))

-- ---- before any was taken

no-arguments : (parameters : List Parameter) → with_arguments (zip parameters []) ≡ []
no-arguments [] = refl
no-arguments (p ∷ parameters) = refl

pub none-taken : {A : Type 0} (all items : List A) → items ≡ all → drop (length items) all ≡ []
none-taken all items is = drop_all (length items) all (omega (arith, ap length is))

pub first-whole : {A : Type 0} (all items : List A) → items ≡ all → items ++ drop (length items) all ≡ all
first-whole all items is = ap (λ xs. items ++ xs) (none-taken all items is) ∙ append-nil items ∙ is

pub first-view : (legend : Legend) (cells : Cells) (parameters : List Parameter) (all items : List Value) → cells ≡ no_cells → items ≡ all
    → view_by legend cells ≡ view_of_arguments (with_arguments (zip (drop (length items) parameters) (drop (length items) all)))
first-view legend cells parameters all items none is =
    ap (view_by legend) none
    ∙ sym (ap (λ vs. view_of_arguments (with_arguments (zip (drop (length items) parameters) vs))) (none-taken all items is)
    ∙ ap view_of_arguments (no-arguments (drop (length items) parameters)))

-- ---- names that have slots

name-at : (parameters : List Parameter) (k : ℕ) (p : Parameter) → slice_get parameters k ≡ Some p → Contains (map (λ parameter. parameter.name) parameters) p.name
name-at [] k p is = absurd (let e = is in cc)
name-at (q ∷ parameters) zero p is = (0, omega arith, ap (λ (x : Parameter). x.name) (let same : q ≡ p = cc in same))
name-at (q ∷ parameters) (suc k) p is =
    let behind = name-at parameters k p is in (suc behind.0, omega (arith, behind.1), behind.2)

pub one-known : (names : List (List ℕ)) (parameters : List Parameter) (k : ℕ) (r : Option (Bor Parameter)) → option_map (λ p. p.now) r ≡ slice_get parameters k
    → NoneIsMissing names (map (λ parameter. parameter.name) parameters) → IfSome r (λ p. IsKnown names p.now.name)
one-known names parameters k None is known = tt
one-known names parameters k (Some p) is known = known p.now.name (name-at parameters k p.now (sym is))
