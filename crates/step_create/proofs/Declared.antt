-- The names of members have slots, and what is declared by slots is declared by names.
use Rattle.std.proofs.Common.{◌≡◌, ℕ, zero, suc, ◌<◌, List, [], ◌∷◌, map, length, get_or, Contains, Option, Some, sym, ap, subst, ◌∙◌, arith}
use Rattle.std.proofs.Math.ListN.{length-map}
use Rattle.std.proofs.lemmas.List.{get_or-map}
use Rattle.std.proofs.lemmas.List.Elements.{All-nil, Contains-append_left, Contains-append_right}
use Rattle.std.specs.List.{flat_map}
use Rattle.check_scope.specs.Names.{kind_at, members_of}
use Rattle.step_snapshot.specs.Slots.{NoneIsMissing}
use Rattle.step_snapshot.specs.declared.test_case.TestCase.{TestCase}
use Rattle.config_parts.specs.Views.{HasSlotsWithin}
use Rattle.config_parts.specs.declared.frame.Cells.{Cells}
use Rattle.check_scope.specs.declared.types.DataType.{DataType}
use Rattle.semantics.specs.Configurations.{Frame}
use Rattle.semantics.specs.Creating as rules
use Rattle.semantics.specs.Snapshots.{Snapshot, Test}
use Rattle.semantics.specs.Storing as storing
use Rattle.config_parts.specs.Legend.{IsLegend, Legend, frame_with}
use Rattle.config_parts.specs.internal.Stored.{declare, declare_timer, forget, no_cells}
use Rattle.config_parts.proofs.Stored.{declare-alike, forget-alike, timer-declared}
use Rattle.ttcn_syntax.specs.declared.tree.value.Value.{Value as WrittenValue}
use Rattle.value_types.specs.Literals.{value_wanted}
use Rattle.value_types.specs.Outcomes.{Failure, Fails, Yields, outcome_map}
use Rattle.value_types.specs.Readings.{Reading}
use Rattle.value_types.specs.declared.value.ComponentId.{ComponentId}
use Rattle.graph_names.specs.Known.{names_of_kind, names_of_member}
use Rattle.ttcn_syntax.specs.declared.tree.definition.DefinitionKind.{DefinitionKind}
use Rattle.ttcn_syntax.specs.declared.tree.definition.DefinitionKind.TheVariants as kind
use Rattle.ttcn_syntax.specs.declared.tree.definition.Member.{Member}
use Rattle.value_types.specs.declared.frame.TimerState.{TimerState}
use Rattle.value_types.specs.declared.value.Value.{Value}

-- no names are within all
pub none-within : (size : ℕ) (cells : Cells) → cells ≡ no_cells → HasSlotsWithin size cells
none-within size cells none = let P : Cells → Type 0 = λ x. HasSlotsWithin size x in subst P (sym none) (record { values = All-nil (λ (e : ℕ × Value). e.0 < size); timers = All-nil (λ (e : ℕ × TimerState). e.0 < size) })

-- ---- the names of members

-- one among those of a part
pub among : {A : Type 0} (f : A → List (List ℕ)) (xs : List A) (n : ℕ) (x : A) (name : List ℕ) → n < length xs → x ≡ get_or xs n x → Contains (f x) name → Contains (flat_map f xs) name
among f [] n x name within is has = absurd (omega (arith, within))
among f (y ∷ ys) zero x name within is has = Contains-append_left (f y) (flat_map f ys) name (subst (λ z. Contains (f z) name) is has)
among f (y ∷ ys) (suc n) x name within is has = Contains-append_right (f y) (flat_map f ys) name (among f ys n x name (omega (arith, within)) is has)

members-known : (names : List (List ℕ)) (k : Option DefinitionKind) → NoneIsMissing names (names_of_kind k) → (name : List ℕ) → Contains (flat_map names_of_member (members_of k)) name → ¬ (¬ Contains names name)
members-known names (Some (kind.Component c)) known name has = known name has
members-known names _ known name (n, below, is) = absurd (let b : n < 0 = below in omega (arith, b))

-- each of the names of a declaration has a slot, where those of all have
pub member-among : (names : List (List ℕ)) (members : List Member) (n : ℕ) (m : Member) → NoneIsMissing names (flat_map names_of_member members) → n < length members → m ≡ get_or members n m
    → NoneIsMissing names (names_of_member m)
member-among names members n m known within is name has = known name (among names_of_member members n m name within is has)

-- the names that a component type declares have slots
pub declarations-known : (t : TestCase) (at : ℕ) (members : List Member) → members ≡ members_of (kind_at t.definitions at) → NoneIsMissing t.names (flat_map names_of_member members)
declarations-known t at members are =
    subst (λ (ms : List Member). NoneIsMissing t.names (flat_map names_of_member ms)) (sym are) (members-known t.names (kind_at t.definitions at) (t.known at))

-- a name of a list of which none is missing
pub part-known : {A : Type 0} (names : List (List ℕ)) (f : A → List ℕ) (xs : List A) (n : ℕ) (x : A) → n < length xs → x ≡ get_or xs n x → NoneIsMissing names (map f xs)
    → ¬ (¬ Contains names (f x))
part-known {A = A} names f xs n x within is known =
    known (f x) (n, subst (λ m. n < m) (sym (length-map {A = A} xs f)) within, get_or-map f xs n x (f x) within ∙ ap f (sym is))

-- ---- a name that is declared with its value

pub declared-fails : (test : Test) (itself : ComponentId) (snapshot : Snapshot) (of : Option DataType) (frame : Frame) (name : List ℕ) (v : WrittenValue) (reading : Reading) (why : Failure)
    → reading ≡ rules.reading_of_members test itself snapshot frame → value_wanted v reading of ≡ Fails why → rules.declared_with test itself snapshot of frame name v ≡ Fails why
declared-fails test itself snapshot of frame name v reading why same fails =
    ap (λ r. outcome_map (λ found. storing.declare name found frame) (value_wanted v r of)) (sym same) ∙ ap (outcome_map (λ found. storing.declare name found frame)) fails

pub declared-yields : (test : Test) (itself : ComponentId) (snapshot : Snapshot) (of : Option DataType) (legend : Legend) → IsLegend legend → (slot : ℕ) (cells new : Cells) (name : List ℕ) (v : WrittenValue) (reading : Reading) (found : Value)
    → reading ≡ rules.reading_of_members test itself snapshot (frame_with legend [] cells) → value_wanted v reading of ≡ Yields found → legend.names slot ≡ name → new ≡ declare slot found cells
    → rules.declared_with test itself snapshot of (frame_with legend [] cells) name v ≡ Yields (frame_with legend [] new)
declared-yields test itself snapshot of legend is slot cells new name v reading found same yields named done =
    ap (λ r. outcome_map (λ x. storing.declare name x (frame_with legend [] cells)) (value_wanted v r of)) (sym same) ∙ ap (outcome_map (λ x. storing.declare name x (frame_with legend [] cells))) yields
    ∙ ap (λ n. Yields (storing.declare n found (frame_with legend [] cells))) (sym named)
    ∙ ap Yields (sym (declare-alike legend is slot found [] cells) ∙ ap (frame_with legend []) (sym done))

pub forgotten : (legend : Legend) → IsLegend legend → (slot : ℕ) (cells new : Cells) (name : List ℕ) → legend.names slot ≡ name → new ≡ forget slot cells
    → storing.forget name (frame_with legend [] cells) ≡ frame_with legend [] new
forgotten legend is slot cells new name named done =
    ap (λ n. storing.forget n (frame_with legend [] cells)) (sym named) ∙ sym (forget-alike legend is slot [] cells) ∙ ap (frame_with legend []) (sym done)

pub timer-added : (legend : Legend) → IsLegend legend → (slot : ℕ) (cells new : Cells) (name : List ℕ) → legend.names slot ≡ name → new ≡ declare_timer slot cells
    → storing.declare_timer name (frame_with legend [] cells) ≡ frame_with legend [] new
timer-added legend is slot cells new name named done =
    ap (λ n. storing.declare_timer n (frame_with legend [] cells)) (sym named) ∙ sym (timer-declared legend is slot [] cells) ∙ ap (frame_with legend []) (sym done)
