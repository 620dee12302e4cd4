-- Frames and defaults that come and go, by slots and by names.
use Rattle.std.proofs.Common.{◌≡◌, ℕ, Bool, true, false, not, nat_eq, bytes_eq, List, [], ◌∷◌, ◌++◌, map, Option, Some, cond, refl, sym, ap, ◌∙◌}
use Rattle.std.specs.List.{All, filter, find, remove}
use Rattle.std.specs.Option.{option_map}
use Rattle.std.proofs.lemmas.List.Elements.{All-cons, All-head, All-tail}
use Rattle.semantics.specs.Configurations as rules
use Rattle.semantics.specs.Storing as storing
use Rattle.step_data.specs.internal.Held.{held_in, value_at}
use Rattle.config_parts.specs.Legend.{IsLegend, Legend, data_by, default_by, entries_by, frame_by}
use Rattle.config_parts.specs.declared.frame.ActiveDefault.{ActiveDefault}
use Rattle.config_parts.specs.declared.frame.Data.{Data}
use Rattle.config_parts.specs.declared.frame.Frame.{Frame}
use Rattle.config_parts.proofs.Named.{same-name}
use Rattle.value_types.specs.Frames.{entry}
use Rattle.value_types.specs.declared.value.Value.{Value}

-- ---- defaults

left-first : (n : ℕ) (b : Bool) (d : ActiveDefault) (ds : List ActiveDefault) (rest : List rules.ActiveDefault) → map default_by ds ≡ rest
    → map default_by (cond b (d ∷ ds) ds) ≡ cond b (default_by d ∷ rest) rest
left-first n true d ds rest is = ap (λ xs. default_by d ∷ xs) is
left-first n false d ds rest is = is

pub defaults-left : (n : ℕ) (ds : List ActiveDefault) → map default_by (filter (λ d. not (nat_eq d.number n)) ds) ≡ filter (λ d. not (nat_eq d.number n)) (map default_by ds)
defaults-left n [] = refl
defaults-left n (d ∷ ds) =
    left-first n (not (nat_eq d.number n)) d (filter (λ d. not (nat_eq d.number n)) ds) (filter (λ d. not (nat_eq d.number n)) (map default_by ds)) (defaults-left n ds)

-- ---- frames

pub all-append : {A : Type 0} (P : A → Type 0) (xs ys : List A) → All P xs → All P ys → All P (xs ++ ys)
all-append P [] ys all others = others
all-append P (x ∷ xs) ys all others = All-cons P x (xs ++ ys) (All-head P x xs all) (all-append P xs ys (All-tail P x xs all) others)

pub all-remove : {A : Type 0} (P : A → Type 0) (xs : List A) → All P xs → All P (remove xs 0)
all-remove P [] all = all
all-remove P (x ∷ xs) all = All-tail P x xs all

-- ---- what names hold

held-first : (b : Bool) (v : Value) (es : List (ℕ × Value)) (rest : Option Value) (legend : Legend) (slot : ℕ) (e : ℕ × Value) → value_at slot es ≡ rest
    → option_map (λ e. e.1) (cond b (Some e) (find (λ e. nat_eq e.0 slot) es)) ≡ cond b (Some e.1) rest
held-first true v es rest legend slot e is = refl
held-first false v es rest legend slot e is = is

some-first : (b : Bool) (name : List ℕ) (e : List ℕ × Value) (es : List (List ℕ × Value))
    → option_map (λ e. e.1) (cond b (Some e) (find (λ e. bytes_eq e.0 name) es)) ≡ cond b (Some e.1) (entry es name)
some-first true name e es = refl
some-first false name e es = refl

pub entry-by : (legend : Legend) → IsLegend legend → (slot : ℕ) (es : List (ℕ × Value)) → value_at slot es ≡ entry (entries_by legend es) (legend.names slot)
entry-by legend is slot [] = refl
entry-by legend is slot (e ∷ es) =
    held-first (nat_eq e.0 slot) e.1 es (entry (entries_by legend es) (legend.names slot)) legend slot e (entry-by legend is slot es)
    ∙ ap (λ b. cond b (Some e.1) (entry (entries_by legend es) (legend.names slot))) (sym (same-name legend is e.0 slot))
    ∙ sym (some-first (bytes_eq (legend.names e.0) (legend.names slot)) (legend.names slot) (legend.names e.0, e.1) (entries_by legend es))

in-frames : (legend : Legend) → IsLegend legend → (slot : ℕ) (calls : List Frame) (own : Data) → own.calls ≡ calls → held_in true slot own ≡ entry (storing.last_values (map (frame_by legend) calls)) (legend.names slot)
in-frames legend is slot [] own e = ap (λ calls. held_in true slot (record { members = own.members; calls = calls; defaults = own.defaults; activations = own.activations; children = own.children })) e
in-frames legend is slot (frame ∷ frames) own e =
    ap (λ calls. held_in true slot (record { members = own.members; calls = calls; defaults = own.defaults; activations = own.activations; children = own.children })) e ∙ entry-by legend is slot frame.cells.values

pub held-by : (legend : Legend) → IsLegend legend → (last : Bool) (slot : ℕ) (own : Data) → held_in last slot own ≡ entry (storing.values_in last (data_by legend own)) (legend.names slot)
held-by legend is true slot own = in-frames legend is slot own.calls own refl
held-by legend is false slot own = entry-by legend is slot own.members.values
