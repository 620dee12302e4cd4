-- Entries of frames by the slots of their names.
use Rattle.std.specs.Prelude.{ℕ, Bool, false, List, Option, Some, None, bytes_eq}
use Rattle.std.specs.List.{find, slice_get}
use Rattle.std.specs.Option.{option_map}

abbrev pub is_name : List ℕ → Option (List ℕ) → Bool
is_name name None = false
is_name name (Some found) = bytes_eq found name

-- a slot is that of a name
abbrev pub is_slot_of : List (List ℕ) → ℕ → List ℕ → Bool
is_slot_of names slot name = is_name name (slice_get names slot)

-- what the first entry of a name says
abbrev pub entry_by_slot : {A : Type 0} → List (List ℕ) → List (ℕ × A) → List ℕ → Option A
entry_by_slot names entries name = option_map (λ e. e.1) (find (λ e. is_slot_of names e.0 name) entries)
