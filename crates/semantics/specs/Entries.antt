-- What names have: entries in the order of the names' bytes, one for a name.
use Rattle.std.specs.Prelude.{ℕ, List, [], ◌∷◌, not, bytes_eq}
use Rattle.std.specs.List.{filter}
use Rattle.std.specs.Ordering.{match_ordering}
pub use Rattle.step_labels.specs.Names.{name_cmp}

-- an identifier: its bytes (5.1)
abbrev pub Identifier : Type 0
Identifier = List ℕ

-- an identifier with what it has
abbrev pub Entries : Type 0 → Type 0
Entries A = List (Identifier × A)

-- entries with this for this name
abbrev pub put : {A : Type 0} → Identifier → A → Entries A → Entries A
put name a [] = (name, a) ∷ []
put name a (e ∷ entries) = match_ordering (name_cmp name e.0) ((name, a) ∷ e ∷ entries) ((name, a) ∷ entries) (e ∷ put name a entries)

-- entries with nothing for this name
abbrev pub without : {A : Type 0} → Identifier → Entries A → Entries A
without name entries = filter (λ e. not (bytes_eq e.0 name)) entries
