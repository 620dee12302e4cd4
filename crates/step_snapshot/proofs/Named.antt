-- Slots of names that have one.
use Rattle.std.proofs.Common.{◌≡◌, ℕ, ◌<◌, List, length, Some, slice_get, sym, ◌∙◌}
use Rattle.semantics.specs.Items.{Item}
use Rattle.config_parts.proofs.Naming.{are-names}
use Rattle.config_parts.specs.Names.{legend_of}

-- the name that stands at a place is that of the slot
pub slot-named : (lists : List (List Item)) (names : List (List ℕ)) (slot : ℕ) (name : List ℕ) → slot < length names → slice_get names slot ≡ Some name → (legend_of lists names).names slot ≡ name
slot-named lists names slot name within found = let both : Some ((legend_of lists names).names slot) ≡ Some name = sym (are-names lists names slot within) ∙ found in cc
