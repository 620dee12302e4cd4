-- Entries of frames by the slots of their names.
use Rattle.std.proofs.Common.{◌≡◌, ◌<◌, ℕ, Bool, true, false, List, [], ◌∷◌, Option, Some, None, bytes_eq, refl, if◌then◌else◌}
use Rattle.std.specs.List.{cons_option, find, slice_get}
use Rattle.std.specs.Option.{option_map}
use Rattle.value_types.specs.Frames.{entry, named_entries}
use Rattle.value_types.specs.internal.Slots.{entry_by_slot, is_name, is_slot_of}

module _ {A : Type 0} (name : List ℕ) where
  one-found : (b : Bool) (a : A) (found : List ℕ) (slot : ℕ) (others : Option (List ℕ × A)) (behind : Option (ℕ × A)) → option_map (λ (e : List ℕ × A). e.1) others ≡ option_map (λ (e : ℕ × A). e.1) behind
      → option_map (λ (e : List ℕ × A). e.1) (if b then Some (found, a) else others) ≡ option_map (λ (e : ℕ × A). e.1) (if b then Some (slot, a) else behind)
  one-found true a found slot others behind same = refl
  one-found false a found slot others behind same = same

  one-more : (o : Option (List ℕ)) (slot : ℕ) (a : A) (others : List (List ℕ × A)) (behind : Option (ℕ × A)) → entry others name ≡ option_map (λ (e : ℕ × A). e.1) behind
      → entry (cons_option (option_map (λ (n : List ℕ). (n, a)) o) others) name ≡ option_map (λ (e : ℕ × A). e.1) (if is_name name o then Some (slot, a) else behind)
  one-more None slot a others behind same = same
  one-more (Some found) slot a others behind same = one-found (bytes_eq found name) a found slot (find (λ e. bytes_eq e.0 name) others) behind same

  -- the first entry of a name is the first one whose slot has that name
  pub by_slot : (names : List (List ℕ)) (entries : List (ℕ × A)) → entry (named_entries names entries) name ≡ entry_by_slot names entries name
  by_slot names [] = refl
  by_slot names ((slot, a) ∷ entries) =
      one-more (slice_get names slot) slot a (named_entries names entries) (find (λ e. is_slot_of names e.0 name) entries) (by_slot names entries)
