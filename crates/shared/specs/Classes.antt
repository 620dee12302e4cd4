-- Classes of equal items, first positions, and where a class begins its probe path. Nothing computes the lists beforehand.
use Rattle.std.specs.Prelude.{◌≡◌, ℕ, suc, ◌%◌, ◌<◌, ◌↔◌, Bool, true, cond, List, [], ◌∷◌, map, slice_get, Some, fold}
use Rattle.std.specs.List.Sorted.{IsStrictlyIncreasing}
use Rattle.std.specs.Hash.FoldHasher as folding
use Rattle.shared.specs.declared.seen.view.SeenKey.{SeenKey}
use Rattle.shared.specs.Totals.{Stands}

module _ {S : Type 0} (eq : S → S → Bool) where
  -- the first position that holds an item equal to x
  abbrev pub first_equal : List S → S → ℕ
  first_equal [] x = 0
  first_equal (y ∷ ys) x = cond (eq y x) 0 (suc (first_equal ys x))

  -- the class of each position: the first position that holds an equal item
  abbrev pub classes_of : List S → List ℕ
  classes_of items = map (first_equal items) items

  -- the positions j and k hold equal items
  abbrev pub HoldEqual : List S → ℕ → ℕ → Type 0
  HoldEqual items j k = (x y : S) → slice_get items j ≡ Some x → slice_get items k ≡ Some y → eq x y ≡ true

  -- the positions ascend, and are those of the placed positions for which no smaller placed position holds an equal item
  pub record IsFirsts (items : List S) (placed firsts : List ℕ) : Type 0 where
    pub ascending : IsStrictlyIncreasing firsts
    pub members : (i : ℕ) → Stands i firsts ↔ (Stands i placed × ((k : ℕ) → Stands k placed → k < i → ¬ (HoldEqual items k i)))

-- the word at which an item's probe path begins
abbrev pub start_of : {S : Type 0} → (S → List (List ℕ)) → ℕ → S → ℕ
start_of input words x = folding.finish (fold folding.write folding.initial (input x)) % words

-- what the rule reads of a table's key
pub record Shape : Type 0 where
  pub classes : List ℕ
  pub starts : List ℕ
  pub words : ℕ
  pub seats : ℕ

-- the shape of a key: the classes of its items and where their probe paths begin, and how many words and seats
abbrev pub shape_of : {S : Type 0} → (S → S → Bool) → (S → List (List ℕ)) → SeenKey S → Shape
shape_of eq input key = record { classes = classes_of eq key.items.now; starts = map (start_of input key.words) key.items.now; words = key.words; seats = key.seats }
