-- Cells that say at which index of a list a value stands, by its hash.
use Rattle.std.specs.Prelude.{◌≡◌, ℕ, ◌+◌, ◌-◌, ◌/◌, ◌%◌, ◌^◌, ◌<◌, ◌≤◌, Bool, false, List, length, get_or, slice_get, Option, None, Some, is_some, true, nat_lt, if◌then◌else◌}
use Rattle.search_shards.specs.Sharded.{hash_of}
use Rattle.search_shards.specs.internal.Places.{Position}

-- the part of a hash that a cell keeps
abbrev pub tag_by : ℕ → ℕ
tag_by hash = hash / 2 ^ 48 % 64

-- the place of the cell that comes so many behind the first one of a hash, among so many
abbrev pub cell_by : ℕ → ℕ → ℕ → ℕ
cell_by cells hash before = if nat_lt (hash % cells + before) cells then hash % cells + before else (hash % cells + before - cells)

-- that cell
abbrev pub cell_at : List (Option Position) → ℕ → ℕ → Option Position
cell_at cells hash before = get_or cells (cell_by (length cells) hash before) None

-- the cells before it, from the first one of the hash on, are taken
abbrev pub AreTaken : List (Option Position) → ℕ → ℕ → Type 0
AreTaken cells hash before = (e : ℕ) → e < before → is_some (cell_at cells hash e) ≡ true

-- no cell before it has the tag of the hash and the index of such a value
abbrev pub AreMissed : {T : Type 0} → (T → Bool) → List T → List (Option Position) → ℕ → ℕ → Type 0
AreMissed {T} is values cells hash before = (e index : ℕ) (other : T) → e < before → cell_at cells hash e ≡ Some (tag_by hash, index) → slice_get values index ≡ Some other → is other ≡ false

-- the index stands in a cell with the tag of the hash, behind taken ones
pub record IsFound (cells : List (Option Position)) (hash index : ℕ) : Type 0 where
  pub before : ℕ
  pub within : before < length cells
  pub here : cell_at cells hash before ≡ Some (tag_by hash, index)
  pub taken : AreTaken cells hash before

-- the place is that of the first free cell from that of the hash on
pub record IsFirstFree (cells : List (Option Position)) (hash place : ℕ) : Type 0 where
  pub before : ℕ
  pub within : before < length cells
  pub is : place ≡ cell_by (length cells) hash before
  pub low : place < length cells
  pub free : get_or cells place None ≡ None
  pub taken : AreTaken cells hash before

-- so many of the first values are found by their hashes
pub record AreFound {T : Type 0} (input : T → List (List ℕ)) (values : List T) (cells : List (Option Position)) (count : ℕ) : Type 0 where
  pub within : count ≤ length values
  pub each : (index : ℕ) (value : T) → index < count → slice_get values index ≡ Some value → IsFound cells (hash_of input value) index
