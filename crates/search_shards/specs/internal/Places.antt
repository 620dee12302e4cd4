-- Where the values of a set are kept.
use Rattle.std.specs.Prelude.{◌≡◌, ℕ, zero, suc, ◌<◌, Bool, List, [], ◌∷◌, All, length, filter, get_or, nat_eq}
use Rattle.std.specs.List.{flat_map, IsDistinct}
use Rattle.search_shards.specs.Sharded.{shard_of}

-- where a value is kept: the number of a shard, and an index in it
abbrev pub Position : Type 0
Position = ℕ × ℕ

module _ {T : Type 0} where
  -- the value at an index as a list of one, or no value where the list is shorter
  abbrev pub one_at : List T → ℕ → List T
  one_at [] i = []
  one_at (x ∷ xs) zero = x ∷ []
  one_at (x ∷ xs) (suc i) = one_at xs i

  -- the value at a place
  abbrev pub value_at : List (List T) → Position → List T
  value_at shards place = one_at (get_or shards place.0 []) place.1

  -- the values at the places, in order
  abbrev pub values_in : List (List T) → List Position → List T
  values_in shards places = flat_map (value_at shards) places

  -- the place holds a value
  abbrev pub IsHeld : List (List T) → Position → Type 0
  IsHeld shards place = place.1 < length (get_or shards place.0 [])

  -- some of the values belong to each shard, and it keeps those, in order
  abbrev pub KeepsItsOwn : (T → List (List ℕ)) → List (List T) → List T → ℕ → Type 0
  KeepsItsOwn input shards values s = get_or shards s [] ≡ filter (λ x. nat_eq (shard_of input (length shards) x) s) values

  -- there are shards, each keeps the values that belong to it, each place holds a value, and no two values are equal
  pub record IsSharded (eq : T → T → Bool) (input : T → List (List ℕ)) (shards : List (List T)) (places : List Position) : Type 0 where
    pub some : 0 < length shards
    pub each : (s : ℕ) → s < length shards → KeepsItsOwn input shards (values_in shards places) s
    pub held : All (IsHeld shards) places
    pub distinct : IsDistinct eq (values_in shards places)
