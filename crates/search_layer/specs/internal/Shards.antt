-- Which shards the states of candidates belong to. The number for a candidate without a state is any.
use Rattle.std.specs.Prelude.{◌≡◌, ℕ, ◌+◌, ◌<◌, List, length, slice_get, slice_index, Option, Some}
use Rattle.std.specs.List.{AllZip}
use Rattle.search_shards.specs.Sharded.{shard_of}
use Rattle.search_layer.specs.declared.visited.Candidate.{Candidate}

module _ {C L : Type 0} (input : C → List (List ℕ)) (shards : ℕ) (cs : List (Candidate (Option C) L)) where
  -- the number is that of the shard that the state of the candidate at the position belongs to, if it has one
  abbrev pub IsShardAt : ℕ → ℕ → Type 0
  IsShardAt at number = (c : Candidate (Option C) L) (s : C) → slice_get cs at ≡ Some c → c.state ≡ Some s → number ≡ shard_of input shards s

  -- each number is that of the candidate at the position
  abbrev pub AreShards : List ℕ → List ℕ → Type 0
  AreShards positions numbers = AllZip IsShardAt positions numbers

  -- the numbers are those of the candidates from a position on
  abbrev pub AreShardsFrom : ℕ → List ℕ → Type 0
  AreShardsFrom from numbers = (k : ℕ) → k < length numbers → IsShardAt (from + k) (slice_index numbers k)
