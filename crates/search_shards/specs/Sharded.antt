-- What contracts see of a set: its values in the order in which they were added, and how many shards keep them.
use Rattle.std.specs.Prelude.{ℕ, ◌/◌, ◌%◌, ◌^◌, List, fold}
use Rattle.std.specs.Hash.FoldHasher as folding
use Rattle.std.specs.Coded.{Coded, coded_list, coded_ℕ, coded×, code_by}
use Rattle.std.proofs.Common.{refl}

pub record Sharded (T : Type 0) : Type 0 where
  pub keys : List T
  pub shards : ℕ

abbrev pub sharded_code : {T : Type 0} → Coded T → Coded (Sharded T)
sharded_code {T} c = code_by (List T × ℕ) (coded× (coded_list c) coded_ℕ) (λ s. (s.keys, s.shards)) (λ p. record { keys = p.0; shards = p.1 }) (λ _. refl)

-- what a value is hashed to
abbrev pub hash_of : {T : Type 0} → (T → List (List ℕ)) → T → ℕ
hash_of input x = folding.finish (fold folding.write folding.initial (input x))

-- the number of the shard that a value belongs to, by the upper half of its hash
abbrev pub shard_of : {T : Type 0} → (T → List (List ℕ)) → ℕ → T → ℕ
shard_of input shards x = hash_of input x / 2 ^ 32 % shards
