-- What bytes are hashed to.
use Rattle.std.specs.Prelude.{ℕ, List, [], ◌∷◌, fold}
use Rattle.std.specs.Hash.FoldHasher as folding

abbrev pub hash_of : List ℕ → ℕ
hash_of bytes = folding.finish (fold folding.write folding.initial (bytes ∷ []))
