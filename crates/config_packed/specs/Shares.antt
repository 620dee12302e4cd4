-- The bytes of configurations in three parts that are kept once: those before the components, and those of each half of the components.
use Rattle.std.specs.Prelude.{◌≡◌, ℕ, ◌+◌, ◌-◌, ◌*◌, ◌/◌, ◌%◌, ◌^◌, List, [], length, take, drop}
use Rattle.search_memory.specs.Hashes.{hash_of}
use Rattle.config_packed.specs.Spelling.{spell_config, spell_contents, spell_head}
use Rattle.config_parts.specs.declared.config.Config.{Config}
use Rattle.config_parts.specs.declared.config.Config.TheVariants as config
use Rattle.config_parts.specs.declared.config.Going.{Going}

-- how many components are in the first half
abbrev pub half : ℕ → ℕ
half count = count - count / 2

-- the bytes of the components in the first half, and of the others
abbrev pub front_of_going : Going → List ℕ
front_of_going going = spell_contents (take (half (length going.components)) going.components)

abbrev pub back_of_going : Going → List ℕ
back_of_going going = spell_contents (drop (half (length going.components)) going.components)

-- the bytes before those of components, which are all where the test case has ended, and those of both halves of the components
abbrev pub head_of : Config → List ℕ
head_of (config.Ended v) = spell_config (config.Ended v)
head_of (config.Going going) = spell_head going

abbrev pub front_of : Config → List ℕ
front_of (config.Ended v) = []
front_of (config.Going going) = front_of_going going

abbrev pub back_of : Config → List ℕ
back_of (config.Ended v) = []
back_of (config.Going going) = back_of_going going

-- these are the parts of a configuration
pub record AreOf (h f b : List ℕ) (c : Config) : Type 0 where
  pub head : h ≡ head_of c
  pub front : f ≡ front_of c
  pub back : b ≡ back_of c

-- ---- hashes

-- what is made of a hash and one more, as numbers of 64 bits
abbrev pub mixed : ℕ → ℕ → ℕ
mixed code more = ((code * 31) % 2 ^ 64 + more) % 2 ^ 64

-- what a configuration is hashed to, by the hashes of its parts
abbrev pub hash_code : Config → ℕ
hash_code c = mixed (mixed (hash_of (head_of c)) (hash_of (front_of c))) (hash_of (back_of c))
