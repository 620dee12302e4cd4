-- How failed calls are counted.
use Rattle.std.specs.Prelude.{ℕ, ◌+◌, ◌-◌, ◌^◌, min, ◌==◌, if◌then◌else◌, Result, Ok, Err}

-- one failed call more, up to the greatest count
abbrev pub one_more : ℕ → ℕ
one_more count = min (count + 1) (2 ^ 64 - 1)

-- the count behind a call
abbrev pub behind : {A E : Type 0} → Result A E → ℕ → ℕ
behind (Ok answer) count = count
behind (Err error) count = one_more count

-- the count behind a write: one that takes no byte failed
abbrev pub behind_write : {E : Type 0} → Result ℕ E → ℕ → ℕ
behind_write (Ok taken) count = if taken == 0 then one_more count else count
behind_write (Err error) count = one_more count
