-- How a thing is put together: of how many parts it is itself, and what else it refers to.
use Rattle.std.specs.Prelude.{ℕ, ◌+◌, ◌-◌, ◌^◌, min, List, [], ◌++◌}
use Rattle.check_survey.specs.declared.thing.Thing.{Thing}

-- a thing with so many parts of its own, which refers to the things at these places
abbrev pub parts : ℕ → List ℕ → Thing
parts own references = record { own = own; references = references }

-- one part without parts
abbrev pub leaf : Thing
leaf = parts 1 []

-- two things one beside the other
abbrev pub beside : Thing → Thing → Thing
beside one other = parts (one.own + other.own) (one.references ++ other.references)

-- ---- counts

-- the largest number that a count can be
abbrev pub largest : ℕ
largest = 2 ^ 64 - 1

-- a number, or the largest that a count can be
abbrev pub capped : ℕ → ℕ
capped n = min n largest

-- a thing whose own parts are counted as far as a count goes
abbrev pub tally : Thing → Thing
tally thing = parts (capped thing.own) thing.references

-- a thing to which another is put: what that refers to, and of its parts as many as the count has room for
abbrev pub add : Thing → Thing → Thing
add one other = parts (one.own + min other.own (largest - one.own)) (one.references ++ other.references)
